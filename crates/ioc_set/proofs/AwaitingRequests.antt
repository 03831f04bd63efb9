-- After a request, as many records await a completion as before, plus one for each call that is
-- answered later: by induction on the rules.
use Rattle.std.proofs.Common.{◌≡◌, ℕ, ◌+◌, Bool, true, false, List, Option, IsSome, refl, sym, ap, subst, ◌∙◌}
use Rattle.ioc_values.specs.declared.value.Value.{Value}
use Rattle.ioc_values.specs.declared.value.Finished.{Finished}
use Rattle.ioc_fields.specs.declared.field_no.FieldNo.TheVariants.{Own}
use Rattle.ioc_fields.specs.declared.field_no.OwnField.TheVariants.{Lnk, InputLink, Letter, Seln}
use Rattle.ioc_fields.specs.declared.field_no.FieldSlot.{FieldSlot}
use Rattle.ioc_fields.specs.declared.field_no.OwnField.{OwnField}
use Rattle.ioc_ledger.specs.Requests.{Requests}
use Rattle.ioc_dbcommon.specs.declared.common.Common.{Common}
use Rattle.ioc_dbcommon.specs.declared.link_field.LinkUse.{LinkUse}
use Rattle.ioc_dbcommon.specs.declared.link_field.LinkUse.TheVariants.{Standing}
use Rattle.ioc_dbcommon.specs.declared.link_field.StandingLink.{StandingLink}
use Rattle.ioc_dbcommon.specs.declared.body.Got.{Got}
use Rattle.ioc_dbcommon.specs.declared.body.Got.TheVariants.{Nothing as Got-nothing, Value as Got-value, Fault as Got-fault}
use Rattle.ioc_dbcommon.specs.declared.body.InputKind.{InputKind}
use Rattle.ioc_dbcommon.specs.declared.body.Output.{Output}
use Rattle.ioc_dbcommon.specs.declared.body.Output.TheVariants.{WriteLink}
use Rattle.ioc_dbcommon.specs.declared.body.Want.{Want}
use Rattle.ioc_dbcommon.specs.declared.body.Want.TheVariants.{ReadLink, ReadInputs}
use Rattle.ioc_dbcommon.specs.Steps.{blocked, unblocked, with_active, with_reprocess_mark}
use Rattle.ioc_dbcommon.specs.Links.{use_of}
use Rattle.ioc_record.specs.RecordRules.{RecordRules}
use Rattle.ioc_record.specs.Laws.{IsLawful}
use Rattle.ioc_store.specs.Showing.{links-shown, shown-common}
use Rattle.ioc_store.specs.declared.outbox.OutboxItem.TheVariants.{Post}
use Rattle.ioc_store.specs.World.{World, Has, IsClosed, at, common_at, put, changed}
use Rattle.ioc_store.specs.Worlds.{common_at-changed}
use Rattle.ioc_store.specs.StepFrames.{blocked-frame, links-taken, links-finished, links-stored}
use Rattle.ioc_store.specs.Named.{link_named}
use Rattle.ioc_store.specs.Inputs.{kept}
use Rattle.ioc_store.specs.Links.{handed_on}
use Rattle.ioc_store.specs.Marks.{put_down, put_mark_passed}
use Rattle.ioc_store.specs.Given.{Answers}
use Rattle.ioc_store.specs.Notifying.{notified, passed_on}
use Rattle.ioc_process.specs.Rules.{Left, as_it_was, now_waits, Requested, while_active, while_disabled, while_idle, Asks, for_later, straight_away, Causes, meanwhile_active, Reads, unused, absent, no_such_device, as_it_stands, after_request, Writes, to_nothing, to_absent, to_no_device, in_vain, alone, and_requests, Follows, to_record, to_scanned, nowhere, FollowsEach, no_more, one_more, PutsOut, nothing, to_link, to_device, to_links, as_event, Gets, no_input, of_link, of_device, of_inputs, ReadsEach, none_left, one_read, Finishes, forward, Proceeds, at_once, kept_waiting, Runs, Resumes, takes_completion}
use Rattle.ioc_process.specs.RulesLaws.{requested-leaves}
use Rattle.ioc_set.proofs.AwaitingAlike.{Alike, alike-on, alike-sent, alike-changed, alike-passed_on, alike-notified, alike-handed_on, alike-disabled, mark-links, mark-active, mark-pending, puts-alike, takes-alike, disables-alike}
use Rattle.ioc_set.proofs.AwaitingCounts.{Fine, Under, target-has, fine-alike, under-alike, under-has, begins, under-put, under-changed, resumes-under, gives-under, After, has_come, waiting-fine, come-under, receives-after, AfterOutput, goes_on, waits_on-fine, goes_on-under, acknowledges-after, rests-fine}

not-both : true ≡ false → ⊥
not-both is = cc

-- An active record awaits what it awaited.
left-pending : {a b : Common} → Left a b → a.active ≡ true → b.pending ≡ a.pending
left-pending (as_it_was active pending) is = pending
left-pending (now_waits idle waits some) is = absurd (not-both (sym is ∙ idle))

module _ {R : Type 0} (k : RecordRules R) (lawful : IsLawful k) (answers : Answers) (w0 : World R) (closed : IsClosed k w0) where
  blocked-alike : (w : World R) (s : ℕ) → Has w s → Alike k w (changed k w s blocked)
  blocked-alike w s there = alike-changed k lawful w s blocked there (λ c. (blocked-frame c).links) (λ c. (blocked-frame c).active) (λ c. (blocked-frame c).pending)

  put_down-alike : (w : World R) (s : ℕ) → Has w s → Alike k w (changed k w s put_down)
  put_down-alike w s there =
      alike-changed k lawful w s put_down there (λ c. (blocked-frame (with_reprocess_mark true c)).links) (λ c. (blocked-frame (with_reprocess_mark true c)).active) (λ c. (blocked-frame (with_reprocess_mark true c)).pending)

  unblocked-alike : (w ready : World R) (s : ℕ) → Has w s → ready ≡ changed k w s unblocked → Alike k w ready
  unblocked-alike w ready s there is = subst (Alike k w) (sym is) (alike-changed k lawful w s unblocked there (λ c. (refl, refl)) (λ c. refl) (λ c. refl))

  -- What the requested record takes over before its request keeps the marks.
  asked-alike : (w : World R) (s t : ℕ) (by_put : Bool) → Has w t → Alike k w (passed_on k (changed k w t (put_mark_passed by_put)) s t)
  asked-alike w s t by_put there =
      let first = alike-changed k lawful w t (put_mark_passed by_put) there (mark-links k lawful by_put) (mark-active k lawful by_put) (mark-pending k lawful by_put) in
      alike-on k first (alike-passed_on k lawful _ s t (first.keeps.has t there))

  -- A record that is active while others are requested awaits what it awaited.
  asks-pending : {w : World R} {s t : ℕ} {w' : World R} {requests : Requests} → Asks k answers w s t w' requests → Has w t → (n : ℕ) → (common_at k w n).active ≡ true
      → (common_at k w' n).pending ≡ (common_at k w n).pending
  asks-pending (for_later {w} {s} {t} _) there n is = (put_down-alike w t there).pending n
  asks-pending (straight_away {w} {w'} {s} {t} _ r) there n is =
      let first = asked-alike w s t (common_at k w s).by_put there in
      left-pending (requested-leaves k lawful answers r n) (first.active n ∙ is) ∙ first.pending n

  abbrev Fine_ : ℕ → World R → Type 0
  Fine_ = Fine k lawful w0 closed

  abbrev Under_ : ℕ → ℕ → World R → Type 0
  Under_ = Under k lawful w0 closed

  abbrev After_ : ℕ → ℕ → World R → Option Got → Type 0
  After_ = After k lawful w0 closed

  abbrev AfterOutput_ : ℕ → ℕ → World R → Bool → Type 0
  AfterOutput_ = AfterOutput k lawful w0 closed

  -- Raising an alarm of `s` keeps the invariant.
  alarmed : {due : ℕ} (w : World R) (s : ℕ) (f : Common → Common) → ((c : Common) → ((f c).disable_link ≡ c.disable_link) × ((f c).forward_link ≡ c.forward_link)) → ((c : Common) → (f c).pending ≡ c.pending)
      → Under_ due s w → Under_ due s (changed k w s f)
  alarmed w s f links pending under = under-changed k lawful w0 closed w s f links pending under

  -- A record that a link names exists.
  abbrev Leads : LinkUse → Type 0
  Leads link = (t : StandingLink) → link ≡ Standing t → Has w0 t.number

  there-now : {due s : ℕ} {w : World R} → Under_ due s w → (t : ℕ) → Has w0 t → Has w t
  there-now under t there = under.fine.keeps.has t there

  -- Record `s` is idle, and SDIS is read.
  readied : {due : ℕ} (w ready : World R) (s : ℕ) → ready ≡ changed k w s unblocked → Has w0 s → (common_at k w s).active ≡ false → Fine_ due w → Under_ due s ready
  readied w ready s r there idle fine =
      under-alike k lawful w0 closed (unblocked-alike w ready s (fine.keeps.has s there) r) (begins k lawful w0 closed s w there idle fine)

  disable-leads : {due : ℕ} {ready : World R} {s : ℕ} → Under_ due s ready → Leads (use_of (common_at k ready s).disable_link)
  disable-leads {ready = ready} {s = s} under t is = target-has k lawful w0 closed under.fine s t.number (lawful.disable_named (at k ready s) t is)

  -- Record `s` takes its input.
  taken-under : {due : ℕ} (w taken : World R) (s : ℕ) (got : Got) → taken ≡ put w s (k.taken (at k w s) got) → Under_ due s w → Under_ due s taken
  taken-under {due} w taken s got t under = subst (Under_ due s) (sym t) (under-put k lawful w0 closed w s _ (links-taken k lawful _ got) (lawful.taken_pending _ got ∙ under.none) under)

  -- Record `s` keeps what it has read in a field of its own.
  kept-under : {due : ℕ} (w : World R) (s : ℕ) (f : OwnField) (got : Got) → Under_ due s w → Under_ due s (kept k w s f got)
  unfolding kept
  kept-under w s f (Got-value v) under =
      under-put k lawful w0 closed w s _ (links-stored k lawful _ (Own f) v) (lawful.stored_pending (at k w s) (Own f) v ∙ under.none) under
  kept-under w s f Got-nothing under = under
  kept-under w s f Got-fault under = under

  mutual
    pub requested-fine : {due : ℕ} {w : World R} {s : ℕ} {w' : World R} {requests : Requests} → Requested k answers w s w' requests → Has w0 s → Fine_ due w → Fine_ due w'
    requested-fine (while_active {w} {s} _) there fine = fine-alike k lawful w0 closed (blocked-alike w s (fine.keeps.has s there)) fine
    requested-fine (while_disabled {w} {ready} {w'} {w''} {s} idle r reads disables _) there fine =
        let first = readied w ready s r there idle fine in
        let under = reads-under reads first (disable-leads first) in
        let judged = under-alike k lawful w0 closed (disables-alike k lawful disables (under-has k lawful w0 closed under)) under in
        let told = under-alike k lawful w0 closed (alike-notified k lawful w'' s (under-has k lawful w0 closed judged)) judged in
        let last = under-alike k lawful w0 closed (alike-disabled k lawful (notified k w'' s) s (under-has k lawful w0 closed told)) told in
        last.fine
    requested-fine (while_idle {w} {ready} {w'} {w''} {after} {s} idle r reads disables _ runs) there fine =
        let first = readied w ready s r there idle fine in
        let under = reads-under reads first (disable-leads first) in
        runs-fine runs (under-alike k lawful w0 closed (disables-alike k lawful disables (under-has k lawful w0 closed under)) under)

    asks-fine : {due : ℕ} {w : World R} {s t : ℕ} {w' : World R} {requests : Requests} → Asks k answers w s t w' requests → Has w0 t → Fine_ due w → Fine_ due w'
    asks-fine (for_later {w} {s} {t} _) there fine = fine-alike k lawful w0 closed (put_down-alike w t (fine.keeps.has t there)) fine
    asks-fine (straight_away {w} {w'} {s} {t} _ r) there fine =
        requested-fine r there (fine-alike k lawful w0 closed (asked-alike w s t (common_at k w s).by_put (fine.keeps.has t there)) fine)

    causes-under : {due : ℕ} {w : World R} {s t : ℕ} {w' : World R} {requests : Requests} → Causes k answers w s t w' requests → Has w0 t → Under_ due s w → Under_ due s w'
    causes-under (meanwhile_active {w} {w'} {s} {t} r) there under =
        let first = under-changed k lawful w0 closed w s (with_active true) (λ c. (refl, refl)) (λ c. refl) under in
        let active = ap (λ (c : Common). c.active) (common_at-changed k lawful w s (with_active true)) in
        let none = asks-pending r (first.fine.keeps.has t there) s active ∙ first.none in
        under-changed k lawful w0 closed w' s (with_active (common_at k w s).active) (λ c. (refl, refl)) (λ c. refl) (record { fine = asks-fine r there first.fine; there = under.there; none = none })

    reads-under : {due : ℕ} {kind : R → InputKind} {w : World R} {s : ℕ} {link : LinkUse} {w' : World R} {got : Got} {requests : Requests} → Reads k answers kind w s link w' got requests
        → Under_ due s w → Leads link → Under_ due s w'
    reads-under unused under leads = under
    reads-under (absent {kind} {w} {s}) under leads = alarmed w s _ (λ c. (refl, refl)) (λ c. refl) under
    reads-under (no_such_device {kind} {w} {s}) under leads = alarmed w s _ (λ c. (refl, refl)) (λ c. refl) under
    reads-under (as_it_stands _ takes) under leads = under-alike k lawful w0 closed (takes-alike k lawful takes (under-has k lawful w0 closed under)) under
    reads-under (after_request {kind} {w} {w'} {w''} {s} {t} _ c takes) under leads =
        let asked = causes-under c (leads t refl) under in
        under-alike k lawful w0 closed (takes-alike k lawful takes (under-has k lawful w0 closed asked)) asked

    follows-under : {due : ℕ} {w : World R} {s : ℕ} {link : LinkUse} {w' : World R} {requests : Requests} → Follows k answers w s link w' requests → Under_ due s w → Leads link → Under_ due s w'
    follows-under (to_record {w} {w'} {s} {t} _ c) under leads = causes-under c (leads t refl) under
    follows-under (to_scanned _) under leads = under
    follows-under (nowhere _) under leads = under

    read_each-under : {due : ℕ} {w : World R} {s : ℕ} {has_fault : Bool} {slots : List FieldSlot} {w' : World R} {came : Got} {requests : Requests} → ReadsEach k answers w s has_fault slots w' came requests
        → Under_ due s w → Under_ due s w'
    read_each-under none_left under = under
    read_each-under (one_read {w} {w'} {w''} {s} {has_fault} {slot} {slots} {got} r rest) under =
        read_each-under rest (kept-under w' s (Letter slot) got
        (reads-under r under (λ t is. target-has k lawful w0 closed under.fine s t.number (link_named k lawful (at k w s) (Own (InputLink slot)) t is))))

    gets-after : {due : ℕ} {w : World R} {s : ℕ} {want : Want} {w' : World R} {came : Option Got} {requests : Requests} → Gets k answers w s want w' came requests → Under_ due s w
        → ((t : StandingLink) → want ≡ ReadLink (Standing t) → Has w0 t.number) → ((t : StandingLink) → want ≡ ReadInputs (Standing t) → Has w0 t.number) → After_ due s w' came
    gets-after no_input under leads chosen = has_come under
    gets-after (of_link r) under leads chosen = has_come (reads-under r under (λ t is. leads t (ap ReadLink is)))
    gets-after (of_device g r) under leads chosen = receives-after k lawful w0 closed r (gives-under k lawful w0 closed answers g under)
    gets-after {due} (of_inputs {w} {w'} {ready} {w''} {s} {link} {got} r is rest) under leads chosen =
        has_come (read_each-under rest (subst (Under_ due s) (sym is) (kept-under w' s Seln got (reads-under r under (λ t e. chosen t (ap ReadInputs e))))))

    writes-under : {due : ℕ} {w : World R} {s : ℕ} {link : LinkUse} {v : Value} {w' : World R} {requests : Requests} → Writes k answers w s link v w' requests → Under_ due s w → Leads link → Under_ due s w'
    writes-under to_nothing under leads = under
    writes-under (to_absent {w} {s}) under leads = alarmed w s _ (λ c. (refl, refl)) (λ c. refl) under
    writes-under (to_no_device {w} {s}) under leads = alarmed w s _ (λ c. (refl, refl)) (λ c. refl) under
    writes-under (in_vain {w} {w'} {s} {t} p) under leads =
        let put_first = under-alike k lawful w0 closed (puts-alike k lawful p (there-now under t.number (leads t refl))) under in
        let handed = under-alike k lawful w0 closed (alike-handed_on k lawful w' s t (there-now put_first t.number (leads t refl))) put_first in
        alarmed (handed_on k w' s t) s _ (λ c. (refl, refl)) (λ c. refl) handed
    writes-under (alone {w} {w'} {s} {t} p _) under leads =
        let put_first = under-alike k lawful w0 closed (puts-alike k lawful p (there-now under t.number (leads t refl))) under in
        under-alike k lawful w0 closed (alike-handed_on k lawful w' s t (there-now put_first t.number (leads t refl))) put_first
    writes-under (and_requests {w} {w'} {w''} {s} {t} p _ c) under leads =
        let put_first = under-alike k lawful w0 closed (puts-alike k lawful p (there-now under t.number (leads t refl))) under in
        causes-under c (leads t refl) (under-alike k lawful w0 closed (alike-handed_on k lawful w' s t (there-now put_first t.number (leads t refl))) put_first)

    each-under : {due : ℕ} {w : World R} {s : ℕ} {slots : List FieldSlot} {w' : World R} {requests : Requests} → FollowsEach k answers w s slots w' requests → Under_ due s w → Under_ due s w'
    each-under no_more under = under
    each-under (one_more {w} {w'} {w''} {s} {slot} f rest) under =
        each-under rest (follows-under f under (λ t is. target-has k lawful w0 closed under.fine s t.number (link_named k lawful (at k w s) (Own (Lnk slot)) t is)))

    puts_out-after : {due : ℕ} {w : World R} {s : ℕ} {output : Output} {w' : World R} {went : Bool} {requests : Requests} → PutsOut k answers w s output w' went requests → Under_ due s w
        → ((t : StandingLink) (v : Value) → output ≡ WriteLink (Standing t) v → Has w0 t.number) → AfterOutput_ due s w' went
    puts_out-after nothing under leads = goes_on under
    puts_out-after (to_link {w} {w'} {s} {link} {v} x) under leads = goes_on (writes-under x under (λ t is. leads t v (ap (λ (l : LinkUse). WriteLink l v) is)))
    puts_out-after (to_device g a) under leads = acknowledges-after k lawful w0 closed a (gives-under k lawful w0 closed answers g under)
    puts_out-after (to_links f) under leads = goes_on (each-under f under)
    puts_out-after (as_event {w} {s} {name}) under leads = goes_on (under-alike k lawful w0 closed (alike-sent k (Post name) w) under)

    finishes-fine : {due : ℕ} {w : World R} {s : ℕ} {w' : World R} {requests : Requests} → Finishes k answers w s w' requests → Under_ due s w → Fine_ due w'
    finishes-fine (forward {w} {ready} {w'} {w''} {s} r f rests) under =
        let first = subst (Under_ _ s) (sym r) (under-put k lawful w0 closed w s _ (links-shown k lawful _ _) (ap (λ (c : Common). c.pending) (shown-common k lawful w.moment (at k w s)) ∙ under.none) under) in
        rests-fine k lawful w0 closed rests (follows-under f first (λ t is. target-has k lawful w0 closed first.fine s t.number (lawful.forward_named (at k ready s) t is)))

    proceeds-fine : {due : ℕ} {w : World R} {s : ℕ} {got : Got} {w' : World R} {requests : Requests} → Proceeds k answers w s got w' requests → Under_ due s w → Fine_ due w'
    proceeds-fine (at_once {w} {taken} {w'} {w''} {s} {got} t p f) under =
        finishes-fine f (goes_on-under k lawful w0 closed (puts_out-after p (taken-under w taken s got t under) (λ t v is. target-has k lawful w0 closed under.fine s t.number (lawful.output_named (at k w s) got t v is))))
    proceeds-fine (kept_waiting {w} {taken} {w'} {s} {got} t p) under =
        waits_on-fine k lawful w0 closed (puts_out-after p (taken-under w taken s got t under) (λ t v is. target-has k lawful w0 closed under.fine s t.number (lawful.output_named (at k w s) got t v is)))

    runs-fine : {due : ℕ} {w : World R} {s : ℕ} {w' : World R} {requests : Requests} → Runs k answers w s w' requests → Under_ due s w → Fine_ due w'
    runs-fine (Runs.to_end {w} {w'} {w''} {s} g f) under =
        proceeds-fine f (come-under k lawful w0 closed (gets-after g under (λ t is. target-has k lawful w0 closed under.fine s t.number (lawful.begin_named (at k w s) t is))
        (λ t is. target-has k lawful w0 closed under.fine s t.number (lawful.choice_named (at k w s) t is))))
    runs-fine (Runs.waits {w} {w'} {s} g) under =
        waiting-fine k lawful w0 closed (gets-after g under (λ t is. target-has k lawful w0 closed under.fine s t.number (lawful.begin_named (at k w s) t is))
        (λ t is. target-has k lawful w0 closed under.fine s t.number (lawful.choice_named (at k w s) t is)))

  -- A record whose device answered later no longer awaits a completion.
  pub resumes-fine : {due : ℕ} {w : World R} {s : ℕ} {x : Finished} {w' : World R} {requests : Requests} → Resumes k answers w s x w' requests → Has w0 s → IsSome (common_at k w s).pending
      → Fine_ due w → Fine_ (due + 1) w'
  resumes-fine (takes_completion {w} {back} {w'} {w''} {s} {x} b p f) there awaits fine =
      let first = subst (Under_ _ s) (sym b) (resumes-under k lawful w0 closed w s there awaits fine) in
      let taken = under-put k lawful w0 closed back s (k.finished (at k back s) x) (links-finished k lawful _ x) (ap (λ (c : Common). c.pending) (lawful.finished_common (at k back s) x) ∙ first.none) first in
      finishes-fine f (goes_on-under k lawful w0 closed (puts_out-after p taken (λ t v is. target-has k lawful w0 closed first.fine s t.number (lawful.last_output_named (at k back s) x t v is))))
