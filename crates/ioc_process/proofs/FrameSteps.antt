-- The effect of the turns of frames in terms of the effect of requests.
use Rattle.std.proofs.Common.{◌≡◌, ℕ, zero, suc, ◌+◌, ◌≤◌, ◌<◌, Bool, true, false, cond, List, [], ◌∷◌, length, Option, Some, None as Nothing_, refl, sym, ap, subst, ◌∙◌, arith}
use Rattle.std.specs.Prelude.{slice_get, drop}
use Rattle.ioc_fields.specs.Names.{all_slots}
use Rattle.ioc_fields.specs.declared.field_no.FieldSlot.{FieldSlot}
use Rattle.ioc_values.specs.declared.value.Finished.{Finished}
use Rattle.ioc_ledger.specs.declared.tally.Tally.{Tally}
use Rattle.ioc_ledger.specs.declared.outcome.Outcome.{Outcome}
use Rattle.ioc_ledger.specs.declared.outcome.Outcome.TheVariants.{Processed, Disabled, Reprocess}
use Rattle.ioc_ledger.specs.Requests.{Requests, None, Request, followed_by, counted, counted_one}
use Rattle.ioc_dbcommon.specs.declared.common.Common.{Common}
use Rattle.ioc_dbcommon.specs.declared.link_field.LinkUse.{LinkUse}
use Rattle.ioc_dbcommon.specs.declared.link_field.LinkUse.TheVariants.{Unused, OwnDevice, Absent, Standing}
use Rattle.ioc_dbcommon.specs.declared.link_field.StandingLink.{StandingLink}
use Rattle.ioc_dbcommon.specs.declared.body.Got.{Got}
use Rattle.ioc_dbcommon.specs.declared.body.Want.{Want}
use Rattle.ioc_dbcommon.specs.declared.body.Output.{Output}
use Rattle.ioc_dbcommon.specs.Links.{record_named, use_of}
use Rattle.ioc_dbcommon.specs.Wants.{is_unused}
use Rattle.ioc_dbcommon.specs.Steps.{with_active, unblocked, is_passive, disabled, disable_kind}
use Rattle.ioc_record.specs.Values.{read_as}
use Rattle.ioc_record.specs.RecordRules.{RecordRules}
use Rattle.ioc_record.specs.Laws.{IsLawful}
use Rattle.ioc_store.specs.Showing.{showing, links-shown}
use Rattle.ioc_store.specs.declared.frames.Frame.{Frame}
use Rattle.ioc_store.specs.declared.frames.ResumePoint.TheVariants.{ReadingDisable, Following, FollowingEach, Writing, Reading as Reading-place}
use Rattle.ioc_process.specs.Frames.{Ended, Calls}
use Rattle.ioc_store.specs.World.{World, Has, at, common_at, put, changed, sent, idle, Stays, Keeps, IsClosed}
use Rattle.ioc_store.specs.Marks.{is_put_down, put_down, put_mark_passed, at_rest, is_disabled, resumed}
use Rattle.ioc_store.specs.declared.outbox.OutboxItem.TheVariants.{Once}
use Rattle.ioc_dbcommon.specs.declared.body.InputKind.{InputKind}
use Rattle.ioc_dbcommon.specs.declared.body.Got.TheVariants.{Fault as Got-fault}
use Rattle.ioc_process.specs.Processing.{Done, Came, Reading, PutOut, request, completed, completed_if, finished, finished_if, after_output, put_out, followed, followed_each, caused, value_came, body, input, read_record, prepared, Ran, Read, as_request, as_input, ran_after, processed, asked, judged, begun_idle, ran, read_link, faulted, read_at}
use Rattle.ioc_store.specs.Rests.{rested, disable_came}
use Rattle.ioc_store.specs.Links.{is_chosen, chosen_links, link_at, requests_first, passive_named}
use Rattle.ioc_process.specs.Frames.{asked_ran, after_disable, went_on, then_finished, remaining, then_frame, then_frames, after_turn, after_reading, Goes}
use Rattle.ioc_process.specs.Runs.{HasCome, IsStanding}
use Rattle.ioc_store.specs.Worlds.{idle-changed, common_at-changed, at-put_same}
use Rattle.ioc_process.specs.Depth.{request-rule, rested-idle, room-shown, shown-active, value_came-stays}
use Rattle.ioc_process.specs.Keeping.{keeps_on, keeps-changed, keeps-put, sent-keeps, value_came-keeps, notified-keeps}
use Rattle.ioc_store.specs.Given.{Answers}
use Rattle.ioc_store.specs.Notifying.{passed_on, notified}

pub followed_by-assoc : (a b c : Requests) → followed_by (followed_by a b) c ≡ followed_by a (followed_by b c)
followed_by-assoc None b c = refl
followed_by-assoc (Request outcome caused later) b c = ap (Request outcome caused) (followed_by-assoc later b c)

drop-get : {X : Type 0} (xs : List X) (n : ℕ) (x : X) → slice_get xs n ≡ Some x → drop n xs ≡ x ∷ drop (suc n) xs
drop-get [] n x is = absurd cc
drop-get (y ∷ ys) zero x is = let e : y ≡ x = cc in ap (λ z. z ∷ ys) e
drop-get (y ∷ ys) (suc n) x is = drop-get ys n x is

drop-none : {X : Type 0} (xs : List X) (n : ℕ) → slice_get xs n ≡ Nothing_ → drop n xs ≡ []
drop-none [] zero is = refl
drop-none [] (suc n) is = refl
drop-none (y ∷ ys) zero is = absurd cc
drop-none (y ∷ ys) (suc n) is = drop-none ys n is

below_length : {X : Type 0} (xs : List X) (n : ℕ) (x : X) → slice_get xs n ≡ Some x → n < length xs
below_length [] n x is = absurd cc
below_length (y ∷ ys) zero x is = omega arith
below_length (y ∷ ys) (suc n) x is = let h = below_length ys n x is in omega (arith, h)

pub none_of : {X : Type 0} (o : Option X) → ((x : X) → o ≡ Some x → ⊥) → o ≡ Nothing_
none_of Nothing_ none = refl
none_of (Some x) none = absurd (none x refl)

pub slot_below : (n : ℕ) (slot : FieldSlot) → slice_get all_slots n ≡ Some slot → n < 16
slot_below n slot is = below_length all_slots n slot is

pub followed_by-none : (r : Requests) → followed_by r None ≡ r
followed_by-none None = refl
followed_by-none (Request outcome caused later) = ap (Request outcome caused) (followed_by-none later)

unused_is : (link : LinkUse) → is_unused link ≡ true → link ≡ Unused
unused_is Unused is = refl
unused_is OwnDevice is = absurd cc
unused_is Absent is = absurd cc
unused_is (Standing t) is = absurd cc

-- A link that names no record names no passive one.
pub unnamed_ends : {R : Type 0} (k : RecordRules R) (w : World R) (link : LinkUse) → record_named link ≡ Nothing_ → passive_named k w link ≡ Nothing_
unnamed_ends k w Unused is = refl
unnamed_ends k w OwnDevice is = refl
unnamed_ends k w Absent is = refl
unnamed_ends k w (Standing t) is = absurd cc

module _ {R : Type 0} (k : RecordRules R) (lawful : IsLawful k) where
  -- The record shows its alarms.
  abbrev pub ready : World R → ℕ → World R
  ready w s = showing k w s

  pub ready-keeps : (w : World R) (s : ℕ) → Has w s → Keeps k w (ready w s)
  ready-keeps w s there = keeps-put k w s there _ (links-shown k lawful w.moment (at k w s))

  pub ready-called : (w : World R) (s : ℕ) → (common_at k w s).active ≡ false → idle k (changed k (ready w s) s (with_active true)) + 1 ≡ idle k w
  ready-called w s inactive =
      omega (
        arith,
        idle-changed k lawful (ready w s) s (with_active true),
        room-shown k lawful w s,
        ap {A = Bool} {B = ℕ} (λ b. cond b 0 1) inactive,
        ap {A = Bool} {B = ℕ} (λ b. cond b 0 1) (shown-active k lawful w s),
      )

  pub ready-ended : (w : World R) (s : ℕ) → (common_at k w s).active ≡ false → idle k (rested k (ready w s) s) ≡ idle k w
  ready-ended w s inactive =
      omega (
        arith,
        rested-idle k lawful (ready w s) s,
        room-shown k lawful w s,
        ap {A = Bool} {B = ℕ} (λ b. cond b 0 1) inactive,
        ap {A = Bool} {B = ℕ} (λ b. cond b 0 1) (shown-active k lawful w s),
      )

  pub rested-keeps : (w : World R) (s : ℕ) → Has w s → Keeps k w (rested k w s)
  unfolding rested
  rested-keeps w s there =
      let told = notified-keeps k lawful w s there in
      let first = keeps_on k told (keeps-changed k lawful (notified k w s) s (told.has s there) at_rest (λ c. (refl, refl))) in
      elim (common_at k w s).reprocess as (λ b. Keeps k w (cond b (sent (Once s) (changed k (notified k w s) s at_rest)) (changed k (notified k w s) s at_rest))) [
        | true ↦ keeps_on k first (sent-keeps k lawful (Once s) _)
        | false ↦ first
      ]

  -- A request of a record by an active one is `asked_ran` as one request.
  pub asked-ran : (answers : Answers) (w : World R) (s t : ℕ) → asked k (request k answers) w s t ≡ as_request (asked_ran k answers w s t)
  unfolding asked asked_ran
  asked-ran answers w s t =
      let by_put = (common_at k w s).by_put in
      elim (is_put_down by_put (common_at k w t)) as (λ b.
      cond {A = Done R} b (record { world = changed k w t put_down; requests = Request Reprocess None None }) (request k answers (passed_on k (changed k w t (put_mark_passed by_put)) s t) t)
      ≡ as_request (cond {A = Ran R} b (record { world = changed k w t put_down; requests = None; outcome = Reprocess }) (ran k answers (passed_on k (changed k w t (put_mark_passed by_put)) s t) t))) [
        | true ↦ refl
        | false ↦ request-rule k lawful answers _ t
      ]

  -- Following a link to a passive record requests it, and following any other link requests
  -- nothing.
  pub followed-calls : (answers : Answers) (w : World R) (s : ℕ) (link : LinkUse) (target : ℕ) → passive_named k w link ≡ Some target → followed k (request k answers) w s link ≡ caused k (request k answers) w s target
  unfolding followed
  followed-calls answers w s (Standing t) target is =
      elim (is_passive (common_at k w t.number)) as (λ b. cond b (Some t.number) Nothing_ ≡ Some target
      → cond {A = Done R} b (caused k (request k answers) w s t.number) (record { world = w; requests = None }) ≡ caused k (request k answers) w s target) [
        | true ↦ λ same. let e : t.number ≡ target = cc in ap (caused k (request k answers) w s) e
        | false ↦ λ same. absurd cc
      ] is
  followed-calls answers w s Unused target is = absurd cc
  followed-calls answers w s OwnDevice target is = absurd cc
  followed-calls answers w s Absent target is = absurd cc

  pub followed-none : (answers : Answers) (w : World R) (s : ℕ) (link : LinkUse) → passive_named k w link ≡ Nothing_ → followed k (request k answers) w s link ≡ record { world = w; requests = None }
  unfolding followed
  followed-none answers w s (Standing t) is =
      elim (is_passive (common_at k w t.number)) as (λ b. cond b (Some t.number) Nothing_ ≡ Nothing_
      → cond {A = Done R} b (caused k (request k answers) w s t.number) (record { world = w; requests = None }) ≡ record { world = w; requests = None }) [
        | true ↦ λ same. absurd cc
        | false ↦ λ same. refl
      ] is
  followed-none answers w s Unused is = refl
  followed-none answers w s OwnDevice is = refl
  followed-none answers w s Absent is = refl

  -- The record that a passive link names exists.
  pub passive_there : (w : World R) (link : LinkUse) (target : ℕ) → IsStanding w link → passive_named k w link ≡ Some target → Has w target
  passive_there w (Standing t) target stands is =
      elim (is_passive (common_at k w t.number)) as (λ b. cond b (Some t.number) Nothing_ ≡ Some target → Has w target) [
        | true ↦ λ same. let e : t.number ≡ target = cc in subst (Has w) e (stands t refl)
        | false ↦ λ same. absurd cc
      ] is
  passive_there w Unused target stands is = absurd cc
  passive_there w OwnDevice target stands is = absurd cc
  passive_there w Absent target stands is = absurd cc

  -- A body that follows its forward link requests the record that the link names.
  pub finished-calls : (answers : Answers) (w : World R) (s : ℕ) (target : ℕ) → passive_named k (ready w s) (use_of (common_at k (ready w s) s).forward_link) ≡ Some target →
      processed (finished k (request k answers) w s) ≡ after_turn k answers (changed k (ready w s) s (with_active true)) (Calls (record { source = s; place = Following target }))
  unfolding finished caused after_turn then_frame went_on ran_after
  finished-calls answers w s target is =
      let active = shown-active k lawful w s in
      let mid = changed k (ready w s) s (with_active true) in
      let next = as_request (asked_ran k answers mid s target) in
      rw (followed-calls answers (ready w s) s _ target is, active, asked-ran answers mid s target)
      (λ i. record { world = rested k (changed k next.world s (with_active true)) s; requests = sym (followed_by-none next.requests) i; outcome = Processed })

  -- A body that has no link to follow is done.
  pub finished-ends : (answers : Answers) (w : World R) (s : ℕ) → passive_named k (ready w s) (use_of (common_at k (ready w s) s).forward_link) ≡ Nothing_ →
      processed (finished k (request k answers) w s) ≡ after_turn k answers (rested k (ready w s) s) (Ended Processed)
  unfolding finished after_turn
  finished-ends answers w s none = ap (λ (d : Done R). record { world = rested k d.world s; requests = d.requests; outcome = Processed }) (followed-none answers (ready w s) s _ none)

  -- Finishing after no requests is finishing.
  pub then_finished-none : (answers : Answers) (w : World R) (s : ℕ) → then_finished k answers s (record { world = w; requests = None }) ≡ finished k (request k answers) w s
  unfolding then_finished
  then_finished-none answers w s = refl

  then_finished-after : (answers : Answers) (s : ℕ) (first : Requests) (rest : Done R) → then_finished k answers s (record { world = rest.world; requests = followed_by first rest.requests })
      ≡ record { world = (then_finished k answers s rest).world; requests = followed_by first (then_finished k answers s rest).requests }
  unfolding then_finished
  then_finished-after answers s first rest =
      let last = finished k (request k answers) rest.world s in
      ap (λ (r : Requests). record { world = last.world; requests = r }) (followed_by-assoc first rest.requests last.requests)

  -- A body that has taken its input continues with its output.
  pub completed-taken : (answers : Answers) (w : World R) (s : ℕ) (got : Got) (output : Output) {left : Ran R} → k.output (at k w s) got ≡ output
      → processed (after_output k (request k answers) s (put_out k answers (request k answers) (put w s (k.taken (at k w s) got)) s output)) ≡ left → processed (completed k answers (request k answers) w s got) ≡ left
  unfolding completed
  completed-taken answers w s got output is left =
      ap (λ (o : Output). processed (after_output k (request k answers) s (put_out k answers (request k answers) (put w s (k.taken (at k w s) got)) s o))) is ∙ left

  -- A body finishes after its output if it continues now, and stops otherwise.
  pub output-on : (answers : Answers) (s : ℕ) (out : PutOut R) → out.goes_on ≡ true → after_output k (request k answers) s out ≡ then_finished k answers s (record { world = out.world; requests = out.requests })
  unfolding after_output then_finished
  output-on answers s out is =
      ap (λ (b : Bool). let rest = finished_if k (request k answers) out.world s b in record { world = rest.world; requests = followed_by out.requests rest.requests }) is

  pub output-waits : (answers : Answers) (s : ℕ) (out : PutOut R) → out.goes_on ≡ false → out.requests ≡ None → processed (after_output k (request k answers) s out) ≡ after_turn k answers out.world (Ended Processed)
  unfolding after_output after_turn
  output-waits answers s out is none =
      ap (λ (b : Bool). let rest = finished_if k (request k answers) out.world s b in processed (record { world = rest.world; requests = followed_by out.requests rest.requests })) is
      ∙ ap (λ (r : Requests). processed (record { world = out.world; requests = followed_by r None })) none

  -- A body that has written and requests the record finishes afterwards.
  pub writing-calls : (answers : Answers) (w : World R) (s : ℕ) (target : ℕ) → (common_at k w s).active ≡ false →
      processed (then_finished k answers s (caused k (request k answers) w s target)) ≡ after_turn k answers (changed k w s (with_active true)) (Calls (record { source = s; place = Writing target }))
  unfolding then_finished caused after_turn then_frame went_on ran_after
  writing-calls answers w s target inactive = rw (inactive, asked-ran answers (changed k w s (with_active true)) s target) refl

  -- The remaining links begin with this one if it is chosen, and are those after it otherwise.
  pub remaining-chosen : (links next : ℕ) (slot : FieldSlot) → slice_get all_slots next ≡ Some slot → is_chosen links slot ≡ true → remaining links next ≡ slot ∷ remaining links (next + 1)
  unfolding remaining
  remaining-chosen links next slot is chosen = let e : next + 1 ≡ suc next = omega arith in rw (e, drop-get all_slots next slot is, chosen) refl

  pub remaining-other : (links next : ℕ) (slot : FieldSlot) → slice_get all_slots next ≡ Some slot → is_chosen links slot ≡ false → remaining links next ≡ remaining links (next + 1)
  unfolding remaining
  remaining-other links next slot is other = let e : next + 1 ≡ suc next = omega arith in rw (e, drop-get all_slots next slot is, other) refl

  pub remaining-none : (links next : ℕ) → slice_get all_slots next ≡ Nothing_ → remaining links next ≡ []
  unfolding remaining
  remaining-none links next is = rw (drop-none all_slots next is) refl

  pub remaining-all : (links : ℕ) → remaining links 0 ≡ chosen_links links
  unfolding remaining chosen_links
  remaining-all links = refl

  pub each-none : (answers : Answers) (w : World R) (s : ℕ) (slot : FieldSlot) (slots : List FieldSlot) → passive_named k w (link_at k w s slot) ≡ Nothing_ →
      followed_each k (request k answers) w s (slot ∷ slots) ≡ followed_each k (request k answers) w s slots
  unfolding followed_each
  each-none answers w s slot slots none = rw (followed-none answers w s (link_at k w s slot) none) refl

  pub each-calls : (answers : Answers) (w : World R) (s links next : ℕ) (slot : FieldSlot) (target : ℕ) → (common_at k w s).active ≡ false → passive_named k w (link_at k w s slot) ≡ Some target →
      processed (then_finished k answers s (followed_each k (request k answers) w s (slot ∷ remaining links next)))
      ≡ after_turn k answers (changed k w s (with_active true)) (Calls (record { source = s; place = FollowingEach links target next }))
  unfolding followed_each caused after_turn then_frame went_on ran_after
  each-calls answers w s links next slot target inactive is =
      let mid = changed k w s (with_active true) in
      let done = as_request (asked_ran k answers mid s target) in
      let back = changed k done.world s (with_active false) in
      let rest = followed_each k (request k answers) back s (remaining links next) in
      rw (followed-calls answers w s (link_at k w s slot) target is, inactive, asked-ran answers mid s target) (ap (λ (d : Done R). processed d) (then_finished-after answers s done.requests rest))

  one_frame : (answers : Answers) (before counts : Tally) (ran left : Ran R) (frame : Frame) → Goes before counts ran left
      → Goes before counts (then_frame k answers (as_request ran) frame) (then_frame k answers (as_request left) frame)
  unfolding then_frame ran_after
  one_frame answers before counts ran left frame goes = record {
    world = ap (λ (v : World R). (went_on k answers v frame.source frame.place).world) goes.world;
    outcome = ap (λ (v : World R). (went_on k answers v frame.source frame.place).outcome) goes.world;
    tally = ap (λ (o : Outcome). counted (counted_one (counted before ran.requests) o) (went_on k answers ran.world frame.source frame.place).requests) goes.outcome
        ∙ ap (λ (t : Tally). counted (counted_one t left.outcome) (went_on k answers ran.world frame.source frame.place).requests) goes.tally
        ∙ ap (λ (v : World R). counted (counted_one (counted counts left.requests) left.outcome) (went_on k answers v frame.source frame.place).requests) goes.world;
  }

  -- The frames continue from what the code has done.
  pub goes-on : (answers : Answers) (before counts : Tally) (frames : List Frame) (ran left : Ran R) → Goes before counts ran left → Goes before counts (then_frames k answers ran frames) (then_frames k answers left frames)
  goes-on answers before counts [] ran left goes = goes
  goes-on answers before counts (frame ∷ frames) ran left goes =
      goes-on answers before counts frames (then_frame k answers (as_request ran) frame) (then_frame k answers (as_request left) frame) (one_frame answers before counts ran left frame goes)

  -- The request that a frame waited for is done and counted.
  pub goes-popped : (answers : Answers) (counts new_counts : Tally) (w : World R) (frame : Frame) (outcome : Outcome) → new_counts ≡ counted_one counts outcome
      → Goes counts new_counts (then_frame k answers (as_request (record { world = w; requests = None; outcome = outcome })) frame) (went_on k answers w frame.source frame.place)
  unfolding then_frame ran_after
  goes-popped answers counts new_counts w frame outcome one =
      record { world = refl; outcome = refl; tally = ap (λ (t : Tally). counted t (went_on k answers w frame.source frame.place).requests) (sym one) }

  -- The record of a frame is idle again.
  abbrev pub back : World R → ℕ → World R
  back w s = changed k w s (with_active false)

  pub back-inactive : (w : World R) (s : ℕ) → (common_at k (back w s) s).active ≡ false
  back-inactive w s = ap (λ (c : Common). c.active) (common_at-changed k lawful w s (with_active false))

  pub back-idle : (w : World R) (s : ℕ) → idle k (back w s) ≤ idle k w + 1
  back-idle w s = omega (arith, idle-changed k lawful w s (with_active false))

  -- Reading a field, successfully or not, leaves no more records idle.
  pub read_at-stays : (kind : R → InputKind) (w : World R) (s : ℕ) (t : StandingLink) → Stays k w s (read_at k kind w s t).world
  unfolding read_at
  read_at-stays kind w s t = value_came-stays k lawful w s t _

  pub read_at-keeps : (kind : R → InputKind) (w : World R) (s : ℕ) (t : StandingLink) → IsClosed k w → Has w s → Has w t.number → Keeps k w (read_at k kind w s t).world
  unfolding read_at
  read_at-keeps kind w s t closed there stands = value_came-keeps k lawful w closed s there t stands _

  pub twice-rested : (w : World R) (s : ℕ) → idle k (rested k (changed k w s (with_active true)) s) ≤ idle k w + 1
  twice-rested w s =
      omega (
        arith,
        rested-idle k lawful (changed k w s (with_active true)) s,
        idle-changed k lawful w s (with_active true),
        ap {A = Bool} {B = ℕ} (λ b. cond b 0 1) (ap (λ (c : Common). c.active) (common_at-changed k lawful w s (with_active true))),
      )

  -- A body is determined by its input.
  pub body-input : (answers : Answers) (w : World R) (s : ℕ) (want : Want) → k.begin (at k w s) ≡ want →
      body k answers (request k answers) w s ≡ after_reading k answers s (input k answers (request k answers) w s want)
  unfolding body after_reading
  body-input answers w s want is = ap (λ (it : Want). after_reading k answers s (input k answers (request k answers) w s it)) is

  -- An input that was read without a request leads to the rest of the body.
  pub after_reading-came : (answers : Answers) (s : ℕ) (reading : Reading R) (got : Got) → reading.came ≡ Some got → reading.requests ≡ None →
      after_reading k answers s reading ≡ completed k answers (request k answers) reading.world s got
  unfolding after_reading
  after_reading-came answers s reading got came none =
      ap (λ (o : Option Got). let rest = completed_if k answers (request k answers) reading.world s o in record { world = rest.world; requests = followed_by reading.requests rest.requests }) came
      ∙ ap (λ r. record { world = (completed k answers (request k answers) reading.world s got).world; requests = followed_by r (completed k answers (request k answers) reading.world s got).requests }) none

  pub after_reading-none : (answers : Answers) (s : ℕ) (reading : Reading R) → reading.came ≡ Nothing_ → reading.requests ≡ None →
      processed (after_reading k answers s reading) ≡ after_turn k answers reading.world (Ended Processed)
  unfolding after_reading after_turn
  after_reading-none answers s reading came none =
      ap (λ (o : Option Got). let rest = completed_if k answers (request k answers) reading.world s o in processed (record { world = rest.world; requests = followed_by reading.requests rest.requests })) came
      ∙ ap (λ r. processed (record { world = reading.world; requests = followed_by r None })) none

  -- If the link has PP, the record that it names is requested first.
  pub after_reading-calls : (answers : Answers) (w : World R) (s : ℕ) (t : StandingLink) → requests_first k w t ≡ true → (common_at k w s).active ≡ false →
      processed (after_reading k answers s (as_input (read_record k (request k answers) k.input_kind w s t)))
      ≡ after_turn k answers (changed k w s (with_active true)) (Calls (record { source = s; place = Reading-place t }))
  unfolding after_reading after_turn then_frame went_on read_record prepared caused ran_after read_at
  after_reading-calls answers w s t passive inactive = rw (passive, inactive, asked-ran answers (changed k w s (with_active true)) s t.number) refl

  pub after_reading-plain : (answers : Answers) (w : World R) (s : ℕ) (t : StandingLink) → requests_first k w t ≡ false →
      after_reading k answers s (as_input (read_record k (request k answers) k.input_kind w s t))
      ≡ completed k answers (request k answers) (read_at k k.input_kind w s t).world s (read_at k k.input_kind w s t).came
  unfolding after_reading read_record prepared read_at
  after_reading-plain answers w s t passive = rw passive refl

  -- A request that reads SDIS through a link with PP requests the record that the link names first.
  pub after_disable-calls : (answers : Answers) (w : World R) (s : ℕ) (t : StandingLink) → requests_first k w t ≡ true → (common_at k w s).active ≡ false →
      after_disable k answers s (read_record k (request k answers) (λ _. disable_kind) w s t)
      ≡ after_turn k answers (changed k w s (with_active true)) (Calls (record { source = s; place = ReadingDisable t }))
  unfolding after_disable after_turn then_frame went_on read_record prepared caused read_at
  after_disable-calls answers w s t passive inactive = rw (passive, inactive, asked-ran answers (changed k w s (with_active true)) s t.number) refl

  pub after_disable-plain : (answers : Answers) (w : World R) (s : ℕ) (t : StandingLink) → requests_first k w t ≡ false →
      after_disable k answers s (read_record k (request k answers) (λ _. disable_kind) w s t)
      ≡ (let read = read_at k (λ _. disable_kind) w s t in judged k answers (request k answers) (disable_came k read.world s read.came) s)
  unfolding after_disable read_record prepared read_at ran_after
  after_disable-plain answers w s t passive = rw passive refl

  pub came_read : (kind : R → InputKind) (w mid : World R) (s : ℕ) (t : StandingLink) (got : Got) (to : InputKind) → to ≡ kind (at k w s)
      → HasCome mid got (value_came k w s t (read_as k (at k w t.number) t.field to)) → HasCome mid got (read_at k kind w s t)
  unfolding read_at
  came_read kind w mid s t got to is came = subst (λ (x : InputKind). HasCome mid got (value_came k w s t (read_as k (at k w t.number) t.field x))) is came

  -- What was read through a link, as the code has it.
  pub came-completed : (answers : Answers) (mid : World R) (s : ℕ) (got : Got) (read : Came R) (left : Ran R) → HasCome mid got read
      → processed (completed k answers (request k answers) mid s got) ≡ left → processed (completed k answers (request k answers) read.world s read.came) ≡ left
  came-completed answers mid s got read left came is =
      ap (λ (v : World R). processed (completed k answers (request k answers) v s read.came)) (sym came.world) ∙ ap (λ (x : Got). processed (completed k answers (request k answers) mid s x)) (sym came.came) ∙ is

  pub came-judged : (answers : Answers) (mid : World R) (s : ℕ) (got : Got) (read : Came R) (left : Ran R) → HasCome mid got read
      → judged k answers (request k answers) (disable_came k mid s got) s ≡ left → judged k answers (request k answers) (disable_came k read.world s read.came) s ≡ left
  came-judged answers mid s got read left came is =
      ap (λ (v : World R). judged k answers (request k answers) (disable_came k v s read.came) s) (sym came.world) ∙ ap (λ (x : Got). judged k answers (request k answers) (disable_came k mid s x) s) (sym came.came) ∙ is

  -- A request of an idle record continues with what SDIS returns.
  pub begun-reads : (answers : Answers) (w ready : World R) (s : ℕ) (link : LinkUse) → ready ≡ changed k w s unblocked → link ≡ use_of (common_at k ready s).disable_link
      → begun_idle k answers (request k answers) w s ≡ after_disable k answers s (read_link k (request k answers) (λ _. disable_kind) ready s link)
  unfolding begun_idle after_disable
  begun-reads answers w ready s link r is = rw (← r, ← is) refl

  pub after_disable-unused : (answers : Answers) (w : World R) (s : ℕ) → after_disable k answers s (read_link k (request k answers) (λ _. disable_kind) w s Unused) ≡ judged k answers (request k answers) w s
  unfolding after_disable read_link ran_after disable_came
  after_disable-unused answers w s = refl

  -- A request of an idle record whose SDIS is no link continues with the check of DISA.
  pub begun-judged : (answers : Answers) (w ready : World R) (s : ℕ) → ready ≡ changed k w s unblocked → is_unused (use_of (common_at k ready s).disable_link) ≡ true
      → begun_idle k answers (request k answers) w s ≡ judged k answers (request k answers) ready s
  begun-judged answers w ready s r unused =
      begun-reads answers w ready s _ r refl
      ∙ ap (λ link. after_disable k answers s (read_link k (request k answers) (λ _. disable_kind) ready s link)) (unused_is _ unused)
      ∙ after_disable-unused answers ready s

  pub after_disable-faulted : (answers : Answers) (w : World R) (s : ℕ) (link : LinkUse) → read_link k (request k answers) (λ _. disable_kind) w s link ≡ record { world = faulted k w s; requests = None; came = Got-fault }
      → after_disable k answers s (read_link k (request k answers) (λ _. disable_kind) w s link) ≡ judged k answers (request k answers) (faulted k w s) s
  unfolding after_disable ran_after disable_came
  after_disable-faulted answers w s link is = ap (λ (read : Read R). after_disable k answers s read) is

  pub judged-off : (answers : Answers) (w : World R) (s : ℕ) → is_disabled (common_at k w s) ≡ true → judged k answers (request k answers) w s ≡ after_turn k answers (changed k (notified k w s) s disabled) (Ended Disabled)
  unfolding judged after_turn
  judged-off answers w s is = rw is refl

  pub judged-on : (answers : Answers) (w : World R) (s : ℕ) → is_disabled (common_at k w s) ≡ false → judged k answers (request k answers) w s ≡ processed (body k answers (request k answers) w s)
  unfolding judged
  judged-on answers w s is = rw is refl

  pub asked_ran-later : (answers : Answers) (w : World R) (s t : ℕ) → is_put_down (common_at k w s).by_put (common_at k w t) ≡ true → asked_ran k answers w s t ≡ after_turn k answers (changed k w t put_down) (Ended Reprocess)
  unfolding asked_ran after_turn
  asked_ran-later answers w s t is = rw is refl

  pub asked_ran-now : (answers : Answers) (w : World R) (s t : ℕ) → is_put_down (common_at k w s).by_put (common_at k w t) ≡ false
      → asked_ran k answers w s t ≡ ran k answers (passed_on k (changed k w t (put_mark_passed (common_at k w s).by_put)) s t) t
  unfolding asked_ran
  asked_ran-now answers w s t is = rw is refl

  -- A record whose device answered later is idle while its body continues.
  pub resumed-idle : (w : World R) (s : ℕ) (x : Finished) → let back = changed k w s resumed in (common_at k (put back s (k.finished (at k back s) x)) s).active ≡ false
  resumed-idle w s x =
      let back = changed k w s resumed in
      ap (λ (r : R). (k.common r).active) (at-put_same k back s _) ∙ ap (λ (c : Common). c.active) (lawful.finished_common (at k back s) x) ∙ ap (λ (c : Common). c.active) (common_at-changed k lawful w s resumed)
