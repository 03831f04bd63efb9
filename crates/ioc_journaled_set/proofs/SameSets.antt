-- Calls on several journaled sets, whichever of their records are watched before and afterwards.
use Rattle.std.proofs.Common.{◌≡◌, ℕ, ◌<◌, List, length, get_or, sym, ap, ◌∙◌, inl, inr, ⊎_elim, subst, arith}
use Rattle.std.proofs.Math.ListN.{length-map}
use Rattle.std.specs.Prelude.{Result}
use Rattle.ioc_values.specs.declared.error.IocError.{IocError}
use Rattle.ioc_fields.specs.declared.field_no.FieldNo.{FieldNo}
use Rattle.ioc_dbcommon.specs.declared.link_field.LinkField.{LinkField}
use Rattle.ioc_record.specs.RecordRules.{RecordRules}
use Rattle.ioc_store.specs.World.{World}
use Rattle.ioc_journal.specs.Account.{DeskView}
use Rattle.ioc_watched.specs.Watched.{WatchedRecord}
use Rattle.ioc_journaled_set.specs.Holding.{HeldView, held_view, watching}
use Rattle.ioc_journaled_set.specs.Watching.{IsSameSet}
use Rattle.ioc_set.specs.SetState.{SetState}
use Rattle.ioc_journaled_set.specs.GiveUpLaws.{GivesUp}
use Rattle.ioc_journaled_set.specs.GivingUp.{AreSame, AreSameSets, GaveUpOn, sets_of}
use Rattle.ioc_journaled_set.specs.Puts.{PutsView}
use Rattle.ioc_journaled_set.proofs.Replaced.{maps_same}
use Rattle.ioc_journaled_set.specs.Changing.{FellApart, WasLed, WasRefused, Relinks}

module _ {R D : Type 0} where
  -- A set with other watched records.
  abbrev pub with_watched : HeldView R D → List WatchedRecord → HeldView R D
  with_watched v ws = watching v.set v.seen ws

  rewatched : (a b : HeldView R D) (ws : List WatchedRecord) → a ≡ b → with_watched a ws ≡ with_watched b ws
  rewatched a b ws e = ap (λ (v : HeldView R D). with_watched v ws) e

  pub same_set : (a b : HeldView R D) → IsSameSet a b → with_watched b a.watched ≡ a
  same_set a b e = λ i. watching (sym e.0 i) (sym e.1 i) a.watched

module _ {R D : Type 0} (k : RecordRules R) (base : World R) (f s sp : HeldView R D) (desk : DeskView) (moment number : ℕ) (field : FieldNo) (link : LinkField)
    (reply : Result (Unit {0}) IocError) (moved : ℕ) (a b c : HeldView R D) (desk_then : DeskView) (come_to : World R) (u v w : List WatchedRecord) where
  fell : FellApart k base (held_view f.set f.seen) (held_view s.set s.seen) sp desk moment number field link reply moved a b c desk_then come_to
      → FellApart k base f s sp desk moment number field link reply moved (with_watched a u) (with_watched b v) (with_watched c w) desk_then come_to
  fell x =
      let p = x.parts in
      ⊎_elim
      (λ here. record {
        stay = with_watched x.stay u;
        rest = with_watched x.rest w;
        parts = record { falls = p.falls; sent = p.sent; call = p.call; seen = p.seen; seen_of_rest = p.seen_of_rest };
        places = record { places = inl (here.0, rewatched a x.stay u here.1, rewatched c x.rest w here.2); count = x.places.count };
        beside = x.beside;
        done = x.done;
      })
      (λ here. record {
        stay = with_watched x.stay w;
        rest = with_watched x.rest u;
        parts = record { falls = p.falls; sent = p.sent; call = p.call; seen = p.seen; seen_of_rest = p.seen_of_rest };
        places = record { places = inr (here.0, rewatched a x.rest u here.1, rewatched c x.stay w here.2); count = x.places.count };
        beside = x.beside;
        done = x.done;
      })
      x.places.places

  led : WasLed k base (held_view f.set f.seen) (held_view s.set s.seen) sp desk moment number field link reply moved a b c desk_then come_to
      → WasLed k base f s sp desk moment number field link reply moved (with_watched a u) (with_watched b v) (with_watched c w) desk_then come_to
  led x =
      let l = x.leads in
      ⊎_elim
      (λ here. record {
        joined = with_watched x.joined u;
        emptied = with_watched x.emptied v;
        rest = with_watched x.rest w;
        leads = record { leads = l.leads; call = l.call; seen = l.seen; seen_of_rest = l.seen_of_rest };
        places = record { places = inl (here.0, here.1, rewatched a x.joined u here.2, rewatched b x.emptied v here.3, rewatched c x.rest w here.4); count = x.places.count };
        done = x.done;
      })
      (λ here. record {
        joined = with_watched x.joined v;
        emptied = with_watched x.emptied w;
        rest = with_watched x.rest u;
        leads = record { leads = l.leads; call = l.call; seen = l.seen; seen_of_rest = l.seen_of_rest };
        places = record { places = inr (here.0, rewatched a x.rest u here.1, rewatched b x.joined v here.2, rewatched c x.emptied w here.3); count = x.places.count };
        done = x.done;
      })
      x.places.places

  refused : WasRefused k base (held_view f.set f.seen) (held_view s.set s.seen) sp desk moment number field link reply moved a b c desk_then come_to
      → WasRefused k base f s sp desk moment number field link reply moved (with_watched a u) (with_watched b v) (with_watched c w) desk_then come_to
  refused r = record {
    refuses = record { forbidden = r.refuses.forbidden; set = r.refuses.set; call = r.refuses.call; seen = r.refuses.seen };
    beside = r.beside;
    none = r.none;
    unmoved = r.unmoved;
    refused = r.refused;
  }

  pub relinks_again : Relinks k base (held_view f.set f.seen) (held_view s.set s.seen) sp desk moment number field link reply moved a b c desk_then come_to
      → Relinks k base f s sp desk moment number field link reply moved (with_watched a u) (with_watched b v) (with_watched c w) desk_then come_to
  relinks_again (inl x) = inl (fell x)
  relinks_again (inr (inl x)) = inr (inl (led x))
  relinks_again (inr (inr x)) = inr (inr (refused x))

-- Lists of sets.

module _ {R D : Type 0} where
  abbrev set_of : HeldView R D → SetState R D
  set_of h = h.set

  -- The sets of the same journaled sets.
  pub sets_alike : (before after : List (HeldView R D)) → AreSame before after → sets_of after ≡ sets_of before
  sets_alike before after same =
      maps_same set_of set_of after before same.0 (λ i d below. (same.1 i d d (let long = same.0 in omega (arith, below, long))).0)

  pub same_sets_again : (old one two then : List (HeldView R D)) → AreSame old one → AreSame two then → length two ≡ length one → AreSameSets (sets_of one) two → AreSameSets (sets_of old) then
  same_sets_again old one two then before after long same i d e below =
      let many = length-map one set_of in
      let within : i < length (sets_of one) = let alike = ap length (sets_alike old one before) in omega (arith, below, alike) in
      let there : i < length two = omega (arith, within, many, long) in
      (after.1 i e e there).0 ∙ same i d e within ∙ ap (λ (l : List (SetState R D)). get_or l i d) (sets_alike old one before)

  module _ {most : ℕ} (k : RecordRules R) (base : World R) (moment number : ℕ) (desk : DeskView) (old one two then : List (HeldView R D)) (before : AreSame old one) (after : AreSame two then) (long : length two ≡ length one) where
    pub gave_up_again : (puts : PutsView) (desk_then : DeskView) (puts_then : PutsView) → GaveUpOn k base most moment number desk one puts desk_then two puts_then → GaveUpOn k base most moment number desk old puts desk_then then puts_then
    gave_up_again puts desk_then puts_then gave = record {
      gives_up = λ i d e below.
          let within : i < length one = let same = before.0 in omega (arith, below, same) in
          let there : i < length two = omega (arith, within, long) in
          subst (λ (h : SetState R D). GivesUp k most moment number (get_or old i d).set h) (sym (after.1 i e e there).0)
          (subst (λ (h : SetState R D). GivesUp k most moment number h (get_or two i e).set) (before.1 i d d below).0 (gave.gives_up i d e within));
      call = gave.call;
      seen = λ i d below. let there : i < length two = let same = after.0 in omega (arith, below, same) in (after.1 i d d there).1 ∙ gave.seen i d there;
      puts_seen = gave.puts_seen;
      last = gave.last;
      taken = gave.taken;
      nobody = gave.nobody;
      others = gave.others;
      none_ended = gave.none_ended;
    }
