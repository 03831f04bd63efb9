-- An event on a set whose list of watched records is taken out for it, and given back afterwards.
use Rattle.std.proofs.Common.{◌≡◌, ◌≤◌, ◌⊎◌, inl, inr, ℕ, List, [], ◌∷◌, length, sym, ap, subst, ◌∙◌, arith}
use Rattle.ioc_device.specs.declared.Ask.{Ask}
use Rattle.ioc_device.specs.declared.Answer.{Answer}
use Rattle.ioc_record.specs.RecordRules.{RecordRules}
use Rattle.ioc_set_records.specs.Contents.{Records}
use Rattle.ioc_store.specs.World.{World}
use Rattle.ioc_events.specs.declared.event.Event.{Event}
use Rattle.ioc_events.specs.declared.reply.Reply.{Reply}
use Rattle.ioc_journal.specs.Account.{DeskView}
use Rattle.ioc_watched.specs.Watched.{WatchedRecord, AreFresh, StayWatched}
use Rattle.ioc_set.specs.SetState.{SetState, held_after}
use Rattle.ioc_set.specs.Sound.{TellsOf}
use Rattle.ioc_set.specs.Doing.{Does, IsShort, with_place}
use Rattle.ioc_journaled_set.specs.Holding.{HeldView, held_view, kept_at_most, watching, Serves}
use Rattle.ioc_journaled_set.proofs.SameSets.{same_set}

-- If no record of a set is watched, the set keeps as many events as the limit says.
abbrev pub does_unwatched : {R D : Type 0} (k : RecordRules R) (gives : D → Ask → ℕ → Answer → D → Type 0) (limit : ℕ) (ws : List WatchedRecord) {h after : SetState R D} {moment : ℕ} {event : Event} {reply : Reply} {come_to : World R} → ws ≡ []
    → Does k gives limit h moment event reply after come_to → Does k gives (kept_at_most limit ws) h moment event reply after come_to
does_unwatched k gives limit ws {h} {after} none does = record {
  entry = does.entry;
  moment = does.moment;
  event = does.event;
  answer = does.answer;
  tells = subst (λ (l : List WatchedRecord). TellsOf k (with_place (kept_at_most limit l) h) does.entry) (sym none) does.tells;
  after = subst (λ (l : List WatchedRecord). after ≡ held_after k (with_place (kept_at_most limit l) h) does.entry after.devices) (sym none) does.after;
  work = does.work;
  left = does.left;
}

-- A set that keeps no event from before an event is short for any limit.
short_for : {R D : Type 0} (limit : ℕ) (ws : List WatchedRecord) (h : SetState R D) → IsShort (kept_at_most limit ws) h → IsShort limit h
short_for limit [] h short = short
short_for limit (w ∷ ws) h (inl few) = inr (omega (arith, few))
short_for limit (w ∷ ws) h (inr few) = inr few

module _ {R D : Type 0} (k : RecordRules R) (base : World R) where
  -- If an event leaves the base of its watched records as they were before, what was fresh of them
  -- is fresh of the base. If none is watched, nothing is.
  fresh_of : (limit : ℕ) (ws : List WatchedRecord) (rs : Records R) (after : SetState R D) → AreFresh k base rs ws → IsShort (kept_at_most limit ws) after → (IsShort 0 after → after.base.records ≡ rs) → AreFresh k base after.base.records ws
  fresh_of limit [] rs after fresh short begins = λ i x below. absurd (omega (arith, below))
  fresh_of limit (w ∷ ws) rs after fresh short begins = subst (λ (now : Records R). AreFresh k base now (w ∷ ws)) (sym (begins short)) fresh

module _ {R D : Type 0} (k : RecordRules R) (base : World R) (old took : HeldView R D) (list : List WatchedRecord) (out : list ≡ old.watched) (rest : took ≡ held_view old.set old.seen) where
  -- The list is given back after an event.
  pub served_on : (gives : D → Ask → ℕ → Answer → D → Type 0) (limit : ℕ) (desk desk_then : DeskView) (moment : ℕ) (event : Event) (reply : Reply) (done then : HeldView R D) (come_to : World R)
      → Serves k gives base (kept_at_most limit old.watched) took desk moment event reply done desk_then come_to → then.set ≡ done.set → then.seen ≡ done.seen → StayWatched list then.watched
      → Serves k gives base limit old desk moment event reply then desk_then come_to
  served_on gives limit desk desk_then moment event reply done then come_to served set seen stay =
      let from_old = subst (λ (v : HeldView R D). Serves k gives base (kept_at_most limit old.watched) v desk moment event reply done desk_then come_to) rest served in
      let kept : Serves k gives base limit old desk moment event reply (watching done.set done.seen then.watched) desk_then come_to = record {
        is_call = from_old.is_call;
        does = from_old.does;
        short = short_for limit old.watched done.set from_old.short;
        call = from_old.call;
        seen = from_old.seen;
        watched = subst (λ (ws : List WatchedRecord). StayWatched ws then.watched) out stay;
      } in
      subst (λ (v : HeldView R D). Serves k gives base limit old desk moment event reply v desk_then come_to) (same_set then done (set, seen)) kept

  -- What was fresh before an event is fresh of the base that it leaves.
  pub fresh_before : (after : HeldView R D) → AreFresh k base old.set.records old.watched → (IsShort 0 after.set → after.set.base.records ≡ took.set.records) → (limit : ℕ) → IsShort (kept_at_most limit old.watched) after.set → AreFresh k base after.set.base.records list
  fresh_before after fresh begins limit short =
      subst (λ (ws : List WatchedRecord). AreFresh k base after.set.base.records ws) (sym out)
      (fresh_of k base limit old.watched old.set.records after.set fresh short (λ few. begins few ∙ ap (λ (v : HeldView R D). v.set.records) rest))

  -- A refused event leaves the set as it was.
  pub refused_so : (same then : HeldView R D) → same ≡ took → then ≡ watching same.set same.seen list → then ≡ old
  refused_so same then is given = given ∙ ap (λ (v : HeldView R D). watching v.set v.seen list) (is ∙ rest) ∙ ap (watching old.set old.seen) out

  pub fresh_still : (same : HeldView R D) → same ≡ took → AreFresh k base old.set.records old.watched → AreFresh k base same.set.records list
  fresh_still same is fresh =
      subst (λ (v : HeldView R D). AreFresh k base v.set.records list) (sym (is ∙ rest)) (subst (λ (ws : List WatchedRecord). AreFresh k base old.set.records ws) (sym out) fresh)
