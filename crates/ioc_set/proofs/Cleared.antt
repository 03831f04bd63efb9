-- A set whose history was just cleared, as a link change begins.
use Rattle.std.proofs.Common.{◌≡◌, List, sym, ap, ◌∙◌}
use Rattle.ioc_ledger.specs.declared.tally.Tally.{Tally}
use Rattle.ioc_record.specs.RecordRules.{RecordRules}
use Rattle.ioc_set_records.specs.Contents.{Contents}
use Rattle.ioc_events.specs.declared.event.EventEntry.{EventEntry}
use Rattle.ioc_set.specs.Puts.{Puts}
use Rattle.ioc_set.specs.Recounting.{AreLive}
use Rattle.ioc_set.specs.Awaiting.{awaited}
use Rattle.ioc_set.specs.SetState.{SetState, folded}
use Rattle.ioc_set.specs.Doing.{held_by}
use Rattle.ioc_set.specs.Linking.{AreHeld}
use Rattle.ioc_set.specs.Sound.{IsSound, CountsAddUp}
use Rattle.ioc_set.proofs.HeldRecords.{sound_held}

module _ {R D : Type 0} (k : RecordRules R) where
  -- The set is still what it was, and its records are still held with its puts with notification.
  pub record HistoryIsCleared (h : SetState R D) (c : Contents R D) (p : Puts) (t : Tally) : Type 0 where
    pub records : c.records ≡ h.records
    pub devices : c.devices ≡ h.devices
    pub live : p.live ≡ h.live
    pub waiting : p.waiting ≡ h.waiting
    pub tally : t ≡ h.tally
    pub are_live : AreLive k c.records p.waiting p.live
    pub held : AreHeld k c.records p.live p.waiting
    pub counts : CountsAddUp t (awaited k c.records)

  -- So it is after its history is cleared, and then each record equals its base.
  pub folded_is_cleared : (h : SetState R D) (c : Contents R D) (p : Puts) (b t : Tally) (entries : List EventEntry) → held_by c p b t entries ≡ folded h
      → IsSound k (held_by c p b t entries) → AreLive k c.records p.waiting p.live → HistoryIsCleared h c p t
  folded_is_cleared h c p b t entries is sound live = record {
    records = ap (λ (x : SetState R D). x.records) is;
    devices = ap (λ (x : SetState R D). x.devices) is;
    live = ap (λ (x : SetState R D). x.live) is;
    waiting = ap (λ (x : SetState R D). x.waiting) is;
    tally = ap (λ (x : SetState R D). x.tally) is;
    are_live = live;
    held = sound_held k (held_by c p b t entries) sound;
    counts = sound.counts;
  }

  pub folded_base : (h : SetState R D) (c : Contents R D) (p : Puts) (b t : Tally) (entries : List EventEntry) → held_by c p b t entries ≡ folded h → c.base ≡ c.records
  folded_base h c p b t entries is = ap (λ (x : SetState R D). x.base.records) is ∙ sym (ap (λ (x : SetState R D). x.records) is)
