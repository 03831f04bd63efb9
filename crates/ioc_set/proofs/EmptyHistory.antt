-- A set whose history is cleared.
use Rattle.std.proofs.Common.{◌≡◌, List, [], refl, sym, ap, subst, ◌∙◌}
use Rattle.ioc_ledger.specs.declared.tally.Tally.{Tally}
use Rattle.ioc_record.specs.RecordRules.{RecordRules}
use Rattle.ioc_set_records.specs.Contents.{Records, Contents, AreLike, RecordsAreLikeTheirBase, record_at}
use Rattle.ioc_events.specs.declared.event.EventEntry.{EventEntry}
use Rattle.ioc_set.specs.Puts.{Puts, no_puts, AreNone, HasBegun, begun_with}
use Rattle.ioc_set.specs.SetState.{folded}
use Rattle.ioc_set.specs.Doing.{held_by}
use Rattle.ioc_set.specs.Linking.{with_empty_history}

-- No put with notification is live or waits, and none was or did before the history.
abbrev pub WereNone : Puts → Type 0
WereNone p = AreNone p × ((p.base_live ≡ []) × (p.base_waiting ≡ []))

-- A history has begun.
pub begun_now : (p q : Puts) → q ≡ begun_with p → HasBegun q
begun_now p q is = (
  ap (λ (x : Puts). x.base_live) is ∙ sym (ap (λ (x : Puts). x.live) is),
  ap (λ (x : Puts). x.base_waiting) is ∙ sym (ap (λ (x : Puts). x.waiting) is),
)

pub were_none : (p : Puts) → p ≡ no_puts → WereNone p
were_none p is = (
  (ap (λ (x : Puts). x.live) is, ap (λ (x : Puts). x.waiting) is),
  (ap (λ (x : Puts). x.base_live) is, ap (λ (x : Puts). x.base_waiting) is),
)

module _ {R D : Type 0} where
  -- A set on which none is live and whose history is cleared.
  pub empty_history_without_puts : (c : Contents R D) (p : Puts) (b t : Tally) (entries : List EventEntry) → WereNone p → c.base ≡ c.records → b ≡ t → entries ≡ [] → held_by c p b t entries ≡ with_empty_history c.records c.devices [] [] t
  empty_history_without_puts c p b t entries none base same forgotten = λ i. record {
    records = c.records;
    devices = c.devices;
    live = none.0.0 i;
    waiting = none.0.1 i;
    tally = t;
    base = record { records = base i; live = none.1.0 i; waiting = none.1.1 i; tally = same i };
    history = forgotten i;
  }

  pub empty_history : (c : Contents R D) (p : Puts) (b t : Tally) (entries : List EventEntry) → HasBegun p → c.base ≡ c.records → b ≡ t → entries ≡ [] → held_by c p b t entries ≡ with_empty_history c.records c.devices p.live p.waiting t
  empty_history c p b t entries begun base same forgotten = λ i. record {
    records = c.records;
    devices = c.devices;
    live = p.live;
    waiting = p.waiting;
    tally = t;
    base = record { records = base i; live = begun.0 i; waiting = begun.1 i; tally = same i };
    history = forgotten i;
  }

  pub begun_folded : (before after : Contents R D) (p q : Puts) (b b' t : Tally) (entries entries' : List EventEntry) → after ≡ record before { base = before.records } → q ≡ begun_with p → b' ≡ t → entries' ≡ []
      → held_by after q b' t entries' ≡ folded (held_by before p b t entries)
  begun_folded before after p q b b' t entries entries' is puts same forgotten = λ i. record {
    records = (is i).records;
    devices = (is i).devices;
    live = (puts i).live;
    waiting = (puts i).waiting;
    tally = t;
    base = record { records = (is i).base; live = (puts i).base_live; waiting = (puts i).base_waiting; tally = same i };
    history = forgotten i;
  }

  -- A record that equals its base is like it.
  pub own_base : (k : RecordRules R) (c : Contents R D) → c.base ≡ c.records → RecordsAreLikeTheirBase k c
  own_base k c base q there = subst (λ (m : Records R). AreLike k (record_at k m q) (record_at k c.records q)) (sym base) (record { same_type = refl; same_links = refl })
