-- Desks that see more of the list, and sets that are seen meanwhile.
use Rattle.std.proofs.Common.{◌≡◌, ℕ, List, ◌++◌, [], refl, sym, ap, ◌∙◌, subst, append-nil, append_assoc}
use Rattle.ioc_record.specs.RecordRules.{RecordRules}
use Rattle.ioc_store.specs.World.{World}
use Rattle.ioc_journal.specs.declared.entry.Note.{Note}
use Rattle.ioc_journal.specs.Account.{DeskView, HasSeenMore, calls, calls_by}
use Rattle.ioc_journal.specs.Line.{Begins}
use Rattle.ioc_engine_core.specs.Seen.{IsPartSeen}

pub begins_on : (a b c : List Note) → Begins a b → Begins b c → Begins a c
begins_on a b c x y = (x.0 ++ y.0, y.1 ∙ ap (λ (l : List Note). l ++ y.0) x.1 ∙ append_assoc a x.0 y.0)

-- A desk that has seen nothing more.
pub no_more : (d : DeskView) → HasSeenMore d d
no_more d = record { number = refl; next = refl; begins = ([], sym (append-nil d.seen)); own = refl }

pub more_on : (a b c : DeskView) → HasSeenMore a b → HasSeenMore b c → HasSeenMore a c
more_on a b c x y = record {
  number = y.number ∙ x.number;
  next = y.next ∙ x.next;
  begins = begins_on a.seen b.seen c.seen x.begins y.begins;
  own = subst (λ (n : ℕ). calls_by n (calls c.seen) ≡ calls_by n (calls b.seen)) x.number y.own ∙ x.own;
}

module _ {R : Type 0} (D : Type 0) (k : RecordRules R) (base : World R) (numbers : List ℕ) where
  -- What was seen is no older than an earlier list, and known to a longer one.
  pub seen_since : (earlier before after later : List Note) → Begins earlier before → Begins after later → IsPartSeen D k base before after numbers → IsPartSeen D k base earlier later numbers
  seen_since earlier before after later first last seen = record {
    held = seen.held;
    sound = seen.sound;
    all = seen.all;
    legal = seen.legal;
    no_older = begins_on earlier before seen.held.seen first seen.no_older;
    known = begins_on seen.held.seen after later seen.known last;
  }
