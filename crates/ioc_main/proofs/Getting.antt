-- The text of an existing field is shown.
use Rattle.std.proofs.Common.{◌≡◌, ℕ, List, [], ◌∷◌, ◌++◌, IsSome, refl, sym, ap, ◌∙◌, append_assoc, append-nil}
use Rattle.ioc_fields.specs.declared.field_no.FieldNo.{FieldNo}
use Rattle.ioc_fields.specs.Table.{row_of}
use Rattle.ioc_record.specs.RecordRules.{RecordRules}
use Rattle.ioc_record.specs.Values.{text_of}
use Rattle.std.specs.Prelude.{Ok}
use Rattle.ioc_store.specs.World.{World, Has, at}
use Rattle.ioc_main.specs.Coming.{Stands}
use Rattle.ioc_events.specs.Step.{shown}

pub shown_there : {R : Type 0} (k : RecordRules R) (w : World R) (n : ℕ) (field : FieldNo)
    → Has w n → IsSome (row_of (k.record_type (at k w n)) field) → shown k w n field ≡ Ok (text_of k (at k w n) field)
unfolding shown
shown_there k w n field has is = rw (has, is) refl

-- A reply without further text.
pub said_shortly : (reply more said : List ℕ) → reply ≡ said → more ≡ [] → reply ++ more ≡ said
said_shortly reply more said e none = rw (none, e) (append-nil said)

-- The replies that were pending are still the beginning.
pub stands_before : (before now since : List ℕ) → now ≡ before ++ since → Stands before now
stands_before before now since e = (since, e)

pub stands_alone : (before now : List ℕ) → now ≡ before → Stands before now
stands_alone before now e = ([], e ∙ sym (append-nil before))

-- What a reply says, behind the replies that were pending.
pub ruleset replies_behind = (said_shortly, stands_before, stands_alone)

-- A sign, a text and a line feed follow the pending replies.
pub shown_behind : (old signed more last sign text : List ℕ) → signed ≡ old ++ sign → more ≡ signed ++ text → last ≡ more ++ 10 ∷ [] → last ≡ old ++ (sign ++ text) ++ 10 ∷ []
shown_behind old signed more last sign text e f g =
    g ∙ ap (λ l. l ++ 10 ∷ []) (f ∙ ap (λ l. l ++ text) e ∙ append_assoc old sign text)
