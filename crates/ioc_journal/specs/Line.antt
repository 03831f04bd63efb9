-- One list of notes, the passes that have each seen a beginning of it, and the keys that these own.
use Rattle.ioc_events.specs.declared.event.Call.TheVariants as call
use Rattle.std.specs.Prelude.{◌≡◌, ◌⊎◌, ℕ, List, [], ◌∷◌, ◌++◌, length, true, false, if◌then◌else◌, nat_le}
use mathlib.Core.Option.{some}
use lib.ListN.{get_elem?}
use Rattle.atomic_table.specs.Seated.{TableId}
use Rattle.ioc_events.specs.declared.event.Event.TheVariants.{Process}
use Rattle.ioc_events.specs.declared.reply.Reply.TheVariants.{Plain}
use Rattle.ioc_journal.specs.declared.entry.JournalEntry.{JournalEntry}
use Rattle.ioc_journal.specs.declared.entry.Note.{Note}
use Rattle.ioc_journal.specs.declared.cell.View.{View}
use Rattle.ioc_journal.specs.Key.{Key, Has}

-- The name that no cell has.
abbrev pub no_table : TableId
no_table = record { words = 0; slots = 0; views_name = 0; atom = 0; block = 0; offset = 0; slot_names = [] }

abbrev pub no_note : Note
no_note = record { entry = record { desk = 0; call = 0; entry = record { moment = 0; call = call.Event (Process 0) Plain; answers = [] } }; keys = [] }

-- Holds if no note has this key.
abbrev pub Spares : Key → List Note → Type 0
Spares k [] = Unit {0}
Spares k (n ∷ ns) = (Has k n.keys → ⊥) × Spares k ns

abbrev pub SparesAll : List Key → List Note → Type 0
SparesAll ks ns = (k : Key) → Has k ks → Spares k ns

-- Holds if the list begins with `seen` and continues with notes that have none of the keys.
abbrev pub Continues : List Note → List Key → List Note → Type 0
Continues seen ks log = (rest : List Note) × (log ≡ seen ++ rest) × SparesAll ks rest

abbrev pub Begins : List Note → List Note → Type 0
Begins seen log = (rest : List Note) × (log ≡ seen ++ rest)

-- The view of the keeper's pass, which knows the whole list and all keys that were created.
abbrev pub keeper : List Note → List Key → View
keeper log born = record { keeps = true; seen = log; born = born; owns = []; mark = []; asks = [] }

-- The view of a pass that has seen a beginning of the list and owns keys.
abbrev pub holder : List Note → List Key → View
holder seen ks = record { keeps = false; seen = seen; born = []; owns = ks; mark = []; asks = [] }

abbrev pub nobody : View
nobody = holder [] []

abbrev pub copied : View → View
copied v = holder v.seen []

abbrev pub claiming : List Key → View → View
claiming ks v = record { keeps = v.keeps; seen = v.seen; born = ks ++ v.born; owns = v.owns; mark = v.mark; asks = v.asks }

abbrev pub claimed : List Key → View → View
claimed ks v = holder v.seen ks

abbrev pub owning : List Key → View → View
owning ks v = record { keeps = v.keeps; seen = v.seen; born = v.born; owns = ks; mark = v.mark; asks = v.asks }

abbrev pub given : View → View
given v = holder v.seen v.owns

abbrev pub noted : JournalEntry → List Key → Note
noted e ks = record { entry = e; keys = ks }

-- The view `v` once a pass with the view `w` was joined to it.
abbrev pub shown : View → View → View
shown v w = record { keeps = v.keeps; seen = v.seen; born = v.born; owns = v.owns; mark = w.seen; asks = w.owns }

abbrev pub took : View → View
took v = record { keeps = v.keeps; seen = v.seen; born = v.born; owns = v.owns ++ v.asks; mark = []; asks = [] }

abbrev pub longer : List Note → List Note → List Note
longer xs ys = if nat_le (length xs) (length ys) then ys else xs

abbrev pub learnt : View → View
learnt v = record { keeps = v.keeps; seen = longer v.seen v.mark; born = v.born; owns = v.owns; mark = []; asks = [] }

abbrev pub added : Note → View → View
added n v = record { keeps = v.keeps; seen = v.seen ++ n ∷ []; born = v.born; owns = v.owns; mark = v.mark; asks = v.asks }

-- The keeper's pass takes over the keys of the pass joined to it: the list continues from what that
-- pass has seen, without its keys.
abbrev pub TakenIn : View → List ℕ → List ℕ → View → Type 0
TakenIn v before after w = (w ≡ took v) × Continues v.mark v.asks v.seen × ((k : Key) → Has k v.asks → Has k v.born) × ((k : Key) → Has k v.owns → Has k v.asks → ⊥)

-- A pass moves on to the longer of two lists that were seen, which begins with the other.
abbrev pub Learnt : View → List ℕ → List ℕ → View → Type 0
Learnt v before after w = (w ≡ learnt v) × Continues v.seen v.owns (longer v.seen v.mark) × Begins v.mark (longer v.seen v.mark)

abbrev pub Appended : Note → View → List ℕ → List ℕ → View → Type 0
Appended n v before after w = w ≡ added n v

-- Holds of a view that fits the list by the rule of the cell.
abbrev pub Fits : List Note → ℕ → ℕ → View → Type 0
Fits log seat by v =
    (v.keeps ≡ true → (by ≡ seat) × (v.seen ≡ log))
    × Continues v.seen v.owns log
    × Continues v.mark v.asks log
    × ((k : Key) → Has k v.owns → Has k v.asks → ⊥)

abbrev pub Holds : View → Key → Type 0
Holds v k = Has k v.owns ⊎ Has k v.asks

-- The rule of the cell. There is one list, each list that was seen is a beginning of it, and what
-- follows has none of the keys of that pass. No two passes own the same key.
pub record IsOneList (words : List ℕ) (views : List View) : Type 0 where
  pub seat : ℕ
  pub log : List Note
  pub fits : (by : ℕ) (v : View) → get_elem? views by ≡ some v → Fits log seat by v
  pub apart : (i j : ℕ) (v w : View) (k : Key) → get_elem? views i ≡ some v → get_elem? views j ≡ some w → Holds v k → Holds w k → i ≡ j
  pub born : (i j : ℕ) (v w : View) (k : Key) → get_elem? views i ≡ some v → get_elem? views j ≡ some w → v.keeps ≡ true → Holds w k → Has k v.born
