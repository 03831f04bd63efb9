-- There is a place for one more put with notification on a held set if there is one in the table of
-- all.
use Rattle.std.proofs.Common.{◌≡◌, ◌↔◌, ℕ, zero, suc, ◌<◌, Bool, true, false, eqb, ◌||◌, List, [], ◌∷◌, length, refl, sym, ◌∙◌, arith}
use Rattle.std.specs.Prelude.{Contains, IsTrue, map}
use Rattle.std.proofs.lemmas.Bool.{eq-eqb, eqb-true}
use Rattle.std.proofs.lemmas.List.{length-map}
use Rattle.ioc_notify.specs.declared.live_numbers.Live.{Live}
use Rattle.ioc_notify.specs.Living.{is_live}
use Rattle.ioc_notify.specs.Counts.{IsTable, holders_in, lines_of}
use Rattle.ioc_record.specs.RecordRules.{RecordRules}
use Rattle.ioc_store.specs.World.{World, begun_at, has_place}
use Rattle.ioc_events.specs.Holding.{IsCounted}
use Rattle.ioc_journal.specs.declared.entry.Note.{Note}
use Rattle.ioc_journal.specs.Line.{Continues}
use Rattle.ioc_journal.specs.Legal.{IsLegal, IsSound, map_of}
use Rattle.ioc_journal.specs.Covering.{Holds}
use Rattle.ioc_journal.specs.Laws.{LiveLasts, PlaceForOneMore, StaysSound}
use Rattle.ioc_journaled_set.specs.Puts.{AreCounted}
use Rattle.ioc_journaled_set.proofs.Counted.{counted_on}
use Rattle.ioc_journaled_set.proofs.Telling.{same_live}
use Rattle.ioc_journal.specs.Account.{puts_key}

abbrev numbers : List Live → List ℕ
numbers ls = map (λ (l : Live). l.number) ls

later : (x : ℕ) (xs : List ℕ) (n : ℕ) → Contains xs n → Contains (x ∷ xs) n
later x xs n (i, lt, is) = (suc i, omega (arith, lt), is)

number_there : (n : ℕ) (ls : List Live) → is_live n ls ≡ true → Contains (numbers ls) n
number_there n [] is = cc
number_there n (l ∷ ls) is = elim (eqb l.number n) as (λ b. eqb l.number n ≡ b → (b || is_live n ls) ≡ true → Contains (l.number ∷ numbers ls) n) [
  | true ↦ λ e _. (0, omega arith, eqb-true l.number n e)
  | false ↦ λ _ rest. later l.number (numbers ls) n (number_there n ls rest)
] refl is

either : (a b : Bool) → b ≡ true → (a || b) ≡ true
either true b is = refl
either false b is = is

there_live : (n : ℕ) (ls : List Live) → Contains (numbers ls) n → is_live n ls ≡ true
there_live n [] (i, lt, is) = absurd (omega (arith, lt))
there_live n (l ∷ ls) (zero, lt, is) = rw (eq-eqb l.number n is) refl
there_live n (l ∷ ls) (suc i, lt, is) = either (eqb l.number n) (is_live n ls) (there_live n ls (i, omega (arith, lt), is))

module _ {R : Type 0} (k : RecordRules R) where
  pub place_alike : PlaceForOneMore k → LiveLasts k → StaysSound k → ((ls : List Live) (n : ℕ) → IsTrue (is_live n ls) ↔ (0 < lines_of n ls))
      → ((ls : List Live) (n : ℕ) → IsTable ls → IsTrue (is_live n ls) ↔ (0 < holders_in n ls))
      → (base v : World R) (seen log : List Note) (lines : List Live) (number moment : ℕ) → IsTable lines → AreCounted k base lines seen → IsSound k base → Continues seen puts_key log → IsLegal k base log
      → Holds k (map_of k base log) v → IsCounted k v → length lines < 256 → is_live number lines ≡ false
      → has_place (begun_at moment v) number ≡ has_place (begun_at moment (map_of k base log)) number
  place_alike one_more lasts stays by_lines by_table base v seen log lines number moment table counted sound go legal holds own few free =
      let m = map_of k base log in
      let sound_then = (stays base log sound).0 legal in
      let at_log = counted_on k lasts base seen log lines counted go legal in
      let same = λ (n : ℕ). same_live k by_lines lines m n table by_table sound_then.counted (at_log n) in
      let size = length-map lines (λ (l : Live). l.number) in
      let places = one_more m (numbers lines) number moment sound_then (λ n is. number_there n lines (same n ∙ is)) (omega (arith, few, size)) (λ there. not_both (there_live number lines there) free) in
      places.1 v holds own ∙ sym places.0
    where
      not_both : is_live number lines ≡ true → is_live number lines ≡ false → ⊥
      not_both a b = cc
