-- What the table of the puts with notification knows of a longer list, and after an event that was
-- counted.
use Rattle.std.proofs.Common.{◌≡◌, ℕ, ◌+◌, ◌<◌, ◌≤◌, ◌^◌, List, [], ◌∷◌, ◌++◌, sym, ◌∙◌, subst, inl, refl, arith}
use Rattle.std.specs.Prelude.{All, Contains}
use Rattle.ioc_notify.specs.declared.live_numbers.Live.{Live}
use Rattle.ioc_notify.specs.Living.{holders_of}
use Rattle.ioc_notify.specs.Counts.{IsTable, holders_in}
use Rattle.ioc_record.specs.RecordRules.{RecordRules}
use Rattle.ioc_store.specs.World.{World}
use Rattle.ioc_journal.specs.declared.entry.Note.{Note}
use Rattle.ioc_journal.specs.Line.{Continues}
use Rattle.ioc_journal.specs.Legal.{IsLegal, map_of, notifications_key}
use Rattle.ioc_journal.specs.Laws.{LiveLasts}
use Rattle.ioc_journal.proofs.Numbers.{numbers_on}
use Rattle.ioc_journaled_set.specs.Puts.{puts_view, AreCounted, AreMoved, IsUpToDate, NoneIsAbove, AreTaken}
use Rattle.ioc_journal.specs.Account.{puts_key, PutsAreKeyed}

pub keyed_before : (xs ys : List Note) → PutsAreKeyed (xs ++ ys) → PutsAreKeyed xs
keyed_before [] ys keyed = tt
keyed_before (x ∷ xs) ys keyed = (keyed.0, keyed_before xs ys keyed.1)

module _ {R : Type 0} (k : RecordRules R) where
  -- The counts of a list that was seen are those of a list that continues from it without the key
  -- of the puts with notification.
  pub counted_on : LiveLasts k → (base : World R) (seen log : List Note) (lines : List Live) → AreCounted k base lines seen → Continues seen puts_key log → IsLegal k base log → AreCounted k base lines log
  counted_on lasts base seen log lines counted go legal n =
      counted n
      ∙ subst (λ (l : List Note). holders_of n (map_of k base seen).live ≡ holders_of n (map_of k base l).live) (sym go.1)
      (lasts base seen go.0 (go.2 notifications_key (inl refl)) (subst (λ (l : List Note). IsLegal k base l) go.1 legal) n)

  -- The table tells of all calls before the last one.
  pub up_to_date_on : LiveLasts k → (base : World R) (seen log longer : List Note) (n : Note) (lines : List Live) (taken : List ℕ) (last : ℕ) → IsTable lines → AreCounted k base lines seen → NoneIsAbove last seen → AreTaken lines taken last seen
      → Continues seen puts_key log → IsLegal k base log → longer ≡ log ++ n ∷ [] → PutsAreKeyed longer → IsUpToDate k base (puts_view lines taken last log)
  up_to_date_on lasts base seen log longer n lines taken last table counted below were go legal ends keyed =
      let same = numbers_on seen log puts_key go (inl refl) (keyed_before log (n ∷ []) (subst (λ (l : List Note). PutsAreKeyed l) ends keyed)) in
      record {
        table = table;
        counted = counted_on lasts base seen log lines counted go legal;
        taken = λ m there. let t = were m there in (t.0, (λ begun. t.1 (subst (λ (xs : List ℕ). Contains xs m) same begun)), t.2);
        below = subst (λ (xs : List ℕ). All (λ number. number ≤ last) xs) (sym same) below;
      }

  -- The event of a set is added: the counts of the set are at most those of the lines, the sums
  -- fit, and the counts afterwards are right.
  module _ (lasts : LiveLasts k) (base : World R) (seen log longer : List Note) (lines before after : List Live) (counted : AreCounted k base lines seen) (go : Continues seen puts_key log) (legal : IsLegal k base log)
      (moved : AreMoved k base log longer before after) where
    at_log : (n : ℕ) → holders_in n lines ≡ holders_of n (map_of k base log).live
    at_log = counted_on lasts base seen log lines counted go legal

    pub before_there : (n : ℕ) → holders_in n before ≤ holders_in n lines
    before_there n = let fewer = moved.fewer n in let same = at_log n in omega (arith, fewer, same)

    pub sums_fit : (n : ℕ) → holders_in n lines + holders_in n after < 2 ^ 64 + holders_in n before
    sums_fit n = let fits = moved.fits n in let same = at_log n in let by = moved.moved n in omega (arith, fits, same, by)

    pub counted_then : (then : List Live) → ((n : ℕ) → holders_in n then + holders_in n before ≡ holders_in n lines + holders_in n after) → AreCounted k base then longer
    counted_then then counts n = let same = at_log n in let by = moved.moved n in let now = counts n in omega (arith, same, by, now)
