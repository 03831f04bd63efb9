-- What is known of taken numbers and of places after an event.
use Rattle.std.proofs.Common.{◌≡◌, ◌≢◌, ◌↔◌, ◌⊎◌, ℕ, ◌+◌, ◌<◌, ◌≤◌, true, false, eqb, length, List, [], ◌∷◌, ◌++◌, Option, Some, None, refl, sym, ap, ◌∙◌, subst, inl, ⊎_elim, arith}
use Rattle.std.specs.Prelude.{Contains, IsTrue}
use Rattle.std.specs.List.{cons_option}
use Rattle.std.specs.Option.{IfSome}
use Rattle.std.proofs.lemmas.Bool.{eq-eqb, eqb-true}
use Rattle.std.proofs.lemmas.List.Elements.{Contains-append_cases, Contains-append_left, Contains-append_right}
use Rattle.ioc_notify.specs.declared.live_numbers.Live.{Live}
use Rattle.ioc_notify.specs.Living.{is_live}
use Rattle.ioc_notify.specs.Counts.{IsTable, holders_in, lines_of}
use Rattle.ioc_record.specs.RecordRules.{RecordRules}
use Rattle.ioc_store.specs.World.{World}
use Rattle.ioc_events.specs.declared.event.Call.{Call}
use Rattle.ioc_journal.specs.declared.entry.Note.{Note}
use Rattle.ioc_journal.specs.Account.{puts_key, calls, number_given, numbers_given, PutsAreKeyed}
use Rattle.ioc_journal.specs.Laws.{LiveLasts, OneMayBegin, StaysSound}
use Rattle.ioc_journal.specs.Legal.{IsLegal, IsSound, entry_of, map_of, notifications_key}
use Rattle.ioc_journal.specs.Key.{Has}
use Rattle.ioc_journal.specs.Line.{Continues}
use Rattle.ioc_journal.proofs.Basics.{one-there, not_both}
use Rattle.ioc_journal.proofs.LiveFew.{entry-live}
use Rattle.ioc_journal.proofs.Numbers.{numbers_on, numbers_then}
use Rattle.ioc_journal.proofs.Placing.{few-of}
use Rattle.ioc_journaled_set.specs.Puts.{PutsView, AreCounted, AreTaken, CanBegin}
use Rattle.ioc_journaled_set.proofs.Beside.{lines_are}
use Rattle.ioc_journaled_set.proofs.Counted.{counted_on, keyed_before}
use Rattle.ioc_journaled_set.proofs.Telling.{same_live}

same-some : {a b : ℕ} → Some a ≡ Some b → a ≡ b
same-some is = cc

-- The lines of a table are no more than the numbers that contain all those that are live.
pub lines_few : (lines : List Live) (ns : List ℕ) → IsTable lines → ((n : ℕ) → is_live n lines ≡ true → Contains ns n) → length lines ≤ length ns
lines_few lines ns table among =
    few-of (λ (l : Live). l.number) ns lines (λ n. let same = lines_are n lines in let once = table.once n in omega (arith, same, once)) (λ l there. among l.number (entry-live lines l there))

-- A number that isn't one of those taken isn't taken.
other_than : (o : Option ℕ) (taken : List ℕ) (n : ℕ) → IfSome o (λ b. Contains taken b → ⊥) → Contains taken n → o ≢ Some n
other_than None taken n own there = λ is. cc
other_than (Some b) taken n own there = λ is. own (subst (λ (m : ℕ). Contains taken m) (sym (same-some is)) there)

in_option : (o : Option ℕ) (n : ℕ) → Contains (cons_option o []) n → o ≡ Some n
in_option None n there = absurd (omega (arith, there.1))
in_option (Some b) n there = ap Some (one-there b n there)

option_in : (o : Option ℕ) (n : ℕ) → o ≡ Some n → Contains (cons_option o []) n
option_in None n is = cc
option_in (Some b) n is = (0, omega arith, same-some is)

-- An event that begins one may do so, and there is a place for it.

pub may_begin_by : (o : Option ℕ) (p : PutsView) → IfSome o (λ number. CanBegin p number) → IfSome o (λ number. Has notifications_key puts_key × (Contains (numbers_given (calls p.seen)) number → ⊥))
may_begin_by None p can = tt
may_begin_by (Some n) p can = (inl refl, can.new)

pub room_by : (o : Option ℕ) (p : PutsView) → IfSome o (λ number. CanBegin p number) → IfSome o (λ _. length p.live + length p.taken < 256)
room_by None p can = tt
room_by (Some n) p can = can.few

pub new_by : (o : Option ℕ) (p : PutsView) (begun : List ℕ) → ((n : ℕ) → Contains begun n → Contains (numbers_given (calls p.seen)) n) → IfSome o (λ number. CanBegin p number) → IfSome o (λ number. Contains begun number → ⊥)
new_by None p begun was can = tt
new_by (Some n) p begun was can = λ there. can.new (was n there)

pub own_by : (o : Option ℕ) (p : PutsView) → IfSome o (λ number. CanBegin p number) → IfSome o (λ number. Contains p.taken number → ⊥)
own_by None p can = tt
own_by (Some n) p can = can.own

pub within_by : (o : Option ℕ) (p : PutsView) → IfSome o (λ number. CanBegin p number) → IfSome o (λ number. number ≤ p.last)
within_by None p can = tt
within_by (Some n) p can = can.within

pub fewer_live : (p : PutsView) (number : ℕ) → CanBegin p number → length p.live < 256
fewer_live p number can = let few = can.few in omega (arith, few)

-- What is taken for no one that begins stays taken in a longer list with the same numbers.
pub taken_as_before : (lines : List Live) (taken : List ℕ) (last : ℕ) (seen longer : List Note) → numbers_given (calls longer) ≡ numbers_given (calls seen) → AreTaken lines taken last seen → AreTaken lines taken last longer
taken_as_before lines taken last seen longer same was n there = let t = was n there in (t.0, (λ begun. t.1 (subst (λ (xs : List ℕ). Contains xs n) same begun)), t.2)

pub taken_on : (lines : List Live) (taken : List ℕ) (last : ℕ) (seen log longer : List Note) (n : Note) → Continues seen puts_key log → longer ≡ log ++ n ∷ [] → PutsAreKeyed longer → AreTaken lines taken last seen → AreTaken lines taken last log
taken_on lines taken last seen log longer n go ends keyed was =
    taken_as_before lines taken last seen log (numbers_on seen log puts_key go (inl refl) (keyed_before log (n ∷ []) (subst (λ (l : List Note). PutsAreKeyed l) ends keyed))) was

module _ {R : Type 0} (k : RecordRules R) (lasts : LiveLasts k) (stays : StaysSound k) (one : OneMayBegin k)
    (by_lines : (ls : List Live) (n : ℕ) → IsTrue (is_live n ls) ↔ (0 < lines_of n ls)) (by_table : (ls : List Live) (n : ℕ) → IsTable ls → IsTrue (is_live n ls) ↔ (0 < holders_in n ls))
    (base : World R) (seen log longer : List Note) (n : Note) (lines then : List Live) (table : IsTable lines) (table_then : IsTable then) (counted : AreCounted k base lines seen) (told : AreCounted k base then longer)
    (sound : IsSound k base) (go : Continues seen puts_key log) (legal : IsLegal k base log) (ends : longer ≡ log ++ n ∷ []) (legal_then : IsLegal k base longer) where
  abbrev made : Call
  made = (entry_of n).call

  -- A put with notification that wasn't live, and that the call doesn't begin, isn't live.
  pub stays_over : (m : ℕ) → number_given made ≢ Some m → is_live m lines ≡ false → is_live m then ≡ false
  stays_over m other isnt =
      let at_log = counted_on k lasts base seen log lines counted go legal in
      let before = same_live k by_lines lines (map_of k base log) m table by_table (stays base log sound).2 (at_log m) in
      let after = same_live k by_lines then (map_of k base longer) m table_then by_table (stays base longer sound).2 (told m) in
      after ∙ subst (λ (l : List Note). is_live m (map_of k base l).live ≡ false) (sym ends)
      (one base log n m sound (subst (λ (l : List Note). IsLegal k base l) ends legal_then) other (sym before ∙ isnt))

  -- Numbers stay taken, but for the one that the call begins.
  pub still_taken : (taken : List ℕ) (last : ℕ) → PutsAreKeyed longer → AreTaken lines taken last seen → IfSome (number_given made) (λ number. Contains taken number → ⊥) → AreTaken then taken last longer
  still_taken taken last keyed was own m there =
      let t = was m there in
      let other = other_than (number_given made) taken m own there in (
        t.0,
        (λ begun. ⊎_elim (λ old. t.1 old) (λ new. other (in_option (number_given made) m new))
            (Contains-append_cases (numbers_given (calls seen)) (cons_option (number_given made) []) m
            (subst (λ (xs : List ℕ). Contains xs m) (numbers_then seen log longer puts_key n go ends (inl refl) keyed) begun))),
        stays_over m other t.2,
      )

  -- Each that is live has a place.
  pub still_placed : (begun begun_then : List ℕ) → ((m : ℕ) → is_live m lines ≡ true → Contains begun m) → ((m : ℕ) → is_live m lines ≡ true → Contains begun m → Contains begun_then m)
      → IfSome (number_given made) (λ number. Contains begun_then number) → (m : ℕ) → is_live m then ≡ true → Contains begun_then m
  still_placed begun begun_then placed kept own m lives =
      elim (is_live m lines) as (λ b. is_live m lines ≡ b → Contains begun_then m) [
        | true ↦ λ was. kept m was (placed m was)
        | false ↦ λ wasnt. by (number_given made) refl wasnt own
      ] refl
    where
      by : (o : Option ℕ) → number_given made ≡ o → is_live m lines ≡ false → IfSome o (λ number. Contains begun_then number) → Contains begun_then m
      by None is wasnt own = absurd (not_both lives (stays_over m (λ some. let no : None ≡ Some m = sym is ∙ some in cc) wasnt))
      by (Some b) is wasnt own =
          elim (eqb b m) as (λ c. eqb b m ≡ c → Contains begun_then m) [
            | true ↦ λ e. subst (λ (q : ℕ). Contains begun_then q) (eqb-true b m e) own
            | false ↦ λ e. absurd (not_both lives (stays_over m (λ some. not_both (eq-eqb b m (same-some (sym is ∙ some))) e) wasnt))
          ] refl

  -- Each that has a place has begun.
  pub still_begun : (begun begun_then : List ℕ) → PutsAreKeyed longer → ((m : ℕ) → Contains begun m → Contains (numbers_given (calls seen)) m) → ((m : ℕ) → Contains begun_then m → (number_given made ≡ Some m) ⊎ Contains begun m)
      → (m : ℕ) → Contains begun_then m → Contains (numbers_given (calls longer)) m
  still_begun begun begun_then keyed was within m there =
      subst (λ (xs : List ℕ). Contains xs m) (sym (numbers_then seen log longer puts_key n go ends (inl refl) keyed))
      (⊎_elim (λ new. Contains-append_right (numbers_given (calls seen)) (cons_option (number_given made) []) m (option_in (number_given made) m new))
      (λ old. Contains-append_left (numbers_given (calls seen)) (cons_option (number_given made) []) m (was m old)) (within m there))
