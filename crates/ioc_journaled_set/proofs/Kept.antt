-- The table of the puts with notification when numbers are taken and given back.
use Rattle.std.proofs.Common.{◌≡◌, ◌≢◌, ◌↔◌, ℕ, ◌+◌, ◌<◌, ◌≤◌, true, false, eqb, length, List, [], ◌∷◌, ◌++◌, Option, None, refl, sym, ap, ◌∙◌, subst, ⊎_elim, arith}
use Rattle.std.specs.Prelude.{All, Contains, IsTrue, IfNone}
use Rattle.std.proofs.lemmas.Bool.{eq-eqb, eqb-true}
use Rattle.atomic_table.specs.Seated.{TableId}
use Rattle.crossbeam_utils.specs.Seq.{cell_view}
use Rattle.ioc_notify.specs.declared.live_numbers.Live.{Live}
use Rattle.ioc_notify.specs.Counts.{Table, IsTable, holders_in}
use Rattle.ioc_notify.specs.Living.{holders_of, is_live}
use Rattle.ioc_record.specs.RecordRules.{RecordRules}
use Rattle.ioc_store.specs.World.{World}
use Rattle.ioc_journal.specs.Account.{Pass, puts_key, calls, numbers_given}
use Rattle.ioc_journal.specs.Legal.{map_of}
use Rattle.ioc_journal.specs.Line.{holder}
use Rattle.ioc_journal.proofs.Basics.{not_both, not_true}
use Rattle.ioc_journal.specs.declared.cell.View.{View}
use Rattle.ioc_journal.specs.declared.entry.Note.{Note}
use Rattle.ioc_journal.proofs.Numbers.{next_is_new}
use Rattle.ioc_journaled_set.specs.PutPlaces.{Places, places_of, without, AreFew}
use Rattle.ioc_journaled_set.specs.Puts.{puts_view, AreKept, AreCounted, AreTaken, NoneIsAbove, CanBegin}
use Rattle.ioc_journaled_set.proofs.Placed.{old_or_new, left_out, still_there, shorter}
use Rattle.ioc_journaled_set.proofs.GivingUp.{line_has, line_other}
use Rattle.ioc_journaled_set.proofs.Taken.{lines_few}

pub none_gives : {X P : Type 0} (o : Option X) → o ≡ None → IfNone o P → P
none_gives {X} {P} o is h = subst (λ (q : Option X). IfNone q P) is h

module _ {R : Type 0} (k : RecordRules R) (base : World R) (table : TableId) (pass : Pass) (t : Table) where
  -- The next number is taken, after room was made.
  pub number_taken : (p made : Places) (last number : ℕ) → AreKept k base table pass t p last → made.taken ≡ p.taken → ((n : ℕ) → is_live n t.live ≡ true → Contains p.begun n → Contains made.begun n)
      → ((n : ℕ) → Contains made.begun n → Contains p.begun n) → number ≡ last + 1 → is_live number t.live ≡ false → AreKept k base table pass t (places_of (made.taken ++ number ∷ []) made.begun) number
  number_taken p made last number h same kept within after free = record {
    same = h.same;
    holds = h.holds;
    counted = h.counted;
    below = λ i d lt. let was = h.below i d lt in omega (arith, was, after);
    taken = λ n there. ⊎_elim
        (λ new. subst (λ (m : ℕ). (m ≤ number) × (Contains (numbers_given (calls (cell_view {V = View} pass).seen)) m → ⊥) × (is_live m t.live ≡ false)) new
        (omega arith, next_is_new (numbers_given (calls (cell_view {V = View} pass).seen)) last number after h.below, free))
        (λ old. let was = h.taken n (subst (λ (xs : List ℕ). Contains xs n) same old) in (let le = was.0 in omega (arith, le, after), was.1, was.2))
        (old_or_new made.taken number n there);
    placed = λ n lives. kept n lives (h.placed n lives);
    begun = λ n there. h.begun n (within n there);
    few = h.few;
    room = h.room;
  }

  pub room_made : (p made : Places) (last : ℕ) → AreKept k base table pass t p last → made.taken ≡ p.taken → ((n : ℕ) → is_live n t.live ≡ true → Contains p.begun n → Contains made.begun n)
      → ((n : ℕ) → Contains made.begun n → Contains p.begun n) → AreKept k base table pass t made last
  room_made p made last h same kept within = record {
    same = h.same;
    holds = h.holds;
    counted = h.counted;
    below = h.below;
    taken = λ n there. h.taken n (subst (λ (xs : List ℕ). Contains xs n) same there);
    placed = λ n lives. kept n lives (h.placed n lives);
    begun = λ n there. h.begun n (within n there);
    few = h.few;
    room = h.room;
  }

  -- Fewer than 256 are live or have a number taken for them if a place is free.
  pub room_left : (p made : Places) (last : ℕ) → AreKept k base table pass t p last → IsTable t.live → made.taken ≡ p.taken → ((n : ℕ) → is_live n t.live ≡ true → Contains p.begun n → Contains made.begun n)
      → length made.taken + length made.begun < 256 → length t.live + length p.taken < 256
  room_left p made last h lines same kept room =
      let size = ap (λ (xs : List ℕ). length xs) same in
      let few = lines_few t.live made.begun lines (λ n lives. kept n lives (h.placed n lives)) in
      omega (arith, size, few, room)

  -- A number that was taken is given back.
  pub number_given_back : (p : Places) (last number : ℕ) → AreKept k base table pass t p last → AreKept k base table pass t (places_of (without number p.taken) p.begun) last
  number_given_back p last number h = record {
    same = h.same;
    holds = h.holds;
    counted = h.counted;
    below = h.below;
    taken = λ n there. h.taken n (still_there number p.taken n there);
    placed = h.placed;
    begun = h.begun;
    few = h.few;
    room = h.room;
  }

  pub may_begin : (p : Places) (last number : ℕ) → AreKept k base table pass t p last → IsTable t.live → AreFew p → Contains p.taken number → CanBegin (puts_view t.live (without number p.taken) last (cell_view {V = View} pass).seen) number
  may_begin p last number h lines few there =
      let was = h.taken number there in
      let less = shorter number p.taken there in
      let live = lines_few t.live p.begun lines h.placed in
      let all = few.few in
      record {
        within = was.0;
        few = omega (arith, less, live, all);
        free = was.2;
        new = was.1;
        own = left_out number p.taken;
      }

module _ {R : Type 0} (k : RecordRules R) (base : World R) (table : TableId) (pass then : Pass) (t : Table) (p : Places) (last : ℕ) (h : AreKept k base table pass t p last) where
  -- Another pass has seen the same and owns the same.
  pub pass_exchanged : then.table_id ≡ pass.table_id → cell_view {V = View} then ≡ cell_view {V = View} pass → AreKept k base table then t p last
  pass_exchanged name same = record {
    same = name ∙ h.same;
    holds = subst (λ (v : View). v ≡ holder v.seen puts_key) (sym same) h.holds;
    counted = subst (λ (v : View). AreCounted k base t.live v.seen) (sym same) h.counted;
    below = subst (λ (v : View). NoneIsAbove last v.seen) (sym same) h.below;
    taken = subst (λ (v : View). AreTaken t.live p.taken last v.seen) (sym same) h.taken;
    placed = h.placed;
    begun = subst (λ (v : View). (n : ℕ) → Contains p.begun n → Contains (numbers_given (calls v.seen)) n) (sym same) h.begun;
    few = h.few;
    room = h.room;
  }

  -- A put with notification is canceled, and none has begun.
  module _ (t' : Table) (longer : List Note) (number total : ℕ) (by_table : (ls : List Live) (n : ℕ) → IsTable ls → IsTrue (is_live n ls) ↔ (0 < holders_in n ls)) (lines : IsTable t.live) (lines_then : IsTable t'.live)
      (less : (n : ℕ) → holders_in n t'.live + holders_in n ((record { number = number; holders = total }) ∷ []) ≡ holders_in n t.live) (all : total ≡ holders_in number t.live) where
    fewer_live : (n : ℕ) → is_live n t'.live ≡ true → is_live n t.live ≡ true
    fewer_live n lives = (by_table t.live n lines).1 (let some = (by_table t'.live n lines_then).0 lives in let by = less n in omega (arith, some, by))

    counted_less : holders_of number (map_of k base longer).live ≡ 0
        → ((other : ℕ) → other ≢ number → holders_of other (map_of k base longer).live ≡ holders_of other (map_of k base (cell_view {V = View} pass).seen).live) → AreCounted k base t'.live longer
    counted_less nobody others n =
        elim (eqb n number) as (λ b. eqb n number ≡ b → holders_in n t'.live ≡ holders_of n (map_of k base longer).live) [
          | true ↦ λ is.
              let same : n ≡ number = eqb-true n number is in
              subst (λ (m : ℕ). holders_in m t'.live ≡ holders_of m (map_of k base longer).live) (sym same)
              (let by = less number in let line = line_has number total in omega (arith, by, line, all, nobody))
          | false ↦ λ isnt.
              let apart : n ≢ number = λ same. not_both (eq-eqb n number same) isnt in
              let by = less n in
              let line = line_other number n total apart in
              let was = h.counted n in
              let kept = others n apart in
              omega (arith, by, line, was, kept)
        ] refl

    pub one_canceled : then.table_id ≡ table → cell_view {V = View} then ≡ holder longer puts_key → numbers_given (calls longer) ≡ numbers_given (calls (cell_view {V = View} pass).seen)
        → holders_of number (map_of k base longer).live ≡ 0
        → ((other : ℕ) → other ≢ number → holders_of other (map_of k base longer).live ≡ holders_of other (map_of k base (cell_view {V = View} pass).seen).live)
        → length t'.live ≤ length t.live → t'.room ≡ t.room → AreKept k base table then t' p last
    one_canceled name is same nobody others shorter_then room_same = record {
      same = name;
      holds = subst (λ (v : View). v ≡ holder v.seen puts_key) (sym is) refl;
      counted = subst (λ (v : View). AreCounted k base t'.live v.seen) (sym is) (counted_less nobody others);
      below = subst (λ (v : View). NoneIsAbove last v.seen) (sym is) (subst (λ (xs : List ℕ). All (λ n. n ≤ last) xs) (sym same) h.below);
      taken = subst (λ (v : View). AreTaken t'.live p.taken last v.seen) (sym is)
          (λ n there. let was = h.taken n there in (was.0, (λ begun. was.1 (subst (λ (xs : List ℕ). Contains xs n) same begun)), not_true (is_live n t'.live) (λ lives. not_both (fewer_live n lives) was.2)));
      placed = λ n lives. h.placed n (fewer_live n lives);
      begun = λ n there. subst (λ (v : View). Contains (numbers_given (calls v.seen)) n) (sym is) (subst (λ (xs : List ℕ). Contains xs n) (sym same) (h.begun n there));
      few = let few = h.few in omega (arith, few, shorter_then);
      room = let room = h.room in omega (arith, room, room_same);
    }
