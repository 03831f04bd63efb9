use Rattle.std.proofs.Common.{◌≡◌, ◌<◌, ◌+◌, ◌++◌, ◌∷◌, [], ◌∙◌, ℕ, List, true, ap, sym, subst, take, length, arith, rules}
use Rattle.std.specs.Prelude.{All, Contains, IsTrue}
use Rattle.std.specs.FinMap.{contains_key}
use Rattle.std.specs.Vec.{vec_capacity}
use Rattle.crossbeam_utils.specs.Seq.{cell_view}
use Rattle.ioc_journal.specs.declared.cell.View.{View}
use Rattle.ioc_journal.specs.Account.{Pass}
use Rattle.std.proofs.lemmas.List.{length-append, take_more, take_all}
use Rattle.ioc_watched.specs.Watched.{WatchedRecord, IsWatched}
use Rattle.ioc_watched.proofs.Marks.{added_watched, added_marked, left_watched}
use Rattle.ioc_watched.proofs.watch_list.add_each.Goals.{then-has, else-has}
use Rattle.ioc_watched.proofs.watch_list.add_each.Goals as goal

pub loop-number-preserved : goal.loop-number-preserved
loop-number-preserved g c =
    let rs = c.args.set.now.records in
    let numbers = c.args.numbers.now in
    let i = c.loop-number.number-index in
    let n = c.number-item.result in
    let ws = c.loop-number.records.items in
    let inv = c.loop-number.invariant in
    let within : i < length numbers = search rules in
    let more : take (i + 1) numbers ≡ take i numbers ++ n ∷ [] = take_more numbers i n within ∙ ap (λ (x : ℕ). take i numbers ++ x ∷ []) (sym c.number-item.is) in
    elim c.if-has.branch [
      | then-has w ↦
          let x = w.new.result in
          let has : contains_key rs n ≡ true = sym c.has.ensures ∙ w.if-has.true in
          let own : x.number ≡ n = ap (λ (v : WatchedRecord). v.number) w.new.ensures in
          let items : c.if-has.records.items ≡ ws ++ x ∷ [] = ap (λ v. v.items) w.records-is ∙ w.push_reserved.ensures.items in
          record {
            count = let grown = ap length items in let one = length-append ws (x ∷ []) in let count = inv.count in omega arith;
            room = ap (λ v. vec_capacity v) w.records-is ∙ w.push_reserved.ensures.capacity ∙ inv.room;
            all = subst (λ (l : List WatchedRecord). (m : ℕ) → Contains (take (i + 1) numbers) m → IsTrue (contains_key rs m) → IsWatched m l) (sym items) (added_watched rs numbers i n more ws x own inv.all);
            marked = subst (λ (l : List WatchedRecord). All (λ (v : WatchedRecord). IsTrue (contains_key rs v.number) × (v.is_marked ≡ true)) l) (sym items)
                (added_marked rs numbers i n more ws x (ap (contains_key rs) own ∙ has) (ap (λ (v : WatchedRecord). v.is_marked) w.new.ensures) inv.marked);
            pass = (ap (λ (p : Pass). p.table_id) w.pass-is ∙ w.copy.ensures.kept.0 ∙ inv.pass.0, ap (λ (p : Pass). cell_view {V = View} p) w.pass-is ∙ w.copy.ensures.kept.1 ∙ inv.pass.1);
          }
      | else-has w ↦
          let none = sym c.has.ensures ∙ w.if-has.false in
          let items : c.if-has.records.items ≡ ws = ap (λ v. v.items) w.records-is in
          record {
            count = let same = ap length items in let count = inv.count in omega arith;
            room = ap (λ v. vec_capacity v) w.records-is ∙ inv.room;
            all = subst (λ (l : List WatchedRecord). (m : ℕ) → Contains (take (i + 1) numbers) m → IsTrue (contains_key rs m) → IsWatched m l) (sym items) (left_watched rs numbers i n more ws none inv.all);
            marked = subst (λ (l : List WatchedRecord). All (λ (v : WatchedRecord). IsTrue (contains_key rs v.number) × (v.is_marked ≡ true)) l) (sym items) inv.marked;
            pass = (ap (λ (p : Pass). p.table_id) w.pass-is ∙ inv.pass.0, ap (λ (p : Pass). cell_view {V = View} p) w.pass-is ∙ inv.pass.1);
          }
    ]

pub returns-clause-all : goal.returns-clause-all
returns-clause-all g c n there has =
    c.loop-number.invariant.all n (subst (λ (l : List ℕ). Contains l n) (sym (take_all c.loop-number.number-index c.args.numbers.now c.loop-number-test.false)) there) has
