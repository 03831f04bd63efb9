use Rattle.std.proofs.Common.{◌++◌, ◌∷◌, [], ◌∙◌, List, ap, length, map, arith}
use Rattle.std.proofs.lemmas.List.{take_all}
use Rattle.ioc_watched.specs.Watched.{WatchedRecord}
use Rattle.ioc_watched.proofs.Marks.{numbers_copied, numbers_fit}
use Rattle.ioc_watched.proofs.watch_list.WatchList.copy_numbers.Goals as goal

pub push_reserved-requires : goal.push_reserved-requires
push_reserved-requires c =
    let same = c.deref-watched-items.ensures.value ∙ c.self.view_is in
    let fits = numbers_fit c.args.numbers.now.items c.deref-watched-items.result.now c.loop-watched.watched-index c.loop-watched.numbers.items c.loop-watched.invariant.numbers c.loop-watched-test.true in
    let count = ap length same in
    let room = c.requires.room in
    let capacity = c.loop-watched.invariant.room in
    let len = c.loop-watched.numbers.ok.0 in
    omega arith

pub loop-watched-preserved : goal.loop-watched-preserved
loop-watched-preserved c = record {
  numbers =
      c.push_reserved.ensures.items ∙ ap (λ n. c.loop-watched.numbers.items ++ n ∷ []) (c.number.ensures)
      ∙ numbers_copied c.args.numbers.now.items c.deref-watched-items.result.now c.loop-watched.watched-index c.loop-watched.numbers.items c.watched-item.result c.loop-watched.invariant.numbers c.loop-watched-test.true c.watched-item.is;
  room = c.push_reserved.ensures.capacity ∙ c.loop-watched.invariant.room;
}

pub returns-clause-numbers : goal.returns-clause-numbers
returns-clause-numbers c =
    let all = c.loop-watched-test.false in
    c.loop-watched.invariant.numbers
    ∙ ap (λ (ws : List WatchedRecord). c.args.numbers.now.items ++ map (λ (w : WatchedRecord). w.number) ws) (take_all c.loop-watched.watched-index c.deref-watched-items.result.now all ∙ c.deref-watched-items.ensures.value ∙ c.self.view_is)
