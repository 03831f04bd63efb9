use Rattle.std.proofs.Common.{◌≡◌, ◌≢◌, ◌<◌, ◌++◌, ◌∷◌, [], List, Option, Some, sym, ap, ◌∙◌, subst, length, get_or, take, get_or-set_other, length-append, arith, rules}
use Rattle.std.proofs.lemmas.List.{take_more}
use Rattle.ioc_set.specs.SetState.{SetState}
use Rattle.ioc_journaled_set.specs.Holding.{HeldView}
use Rattle.ioc_journaled_set.specs.GivingUp.{EachIsLent, EachIsCounted, sets_of}
use Rattle.ioc_journaled_set.specs.SameDevice.{IsDeviceOf}
use Rattle.ioc_journaled_set.proofs.GivingUp.{lent_more, counted_more, sets_push}
use Rattle.ioc_ledger.specs.Shared.{ShareView}
use Rattle.ioc_journal.specs.Account.{Pass}
use Rattle.ioc_journaled_set.proofs.giving_up.separate_all.Goals as goal

pub loop-i-preserved : goal.loop-i-preserved
loop-i-preserved g c =
    let k = g.K.RecordKind.rules in
    let base = g.B.JournalName.base in
    let table = g.B.CellName.table in
    let i = c.loop-i.i in
    let old = c.args.held.now in
    let d = c.index-held-i.result in
    let inv = c.loop-i.invariant in
    let e = c.into_parts-set.ensures in
    let set = c.into_parts-set.result.0 in
    let own = c.into_parts-set.result.1 in
    let within : i < length old = search rules in
    let one : c.replace-one.result ≡ get_or old i d = c.replace-one.ensures.value ∙ inv.rest i d (omega arith) in
    let set_is : set ≡ (get_or old i d).set = e.set ∙ ap (λ (h : HeldView g.row.K.Denot g.row.D.Denot). h.set) one in
    let sets = c.push_reserved.ensures.items in
    let share = c.into_parts-set.result.2 in
    let passes = c.push_reserved-in-loop-i.ensures.items in
    let shares = c.push_reserved-in-loop-i-2.ensures.items in
    let many = length-append c.loop-i.sets.items (set ∷ []) in
    let others = length-append c.loop-i.passes.items (Some own ∷ []) in
    let portions = length-append c.loop-i.shares.items (share ∷ []) in
    let sets_long = ap length sets in
    let shares_long = ap length shares in
    let passes_long = ap length passes in
    let before = inv.lengths in
    record {
      table = e.keeper.0 ∙ inv.table;
      view = e.keeper.1 ∙ inv.view;
      room = (omega (arith, inv.room.0, c.push_reserved.ensures.capacity), omega (arith, inv.room.1, c.push_reserved-in-loop-i.ensures.capacity), omega (arith, inv.room.2, c.push_reserved-in-loop-i-2.ensures.capacity));
      sets = sets ∙ ap (λ (l : List (SetState g.row.K.Denot g.row.D.Denot)). l ++ set ∷ []) inv.sets ∙ ap (λ (x : SetState g.row.K.Denot g.row.D.Denot). sets_of (take i old) ++ x ∷ []) set_is
          ∙ sym (sets_push (take i old) (get_or old i d)) ∙ ap (λ (l : List (HeldView g.row.K.Denot g.row.D.Denot)). sets_of l) (sym (take_more old i d within));
      count = (omega (arith, inv.count.0, c.push_reserved.ensures.len), omega (arith, inv.count.1, c.push_reserved-in-loop-i.ensures.len), omega (arith, inv.count.2, c.push_reserved-in-loop-i-2.ensures.len));
      lengths = (omega (arith, before, many, sets_long), omega (arith, before, others, passes_long), omega (arith, before, portions, shares_long));
      counted = subst (λ (l : List (SetState g.row.K.Denot g.row.D.Denot)). EachIsCounted l c.push_reserved-in-loop-i-2.new.self.items) (sym sets)
          (subst (λ (l : List (Option ShareView)). EachIsCounted (c.loop-i.sets.items ++ set ∷ []) l) (sym shares)
          (counted_more c.loop-i.sets.items c.loop-i.shares.items set share (before.2 ∙ sym before.0) inv.counted e.counted));
      lent = subst (λ (l : List (SetState g.row.K.Denot g.row.D.Denot)). EachIsLent k base (IsDeviceOf g.D.Device.gives g.B.SetsName.devices) table l c.push_reserved-in-loop-i.new.self.items) (sym sets)
          (subst (λ (l : List (Option Pass)). EachIsLent k base (IsDeviceOf g.D.Device.gives g.B.SetsName.devices) table (c.loop-i.sets.items ++ set ∷ []) l) (sym passes)
          (lent_more k base (IsDeviceOf g.D.Device.gives g.B.SetsName.devices) table c.loop-i.sets.items c.loop-i.passes.items set (Some own) (before.1 ∙ sym before.0) inv.lent e.lent));
      rest = λ j d le. let apart : j ≢ i = omega arith in get_or-set_other c.loop-i.held i j c.replace-one.new.dest d apart ∙ inv.rest j d (omega arith);
    }
