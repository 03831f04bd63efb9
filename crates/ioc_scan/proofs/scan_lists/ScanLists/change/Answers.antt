use Rattle.std.proofs.Common.{◌≡◌, ◌+◌, ◌<◌, refl, sym, ap, subst, length, set, arith}
use Rattle.std.specs.BTreeMap.{get}
use Rattle.ioc_scan.specs.contracts.position.PositionOrd.TheImpl as order_of
use Rattle.ioc_scan.specs.declared.position.ListEntry.{ListEntry}
use Rattle.ioc_scan.specs.Positions.{entry_of}
use Rattle.ioc_scan.specs.Members.{AreIndexed}
use Rattle.ioc_scan.specs.Scanned.{Scanned}
use Rattle.ioc_scan.proofs.Agreement.{changed_indexed, read_entry}
use Rattle.ioc_scan.proofs.scan_lists.ScanLists.change.Goals as goal

pub invariant_of-self : goal.invariant_of-self
invariant_of-self c =
    let es = c.self.inside.entries.items in
    let last = c.self.inside.last in
    let r = c.args.member in
    let before = c.index-2.result.now in
    let e : ListEntry = record { number = c.args.number; place = c.args.place; order = last + 1 } in
    let same : length es ≡ length c.args.self.now.entries = ap (λ (s : Scanned). length s.entries) c.self.view_is in
    let last_same : last ≡ c.args.self.now.last = ap (λ (s : Scanned). s.last) c.self.view_is in
    let l : r < length es = omega (arith, c.requires.known) in
    let was : before ≡ entry_of es r = read_entry es before c.index.result r c.index.ensures l c.index-2.ensures in
    let done : AreIndexed (set es r e) (last + 1) c.put_or_leave-self-inside.result c.take_off.new.members =
    changed_indexed es last c.self.inside.indexed c.put_or_leave-self-inside.result (get order_of.ghosts.cmp c.self.inside.members) (get order_of.ghosts.cmp c.put_or_leave-self-inside.new.members) (get order_of.ghosts.cmp c.take_off.new.members) r e before l (omega (arith, c.requires.room, last_same)) was refl c.put_or_leave-self-inside.ensures.phase c.self.invariant
    c.put_or_leave-self-inside.ensures.put
    c.take_off.ensures
    in subst (λ n. AreIndexed (set es n e) (last + 1) c.put_or_leave-self-inside.result c.take_off.new.members) (sym c.index-3.ensures) done
