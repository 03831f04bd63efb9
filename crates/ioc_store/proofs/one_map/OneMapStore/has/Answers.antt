use Rattle.std.proofs.Common.{◌≡◌, sym, length, arith}
use Rattle.std.specs.Prelude.{vec_len}
use Rattle.ioc_store.specs.OneMapLaws.{contains-numbered}
use Rattle.ioc_store.proofs.one_map.OneMapStore.has.Goals as goal

pub returns : goal.returns
returns g c =
    let items = c.args.self.now.records.items in
    let e : vec_len c.args.self.now.records ≡ length items = omega arith in
    rw (c.index-place.ensures, c.len.ensures, e) (sym (contains-numbered items c.args.number))
