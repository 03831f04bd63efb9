use Rattle.std.proofs.Common.{arith, ◌∙◌, ap, sym, Some}
use Rattle.std.proofs.lemmas.Option.{slice_get-get_or}
use Rattle.ioc_store.specs.OneMapLaws.{has_within, at-numbered}
use Rattle.ioc_store.proofs.one_map.OneMapStore.record.Goals as goal

pub index-requires : goal.index-requires
index-requires g c =
    let within = has_within c.args.self.now.records.items c.args.number c.requires in omega (arith, within, c.index-place.ensures)

pub returns : goal.returns
returns g c =
    let items = c.args.self.now.records.items in
    let within = has_within items c.args.number c.requires in
    at-numbered g.K.RecordKind.rules c.args.self.now c.args.number c.index.result.now
    (slice_get-get_or items c.args.number c.index.result.now within ∙ ap Some (sym (rw c.index-place.ensures at c.index.ensures)))
