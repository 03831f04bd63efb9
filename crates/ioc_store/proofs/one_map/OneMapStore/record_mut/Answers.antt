use Rattle.std.proofs.Common.{arith, ◌∙◌, ap, sym, Some, refl}
use Rattle.std.proofs.lemmas.Option.{slice_get-get_or}
use Rattle.ioc_store.specs.OneMapLaws.{has_within, at-numbered, set-there}
use Rattle.ioc_store.proofs.one_map.OneMapStore.record_mut.Goals as goal

pub index_mut-requires : goal.index_mut-requires
index_mut-requires g c =
    let within = has_within c.args.self.now.records.items c.args.number c.requires in omega (arith, within, c.index-place.ensures)

pub returns : goal.returns
returns g c =
    let s = c.args.self.now in
    let within = has_within s.records.items c.args.number c.requires in (
      (refl, λ r. set-there s c.index-place.result c.args.number r c.index-place.ensures),
      record {
        lends = tt;
        value = at-numbered g.K.RecordKind.rules s c.args.number c.index_mut.result.now
            (slice_get-get_or s.records.items c.args.number c.index_mut.result.now within ∙ ap Some (sym (rw c.index-place.ensures at c.index_mut.ensures.value)));
      },
    )
