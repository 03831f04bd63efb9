use Rattle.std.proofs.Common.{◌≡◌, ◌<◌, ◌≤◌, length, arith, ◌∙◌, ap, sym, Some, None}
use Rattle.std.proofs.lemmas.Option.{slice_get-get_or}
use Rattle.std.specs.Prelude.{slice_get}
use Rattle.ioc_store.specs.OneMapLaws.{gives-there, gives-none, gives-past}
use Rattle.ioc_store.proofs.one_map.OneMap.device_gives.Goals as goal

pub returns-then-place-len-clause-gives : goal.returns-then-place-len-clause-gives
returns-then-place-len-clause-gives g c =
    let items = c.args.self.now.devices.items in
    let past : length items ≤ c.args.number = omega (arith, c.if-place-len.true, c.len.ensures, c.index-place.ensures) in
    gives-past g.D.Device.gives items c.args.self.now.event.moment c.args.number c.args.ask.now past

pub returns-in-Some-clause-gives : goal.returns-in-Some-clause-gives
returns-in-Some-clause-gives g c =
    let items = c.args.self.now.devices.items in
    let within : c.index-place.result < length items = omega (arith, c.if-place-len.false, c.len.ensures) in
    let there : slice_get items c.index-place.result ≡ Some (Some c.in-Some.device) =
    slice_get-get_or items c.index-place.result c.index_mut.result.now within ∙ ap Some (sym c.index_mut.ensures.value ∙ c.in-Some.is) in
    rw (← c.index-place.ensures) (gives-there g.D.Device.gives items c.args.self.now.event.moment c.index-place.result c.args.ask.now c.answer_of.result c.in-Some.device c.answer_of.new.device there c.answer_of.ensures)

pub returns-in-None-clause-gives : goal.returns-in-None-clause-gives
returns-in-None-clause-gives g c =
    let items = c.args.self.now.devices.items in
    let within : c.index-place.result < length items = omega (arith, c.if-place-len.false, c.len.ensures) in
    let there : slice_get items c.index-place.result ≡ Some None =
    slice_get-get_or items c.index-place.result c.index_mut.result.now within ∙ ap Some (sym c.index_mut.ensures.value ∙ c.in-None.is) in
    rw (← c.index-place.ensures, c.in-None.is) (gives-none g.D.Device.gives items c.args.self.now.event.moment c.index-place.result c.args.ask.now there)
