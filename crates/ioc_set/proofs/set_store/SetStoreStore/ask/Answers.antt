use Rattle.std.proofs.Common.{sym, ap, subst, ◌∙◌}
use Rattle.std.specs.FinMap.{get}
use Rattle.std.specs.Option.{option_map}
use Rattle.ioc_device.specs.declared.Answer.{Answer}
use Rattle.ioc_set_records.specs.Contents.{Records}
use Rattle.ioc_store.specs.Given.{DeviceGives}
use Rattle.ioc_set.specs.Attached.{AttachedGives, attached_in}
use Rattle.ioc_set.proofs.Giving.{given_at, some_of, beside}
use Rattle.ioc_set.proofs.set_store.SetStoreStore.ask.Goals as goal

pub returns-clause-gives : goal.returns-clause-gives
returns-clause-gives g c =
    let before = c.args.self.now.members in
    let after = c.device_gives-answer.new.self in
    let gives = g.D.Device.gives in
    let moment = c.args.self.now.event.moment in
    let n = c.args.number in
    let there = some_of (get before.base n) (c.devices_are_owned.ensures.base n ∙ c.requires.there) in
    let given = given_at gives before.base before.devices after.devices n c.args.ask moment c.device_gives-answer.result there.0 there.1 c.device_gives-answer.ensures.gives in
    let kept = subst (λ (b : Records g.row.K.Denot). DeviceGives (AttachedGives gives) (attached_in before) moment (record { target = n; ask = c.args.ask; answer = c.device_gives-answer.result })
    (λ m. option_map (beside (get after.devices m)) (get b m))) (sym c.device_gives-answer.ensures.base) given in
    subst (λ (answer : Answer). DeviceGives (AttachedGives gives) (attached_in before) moment (record { target = n; ask = c.args.ask; answer = answer }) (attached_in after))
    (sym (ap (λ call. call.answer) c.new-call.ensures)) kept
