use Rattle.std.proofs.Common.{◌≡◌, ◌<◌, ◌-◌, ◌^◌, length, sym, ap, ◌∙◌, arith, rules}
use Rattle.ioc_ledger.specs.Shared.{ShareView}
use Rattle.ioc_journaled_set.proofs.Keys.{keys_count}
use Rattle.ioc_engine_core.proofs.PartSizes.{part-size, all-left, none-left}
use Rattle.ioc_set_records.specs.Contents.{nothing}
use Rattle.ioc_journaled_set.specs.SameDevice.{IsDeviceOf}
use Rattle.ioc_engine_core.proofs.DealtParts.{sets_left, set_here, get_or_any}
use Rattle.ioc_engine_core.proofs.holding.hold_all.Goals as goal

pub loop-part-init : goal.loop-part-init
loop-part-init g c =
    let none = all-left c.args.parts.now in
    let parts = ap (λ (s : ShareView). s.parts) c.requires.spare in
    record {
      count = c.in_ok-directory.ensures;
      table = c.requires.table.1;
      master = search rules;
      born = λ key has. absurd (search rules);
      left = c.requires.parts;
      spare = (omega (arith, none, parts), ap (λ (s : ShareView). s.counts) c.requires.spare);
    }

pub split_off-share-requires : goal.split_off-share-requires
split_off-share-requires g c =
    let sets = c.loop-part.sets in
    let lt : c.loop-part.part < length sets = omega arith in
    let is = c.replace-members.ensures.value ∙ get_or_any sets c.loop-part.part c.index-sets-part.result nothing lt in
    let set = set_here g.K.RecordKind.rules g.B.JournalName.base (IsDeviceOf g.D.Device.gives g.B.SetsName.devices) c.args.parts.now c.loop-part.part sets c.replace-members.result is lt c.loop-part.invariant.left in
    let size = part-size set.all c.args.parts.now c.loop-part.part c.replace-members.result (sym set.rest.parts_are.one_each) set.has in
    let keys_are = keys_count c.replace-members.result.records in
    let spare = c.loop-part.invariant.spare.0 in
    let few : length c.args.parts.now < 2 ^ 63 = search rules in
    record { parts = omega (arith, size, keys_are, spare, few, c.len.ensures) }

pub hold_part-held-requires-clause-part : goal.hold_part-held-requires-clause-part
hold_part-held-requires-clause-part g c =
    let sets = c.loop-part.sets in
    let lt : c.loop-part.part < length sets = omega arith in
    let is = c.replace-members.ensures.value ∙ get_or_any sets c.loop-part.part c.index-sets-part.result nothing lt in
    set_here g.K.RecordKind.rules g.B.JournalName.base (IsDeviceOf g.D.Device.gives g.B.SetsName.devices) c.args.parts.now c.loop-part.part sets c.replace-members.result is lt c.loop-part.invariant.left

pub loop-part-preserved : goal.loop-part-preserved
loop-part-preserved g c =
    let count : c.if-len-ne0.directory ≡ length c.args.parts.now = search rules in
    let sets = c.loop-part.sets in
    let lt : c.loop-part.part < length sets = omega arith in
    let is = c.replace-members.ensures.value ∙ get_or_any sets c.loop-part.part c.index-sets-part.result nothing lt in
    let set = set_here g.K.RecordKind.rules g.B.JournalName.base (IsDeviceOf g.D.Device.gives g.B.SetsName.devices) c.args.parts.now c.loop-part.part sets c.replace-members.result is lt c.loop-part.invariant.left in
    let size = part-size set.all c.args.parts.now c.loop-part.part c.replace-members.result (sym set.rest.parts_are.one_each) set.has in
    let keys_are = keys_count c.replace-members.result.records in
    let left = ap (λ (s : ShareView). s.parts) c.split_off-share.ensures.left in
    let spare = c.loop-part.invariant.spare in
    record {
      spare = (omega (arith, size, keys_are, spare.0, left, c.len.ensures), ap (λ (s : ShareView). s.counts) c.split_off-share.ensures.left ∙ spare.1);
      count = count;
      table = c.hold_part-held.ensures.table;
      master = c.hold_part-held.ensures.master;
      born = c.hold_part-held.ensures.born;
      left = sets_left g.K.RecordKind.rules g.B.JournalName.base (IsDeviceOf g.D.Device.gives g.B.SetsName.devices) c.args.parts.now c.loop-part.part c.loop-part.sets c.replace-members.new.dest c.loop-part.invariant.left;
    }

pub returns-clause-born : goal.returns-clause-born
returns-clause-born g c = λ key has. (c.loop-part.invariant.born key has).0

pub returns-clause-spare : goal.returns-clause-spare
returns-clause-spare g c =
    let left = c.loop-part.invariant.left in
    let none = none-left c.args.parts.now c.loop-part.part (λ i d lt. search rules) in
    record { parts = omega arith; counts = c.loop-part.invariant.spare.1 }
