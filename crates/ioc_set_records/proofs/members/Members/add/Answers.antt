use Rattle.std.proofs.Common.{◌++◌, ◌∷◌, [], ℕ, List, false, refl, sym, ap, ◌∙◌, subst, arith}
use Rattle.std.specs.Prelude.{vec_capacity}
use Rattle.std.specs.FinMap.{insert}
use Rattle.std.proofs.lemmas.List.{length_push}
use Rattle.ioc_set_records.specs.declared.slots.Slot.{Slot}
use Rattle.ioc_set_records.specs.Slots.{records_of, devices_of, bases_of}
use Rattle.ioc_set_records.specs.Twins.{AreKept, AreTracked}
use Rattle.ioc_set_records.proofs.Seen.{pushed_ascending, pushed_records, pushed_devices}
use Rattle.ioc_set_records.proofs.Twins.{pushed_bases, pushed_tracked}
use Rattle.ioc_set_records.proofs.members.Members.add.Goals as goal

pub invariant_of-self-2 : goal.invariant_of-self-2
invariant_of-self-2 g c =
    let s : Slot g.row.K.Denot g.row.D.Denot = record { number = c.args.number; fields = c.args.fields; base = c.args.base; is_changed = false; device = c.args.device } in
    let ss = c.self.inside.slots.items in
    subst (λ (z : List (Slot g.row.K.Denot g.row.D.Denot)). AreKept z c.reserve.new.self.items (vec_capacity c.reserve.new.self)) (sym c.in_ok-push.ensures.items)
    (record {
      ascending = pushed_ascending ss c.args.self.now s c.self.invariant.ascending c.self.view_is c.requires.above;
      tracked = subst (λ (p : List ℕ). AreTracked (ss ++ s ∷ []) p) (sym c.reserve.ensures.items) (pushed_tracked ss s c.self.inside.changed.items c.requires.same refl c.self.invariant.tracked);
      room =
          let len = length_push ss s in
          let more = c.in_ok-reserve.ensures.ok in
          let same = c.reserve.ensures.len in
          let few = c.self.invariant.tracked.few in
          omega (arith, len, more, same, few, c.len.ensures, c.self.inside.slots.ok.0, c.len-2.ensures, c.self.inside.changed.ok.0);
    })

pub returns-clause-records : goal.returns-clause-records
returns-clause-records g c =
    let s : Slot g.row.K.Denot g.row.D.Denot = record { number = c.args.number; fields = c.args.fields; base = c.args.base; is_changed = false; device = c.args.device } in
    ap records_of c.in_ok-push.ensures.items ∙ pushed_records c.self.inside.slots.items c.args.self.now s c.self.invariant.ascending c.self.view_is c.requires.above

pub returns-clause-devices : goal.returns-clause-devices
returns-clause-devices g c =
    let s : Slot g.row.K.Denot g.row.D.Denot = record { number = c.args.number; fields = c.args.fields; base = c.args.base; is_changed = false; device = c.args.device } in
    ap devices_of c.in_ok-push.ensures.items ∙ pushed_devices c.self.inside.slots.items c.args.self.now s c.self.invariant.ascending c.self.view_is c.requires.above

pub returns-clause-base : goal.returns-clause-base
returns-clause-base g c =
    let s : Slot g.row.K.Denot g.row.D.Denot = record { number = c.args.number; fields = c.args.fields; base = c.args.base; is_changed = false; device = c.args.device } in
    ap bases_of c.in_ok-push.ensures.items ∙ pushed_bases c.self.inside.slots.items c.args.self.now s c.self.invariant.ascending c.self.view_is c.requires.above
    ∙ ap (insert c.args.self.now.base c.args.number) c.requires.same
