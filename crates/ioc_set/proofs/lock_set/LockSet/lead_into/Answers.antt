use Rattle.std.proofs.Common.{◌≡◌, ap, subst, sym, ◌∙◌}
use Rattle.std.specs.Prelude.{IsSome, is_some}
use Rattle.std.specs.FinMap.{get}
use Rattle.ioc_set_records.specs.Contents.{Records}
use Rattle.ioc_set_records.specs.Joined.{HasLink}
use Rattle.ioc_set.specs.SetState.{SetState}
use Rattle.ioc_set.specs.SetStore.{world_of}
use Rattle.ioc_set.proofs.LeadLaws.{names_none, stays-apart, is-free, both-have, leads, none_stays, still_may}
use Rattle.ioc_set.proofs.lock_set.LockSet.lead_into.Goals as goal

pub split-requires : goal.split-requires
split-requires g c =
    let same : c.fold.new.self.records ≡ c.args.self.now.records = ap (λ (h : SetState g.row.K.Denot g.row.D.Denot). h.records) c.fold.ensures in
    let has = subst (λ (rs : Records g.row.K.Denot). HasLink g.K.RecordKind.rules rs c.args.change.number c.args.change.field) (sym same) c.requires.field in
    record { link = (has, λ t named. absurd (names_none c.empty.result c.empty.ensures t named), c.empty-2.ensures ∙ sym c.empty.ensures) }

pub unite-requires-clause-apart : goal.unite-requires-clause-apart
unite-requires-clause-apart g c =
    let same : c.fold.new.self.records ≡ c.args.self.now.records = ap (λ (h : SetState g.row.K.Denot g.row.D.Denot). h.records) c.fold.ensures in
    stays-apart g.K.RecordKind.rules c.fold.new.self.records c.split.new.self.records c.in_ok-rest.rest.records c.args.change.number c.args.change.field c.empty.result c.in_ok-rest.ensures.apart.shared c.args.other.now.records
    (subst (λ (rs : Records g.row.K.Denot). IsSome (get rs c.args.change.number)) (sym same) (ap is_some c.requires.field.1))
    (λ q some. c.requires.apart q (subst (λ (rs : Records g.row.K.Denot). IsSome (get rs q)) same some))

pub unite-requires-clause-free : goal.unite-requires-clause-free
unite-requires-clause-free g c =
    let k = g.K.RecordKind.rules in
    let same : c.fold.new.self.records ≡ c.args.self.now.records = ap (λ (h : SetState g.row.K.Denot g.row.D.Denot). h.records) c.fold.ensures in
    is-free k c.fold.new.self.records c.split.new.self.records c.in_ok-rest.rest.records c.args.change.number c.args.change.field c.empty.result c.in_ok-rest.ensures.apart.shared g.met.K.RecordKind.lawful
    (subst (λ (rs : Records g.row.K.Denot). HasLink k rs c.args.change.number c.args.change.field) (sym same) c.requires.field) c.in_ok-rest.ensures.apart.own c.empty.ensures

pub unite-requires-clause-one : goal.unite-requires-clause-one
unite-requires-clause-one g c =
    let k = g.K.RecordKind.rules in
    let laws = c.held_records_are_sound.ensures in
    let before = c.args.self.now in
    still_may k before c.args.other.now c.fold.new.self c.split.new.self c.split.new.self c.in_ok-rest.rest before c.args.other.now c.args.change.moment c.args.change.number c.args.change.field c.empty.result c.args.change.link
    c.fold.ensures c.empty.ensures c.in_ok-rest.ensures.apart g.met.K.RecordKind.lawful (ap is_some c.requires.field.1) c.requires.one (laws.live before c.is_sound.ensures)
    (λ n is. laws.holder c.split.new.self n c.is_sound-3.ensures is) c.is_sound-3.ensures c.is_sound-2.ensures

pub unite-requires-clause-puts_room : goal.unite-requires-clause-puts_room
unite-requires-clause-puts_room g c no_room =
    let k = g.K.RecordKind.rules in
    let before = c.args.self.now in
    let dead = c.in_ok-puts_room.ensures no_room in (
      none_stays k before c.args.other.now c.fold.new.self c.split.new.self c.split.new.self c.in_ok-rest.rest before c.args.other.now c.args.change.moment c.args.change.number c.args.change.field c.empty.result c.args.change.link
          c.fold.ensures c.empty.ensures c.in_ok-rest.ensures.apart dead.0,
      dead.1,
    )

pub rescan-requires : goal.rescan-requires
rescan-requires g c =
    record { there = both-have g.K.RecordKind.rules c.unite.new.self.records c.split.new.self.records c.args.other.now.records c.args.change.number c.args.change.field c.args.change.link c.unite.ensures.shared }

pub returns-clause-led : goal.returns-clause-led
returns-clause-led g c =
    leads g.K.RecordKind.rules c.args.self.now c.args.other.now c.fold.new.self c.split.new.self c.unite.new.self c.in_ok-rest.rest c.rescan.new.self c.unite.new.other c.args.change.moment c.args.change.number c.args.change.field c.empty.result c.args.change.link
    c.fold.ensures c.empty.ensures c.in_ok-rest.ensures.apart c.unite.ensures c.is_sound-4.ensures c.device_text-before.result c.device_text-before.ensures (world_of c.rescan.new.buffers.store)
    c.rescan.ensures.left c.rescan.ensures.held
