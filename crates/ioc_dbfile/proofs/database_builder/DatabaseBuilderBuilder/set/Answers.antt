use Rattle.std.proofs.Common.{◌≡◌, ◌<◌, ◌∙◌, ap, sym, subst, arith, length, Some}
use Rattle.std.specs.Prelude.{slice_get}
use Rattle.std.proofs.lemmas.Option.{slice_get-get_or}
use Rattle.rec_types.specs.Record.{record_rules}
use Rattle.rec_types.specs.RecordLaws.{record_lawful}
use Rattle.ioc_dbfile.specs.Idle.{IsIdle}
use Rattle.ioc_dbfile.proofs.Idling.{all-set, idle-at, built-idle, set-built}
use Rattle.ioc_dbfile.proofs.database_builder.DatabaseBuilderBuilder.set.Goals as goal

pub invariant_of-self : goal.invariant_of-self
invariant_of-self c =
    let items = c.self.inside.records.items in
    let within : c.index-place.result < length items = omega arith in
    let old : slice_get items c.index-place.result ≡ Some c.index_mut.result.now = slice_get-get_or items c.index-place.result c.index_mut.result.now within ∙ ap Some (sym c.index_mut.ensures.value) in
    let idle = idle-at record_rules items c.index-place.result c.index_mut.result.now c.self.invariant old in
    all-set record_rules items c.index-place.result c.set_to.new.record c.self.invariant
    (built-idle record_rules record_lawful c.set_to.result c.index_mut.result.now c.set_to.new.record c.args.field c.args.value.now c.set_to.ensures.built c.set_to.ensures.same idle)

pub returns : goal.returns
returns c =
    let items = c.self.inside.records.items in
    let within : c.index-place.result < length items = omega arith in
    let old : slice_get items c.index-place.result ≡ Some c.index_mut.result.now = slice_get-get_or items c.index-place.result c.index_mut.result.now within ∙ ap Some (sym c.index_mut.ensures.value) in
    let made = set-built c.set_to.result c.self.inside.names items c.index-place.result c.args.field c.args.value.now c.index_mut.result.now c.set_to.new.record old c.set_to.ensures.built in
    rw (← c.self.view_is, ← c.index-place.ensures) made
