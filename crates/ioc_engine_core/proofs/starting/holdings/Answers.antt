use Rattle.std.proofs.Common.{◌≡◌, ℕ, ◌<◌, ◌^◌, List, Option, map, refl, sym, ap, ◌∙◌, subst, length, arith, rules}
use Rattle.ioc_set_records.specs.Contents.{Contents, nothing}
use Rattle.std.proofs.lemmas.List.{length-map}
use Rattle.ioc_set_records.specs.declared.loaded.Loaded.{Loaded}
use Rattle.ioc_store.specs.OneMapLaws.{has_within}
use Rattle.ioc_store.specs.World.{World, Has}
use Rattle.ioc_journal.specs.Legal.{IsSound}
use Rattle.ioc_journaled_set.specs.SameDevice.{IsSameDevice, IsDeviceOf}
use Rattle.ioc_engine_core.specs.Loading.{loaded_world, device_in, IsAtRest, AreSetsFrom}
use Rattle.ioc_journaled_set.proofs.Devices.{unchanged}
use Rattle.ioc_engine_core.proofs.DealtParts.{database_is_shut, database_is_free, database_is_small}
use Rattle.std.specs.FinMap.{len}
use Rattle.ioc_engine_core.proofs.Numbered.{many-numbered}
use Rattle.ioc_engine_core.proofs.starting.holdings.Goals as goal

pub deal-requires-clause-below : goal.deal-requires-clause-below
deal-requires-clause-below g c = c.requires.parts.below

pub hold_all-requires-clause-parts : goal.hold_all-requires-clause-parts
hold_all-requires-clause-parts g c =
    let k = g.K.RecordKind.rules in
    let base = g.B.JournalName.base in
    let gives = g.D.Device.gives in
    let had = IsDeviceOf gives g.B.SetsName.devices in
    let all = c.args.all.items in
    let parts = c.args.parts.now in
    let sets = c.in_ok-sets.sets.items in
    let rest : IsAtRest k base had parts all = record { world = c.requires.base; devices = λ n. subst (λ (f : ℕ → Option g.row.D.Denot). IsSameDevice gives (f n) (device_in all n)) (sym c.requires.devices) (unchanged gives (device_in all n)); idle = c.requires.idle; parts_are = c.requires.parts } in
    let dealt = c.in_ok-sets.ensures in
    subst (λ (s : List (Contents g.row.K.Denot g.row.D.Denot)). AreSetsFrom k base had parts 0 s) (sym c.as_mut_slice.ensures.value)
    (record {
      all = all;
      rest = rest;
      each = λ part le lt. dealt.each part (let e = dealt.one_each in omega (arith, lt, e));
      one_part = λ part le lt. c.dealt_sets_are_parts.ensures all parts sets c.requires.parts dealt part nothing lt;
    })

pub hold_all-requires-clause-each : goal.hold_all-requires-clause-each
hold_all-requires-clause-each g c =
    ap (λ (s : List (Contents g.row.K.Denot g.row.D.Denot)). length s) c.as_mut_slice.ensures.value ∙ c.in_ok-sets.ensures.one_each ∙ sym c.requires.parts.one_each

pub returns-clause-sound : goal.returns-clause-sound
returns-clause-sound g c =
    let k = g.K.RecordKind.rules in
    let missing = g.met.K.RecordKind.lawful.missing_targets in
    let all = c.args.all.items in
    let parts = c.args.parts.now in
    let few : length all < 2 ^ 63 = search rules in
    subst (λ (w : World g.row.K.Denot). IsSound k w) (sym c.requires.base)
    (c.lists_leave_sound.ensures.first (loaded_world all) (database_is_shut k missing parts all c.requires.idle c.requires.parts) (database_is_small k missing parts all c.requires.idle c.requires.parts (2 ^ 63) few) refl refl (database_is_free k missing parts all c.requires.idle c.requires.parts))

pub returns-clause-known : goal.returns-clause-known
returns-clause-known g c = λ n has.
    let all = c.args.all.items in
    let fields = map (λ (l : Loaded g.row.K.Denot g.row.D.Denot). l.fields) all in
    let lt = has_within fields n (subst (λ (w : World g.row.K.Denot). Has w n) c.requires.base has) in
    let long = length-map all (λ (l : Loaded g.row.K.Denot g.row.D.Denot). l.fields) in
    let count : c.in_ok-directory.directory ≡ length all = search rules in
    omega (arith, lt, long, count)

pub returns-clause-records : goal.returns-clause-records
returns-clause-records g c =
    let all = c.args.all.items in
    let fields = map (λ (l : Loaded g.row.K.Denot g.row.D.Denot). l.fields) all in
    let count : c.in_ok-directory.directory ≡ length all = search rules in
    ap (λ (w : World g.row.K.Denot). len w.records) c.requires.base ∙ many-numbered fields ∙ length-map all (λ (l : Loaded g.row.K.Denot g.row.D.Denot). l.fields) ∙ sym count
