use Rattle.std.proofs.Common.{rules, [], ◌≡◌, ◌<◌, ℕ, List, Option, map, length, sym, ap, ◌∙◌, subst}
use Rattle.std.specs.Prelude.{slice_index_or}
use Rattle.std.proofs.lemmas.List.{length-map}
use Rattle.rec_types.specs.Record.{Record, record_rules}
use Rattle.ioc_dbfile.specs.declared.own_devices.DeviceOwners.{DeviceOwners}
use Rattle.ioc_dbfile.specs.OwnDevices.{DeviceNames, owner_for, own_owner, holder, device_names}
use Rattle.ioc_set_records.specs.declared.loaded.Loaded.{Loaded}
use Rattle.ioc_engine.specs.Binding.{device_of, spare_of}
use Rattle.ioc_engine.proofs.Bindings.{length-by_place}
use Rattle.ioc_engine.proofs.Copied.{as_bound}
use Rattle.ioc_engine.proofs.seed.Seed.with_own_devices.Goals as goal

pub returns-clause-owners : goal.returns-clause-owners
returns-clause-owners g c = λ n text.
    ap (λ (o : DeviceOwners). owner_for o n text) c.in_ok-seed.ensures.owners
    ∙ ap (λ (names : DeviceNames). own_owner names n text) (c.in_ok-own.ensures ∙ ap (λ (rs : List Record). device_names record_rules rs) c.as_slice.ensures.value)

pub returns-clause-devices : goal.returns-clause-devices
returns-clause-devices g c =
    let all = c.in_ok-seed.seed.records.items in
    let items = c.args.database.records.items in
    let named : c.in_ok-own.own.names.items ≡ device_names record_rules items = c.in_ok-own.ensures ∙ ap (λ (rs : List Record). device_names record_rules rs) c.as_slice.ensures.value in
    let fields : Loaded Record g.row.D.Denot → Record = λ l. l.fields in
    let many : length all ≡ length items =
    sym (length-map all fields) ∙ ap (λ (l : List Record). length l) (c.in_ok-seed.ensures.records ∙ c.in_ok-database.ensures.records) ∙ length-by_place _ 0 items
    in
    let count : length items ≡ c.len.result = search rules in
    subst (λ (names : DeviceNames). (n : ℕ) (l : Loaded Record g.row.D.Denot) → n < length all → (slice_index_or all n l).device ≡ device_of (holder names) c.args.devices.items n) named
    (as_bound all c.in_ok-bound.bound.devices.items (device_of (holder c.in_ok-own.own.names.items) c.args.devices.items) c.len.result (many ∙ count) c.in_ok-seed.ensures.devices c.in_ok-bound.ensures.devices)

pub returns-clause-spare : goal.returns-clause-spare
returns-clause-spare g c =
    let items = c.args.database.records.items in
    let named : c.in_ok-own.own.names.items ≡ device_names record_rules items = c.in_ok-own.ensures ∙ ap (λ (rs : List Record). device_names record_rules rs) c.as_slice.ensures.value in
    let count : c.len.result ≡ length items = search rules in
    c.in_ok-seed.ensures.spare.1
    ∙ c.in_ok-bound.ensures.spare
    ∙ ap (λ (names : DeviceNames). spare_of (holder names) c.len.result [] c.args.devices.items) named
    ∙ ap (λ (n : ℕ). spare_of (holder (device_names record_rules items)) n [] c.args.devices.items) count
