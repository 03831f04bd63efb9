use Rattle.std.proofs.Common.{rules, [], ◌≡◌, ◌<◌, ℕ, List, Option, map, length, sym, ap, ◌∙◌, subst}
use Rattle.std.specs.Prelude.{slice_index_or}
use Rattle.std.proofs.lemmas.List.{length-map}
use Rattle.rec_types.specs.Record.{Record, record_rules}
use Rattle.ioc_dbfile.specs.declared.own_devices.DeviceOwners.{DeviceOwners}
use Rattle.ioc_dbfile.specs.Finished.{Owner}
use Rattle.ioc_dbfile.specs.OwnDevices.{owner_for}
use Rattle.ioc_dbfile.specs.OwnerTable.{owner_in}
use Rattle.ioc_dbfile.specs.Owners.{owner_of}
use Rattle.ioc_set_records.specs.declared.loaded.Loaded.{Loaded}
use Rattle.ioc_engine.specs.Binding.{device_of, spare_of}
use Rattle.ioc_engine.proofs.Copied.{as_bound}
use Rattle.ioc_engine.proofs.seed.Seed.new.Goals as goal

pub returns-clause-owners : goal.returns-clause-owners
returns-clause-owners g c = λ n text.
    ap (λ (o : DeviceOwners). owner_for o n text) c.in_ok-seed.ensures.owners
    ∙ c.in_ok-owners.ensures text
    ∙ ap (λ (rs : List Record). owner_of record_rules rs text) c.as_slice.ensures.value

pub returns-clause-devices : goal.returns-clause-devices
returns-clause-devices g c =
    let all = c.in_ok-seed.seed.records.items in
    let items = c.args.database.records.items in
    let owner = owner_in c.in_ok-owners.owners in
    let first : Owner = owner_of record_rules items in
    let owned : owner ≡ first = (λ j text. (c.in_ok-owners.ensures text ∙ ap (λ (rs : List Record). owner_of record_rules rs text) c.as_slice.ensures.value) j) in
    let fields : Loaded Record g.row.D.Denot → Record = λ l. l.fields in
    let many : length all ≡ length items = sym (length-map all fields) ∙ ap (λ (l : List Record). length l) c.in_ok-seed.ensures.records in
    let count : length items ≡ c.len.result = search rules in
    subst (λ (o : Owner). (n : ℕ) (l : Loaded Record g.row.D.Denot) → n < length all → (slice_index_or all n l).device ≡ device_of o c.args.devices.items n) owned
    (as_bound all c.in_ok-bound.bound.devices.items (device_of owner c.args.devices.items) c.len.result (many ∙ count) c.in_ok-seed.ensures.devices c.in_ok-bound.ensures.devices)

pub returns-clause-spare : goal.returns-clause-spare
returns-clause-spare g c =
    let items = c.args.database.records.items in
    let owner = owner_in c.in_ok-owners.owners in
    let first : Owner = owner_of record_rules items in
    let owned : owner ≡ first = (λ j text. (c.in_ok-owners.ensures text ∙ ap (λ (rs : List Record). owner_of record_rules rs text) c.as_slice.ensures.value) j) in
    let count : c.len.result ≡ length items = search rules in
    c.in_ok-seed.ensures.spare.0
    ∙ c.in_ok-bound.ensures.spare
    ∙ ap (λ (o : Owner). spare_of o c.len.result [] c.args.devices.items) owned
    ∙ ap (λ (n : ℕ). spare_of first n [] c.args.devices.items) count
