use Rattle.std.proofs.Common.{◌≡◌, ◌++◌, ◌+◌, ℕ, List, Option, map, take, drop, get_or, length, ap, sym, ◌∙◌, arith}
use Rattle.rec_types.specs.Record.{Record, record_rules}
use Rattle.ioc_fields.specs.declared.record_type.RecordType.{RecordType}
use Rattle.ioc_dbfile.specs.Finished.{linked_all, by_place}
use Rattle.ioc_dbfile.specs.OwnDevices.{DeviceNames, own_owner, own_linked, device_names}
use Rattle.ioc_dbfile.proofs.Mapped.{map_more, get_more, all_mapped}
use Rattle.ioc_dbfile.proofs.finish.link_all_own.Goals as goal

pub loop-item-preserved : goal.loop-item-preserved
unfolding own_linked
loop-item-preserved c =
    let all = c.args.records.now in
    let i = c.loop-item.item-index in
    let x = c.item-item.result in
    let f = own_linked record_rules c.args.names.now c.in_ok-types.types.items c.in_ok-own.own.names.items in
    let so_far : c.loop-item.records ≡ by_place f 0 (take i all) ++ drop i all = c.loop-item.invariant.1 in
    let place : c.new.result ≡ 0 + i = omega (arith, c.new.ensures, c.loop-item.invariant.0) in
    let new : c.link_own.new.item ≡ f (0 + i) (get_or all i x) =
    c.in_ok-link_own.ensures ∙ ap (λ (n : ℕ). f n (get_or c.loop-item.records i x)) place ∙ ap (λ (rs : List Record). f (0 + i) (get_or rs i x)) so_far ∙ ap (f (0 + i)) (get_more f 0 all i x c.loop-item-test.true)
    in
    (omega (arith, c.loop-item.invariant.0), rw (new, so_far) (map_more f 0 all i x c.loop-item-test.true))

pub returns : goal.returns
unfolding own_linked
returns c =
    let all = c.args.records.now in
    let names = c.args.names.now in
    let types = c.in_ok-types.types.items in
    let own = c.in_ok-own.own.names.items in
    let f = own_linked record_rules names types own in
    let done : c.loop-item.records ≡ by_place f 0 all = rw (c.loop-item.invariant.1) (all_mapped f all c.loop-item.item-index (omega (arith, c.loop-item-test.false))) in
    let typed : types ≡ map record_rules.record_type all = c.in_ok-types.ensures in
    let named : own ≡ device_names record_rules all = c.in_ok-own.ensures in
    done ∙ ap (λ (ts : List RecordType). by_place (own_linked record_rules names ts own) 0 all) typed ∙ ap (λ (o : DeviceNames). by_place (own_linked record_rules names (map record_rules.record_type all) o) 0 all) named
