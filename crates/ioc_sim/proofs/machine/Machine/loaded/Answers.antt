use Rattle.std.proofs.Common.{◌≡◌, ℕ, List, subst, sym, ap, ◌∙◌}
use Rattle.rec_types.specs.Record.{Record, record_rules}
use Rattle.ioc_store.specs.OneMap.{device_at}
use Rattle.ioc_store.specs.World.{World}
use Rattle.ioc_process.specs.Rules.{IsSettled}
use Rattle.ioc_dbfile.specs.OwnerTable.{owner_in}
use Rattle.ioc_dbfile.specs.Owners.{owner_of}
use Rattle.ioc_callback.specs.Serving.{no_items}
use Rattle.ioc_scan_rules.specs.declared.places.Occasion.TheVariants.{Scanning}
use Rattle.ioc_scan_rules.specs.FirstLists.{first_lists}
use Rattle.ioc_sim.specs.Scanner.{Scanner}
use Rattle.ioc_sim.specs.Machine.{loaded_machine}
use Rattle.ioc_sim.proofs.Closing.{was_ok}
use Rattle.ioc_sim.proofs.Eventing.{none_counted}
use Rattle.ioc_sim.proofs.machine.Machine.loaded.Goals as goal

pub invariant_of-result : goal.invariant_of-result
invariant_of-result c =
    let map = c.map_of-map.ensures in
    let made = c.in_ok-parts.ensures.1 in
    let m = c.in_ok-parts.parts.1 in
    record {
      settled = subst (λ (w : World Record). IsSettled record_rules w) (sym (was_ok c.map_of-map.result m _ made map.world)) c.requires;
      empty = was_ok c.map_of-map.result m _ made map.empty;
      room = was_ok c.map_of-map.result m _ made map.room;
    }

pub returns : goal.returns
unfolding loaded_machine
returns c =
    let map = c.map_of-map.ensures in
    let made = c.in_ok-parts.ensures.1 in
    let m = c.in_ok-parts.parts.1 in
    let lists = ap (λ (p : _). p.0) c.in_ok-parts.ensures.0 ∙ c.in_ok-places.ensures.0 ∙ c.in_ok-scanner.ensures
    ∙ ap (λ (rs : List Record). let s : Scanner = record { lists = first_lists record_rules Scanning rs; queues = no_items } in s) c.as_slice.ensures.value
    in
    let owners : (text : List ℕ) → owner_in c.in_ok-parts.parts.0.1 text ≡ owner_of record_rules c.args.records.items text =
    λ text. ap (λ (p : _). owner_in p.1 text) c.in_ok-parts.ensures.0 ∙ was_ok c.owners_of-owners.result c.in_ok-places.places.1 _ c.in_ok-places.ensures.1 c.owners_of-owners.ensures text
    ∙ ap (λ (rs : List Record). owner_of record_rules rs text) c.as_slice-2.ensures.value
    in
    λ i. record {
      world = was_ok c.map_of-map.result m _ made map.world i;
      queued = device_at (was_ok c.map_of-map.result m _ made map.devices i);
      tally = none_counted c.default.result c.default.ensures i;
      scanner = lists i;
      owner = λ text. owners text i;
      next = 1;
      ended = c.in_ok-ended.ensures.items i;
    }
