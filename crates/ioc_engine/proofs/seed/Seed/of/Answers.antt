use Rattle.std.proofs.Common.{rules, List, map, sym, ap, ◌∙◌}
use Rattle.rec_types.specs.Record.{Record, record_rules}
use Rattle.ioc_scan_rules.specs.FirstLists.{first_lists}
use Rattle.ioc_scan_rules.specs.declared.places.Occasion.TheVariants.{Scanning}
use Rattle.ioc_engine.proofs.Closing.{closed_in, idle_in}
use Rattle.ioc_engine.proofs.seed.Seed.of.Goals as goal

pub invariant_of-result : goal.invariant_of-result
invariant_of-result g c =
    let same = c.in_ok-loaded.ensures.records in
    record {
      same_table = c.in_ok-cell.ensures.table;
      fresh = c.in_ok-cell.ensures.master;
      all_places = search rules;
      all_tickets = search rules;
      copies = c.in_ok-loaded.ensures.copies;
      idle = idle_in c.args.database.records.items c.in_ok-loaded.loaded.items same c.args.database.idle;
      closed = closed_in c.args.database.records.items c.in_ok-loaded.loaded.items same c.args.database.closed;
      listed = c.in_ok-lists.ensures ∙ ap (λ (rs : List Record). first_lists record_rules Scanning rs) (c.as_slice-2.ensures.value ∙ sym same);
      types = c.in_ok-lookup.ensures.types ∙ ap (λ (rs : List Record). map record_rules.record_type rs) (c.as_slice.ensures.value ∙ sym same);
    }
