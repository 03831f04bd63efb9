use Rattle.ioc_journal.proofs.legal_laws.events_have_laws.Goals as goal

pub returns : goal.returns
returns g c = record {
  allowed = c.rules_are_calls.ensures.allowed;
  kept = c.calls_keep_records.ensures;
  counted = c.calls_count_holders.ensures;
  none_ready = c.calls_leave_none_ready.ensures;
  local = c.calls_are_local.ensures.local;
  apart = c.counted_waits_keep_apart.ensures.apart;
  alone = c.rules_are_calls.ensures.alone;
  first = c.events_count_holders.ensures.first;
  ends = c.calls_end_what_nobody_has.ensures;
  live = c.events_count_holders.ensures.live;
  free = c.those_over_never_end.ensures.not_held;
  within = c.calls_are_local.ensures.within;
}
