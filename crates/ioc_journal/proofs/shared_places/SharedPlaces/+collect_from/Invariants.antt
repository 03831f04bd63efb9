use Rattle.std.proofs.Common.{◌-◌}
use Rattle.ioc_journal.proofs.shared_places.SharedPlaces.+collect_from.Given as goal

-- Each call locks one stripe more.
abbrev pub decreases-collect_from : goal.decreases-collect_from
decreases-collect_from g l = 8 - l.at
