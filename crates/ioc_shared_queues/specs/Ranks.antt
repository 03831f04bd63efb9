-- The callback queue of each priority. Record Reference Manual, "Scan Fields", PRIO.
use Rattle.ioc_menus.specs.declared.priority.Priority.{Priority}
use Rattle.ioc_menus.specs.declared.priority.Priority.TheVariants as priority
use Rattle.ioc_shared_queues.specs.declared.rank.Rank.{Rank}
use Rattle.ioc_shared_queues.specs.declared.rank.Rank.TheVariants.{High, Medium, Low}

abbrev pub rank_of : Priority → Rank
rank_of priority.High = High
rank_of priority.Medium = Medium
rank_of priority.Low = Low
