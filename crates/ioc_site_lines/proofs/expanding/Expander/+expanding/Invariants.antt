-- The levels that are left fall where a use is replaced; among functions at one level each calls
-- only those below it.
use Rattle.std.proofs.Common.{◌+◌, ◌*◌}
use Rattle.ioc_site_lines.proofs.expanding.Expander.+expanding.Given as goal

abbrev pub decreases-define_scoped : goal.decreases-define_scoped
decreases-define_scoped l = 8 * l.levels + 6

abbrev pub decreases-expand : goal.decreases-expand
decreases-expand l = 8 * l.levels + 4

abbrev pub decreases-expand_use : goal.decreases-expand_use
decreases-expand_use l = 8 * l.levels + 3

abbrev pub decreases-expanded : goal.decreases-expanded
decreases-expanded l = 8 * l.levels + 5

abbrev pub decreases-insert : goal.decreases-insert
decreases-insert l = 8 * l.levels + 5

abbrev pub decreases-replace_use : goal.decreases-replace_use
decreases-replace_use l = 8 * l.levels + 7
