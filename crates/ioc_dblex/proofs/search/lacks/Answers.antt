use Rattle.std.proofs.Common.{◌≡◌, Bool, true, false, not, refl, ◌∙◌}
use Rattle.ioc_dblex.proofs.Searching.{lacks_by}
use Rattle.ioc_dblex.proofs.search.lacks.Goals as goal

pub returns : goal.returns
returns c = none_is _ _ c.is_none.ensures ∙ lacks_by c.args.c c.args.bytes.now c.memchr.result c.memchr.ensures
  where
    none_is : (s n : Bool) → s ≡ not n → n ≡ not s
    none_is s true h = rw h refl
    none_is s false h = rw h refl
