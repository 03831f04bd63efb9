use Rattle.std.proofs.Common.{◌≡◌, ◌++◌, length, map}
use Rattle.ioc_site_lines.specs.Defining.{seen}
use Rattle.ioc_site_database.specs.SiteFiles.{words_defined}
use Rattle.ioc_site_database.proofs.site_words.add_words.Given as goal

abbrev pub invariant-loop-rest : goal.invariant-loop-rest
invariant-loop-rest l = map seen l.all.items ++ words_defined (map (λ w. w.now) l.rest) ≡ map seen l.initial.all.items ++ words_defined (map (λ w. w.now) l.words)

abbrev pub decreases-loop-rest : goal.decreases-loop-rest
decreases-loop-rest l = length l.rest
