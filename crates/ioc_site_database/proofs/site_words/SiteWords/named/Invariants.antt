use Rattle.std.proofs.Common.{◌≡◌, ◌++◌, length, map}
use Rattle.ioc_site_lines.specs.Defining.{seen}
use Rattle.ioc_site_database.specs.SiteFiles.{holding}
use Rattle.ioc_site_database.proofs.site_words.SiteWords.named.Given as goal

abbrev pub invariant-loop-rest : goal.invariant-loop-rest
invariant-loop-rest l = map (λ p. (p.0.now, map seen p.1.items)) l.all.items ++ map (λ f. holding l.definitions f.path.now (map (λ w. w.now) f.macros.items)) l.rest
    ≡ map (λ f. holding l.definitions f.path.now (map (λ w. w.now) f.macros.items)) l.self.files.items

abbrev pub decreases-loop-rest : goal.decreases-loop-rest
decreases-loop-rest l = length l.rest
