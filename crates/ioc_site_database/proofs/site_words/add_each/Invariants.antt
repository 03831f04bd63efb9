use Rattle.std.proofs.Common.{◌≡◌, ◌++◌, length, map}
use Rattle.ioc_site_lines.specs.Defining.{seen}
use Rattle.ioc_site_database.specs.SiteFiles.{words_defined, zero_parts}
use Rattle.ioc_site_database.proofs.Filing.{bytes_left, left_length, words_left}
use Rattle.ioc_site_database.proofs.site_words.add_each.Given as goal

abbrev pub invariant-loop-rest : goal.invariant-loop-rest
invariant-loop-rest l = map seen l.all.items ++ words_defined (words_left (bytes_left l.rest)) ≡ map seen l.initial.all.items ++ words_defined (zero_parts l.text)

abbrev pub decreases-loop-rest : goal.decreases-loop-rest
decreases-loop-rest l = left_length (bytes_left l.rest)
