use Rattle.std.proofs.Common.{◌≡◌, ◌∙◌, List, [], ◌∷◌, ℕ, Option, None, Some, length, refl, sym, arith, rules}
use Rattle.std.specs.Cmp.Lexicographic.{pointwise}
use Rattle.std.specs.List.{position_from}
use Rattle.rec_types.specs.Record.{record_rules}
use Rattle.ioc_dbfile.specs.Owners.{owner_of, asks_for}
use Rattle.ioc_dbfile.specs.OwnerTable.{owner_in, or_else}
use Rattle.ioc_dbfile.proofs.OwnerLemmas.{then_others, or_none, none_at_end}
use Rattle.ioc_dbfile.proofs.owners.owners_of.Goals as goal

pub loop-rest-init : goal.loop-rest-init
unfolding owner_in
loop-rest-init c = (omega arith, λ text. rw c.new.ensures.empty refl)

pub returns : goal.returns
unfolding owner_of
returns c = λ text. none_at_end _ _ (asks_for record_rules text) c.loop-rest.number c.loop-rest.rest.now (omega (arith, c.in_default.len_below)) (c.loop-rest.invariant.1 text)
