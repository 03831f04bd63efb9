-- Sets whose histories are cleared.
use Rattle.std.proofs.Common.{◌≡◌, List, [], ◌∷◌, map, refl, sym, ap, ◌∙◌}
use Rattle.ioc_set.specs.SetState.{SetState, folded}
use Rattle.ioc_journaled_set.specs.Holding.{HeldView}

module _ {R D : Type 0} where
  abbrev set_of : HeldView R D → SetState R D
  set_of h = h.set

  abbrev folded_set : HeldView R D → SetState R D
  folded_set h = folded h.set

  from_sets : (xs : List (HeldView R D)) → map folded_set xs ≡ map folded (map set_of xs)
  from_sets [] = refl
  from_sets (x ∷ xs) = ap (λ (l : List (SetState R D)). folded x.set ∷ l) (from_sets xs)

  from_folded : (xs : List (HeldView R D)) → map folded (map folded_set xs) ≡ map folded_set xs
  from_folded [] = refl
  from_folded (x ∷ xs) = ap (λ (l : List (SetState R D)). folded x.set ∷ l) (from_folded xs)

  -- Sets that have stayed the same are the same when their histories are cleared.
  pub same_folded : (xs ys : List (HeldView R D)) → map set_of xs ≡ map set_of ys → map folded_set xs ≡ map folded_set ys
  same_folded xs ys same = from_sets xs ∙ ap (map folded) same ∙ sym (from_sets ys)

  -- Sets whose histories were cleared are the same when they are cleared again.
  pub folded_again : (xs ys : List (HeldView R D)) → map set_of xs ≡ map folded_set ys → map folded_set xs ≡ map folded_set ys
  folded_again xs ys same = from_sets xs ∙ ap (map folded) same ∙ from_folded ys
