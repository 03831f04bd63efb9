use Rattle.std.proofs.Common.{rules, ◌≡◌, ap, ◌∙◌, nat_eq, not}
use Rattle.std.proofs.lemmas.Fn.{filter_same}
use Rattle.ioc_journaled_set.specs.PutPlaces.{Places, places_of, without}
use Rattle.ioc_journaled_set.proofs.put_places.PutPlaces.give_back.Goals as goal

pub returns : goal.returns
returns c =
    let kept : c.retain.new.self.items ≡ without c.args.number c.self.inside.taken.items = filter_same _ (λ n. not (nat_eq n c.args.number)) _ (λ x b f k. search rules) _ _ c.retain.ensures.filtered in
    ap (λ l. places_of l c.self.inside.begun.items) kept ∙ ap (λ (p : Places). places_of (without c.args.number p.taken) p.begun) c.self.view_is
