use Rattle.std.proofs.Common.{rules, ◌≡◌, ◌≢◌, ◌+◌, ℕ, List, Bool, length, ap, sym, subst, ◌∙◌, arith}
use Rattle.std.specs.Prelude.{Contains}
use Rattle.std.specs.List.{filter}
use Rattle.std.proofs.lemmas.Fn.{filter_same}
use Rattle.std.proofs.lemmas.List.Kept.{AllPairs-filter}
use Rattle.ioc_notify.specs.Living.{is_live}
use Rattle.ioc_journaled_set.specs.PutPlaces.{Places, places_of, AreFew}
use Rattle.ioc_journaled_set.proofs.Placed.{filter_shorter, no_more_than_live, none_free}
use Rattle.ioc_set.proofs.Gathered.{passes-there, there-passes}
use Rattle.ioc_journaled_set.proofs.put_places.PutPlaces.make_room.Goals as goal

pub invariant_of-self : goal.invariant_of-self
invariant_of-self c =
    let test : ℕ → Bool = λ n. is_live n c.args.live.now.live in
    let kept : c.retain.new.self.items ≡ filter test c.self.inside.begun.items = filter_same _ test _ (λ x b f k. search rules) _ _ c.retain.ensures.filtered in
    let fewer = filter_shorter test c.self.inside.begun.items in
    let few = c.self.invariant.numbers.few in
    record {
      numbers = subst (λ l. AreFew (places_of c.self.inside.taken.items l)) (sym kept) (record { few = omega (arith, few, fewer); once = AllPairs-filter (λ earlier later. earlier ≢ later) test c.self.inside.begun.items c.self.invariant.numbers.once });
      room = (c.self.invariant.room.0, let room = c.self.invariant.room.1 in let same = c.retain.ensures.capacity in omega (arith, room, same));
    }

pub returns-clause-kept : goal.returns-clause-kept
returns-clause-kept c n live there =
    let test : ℕ → Bool = λ n. is_live n c.args.live.now.live in
    let kept : c.retain.new.self.items ≡ filter test c.self.inside.begun.items = filter_same _ test _ (λ x b f k. search rules) _ _ c.retain.ensures.filtered in
    subst (λ (l : List ℕ). Contains l n) (sym kept) (there-passes test c.self.inside.begun.items n (subst (λ (p : Places). Contains p.begun n) (sym c.self.view_is) there) live)

pub returns-clause-within : goal.returns-clause-within
returns-clause-within c n there =
    let test : ℕ → Bool = λ n. is_live n c.args.live.now.live in
    let kept : c.retain.new.self.items ≡ filter test c.self.inside.begun.items = filter_same _ test _ (λ x b f k. search rules) _ _ c.retain.ensures.filtered in
    subst (λ (p : Places). Contains p.begun n) c.self.view_is (passes-there test c.self.inside.begun.items n (subst (λ (l : List ℕ). Contains l n) kept there)).0

pub returns-clause-full : goal.returns-clause-full
returns-clause-full c none =
    let test : ℕ → Bool = λ n. is_live n c.args.live.now.live in
    let kept : c.retain.new.self.items ≡ filter test c.self.inside.begun.items = filter_same _ test _ (λ x b f k. search rules) _ _ c.retain.ensures.filtered in
    let size = ap (λ (l : List ℕ). length l) kept in
    let fewer = no_more_than_live c.self.inside.begun.items c.args.live.now.live c.self.invariant.numbers.once in
    let full = none_free (length c.self.inside.taken.items + length c.retain.new.self.items) (sym c.has_free-2.ensures ∙ none) in
    omega (arith, size, fewer, full)
