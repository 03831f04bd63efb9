use Rattle.std.proofs.Common.{◌≡◌, ◌≢◌, ◌+◌, ◌∷◌, [], ℕ, List, length, ap, sym, subst, arith, ⊎_elim, inl, inr, refl}
use Rattle.std.specs.List.{AllPairs}
use Rattle.std.proofs.lemmas.List.{length-append}
use Rattle.std.specs.Prelude.{Contains}
use Rattle.ioc_journaled_set.specs.PutPlaces.{Places}
use Rattle.ioc_journaled_set.proofs.Placed.{differ_more, old_or_new, is_free}
use Rattle.ioc_journaled_set.proofs.put_places.PutPlaces.begin.Goals as goal

pub invariant_of-self : goal.invariant_of-self
invariant_of-self c =
    let taken = ap (λ (p : Places). length p.taken) c.self.view_is in
    let begun = ap (λ (p : Places). length p.begun) c.self.view_is in
    let same = ap (λ (l : List ℕ). length l) c.make_room-is_free.ensures.taken in
    let room = c.requires.room in
    let few = is_free c.make_room-is_free.result (length c.make_room-is_free.new.self.taken + length c.make_room-is_free.new.self.begun) (length c.args.live.now.live + length c.make_room-is_free.new.self.taken)
    c.make_room-is_free.ensures.room c.make_room-is_free.ensures.full (omega (arith, same, room)) in
    let new : Contains c.self.inside.begun.items c.args.number → ⊥ = λ there. c.requires.new (c.make_room-is_free.ensures.within c.args.number (subst (λ (p : Places). Contains p.begun c.args.number) c.self.view_is there)) in
    let size = ap (λ (l : List ℕ). length l) c.push_reserved.ensures.items in
    let more = length-append c.self.inside.begun.items (c.args.number ∷ []) in
    let one : length (c.args.number ∷ []) ≡ 1 = refl in
    let items = c.push_reserved.ensures.items in
    record {
      numbers = record { few = omega (arith, taken, begun, few, size, more, one); once = subst (λ (l : List ℕ). AllPairs (λ earlier later. earlier ≢ later) l) (sym items) (differ_more c.self.inside.begun.items c.args.number c.self.invariant.numbers.once new) };
      room = (c.self.invariant.room.0, let room = c.self.invariant.room.1 in let same = c.push_reserved.ensures.capacity in omega (arith, room, same));
    }

pub returns-clause-within : goal.returns-clause-within
returns-clause-within c n there =
    ⊎_elim (λ new. inl new) (λ old. inr (c.make_room-is_free.ensures.within n (subst (λ (p : Places). Contains p.begun n) c.self.view_is old)))
    (old_or_new c.self.inside.begun.items c.args.number n (subst (λ (l : List ℕ). Contains l n) c.push_reserved.ensures.items there))
