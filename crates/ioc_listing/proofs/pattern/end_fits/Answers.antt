use Rattle.std.proofs.Common.{rules, ◌≡◌, ◌∙◌, ◌≤◌, length, drop, sym, ap}
use Rattle.ioc_listing.specs.Patterns.{front_of, front_seen, matches, some_end, Is-none}
use Rattle.ioc_listing.proofs.Fronts.{no_end_behind, star_shorter}
use Rattle.ioc_listing.proofs.pattern.end_fits.Goals as goal

pub loop-rest-preserved-in-No : goal.loop-rest-preserved-in-No
loop-rest-preserved-in-No c =
    let is : front_of c.loop-rest.wanted.now c.loop-rest.rest.now ≡ Is-none = sym c.compare.ensures ∙ ap front_seen c.in-No.is in
    let some : 1 ≤ length c.loop-rest.rest.now = search rules in
    let later : some_end (matches c.loop-rest.wanted.now) (drop 1 c.loop-rest.rest.now) ≡ some_end (matches c.loop-rest.wanted.now) c.loop-rest.rest.now =
    no_end_behind c.loop-rest.wanted.now c.loop-rest.rest.now is some in
    let cut : c.split_at.result.1.now ≡ drop 1 c.loop-rest.rest.now = search rules in
    ap (some_end (matches c.loop-rest.wanted.now)) cut ∙ later ∙ c.loop-rest.invariant

pub loop-rest-smaller : goal.loop-rest-smaller
loop-rest-smaller c =
    star_shorter c.loop-rest.wanted.now c.loop-rest.rest.now c.in-Star.behind.now c.in-Star.left.now
    (sym c.compare.ensures ∙ ap front_seen c.in-Star.is)
