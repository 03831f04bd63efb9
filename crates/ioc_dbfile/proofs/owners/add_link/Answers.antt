use Rattle.std.proofs.Common.{◌≡◌, Bool, true, false, nat_eq, is_some, refl, rules, List, ℕ}
use Rattle.std.specs.Cmp.Lexicographic.{pointwise}
use Rattle.std.specs.HashMap.{get}
use Rattle.ioc_dbfile.specs.OwnerTable.{owner_in}
use Rattle.ioc_dbfile.proofs.OwnerLemmas.{put_first, put_again}
use Rattle.ioc_dbfile.proofs.owners.add_link.Goals as goal

pub returns-in_ok-insert : goal.returns-in_ok-insert
unfolding owner_in
returns-in_ok-insert c =
    let none : is_some (get (pointwise nat_eq) c.args.owners.now.numbers c.in-Device.text) ≡ false = cc in
    λ text. rw c.in-Device.is (put_first (get (pointwise nat_eq) c.args.owners.now.numbers) c.in-Device.text text c.args.number _ _ refl none (c.in_ok-insert.ensures.updates.0 text))

pub returns-else-not-contains_key : goal.returns-else-not-contains_key
unfolding owner_in
returns-else-not-contains_key c =
    let some : is_some (get (pointwise nat_eq) c.args.owners.now.numbers c.in-Device.text) ≡ true = cc in
    λ text. rw c.in-Device.is (put_again (get (pointwise nat_eq) c.args.owners.now.numbers) c.in-Device.text text c.args.number _ refl some)
