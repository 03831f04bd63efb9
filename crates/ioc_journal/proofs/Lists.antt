-- Lists of notes, appended to each other.
use Rattle.std.proofs.Common.{◌≡◌, List, [], ◌∷◌, ◌++◌, refl, sym, subst}
use Rattle.ioc_record.specs.RecordRules.{RecordRules}
use Rattle.ioc_store.specs.World.{World}
use Rattle.ioc_journal.specs.declared.entry.Note.{Note}
use Rattle.ioc_journal.specs.Legal.{done, map_of, Fits, IsLegal}
use Rattle.ioc_journal.specs.Laws.{GoesOn}

module _ {R : Type 0} (k : RecordRules R) where
  pub legal-join : (xs ys : List Note) (m : World R) → IsLegal k m xs → IsLegal k (map_of k m xs) ys → IsLegal k m (xs ++ ys)
  legal-join [] ys m first then = then
  legal-join (x ∷ xs) ys m first then = (first.0, legal-join xs ys (done k m x).world first.1 then)

  pub legal-right : (xs ys : List Note) (m : World R) → IsLegal k m (xs ++ ys) → IsLegal k (map_of k m xs) ys
  legal-right [] ys m legal = legal
  legal-right (x ∷ xs) ys m legal = legal-right xs ys (done k m x).world legal.1

  pub map-join : (xs ys : List Note) (m : World R) → map_of k m (xs ++ ys) ≡ map_of k (map_of k m xs) ys
  map-join [] ys m = refl
  map-join (x ∷ xs) ys m = map-join xs ys (done k m x).world

  -- A legal list stays legal with one more note that fits.
  pub goes-on : (base : World R) (log : List Note) (n : Note) (Known : World R → Type 0) → IsLegal k base log → Fits k (map_of k base log) n → Known (done k (map_of k base log) n).world → GoesOn k base log n Known
  goes-on base log n Known legal fits known = record {
    legal = legal-join log (n ∷ []) base legal (fits, tt);
    known = subst Known (sym (map-join log (n ∷ []) base)) known;
  }
