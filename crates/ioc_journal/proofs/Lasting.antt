-- A held part stays held as long as no note has its keys.
use Rattle.std.proofs.Common.{List, [], ◌∷◌, refl, sym, subst, ◌∙◌}
use Rattle.ioc_record.specs.RecordRules.{RecordRules}
use Rattle.ioc_store.specs.World.{World}
use Rattle.ioc_journal.specs.declared.entry.Note.{Note}
use Rattle.ioc_journal.specs.Line.{Spares}
use Rattle.ioc_journal.specs.Legal.{AreLiveAlike, notifications_key, done, map_of, Fits, IsLegal}
use Rattle.ioc_journal.specs.Covering.{Holds, AreSpared}
use Rattle.ioc_journal.specs.Laws.{Lasts, LiveLasts}
use Rattle.ioc_journal.proofs.Lists.{legal-right, map-join}

module _ {R : Type 0} (k : RecordRules R) where
  spared-one : (m v : World R) (n : Note) → AreSpared v (n ∷ []) → Fits k m n → Holds k m v → Holds k (done k m n).world v
  spared-one m v n spared fits holds = record {
    records = λ r there. (fits.untouched r (spared r there).0).same ∙ holds.records r there;
    waiting = λ r there. (fits.untouched r (spared r there).0).waiting ∙ holds.waiting r there;
    within = holds.within;
    shut = holds.shut;
    apart = λ a r out there named. holds.apart a r out there ((fits.untouched r (spared r there).0).named a named);
  }

  pub spared-all : (notes : List Note) (m v : World R) → AreSpared v notes → IsLegal k m notes → Holds k m v → Holds k (map_of k m notes) v
  spared-all [] m v spared legal holds = holds
  spared-all (n ∷ notes) m v spared legal holds =
      spared-all notes (done k m n).world v (λ r there. (spared r there).1) legal.1
      (spared-one m v n (λ r there. ((spared r there).0, tt)) legal.0 holds)

  live-all : (notes : List Note) (m : World R) → Spares notifications_key notes → IsLegal k m notes → AreLiveAlike m (map_of k m notes)
  live-all [] m spared legal number = refl
  live-all (n ∷ notes) m spared legal number = legal.0.live spared.0 number ∙ live-all notes (done k m n).world spared.1 legal.1 number

  pub live-lasts : LiveLasts k
  live-lasts base seen rest spared legal =
      subst (λ (m : World R). AreLiveAlike (map_of k base seen) m) (sym (map-join k seen rest base)) (live-all rest (map_of k base seen) spared (legal-right k seen rest base legal))

  pub lasts : Lasts k
  lasts base v seen rest holds spared legal =
      subst (λ (m : World R). Holds k m v) (sym (map-join k seen rest base)) (spared-all rest (map_of k base seen) v spared (legal-right k seen rest base legal) holds)
