-- One more pass whose keys were taken over.
use Rattle.std.proofs.Common.{◌≡◌, List, [], ◌∷◌, ◌++◌, get_or, refl, sym, ap, subst, ◌∙◌, ⊎_elim, append_assoc, arith}
use Rattle.std.proofs.lemmas.List.Elements.{All-push}
use Rattle.std.proofs.lemmas.List.Quantifiers.{all_pairs_push}
use Rattle.atomic_table.specs.Seated.{TableId}
use Rattle.ioc_record.specs.RecordRules.{RecordRules}
use Rattle.ioc_store.specs.World.{World}
use Rattle.ioc_journal.specs.declared.entry.Note.{Note}
use Rattle.ioc_journal.specs.declared.cell.View.{View}
use Rattle.ioc_journal.specs.Key.{Key, Has}
use Rattle.ioc_journal.specs.KeyLaws.{has_left, has_right, has_either, spares_append, continues_self}
use Rattle.ioc_journal.specs.Line.{Continues, holder}
use Rattle.ioc_journal.specs.Legal.{IsLegal}
use Rattle.ioc_journal.specs.Account.{IsHolder, AreNoDesks, AreMerged, Pass}
use Rattle.ioc_journaled_set.specs.Passes.{Slot, view_of, view_in, IsPassOf, OwnApart, IsTakenOver, AreTakenOver}

-- A list that continues from one that continues from another continues from that one.
pub continues_on : (seen mid log : List Note) (ks ls : List Key) → Continues seen ks mid → Continues mid ls log → ((key : Key) → Has key ks → Has key ls) → Continues seen ks log
continues_on seen mid log ks ls a b among = (
  a.0 ++ b.0,
  b.1 ∙ ap (λ (l : List Note). l ++ b.0) a.1 ∙ append_assoc seen a.0 b.0,
  λ key has. spares_append key a.0 b.0 (a.2 key has) (b.2 key (among key has)),
)

-- A pass that took over the keys of another is still one of the engine without keys of desks.
pub pass_then : (table : TableId) (v p : Pass) (v' : Pass) (log : List Note) → IsPassOf table v → IsPassOf table p → v'.table_id ≡ v.table_id → view_of v' ≡ holder log ((view_of v).owns ++ (view_of p).owns) → IsPassOf table v'
pass_then table v p v' log one other same is = record {
  same = same ∙ one.same;
  holder = subst (λ (x : View). IsHolder x) (sym is) refl;
  no_desks = subst (λ (x : View). AreNoDesks x.owns) (sym is)
      (λ key has. ⊎_elim (λ (x : Has key (view_of v).owns). one.no_desks key x) (λ (y : Has key (view_of p).owns). other.no_desks key y) (has_either key (view_of v).owns (view_of p).owns has));
}

module _ {R : Type 0} (k : RecordRules R) (base : World R) where
  pub none_taken : (v : View) → AreTakenOver k base v [] v
  none_taken v = record {
    sound = λ some. absurd (omega (arith, some));
    goes_on = continues_self v.seen v.owns;
    owned = λ key has. has;
    taken = λ i d lt. absurd (omega (arith, lt));
    apart = λ i j d lt within. absurd (omega (arith, within));
  }

  module _ (before v : View) (ps : List Slot) (p : Slot) (log : List Note) (v' p' : View) (taken : AreTakenOver k base before ps v) (merged : AreMerged k base v (view_in p) log v' p')
      (apart : (key : Key) → Has key v.owns → Has key (view_in p).owns → ⊥) where
    seen_then : v'.seen ≡ log
    seen_then = ap (λ (x : View). x.seen) merged.one_owns

    owns_then : v'.owns ≡ v.owns ++ (view_in p).owns
    owns_then = ap (λ (x : View). x.owns) merged.one_owns

    still : (key : Key) → Has key v.owns → Has key v'.owns
    still key has = subst (Has key) (sym owns_then) (has_left key v.owns (view_in p).owns has)

    goes_still : (seen : List Note) (ks : List Key) → Continues seen ks v.seen → ((key : Key) → Has key ks → Has key v.owns) → Continues seen ks v'.seen
    goes_still seen ks goes among = subst (λ (l : List Note). Continues seen ks l) (sym seen_then) (continues_on seen v.seen log ks v.owns goes merged.goes_on among)

    pub one_more_taken : AreTakenOver k base before (ps ++ p ∷ []) v'
    one_more_taken = record {
      sound = λ _. (merged.sound, subst (IsLegal k base) (sym seen_then) merged.legal);
      goes_on = goes_still before.seen before.owns taken.goes_on taken.owned;
      owned = λ key has. still key (taken.owned key has);
      taken = All-push (IsTakenOver v') ps p
          (λ i d lt. record {
            goes_on = goes_still (view_in (get_or ps i d)).seen (view_in (get_or ps i d)).owns (taken.taken i d lt).goes_on (taken.taken i d lt).owned;
            owned = λ key has. still key ((taken.taken i d lt).owned key has);
          })
          (record {
            goes_on = subst (λ (l : List Note). Continues (view_in p).seen (view_in p).owns l) (sym seen_then) merged.also_goes_on;
            owned = λ key has. subst (Has key) (sym owns_then) (has_right key v.owns (view_in p).owns has);
          });
      apart = all_pairs_push OwnApart ps p taken.apart (λ i d lt. λ key here there. apart key ((taken.taken i d lt).owned key here) there);
    }
