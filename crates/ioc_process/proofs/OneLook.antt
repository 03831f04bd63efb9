-- A record that was put is put again.
use Rattle.std.proofs.Common.{◌≡◌, ℕ, Bool, true, false, cond, Option, Some, None, refl, sym, ap, ◌∙◌}
use Rattle.std.specs.Prelude.{Result, OnOk, OnErr}
use Rattle.std.specs.Ordering.{nat_cmp, eq_by_cmp}
use Rattle.std.specs.Cmp.{nat_cmp_total}
use Rattle.std.specs.FinMap.{FinMap, get, insert, get-insert, same_map, nat_cmp-IsAntisymmetric}
use Rattle.ioc_dbcommon.specs.declared.common.Common.{Common}
use Rattle.ioc_dbcommon.specs.Steps.{unblocked}
use Rattle.ioc_dbcommon.specs.declared.body.Output.{Output}
use Rattle.ioc_record.specs.RecordRules.{RecordRules}
use Rattle.ioc_store.specs.Marks.{at_rest}
use Rattle.ioc_store.specs.Notifying.{notified, notified_as}
use Rattle.ioc_store.specs.Rests.{rested}
use Rattle.ioc_store.specs.Showing.{shown_record, showing}
use Rattle.ioc_store.specs.World.{World, Has, at, common_at, changed, put, sent}
use Rattle.ioc_store.specs.declared.outbox.OutboxItem.TheVariants.{Once}
use Rattle.ioc_store.specs.PutBack.{on_ok, on_err_as, put-at}
use Rattle.ioc_store.specs.Worlds.{at-put_same, has-put}
use Rattle.ioc_process.specs.Looks.{Opens, Opened}
use Rattle.ioc_process.specs.declared.fast_path.IdleStart.{IdleStart}
use Rattle.ioc_process.specs.declared.fast_path.IdleStart.TheVariants.{ReadsDisable, Disabled, ReadsLink, ReadsDevice, ReadsInputs, Took, PutsOut}

twice : {X : Type 0} (b : Bool) (q r o : Option X) → cond b q (cond b r o) ≡ cond b q o
twice true q r o = refl
twice false q r o = refl

insert_twice : {X : Type 0} (m : FinMap nat_cmp X) (n : ℕ) (r q : X) → insert (insert m n r) n q ≡ insert m n q
insert_twice m n r q = same_map nat_cmp_total nat_cmp-IsAntisymmetric _ _ (λ i.
    get-insert nat_cmp_total (insert m n r) n q i
    ∙ ap (cond (eq_by_cmp nat_cmp i n) (Some q)) (get-insert nat_cmp_total m n r i)
    ∙ twice (eq_by_cmp nat_cmp i n) (Some q) (Some r) (get m i)
    ∙ sym (get-insert nat_cmp_total m n q i))

pub put_twice : {R : Type 0} (w : World R) (n : ℕ) (r q : R) → put (put w n r) n q ≡ put w n q
unfolding put
put_twice w n r q = ap (λ rs. record w { records = rs }) (insert_twice w.records n r q)

module _ {R : Type 0} (k : RecordRules R) where
  -- A change puts the record with its common fields changed.
  pub changed_at : (w : World R) (n : ℕ) (f : Common → Common) → at k (changed k w n f) n ≡ k.with_common (at k w n) (f (common_at k w n))
  unfolding changed
  changed_at w n f = at-put_same k w n _

  -- A put of the same record replaces the result of a change.
  pub changed_on : (w : World R) (n : ℕ) (f : Common → Common) (r : R) → put (changed k w n f) n r ≡ put w n r
  unfolding changed
  changed_on w n f r = put_twice w n _ r

  -- Putting the changed record back unchanged is the change itself.
  pub changed_still : (w : World R) (n : ℕ) (f : Common → Common) (r : R) → r ≡ at k (changed k w n f) n → put w n r ≡ changed k w n f
  unfolding changed
  changed_still w n f r is = ap (put w n) (is ∙ changed_at w n f)

  -- The same for a record that shows its alarms.
  pub showing_at : (w : World R) (n : ℕ) → at k (showing k w n) n ≡ shown_record k w.moment (at k w n)
  showing_at w n = at-put_same k w n _

  pub showing_on : (w : World R) (n : ℕ) (r : R) → put (showing k w n) n r ≡ put w n r
  showing_on w n r = put_twice w n _ r

  pub showing_still : (w : World R) (n : ℕ) (r : R) → r ≡ at k (showing k w n) n → put w n r ≡ showing k w n
  showing_still w n r is = ap (put w n) (is ∙ showing_at w n)

  pub showing_has : (w : World R) (n : ℕ) → Has w n → Has (showing k w n) n
  showing_has w n has = has-put k w n n _ has

  pub opened : (w : World R) (n : ℕ) (o : IdleStart) (written : Output) (r : R) (after : World R) → Opens k (at k (changed k w n unblocked) n) o written r → after ≡ put w n r
      → Opened k (changed k w n unblocked) n o written after
  opened w n ReadsDisable written r after is there = (there ∙ changed_still w n unblocked r is.0, is.1)
  opened w n Disabled written r after is there = (there ∙ changed_still w n unblocked r is.0, is.1, is.2)
  opened w n ReadsLink written r after is there = (there ∙ changed_still w n unblocked r is.0, is.1)
  opened w n ReadsDevice written r after is there = (there ∙ changed_still w n unblocked r is.0, is.1)
  opened w n ReadsInputs written r after is there = (there ∙ changed_still w n unblocked r is.0, is.1)
  opened w n Took written r after is there = (there ∙ sym (changed_on w n unblocked r) ∙ ap (put (changed k w n unblocked) n) is.0, is.1, is.2)
  opened w n PutsOut written r after is there = (there ∙ sym (changed_on w n unblocked r) ∙ ap (put (changed k w n unblocked) n) is.0, is.1, is.2)

  -- A record that is part of no put with notification and isn't marked for reprocessing ends by
  -- clearing its marks alone.
  pub rested_quietly : (w : World R) (n : ℕ) → (common_at k w n).notification ≡ None → (common_at k w n).reprocess ≡ false → put w n (k.with_common (at k w n) (at_rest (common_at k w n))) ≡ rested k w n
  unfolding rested notified notified_as changed
  rested_quietly w n none quiet =
      sym (
      ap (λ (o : Option ℕ). let it = changed k (notified_as k w n o) n at_rest in cond (common_at k w n).reprocess (sent (Once n) it) it) none
      ∙ ap (λ (b : Bool). let it = changed k w n at_rest in cond b (sent (Once n) it) it) quiet
      )

  pub changed_has : (w : World R) (n : ℕ) (f : Common → Common) → Has w n → Has (changed k w n f) n
  unfolding changed
  changed_has w n f has = has-put k w n n _ has

  -- A record that was lent and put back is the record that was put.
  pub at_back : (w v : World R) (n : ℕ) (r : R) → v ≡ put w n r → at k v n ≡ r
  at_back w v n r is = rw is (at-put_same k w n r)

  -- If what was done with it succeeds, the world has the new record.
  pub stored_back : {X E : Type 0} (w v : World R) (n : ℕ) (r : R) → v ≡ put w n r → (result : Result X E) → OnOk result (v ≡ put w n (at k v n))
  stored_back w v n r is result = on_ok result _ (is ∙ ap (put w n) (sym (at_back w v n r is)))

  -- If it fails and leaves the record unchanged, the world is unchanged.
  pub same_back : {X E : Type 0} (w v : World R) (n : ℕ) (r old : R) → v ≡ put w n r → old ≡ at k w n → Has w n → (result : Result X E) → OnErr result (r ≡ old) → OnErr result (v ≡ w)
  same_back w v n r old is was there result same = on_err_as result _ _ (λ (e : r ≡ old). is ∙ ap (put w n) (e ∙ was) ∙ put-at k w n there) same
