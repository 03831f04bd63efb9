-- A put that is no call would be refused with its error, and change nothing.
use Rattle.std.proofs.Common.{◌≡◌, ◌⊎◌, inl, inr, subst, ℕ, zero, true, false, List, [], ◌∷◌, Option, Some, None, Result, Ok, Err, refl, sym, ap, arith}
use Rattle.std.specs.Prelude.{Contains, is_some, unwrap_or}
use Rattle.std.specs.Option.{IfSome}
use Rattle.std.specs.Result.{result_err}
use Rattle.ioc_values.specs.declared.error.IocError.{IocError}
use Rattle.ioc_values.specs.declared.error.IocError.TheVariants.{NoField}
use Rattle.ioc_values.specs.declared.input.Input.{Input}
use Rattle.ioc_fields.specs.declared.field_no.FieldNo.{FieldNo}
use Rattle.ioc_fields.specs.declared.field_kind.FieldKind.{FieldKind}
use Rattle.ioc_record.specs.RecordRules.{RecordRules}
use Rattle.ioc_record.specs.Values.{kind_to_put, put_field, put_tested, tested_by, put_once_tested}
use Rattle.ioc_store.specs.World.{World, Has, at}
use Rattle.ioc_store.specs.Given.{Answers}
use Rattle.ioc_events.specs.declared.event.Event.{Event}
use Rattle.ioc_events.specs.declared.event.Event.TheVariants.{Put, Process, Complete, Notify, Cancel}
use Rattle.ioc_events.specs.Starting.{value_if, value_to_put}
use Rattle.ioc_events.specs.Step.{stepped, done_alone, done_there, names, refused}
use Rattle.ioc_set.specs.NoCalls.{no_call}

none_is : {A : Type 0} (x : A) → None ≡ Some x → ⊥
none_is {A = A} x e = let h : false ≡ true = ap (λ (o : Option A). is_some o) e in cc

first_in : (n : ℕ) (ns : List ℕ) → Contains (n ∷ ns) n
first_in n ns = (zero, omega arith, refl)

-- The record of a put, with or without notification, is there if the records that it names are.
pub put_there : {R : Type 0} (w : World R) (event : Event) (s : ℕ) (field : FieldNo) → ((n : ℕ) → Contains (names event) n → Has w n)
    → ((given : Input) × (event ≡ Put s field given)) ⊎ ((n : ℕ) × (given : Input) × (event ≡ Notify s n field given)) → Has w s
put_there w event s field there (inl is) = there s (subst (λ (e : Event). Contains (names e) s) (sym is.1) (first_in s []))
put_there w event s field there (inr is) = there s (subst (λ (e : Event). Contains (names e) s) (sym is.2) (first_in s []))

module _ {R : Type 0} (k : RecordRules R) (answers : Answers) (w : World R) where
  by_kind : (r : R) (field : FieldNo) (given : Input) (kind : Result FieldKind IocError) (e : IocError) → result_err kind ≡ Some e → put_once_tested k r field given (tested_by k r field kind) ≡ Err e
  by_kind r field given (Ok x) e why = absurd (none_is e why)
  by_kind r field given (Err x) e why = ap (λ (o : Option IocError). Err (unwrap_or o NoField)) why

  by_value : (r : R) (field : FieldNo) (given : Input) (kind : Result FieldKind IocError) (e : IocError) → result_err kind ≡ Some e → value_if k r field given (tested_by k r field kind) ≡ Err e
  by_value r field given (Ok x) e why = absurd (none_is e why)
  by_value r field given (Err x) e why = ap (λ (o : Option IocError). Err (unwrap_or o NoField)) why

  put_refused : (s : ℕ) (field : FieldNo) (given : Input) (e : IocError) → Has w s → result_err (kind_to_put (k.record_type (at k w s)) field) ≡ Some e → stepped k answers w (Put s field given) ≡ refused w e
  unfolding stepped done_alone done_there put_field put_tested
  put_refused s field given e has why = rw (has, by_kind (at k w s) field given (kind_to_put (k.record_type (at k w s)) field) e why) refl

  notify_refused : (s n : ℕ) (field : FieldNo) (given : Input) (e : IocError) → Has w s → result_err (kind_to_put (k.record_type (at k w s)) field) ≡ Some e → stepped k answers w (Notify s n field given) ≡ refused w e
  unfolding stepped done_alone done_there value_to_put put_tested
  notify_refused s n field given e has why = rw (has, by_value (at k w s) field given (kind_to_put (k.record_type (at k w s)) field) e why) refl

  no_call_refused : (event : Event) (e : IocError) → ((n : ℕ) → Contains (names event) n → Has w n) → no_call k w event ≡ Some e → stepped k answers w event ≡ refused w e
  unfolding no_call
  no_call_refused (Put s field given) e there why = put_refused s field given e (there s (first_in s [])) why
  no_call_refused (Process s) e there why = absurd (none_is e why)
  no_call_refused (Complete s n x) e there why = absurd (none_is e why)
  no_call_refused (Notify s n field given) e there why = notify_refused s n field given e (there s (first_in s [])) why
  no_call_refused (Cancel n) e there why = absurd (none_is e why)

pub no_call_is_refused : {R : Type 0} (k : RecordRules R) (w : World R) (event : Event) (result : Option IocError) → ((n : ℕ) → Contains (names event) n → Has w n) → result ≡ no_call k w event
    → IfSome result (λ e. (answers : Answers) → stepped k answers w event ≡ refused w e)
no_call_is_refused k w event None there is = tt
no_call_is_refused k w event (Some e) there is = λ answers. no_call_refused k answers w event e there (sym is)
