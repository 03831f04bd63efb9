-- What the refusals and the replies of calls tell of the types of records.
use Rattle.std.proofs.Common.{◌≡◌, ◌⊎◌, ℕ, Bool, true, false, cond, not, List, Option, Some, None, Result, Ok, Err, refl, sym, ap, subst, ◌∙◌, inl, inr}
use Rattle.std.specs.Prelude.{Contains, IfOk, IfErr, is_some}
use Rattle.std.specs.Option.{option_map_or}
use Rattle.std.specs.Result.{result_err}
use Rattle.std.specs.FinMap.{keys, contains_key, contains_key-keys}
use Rattle.std.proofs.lemmas.Cmp.{eq_by_cmp_equiv, nat_cmp_total}
use Rattle.std.proofs.lemmas.Map.Views.{list_any-from_Contains}
use Rattle.ioc_values.specs.declared.error.IocError.{IocError}
use Rattle.ioc_values.specs.declared.error.IocError.TheVariants.{NoRecord, NoField, NoMod}
use Rattle.ioc_values.specs.declared.input.Input.{Input}
use Rattle.ioc_device.specs.declared.Ask.{Ask}
use Rattle.ioc_device.specs.declared.Answer.{Answer}
use Rattle.ioc_fields.specs.declared.record_type.RecordType.{RecordType}
use Rattle.ioc_fields.specs.declared.row.Row.{Row}
use Rattle.ioc_fields.specs.Table.{row_of}
use Rattle.ioc_record.specs.Values.{kind_to_put, kind_to_put_by}
use Rattle.rec_types.specs.Record.{Record, record_rules}
use Rattle.ioc_store.specs.World.{World}
use Rattle.ioc_events.specs.declared.reply.Reply.{Reply}
use Rattle.ioc_events.specs.declared.event.Event.TheVariants.{Put, Notify}
use Rattle.ioc_events.specs.Step.{shown}
use Rattle.ioc_set.specs.SetState.{now_of}
use Rattle.ioc_set.specs.NoCalls.{no_call}
use Rattle.ioc_journaled_set.specs.Holding.{HeldView, numbers_of, IsSoundlyHeld}
use Rattle.ioc_journal.specs.Account.{DeskView}
use Rattle.ioc_engine_core.specs.Served.{CallIsRefused, GetIsRefused, WasTold, WasServed, WasBegun}
use Rattle.ioc_engine.specs.declared.channel.Channel.{Channel}
use Rattle.ioc_engine.specs.Types.{type_at, HeldKeepTypes}
use Rattle.ioc_engine.specs.Refusals.{type_of, HasField, CanBePut, IsGetError, IsPutError}

-- What follows from a result, and from an error.
pub ok_then : {A E : Type 0} (P Q : A → Type 0) (r : Result A E) → ((x : A) → P x → Q x) → IfOk r P → IfOk r Q
ok_then P Q (Ok x) then is = then x is
ok_then P Q (Err e) then is = is

pub err_then : {A E : Type 0} (P Q : E → Type 0) (r : Result A E) → ((e : E) → P e → Q e) → IfErr r P → IfErr r Q
err_then P Q (Ok x) then is = is
err_then P Q (Err e) then is = then e is

-- Whether a record has a field, by what a get answers.
shown_lacks : (there has : Bool) (text : List ℕ) (error : IocError) → there ≡ true → cond (not there) (Err NoRecord) (cond has (Ok text) (Err NoField)) ≡ Err error → (has ≡ false) × (error ≡ NoField)
shown_lacks true true text error is e = cc
shown_lacks true false text error is e = (refl, cc)
shown_lacks false has text error is e = cc

shown_has : (there has : Bool) (text shown_so : List ℕ) → there ≡ true → cond (not there) (Err NoRecord) (cond has (Ok text) (Err NoField)) ≡ Ok shown_so → has ≡ true
shown_has true true text shown_so is e = refl
shown_has true false text shown_so is e = cc
shown_has false has text shown_so is e = cc

-- Why a field isn't put, by its row.
abbrev puts_row : Option Row → Bool
puts_row row = option_map_or (λ r. r.can_put) row false

put_row : (row : Option Row) (error : IocError) → result_err (kind_to_put_by row) ≡ Some error → ((error ≡ NoField) × (is_some row ≡ false)) ⊎ ((error ≡ NoMod) × (is_some row ≡ true) × (puts_row row ≡ false))
put_row None error is = inl (cc, refl)
put_row (Some row) error is = elim row.can_put as (λ b. row.can_put ≡ b → result_err (cond b (Ok row.kind) (Err NoMod)) ≡ Some error
    → ((error ≡ NoField) × (true ≡ false)) ⊎ ((error ≡ NoMod) × (true ≡ true) × (row.can_put ≡ false))) [
      | true ↦ λ can why. cc
      | false ↦ λ cannot why. inr (cc, refl, cannot)
    ] refl is

put_there : (row : Option Row) → result_err (kind_to_put_by row) ≡ None → puts_row row ≡ true
put_there None is = cc
put_there (Some row) is = elim row.can_put as (λ b. row.can_put ≡ b → result_err (cond b (Ok row.kind) (Err NoMod)) ≡ None → row.can_put ≡ true) [
  | true ↦ λ can why. can
  | false ↦ λ cannot why. cc
] refl is

module _ (base : World Record) (c : Channel) where
  agrees-put : (error : IocError) → result_err (kind_to_put (type_of base c) c.field) ≡ Some error → IsPutError base c error
  unfolding kind_to_put
  agrees-put error is = elim (put_row (row_of (type_of base c) c.field) error is) [
    | inl lacks ↦ subst (IsPutError base c) (sym lacks.0) (λ has. let e = lacks.1 in cc)
    | inr cannot ↦ subst (IsPutError base c) (sym cannot.0) (cannot.1, λ can. let e = cannot.2 in cc)
  ]

  can-put : result_err (kind_to_put (type_of base c) c.field) ≡ None → CanBePut base c
  unfolding kind_to_put
  can-put is = put_there (row_of (type_of base c) c.field) is

  -- A call on the record with this number, which is that of the channel.
  module _ {D : Type 0} (keep : HeldKeepTypes record_rules) (n : ℕ) (same : n ≡ c.number) where
    -- The record has the type that it had at the load.
    pub held-type : (held : HeldView Record D) → Contains (numbers_of held) n → IsSoundlyHeld record_rules base held → type_at record_rules (now_of held.set) n ≡ type_of base c
    held-type held here sound =
        keep base (now_of held.set) held.seen sound.holds n (contains_key-keys held.set.records n ∙ list_any-from_Contains (eq_by_cmp_equiv nat_cmp_total) n (keys held.set.records) here)
        ∙ ap (λ (m : ℕ). type_at record_rules base m) same

    held-there : (held : HeldView Record D) → Contains (numbers_of held) n → contains_key (now_of held.set).records n ≡ true
    held-there held here = contains_key-keys held.set.records n ∙ list_any-from_Contains (eq_by_cmp_equiv nat_cmp_total) n (keys held.set.records) here

    same-row : (held : HeldView Record D) → Contains (numbers_of held) n → IsSoundlyHeld record_rules base held
        → is_some (row_of (type_at record_rules (now_of held.set) n) c.field) ≡ is_some (row_of (type_of base c) c.field)
    same-row held here sound = ap (λ (t : RecordType). is_some (row_of t c.field)) (held-type held here sound)

    -- A get of a held record is refused only if the record's type has no such field, and else tells
    -- its text.
    get-refused : (held : HeldView Record D) → Contains (numbers_of held) n → IsSoundlyHeld record_rules base held → (error : IocError)
        → shown record_rules (now_of held.set) n c.field ≡ Err error → IsGetError base c error
    unfolding shown
    get-refused held here sound error is =
        let lacks = shown_lacks (contains_key (now_of held.set).records n) (is_some (row_of (type_at record_rules (now_of held.set) n) c.field)) _ error (held-there held here) is in
        subst (IsGetError base c) (sym lacks.1) (λ has. let no : true ≡ false = sym has ∙ sym (same-row held here sound) ∙ lacks.0 in cc)

    get-has : (held : HeldView Record D) → Contains (numbers_of held) n → IsSoundlyHeld record_rules base held → (text : List ℕ)
        → shown record_rules (now_of held.set) n c.field ≡ Ok text → HasField base c
    unfolding shown
    get-has held here sound text is =
        sym (same-row held here sound) ∙ shown_has (contains_key (now_of held.set).records n) (is_some (row_of (type_at record_rules (now_of held.set) n) c.field)) _ text (held-there held here) is

    put-why : (held : HeldView Record D) → Contains (numbers_of held) n → IsSoundlyHeld record_rules base held → (given : Input)
        → no_call record_rules (now_of held.set) (Put n c.field given) ≡ result_err (kind_to_put (type_of base c) c.field)
    unfolding no_call
    put-why held here sound given = ap (λ (t : RecordType). result_err (kind_to_put t c.field)) (held-type held here sound)

    notify-why : (held : HeldView Record D) → Contains (numbers_of held) n → IsSoundlyHeld record_rules base held → (number : ℕ) (given : Input)
        → no_call record_rules (now_of held.set) (Notify n number c.field given) ≡ result_err (kind_to_put (type_of base c) c.field)
    unfolding no_call
    notify-why held here sound number given = ap (λ (t : RecordType). result_err (kind_to_put t c.field)) (held-type held here sound)

    -- A call that was answered had a field of the record's type.
    pub told-has : {desk desk_then : DeskView} {at_moment : ℕ} {text : List ℕ} → WasTold D record_rules base n desk at_moment c.field text desk_then → HasField base c
    told-has {text = text} was = get-has was.held was.here was.before text was.tells.answer

    pub served-can : {gives : D → Ask → ℕ → Answer → D → Type 0} {limit : ℕ} {desk desk_then : DeskView} {at_moment : ℕ} {given : Input} {reply : Reply} {come_to : World Record}
        → WasServed D record_rules base gives limit n desk at_moment (Put n c.field given) reply desk_then come_to → CanBePut base c
    served-can {gives} {limit} {desk} {desk_then} {at_moment} {given} was = can-put (sym (put-why was.held was.here was.before given) ∙ was.serves.is_call)

    pub begun-can : {gives : D → Ask → ℕ → Answer → D → Type 0} {limit : ℕ} {desk desk_then : DeskView} {at_moment : ℕ} {given : Input} {reply : Reply} {come_to : World Record}
        → WasBegun D record_rules base gives limit n desk at_moment c.field given reply desk_then come_to → CanBePut base c
    begun-can {gives} {limit} {desk} {desk_then} {at_moment} {given} was = can-put (sym (notify-why was.held was.here was.before was.begins.number given) ∙ was.begins.serves.is_call)

    -- The error of a get that was refused, and that of a put.
    pub refused-get : (count : ℕ) (error : IocError) → GetIsRefused D record_rules base count n c.field error → IsGetError base c error
    refused-get count error (inl e) = subst (IsGetError base c) (sym e) tt
    refused-get count error (inr (inl (inl e))) = subst (IsGetError base c) (sym e) tt
    refused-get count error (inr (inl (inr e))) = subst (IsGetError base c) (sym e) tt
    refused-get count error (inr (inr (inl e))) = subst (IsGetError base c) (sym e.0) tt
    refused-get count error (inr (inr (inr unread))) = get-refused unread.held unread.here unread.sound error unread.none

    pub refused-put : (count : ℕ) (error : IocError) {given : Input} → CallIsRefused D record_rules base count n (Put n c.field given) error → IsPutError base c error
    refused-put count error (inl e) = subst (IsPutError base c) (sym e) tt
    refused-put count error (inr (inl (inl e))) = subst (IsPutError base c) (sym e) tt
    refused-put count error (inr (inl (inr e))) = subst (IsPutError base c) (sym e) tt
    refused-put count error (inr (inr (inl e))) = subst (IsPutError base c) (sym e.0) tt
    refused-put count error {given} (inr (inr (inr vain))) = agrees-put error (sym (put-why vain.held vain.here vain.sound given) ∙ vain.none)
