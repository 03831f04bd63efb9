-- The types of the loaded records, and the channels that they have.
use Rattle.std.proofs.Common.{◌≡◌, ◌<◌, ℕ, zero, suc, Bool, true, false, cond, ◌&&◌, List, [], ◌∷◌, length, map, Option, Some, None, Result, refl, sym, ap, subst, ◌∙◌}
use Rattle.std.specs.Prelude.{IfOk, is_some, slice_get, find}
use Rattle.std.proofs.lemmas.List.{length-map}
use Rattle.std.proofs.lemmas.Option.{slice_get_within}
use Rattle.ioc_values.specs.declared.error.IocError.{IocError}
use Rattle.ioc_names.specs.NameTable.{NameTable, number_of}
use Rattle.ioc_fields.specs.declared.record_type.RecordType.{RecordType}
use Rattle.ioc_fields.specs.declared.field_no.FieldNo.{FieldNo}
use Rattle.ioc_fields.specs.Names.{all_fields, field_of}
use Rattle.ioc_fields.specs.Table.{row_of}
use Rattle.ioc_set_records.specs.declared.loaded.Loaded.{Loaded}
use Rattle.rec_types.specs.Record.{Record, record_rules}
use Rattle.ioc_store.specs.World.{World, at}
use Rattle.ioc_store.specs.OneMapLaws.{get-numbered}
use Rattle.ioc_engine_core.specs.Loading.{loaded_world}
use Rattle.ioc_dblex.specs.Macros.{front_of, back_of}
use Rattle.ioc_engine.specs.declared.channel.Channel.{Channel}
use Rattle.ioc_engine.specs.Channels.{field_name, channel_at, channel_in, channel_by, channel_of}
use Rattle.ioc_engine.specs.Types.{AreTypesOf}
use Rattle.ioc_engine.specs.Refusals.{IsOfEngine}

mapped_at : (rs : List Record) (n : ℕ) (type : RecordType) → slice_get (map record_rules.record_type rs) n ≡ Some type → (r : Record) × (slice_get rs n ≡ Some r) × (record_rules.record_type r ≡ type)
mapped_at [] n type is = cc
mapped_at (r ∷ rs) zero type is = (r, refl, cc)
mapped_at (r ∷ rs) (suc n) type is = mapped_at rs n type is

module _ {D : Type 0} where
  abbrev fields : Loaded Record D → Record
  fields l = l.fields

  at_is : (all : List (Loaded Record D)) (n : ℕ) (r : Record) → slice_get (map fields all) n ≡ Some r → at record_rules (loaded_world all) n ≡ r
  unfolding at
  at_is all n r is = rw (get-numbered, is) refl

  -- The types of the records from which an engine starts.
  pub loaded_types : (all : List (Loaded Record D)) (types : List RecordType) → types ≡ map record_rules.record_type (map fields all) → AreTypesOf (loaded_world all) (length all) types
  loaded_types all types are = record {
    many = ap (λ (ts : List RecordType). length ts) are ∙ length-map (map fields all) record_rules.record_type ∙ length-map all fields;
    each = λ n type is.
        let found = mapped_at (map fields all) n type (subst (λ (ts : List RecordType). slice_get ts n ≡ Some type) are is) in
        ap record_rules.record_type (at_is all n found.0 found.1) ∙ found.2;
  }

both_right : (a b : Bool) → a && b ≡ true → b ≡ true
both_right true b is = is
both_right false b is = cc

found : (p : FieldNo → Bool) (fs : List FieldNo) (f : FieldNo) → find p fs ≡ Some f → p f ≡ true
found p [] f is = cc
found p (x ∷ xs) f is = elim (p x) as (λ b. p x ≡ b → cond b (Some x) (find p xs) ≡ Some f → p f ≡ true) [
  | true ↦ λ holds one. let e : x ≡ f = cc in subst (λ (y : FieldNo). p y ≡ true) e holds
  | false ↦ λ fails rest. found p xs f rest
] refl is

-- A field that is found by its name is one of the type.
named_there : (type : RecordType) (name : List ℕ) (field : FieldNo) → field_of type name ≡ Some field → is_some (row_of type field) ≡ true
unfolding field_of
named_there type name field is = both_right _ _ (found _ all_fields field is)

module _ (base : World Record) (count : ℕ) (types : List RecordType) (are : AreTypesOf base count types) where
  known_at : (name : List ℕ) (n : ℕ) (type : RecordType) → slice_get types n ≡ Some type → (o : Option FieldNo) → field_of type name ≡ o → IfOk (channel_at n o) (IsOfEngine base count)
  known_at name n type here None is = tt
  known_at name n type here (Some field) is = record {
    record_there = subst (λ (m : ℕ). n < m) are.many (slice_get_within types n type here);
    field_there = subst (λ (t : RecordType). is_some (row_of t field) ≡ true) (sym (are.each n type here)) (named_there type name field is);
  }

  known_in : (name : List ℕ) (n : ℕ) (o : Option RecordType) → slice_get types n ≡ o → IfOk (channel_in n name o) (IsOfEngine base count)
  known_in name n None here = tt
  known_in name n (Some type) here = known_at name n type here (field_of type name) refl

  known_by : (name : List ℕ) (o : Option ℕ) → IfOk (channel_by types name o) (IsOfEngine base count)
  known_by name None = tt
  known_by name (Some n) = known_in name n (slice_get types n) refl

  -- A channel that is found by a text has a record of the engine, and a field of its type.
  pub channel_known : (names : NameTable) (text : List ℕ) (r : Result Channel IocError) → r ≡ channel_of names types text → IfOk r (IsOfEngine base count)
  unfolding channel_of
  channel_known names text r is = rw is (known_by (field_name (back_of 46 text)) (number_of names (front_of 46 text)))
