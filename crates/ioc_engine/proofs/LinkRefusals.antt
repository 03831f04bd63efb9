-- What the refusals and the replies of link changes tell of the types of records.
use Rattle.std.proofs.Common.{◌≡◌, ℕ, true, false, List, Option, Some, None, refl, sym, subst, ◌∙◌, inl, inr}
use Rattle.std.specs.Prelude.{is_some, slice_get, unwrap_or}
use Rattle.std.specs.Option.{option_and_then}
use Rattle.std.specs.FinMap.{get, keys, contains_key-keys}
use Rattle.std.proofs.lemmas.Cmp.{eq_by_cmp_equiv, nat_cmp_total}
use Rattle.std.proofs.lemmas.Map.Views.{list_any-from_Contains}
use Rattle.ioc_values.specs.declared.error.IocError.{IocError}
use Rattle.ioc_links.specs.declared.link.LinkKind.{LinkKind}
use Rattle.ioc_fields.specs.declared.record_type.RecordType.{RecordType}
use Rattle.ioc_fields.specs.declared.field_kind.FieldKind.{FieldKind}
use Rattle.ioc_fields.specs.declared.field_kind.FieldKind.TheVariants.{Link as Link-kind}
use Rattle.ioc_fields.specs.Table.{kind_of, is_link, is_link_kind}
use Rattle.ioc_dbcommon.specs.declared.link_field.LinkField.{LinkField}
use Rattle.rec_types.specs.Record.{Record, record_rules}
use Rattle.rec_types.specs.RecordLaws.{record_lawful}
use Rattle.ioc_store.specs.World.{World, at}
use Rattle.ioc_engine_core.specs.Linked.{IsNoLink, LinkWasRefused}
use Rattle.ioc_engine.specs.declared.channel.Channel.{Channel}
use Rattle.ioc_engine.specs.Relinking.{link_kind_in, kind_at, IsBadText}
use Rattle.ioc_engine.specs.Types.{HeldKeepTypes, AreTypesOf}
use Rattle.ioc_engine.specs.Refusals.{type_of, IsLinkField, IsLinkError}
use Rattle.ioc_engine.proofs.TypeRefusals.{held-type}

-- A kind of links is that of a link field, and no other field has one.
kind_is : (o : Option FieldKind) (kind : LinkKind) → link_kind_in o ≡ Some kind → is_link_kind o ≡ true
kind_is (Some (Link-kind role)) kind is = refl
kind_is o kind is = cc

kind_no : (o : Option FieldKind) → link_kind_in o ≡ None → is_link_kind o ≡ false
kind_no (Some (Link-kind role)) is = cc
kind_no o is = refl

module _ (base : World Record) (c : Channel) where
  module _ (count : ℕ) (types : List RecordType) (are : AreTypesOf base count types) where
    link_at : (kind : LinkKind) (o : Option RecordType) → slice_get types c.number ≡ o → option_and_then (λ type. link_kind_in (kind_of type c.field)) o ≡ Some kind → IsLinkField base c
    link_at kind None here is = cc
    link_at kind (Some type) here is = subst (λ (t : RecordType). is_link t c.field ≡ true) (sym (are.each c.number type here)) (kind_is (kind_of type c.field) kind is)

    -- A text that spells a link for a field is of a link field.
    pub link-there : (kind : LinkKind) → kind_at types c ≡ Some kind → IsLinkField base c
    link-there kind is = link_at kind (slice_get types c.number) refl is

    none_at : (o : Option RecordType) → slice_get types c.number ≡ o → is_some o ≡ true → option_and_then (λ type. link_kind_in (kind_of type c.field)) o ≡ None → IsLinkField base c → ⊥
    none_at None here has is link = cc
    none_at (Some type) here has is link =
        let yes : is_link type c.field ≡ true = subst (λ (t : RecordType). is_link t c.field ≡ true) (are.each c.number type here) link in
        let isnt = kind_no (kind_of type c.field) is in cc

    -- The error of a text that spells no link.
    pub refused-text : (text : List ℕ) (error : IocError) → IsBadText types c text error → IsLinkError base c error
    refused-text text error (inl e) = subst (IsLinkError base c) (sym e.0) tt
    refused-text text error (inr (inl e)) = subst (IsLinkError base c) (sym e.0) (none_at (slice_get types c.number) refl e.1 e.2)
    refused-text text error (inr (inr e)) = subst (IsLinkError base c) (sym e.0) tt

  -- A link change of the record with this number, which is that of the channel.
  module _ {D : Type 0} (keep : HeldKeepTypes record_rules) (n : ℕ) (same : n ≡ c.number) where
    link_in : (why : IsNoLink D record_rules base n c.field) (o : Option Record) → get why.held.set.records n ≡ o → is_some o ≡ true → record_rules.record_type (unwrap_or o record_rules.missing) ≡ type_of base c
        → IsLinkField base c → ⊥
    link_in why None here has type link = cc
    link_in why (Some r) here has type link = why.none (r, here, record_lawful.link_there r c.field ∙ subst (λ (t : RecordType). is_link t c.field ≡ true) (sym type) link)

    no_link : IsNoLink D record_rules base n c.field → IsLinkField base c → ⊥
    unfolding at
    no_link why link =
        let has = contains_key-keys why.held.set.records n ∙ list_any-from_Contains (eq_by_cmp_equiv nat_cmp_total) n (keys why.held.set.records) why.here in
        link_in why (get why.held.set.records n) refl has (held-type base c keep n same why.held why.here why.sound) link

    -- The error of a link change that was refused.
    pub refused-link : (count : ℕ) (field : LinkField) (error : IocError) → LinkWasRefused D record_rules base count n c.field field error → IsLinkError base c error
    refused-link count field error (inl e) = subst (IsLinkError base c) (sym e) tt
    refused-link count field error (inr (inl (inl e))) = subst (IsLinkError base c) (sym e) tt
    refused-link count field error (inr (inl (inr e))) = subst (IsLinkError base c) (sym e) tt
    refused-link count field error (inr (inr (inl (inl e)))) = subst (IsLinkError base c) (sym e.0) tt
    refused-link count field error (inr (inr (inl (inr e)))) = subst (IsLinkError base c) (sym e.0) tt
    refused-link count field error (inr (inr (inr e))) = subst (IsLinkError base c) (sym e.0) (no_link e.1)
