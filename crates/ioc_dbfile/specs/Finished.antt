-- The end of a load, at which links are resolved and constants are put. EPICS Application
-- Developer's Guide, "Database Links" and "iocInit".
use Rattle.std.specs.Prelude.{ℕ, ◌+◌, List, [], ◌∷◌, Option, Some, None, Result, Ok, map, slice_get, if◌then◌else◌}
use Rattle.ioc_names.specs.NameTable.{NameTable, number_of, no_names}
use Rattle.ioc_links.specs.declared.link.Link.{Link}
use Rattle.ioc_links.specs.declared.link.Link.TheVariants.{Device, Database}
use Rattle.ioc_links.specs.declared.link.Target.{Target}
use Rattle.ioc_fields.specs.declared.record_type.RecordType.{RecordType}
use Rattle.ioc_fields.specs.declared.field_no.FieldNo.{FieldNo}
use Rattle.ioc_fields.specs.Names.{field_of}
use Rattle.ioc_dbcommon.specs.declared.link_field.LinkField.{LinkField}
use Rattle.ioc_dbcommon.specs.declared.link_field.FieldAddress.{FieldAddress}
use Rattle.ioc_dbcommon.specs.declared.link_field.Lead.{Lead}
use Rattle.ioc_dbcommon.specs.declared.link_field.Lead.TheVariants.{Nowhere, Field}
use Rattle.ioc_fields.specs.Table.{kind_of, is_value_kind}
use Rattle.ioc_record.specs.RecordRules.{RecordRules}
use Rattle.ioc_values.specs.declared.error.DbFault.{DbFault}
use Rattle.ioc_dbparse.specs.Statements.{◌>>=◌}
use Rattle.ioc_dbfile.specs.Loader.{Loading, loading}
use Rattle.ioc_dblex.specs.Macros.{Defined}
use Rattle.ioc_dbparse.specs.Loading.{filled_by}
use Rattle.ioc_dbfile.specs.Owners.{owner_of, device_lead}

-- The field as the target of a link, if it exists and has a value: it is neither a link field itself nor an expression.
abbrev pub target_field : ℕ → RecordType → Option FieldNo → Option FieldAddress
target_field n type None = None
target_field n type (Some field) = if is_value_kind (kind_of type field) then Some (record { number = n; field = field }) else None

-- The field with this name in a record of this type, as the target of a link.
abbrev pub target_in : ℕ → List ℕ → Option RecordType → Option FieldAddress
target_in n name None = None
target_in n name (Some type) = target_field n type (field_of type name)

-- The field with this name in the record with this number, as the target of a link.
abbrev pub target_at : List RecordType → List ℕ → Option ℕ → Option FieldAddress
target_at types name None = None
target_at types name (Some n) = target_in n name (slice_get types n)

-- The field that a database link leads to, in a database with these names and types of records.
unfoldable pub standing_of : NameTable → List RecordType → Target → Option FieldAddress
standing_of names types target = target_at types target.field (number_of names target.record_name)

-- A lead to the field, if there is one.
abbrev pub lead_of : Option FieldAddress → Lead
lead_of None = Nowhere
lead_of (Some to) = Field to

-- The owner of the device with a name.
abbrev pub Owner : Type 0
Owner = List ℕ → Option ℕ

-- Where a link of record `n` leads.
abbrev pub leads_to : NameTable → List RecordType → Owner → ℕ → Link → Lead
leads_to names types owner n (Database target flags) = lead_of (standing_of names types target)
leads_to names types owner n (Device text) = device_lead n (owner text)
leads_to names types owner n _ = Nowhere

-- The results of `f` for the number and value of each item of a list, with numbers from `n` on.
abbrev pub by_place : {A : Type 0} → (ℕ → A → A) → ℕ → List A → List A
by_place f n [] = []
by_place f n (x ∷ xs) = f n x ∷ by_place f (n + 1) xs

module _ {R : Type 0} (k : RecordRules R) where
  -- Record `n` with a link field resolved.
  abbrev pub with_standing : NameTable → List RecordType → Owner → ℕ → R → FieldNo → Option LinkField → R
  with_standing names types owner n r field None = r
  with_standing names types owner n r field (Some l) =
      k.with_link r field (record { link = l.link; lead = leads_to names types owner n l.link })

  -- Record `n` with this field resolved, if it is a link field.
  unfoldable pub linked : NameTable → List RecordType → Owner → ℕ → FieldNo → R → R
  linked names types owner n field r = with_standing names types owner n r field (k.link r field)

  -- Record `n` with these fields resolved.
  abbrev pub linked_all : NameTable → List RecordType → Owner → ℕ → List FieldNo → R → R
  linked_all names types owner n [] r = r
  linked_all names types owner n (field ∷ fields) r = linked_all names types owner n fields (linked names types owner n field r)

  -- Record `n` at the end of a load.
  unfoldable pub finished : NameTable → List RecordType → Owner → ℕ → R → R
  finished names types owner n r = k.loaded (linked_all names types owner n (k.link_fields r) r)

  -- All records at the end of a load.
  abbrev pub all_finished : Loading R → Loading R
  all_finished s =
      record { names = s.names; records = by_place (finished s.names (map k.record_type s.records) (owner_of k s.records)) 0 s.records }

  -- The database of a text with these macros, or its first fault.
  unfoldable pub loaded_by : (RecordType → List ℕ → R) → List Defined → List ℕ → Result (Loading R) DbFault
  loaded_by created macros text =
      filled_by (loading k created) (record { names = no_names; records = [] }) macros text >>= λ s. Ok (all_finished s)
