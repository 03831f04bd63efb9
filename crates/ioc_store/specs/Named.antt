-- A standing link of a record names one of its targets.
use Rattle.std.proofs.Common.{◌≡◌, true, Option, Some, None, refl, sym, ap, ◌∙◌, arith}
use Rattle.std.specs.Prelude.{Contains, is_some, slice_get}
use Rattle.ioc_fields.specs.declared.field_no.FieldNo.{FieldNo}
use Rattle.ioc_fields.specs.LinkFields.{link_fields_are, stands_among_links}
use Rattle.ioc_dbcommon.specs.declared.link_field.LinkField.{LinkField}
use Rattle.ioc_dbcommon.specs.declared.link_field.LinkUse.{LinkUse}
use Rattle.ioc_dbcommon.specs.declared.link_field.LinkUse.TheVariants.{Standing}
use Rattle.ioc_dbcommon.specs.declared.link_field.StandingLink.{StandingLink}
use Rattle.ioc_dbcommon.specs.Links.{use_of, named_by, named_by_field}
use Rattle.ioc_record.specs.RecordRules.{RecordRules, targets}
use Rattle.ioc_record.specs.Laws.{IsLawful}
use Rattle.ioc_record.specs.WholeLaws.{named_in}
use Rattle.ioc_store.specs.Links.{use_of_field}

named_once : (link : LinkUse) (t : StandingLink) → link ≡ Standing t → Contains (named_by link) t.number
named_once link t is = rw is (0, omega arith, refl)

field_names : (o : Option LinkField) (t : StandingLink) → use_of_field o ≡ Standing t → Contains (named_by_field o) t.number
field_names None t is = cc
field_names (Some field) t is = named_once (use_of field) t is

is_there : (o : Option LinkField) (t : StandingLink) → use_of_field o ≡ Standing t → is_some o ≡ true
is_there None t is = cc
is_there (Some field) t is = refl

pub link_named : {R : Type 0} (k : RecordRules R) → IsLawful k → (r : R) (f : FieldNo) (t : StandingLink) → use_of_field (k.link r f) ≡ Standing t → Contains (targets k r) t.number
link_named k lawful r f t is =
    let at = stands_among_links (k.record_type r) f (sym (lawful.link_there r f) ∙ is_there (k.link r f) t is) in
    let fields = lawful.link_fields_are r ∙ sym (link_fields_are (k.record_type r)) in
    named_in (k.link r) (k.link_fields r) at.0 f t.number (ap (λ fs. slice_get fs at.0) fields ∙ at.1) (field_names (k.link r f) t is)
