-- A record, a source or a drive with the same link in each link field has the same links.
use Rattle.std.proofs.Common.{◌≡◌, Option, ap}
use Rattle.std.specs.Prelude.{unwrap_or}
use Rattle.ioc_fields.specs.declared.field_no.FieldNo.{FieldNo}
use Rattle.ioc_fields.specs.declared.field_no.FieldNo.TheVariants.{Common as Common-field, Own}
use Rattle.ioc_fields.specs.declared.field_no.OwnField.{OwnField}
use Rattle.ioc_fields.specs.declared.field_no.OwnField.TheVariants.{Inp, Out, Dol}
use Rattle.ioc_fields.specs.declared.field_no.CommonField.TheVariants.{Sdis, Flnk}
use Rattle.ioc_dbcommon.specs.declared.link_field.LinkField.{LinkField}
use Rattle.ioc_dbcommon.specs.Links.{no_link}
use Rattle.ioc_dbcommon.specs.Source.{source_link}
use Rattle.ioc_dbcommon.specs.Drive.{drive_link}
use Rattle.ioc_record.specs.Whole.{link_from}

pub same_disable : (d f e g : LinkField) (k l : OwnField → Option LinkField) → link_from d f k ≡ link_from e g l → d ≡ e
same_disable d f e g k l same = ap (λ (links : FieldNo → Option LinkField). unwrap_or (links (Common-field Sdis)) no_link) same

pub same_forward : (d f e g : LinkField) (k l : OwnField → Option LinkField) → link_from d f k ≡ link_from e g l → f ≡ g
same_forward d f e g k l same = ap (λ (links : FieldNo → Option LinkField). unwrap_or (links (Common-field Flnk)) no_link) same

pub same_own : (d f e g : LinkField) (k l : OwnField → Option LinkField) → link_from d f k ≡ link_from e g l → k ≡ l
same_own d f e g k l same = ap {B = OwnField → Option LinkField} (λ (links : FieldNo → Option LinkField). λ field. links (Own field)) same

pub same_input : (a b : LinkField) → source_link a ≡ source_link b → a ≡ b
same_input a b same = ap (λ (links : OwnField → Option LinkField). unwrap_or (links Inp) no_link) same

pub same_output : (o d p e : LinkField) → drive_link o d ≡ drive_link p e → o ≡ p
same_output o d p e same = ap (λ (links : OwnField → Option LinkField). unwrap_or (links Out) no_link) same

pub same_desired : (o d p e : LinkField) → drive_link o d ≡ drive_link p e → d ≡ e
same_desired o d p e same = ap (λ (links : OwnField → Option LinkField). unwrap_or (links Dol) no_link) same
