-- The type event keeps the laws of record types.
use Rattle.std.proofs.Common.{◌≡◌, refl}
use Rattle.ioc_fields.specs.declared.field_no.OwnField.TheVariants.{Val}
use Rattle.ioc_fields.specs.Table.{row_of, own_row}
use Rattle.ioc_fields.specs.Defaults.{own_default}
use Rattle.ioc_dbcommon.specs.declared.body.Got.{Got}
use Rattle.ioc_dbcommon.specs.declared.body.Got.TheVariants as got
use Rattle.ioc_record.specs.BodyRules.{BodyState}
use Rattle.ioc_record.specs.BodyLaws.{IsLawfulBody}
use Rattle.rec_text.specs.declared.text_input.TextInput.{TextInput}
use Rattle.rec_text.specs.TextInput.{stored-source}
use Rattle.rec_text.specs.TextBodyLaws.{IsLawfulText, text_body_lawful}
use Rattle.rec_flow.specs.Event.{posted, event, event_taken}

taken-source : (h : BodyState TextInput) (got : Got) → (event_taken h got).body.source ≡ h.body.source
unfolding event_taken
taken-source h (got.Value v) = stored-source h Val v
taken-source h _ = refl

pub posted_lawful : IsLawfulText posted
unfolding own_row row_of own_default
posted_lawful = record { taken_source = taken-source; row = λ f. refl; default = λ f. refl; writes_no_link = λ t link v is. cc; writes_no_device = λ t v is. cc }

pub event_lawful : IsLawfulBody event
event_lawful = text_body_lawful posted posted_lawful
