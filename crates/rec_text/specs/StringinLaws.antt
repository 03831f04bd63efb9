-- The type stringin keeps the laws of record types.
use Rattle.std.proofs.Common.{refl}
use Rattle.ioc_fields.specs.Table.{row_of, own_row}
use Rattle.ioc_fields.specs.Defaults.{own_default}
use Rattle.ioc_record.specs.BodyLaws.{IsLawfulBody}
use Rattle.rec_text.specs.TextInput.{came-source}
use Rattle.rec_text.specs.TextBodyLaws.{IsLawfulText, text_body_lawful}
use Rattle.rec_text.specs.Stringin.{kept, stringin, stringin_taken}

pub kept_lawful : IsLawfulText kept
unfolding stringin_taken own_row row_of own_default
kept_lawful = record { taken_source = λ h got. came-source h got; row = λ f. refl; default = λ f. refl; writes_no_link = λ t link v is. cc; writes_no_device = λ t v is. cc }

pub stringin_lawful : IsLawfulBody stringin
stringin_lawful = text_body_lawful kept kept_lawful
