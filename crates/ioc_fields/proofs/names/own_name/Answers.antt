use Rattle.std.proofs.Common.{◌∙◌, ap, refl, sym}
use Rattle.ioc_fields.specs.Names.{own_name, state_value_name, state_text_name, state_severity_name, link_name, letter, last_letter_name, input_name}
use Rattle.ioc_fields.proofs.names.own_name.Goals as goal

pub returns-in-StateValue : goal.returns-in-StateValue
unfolding own_name state_value_name
returns-in-StateValue c = c.name_at.ensures state_value_name refl ∙ ap own_name (sym c.in-StateValue.is)

pub returns-in-StateText : goal.returns-in-StateText
unfolding own_name state_text_name
returns-in-StateText c = c.name_at-in-StateText.ensures state_text_name refl ∙ ap own_name (sym c.in-StateText.is)

pub returns-in-StateSeverity : goal.returns-in-StateSeverity
unfolding own_name state_severity_name
returns-in-StateSeverity c = c.name_at-in-StateSeverity.ensures state_severity_name refl ∙ ap own_name (sym c.in-StateSeverity.is)

pub returns-in-Lnk : goal.returns-in-Lnk
unfolding own_name link_name
returns-in-Lnk c = c.name_at-in-Lnk.ensures link_name refl ∙ ap own_name (sym c.in-Lnk.is)

pub returns-in-Letter : goal.returns-in-Letter
unfolding own_name
returns-in-Letter c = c.name_at-in-Letter.ensures letter refl ∙ ap own_name (sym c.in-Letter.is)

pub returns-in-LastLetter : goal.returns-in-LastLetter
unfolding own_name last_letter_name
returns-in-LastLetter c = c.name_at-in-LastLetter.ensures last_letter_name refl ∙ ap own_name (sym c.in-LastLetter.is)

pub returns-in-InputLink : goal.returns-in-InputLink
unfolding own_name input_name
returns-in-InputLink c = c.name_at-in-InputLink.ensures input_name refl ∙ ap own_name (sym c.in-InputLink.is)
