use Rattle.ioc_record.specs.Values.{field_sort, value_text}
use Rattle.ioc_record.proofs.field_text.add_numbered.Goals as goal

pub returns-in-Menu-clause-added : goal.returns-in-Menu-clause-added
unfolding value_text field_sort
returns-in-Menu-clause-added g c digits = rw c.in-Menu.is (c.add_choice.ensures.added digits)

pub returns-in-State-clause-added : goal.returns-in-State-clause-added
unfolding value_text field_sort
returns-in-State-clause-added g c digits = rw c.in-State.is (c.add_state.ensures.added digits)
