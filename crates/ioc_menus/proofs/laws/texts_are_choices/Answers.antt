use Rattle.ioc_menus.specs.Texts.{texts_of}
use Rattle.ioc_menus.proofs.Inverse.{inverse_of-distinct}
use Rattle.ioc_menus.proofs.TextsAreDistinct.{texts_distinct}
use Rattle.ioc_menus.proofs.laws.texts_are_choices.Goals as goal

pub returns : goal.returns
returns c = inverse_of-distinct c.args.text.now (texts_of c.args.menu) c.args.number (texts_distinct c.args.menu)
