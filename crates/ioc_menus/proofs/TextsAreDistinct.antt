-- On each menu the texts are distinct.
use Rattle.std.proofs.Common.{◌≡◌, true, refl}
use Rattle.ioc_menus.specs.declared.menu.Menu.{Menu}
use Rattle.ioc_menus.specs.declared.menu.Menu.TheVariants.{Severity}
use Rattle.ioc_menus.specs.Texts.{texts_of}
use Rattle.ioc_menus.proofs.Inverse.{are_distinct}

pub texts_distinct : (menu : Menu) → are_distinct (texts_of menu) ≡ true
texts_distinct Severity = refl
texts_distinct _ = refl
