-- The texts and the numbers of the choices of a menu correspond one to one.
use Rattle.std.specs.Prelude.{◌≡◌, ℕ, List, Some, ◌↔◌}
use Rattle.ioc_menus.specs.declared.menu.Menu.{Menu}
use Rattle.ioc_menus.specs.Texts.{choice_of, text_of}

-- Holds if the text names the number if and only if it is the text of that number.
abbrev pub IsInverse : Menu → ℕ → List ℕ → Type 0
IsInverse menu number text = (choice_of menu text ≡ Some number) ↔ (text_of menu number ≡ Some text)
