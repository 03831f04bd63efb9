use Rattle.std.proofs.Common.{◌≡◌, ◌++◌, take}
use Rattle.std.specs.List.{flat_map}
use Rattle.ioc_commands.specs.Texts.{shown_byte}
use Rattle.ioc_commands.proofs.texts.add_shown_text.Given as goal

abbrev pub invariant-loop-byte : goal.invariant-loop-byte
invariant-loop-byte l = l.out.items ≡ l.fn.out.items ++ flat_map shown_byte (take l.byte-index l.text)
