-- The texts of lines as contracts see them.
use Rattle.ioc_dblex.specs.declared.texts.Texts.{Texts}
use Rattle.ioc_dblex.specs.Texts.{Expansion, parts_of}

-- The texts, and the reason why they end.
abbrev pub expansion_of : Texts → Expansion
expansion_of t = record { texts = parts_of t.lengths.items t.bytes.items; end = t.end }
