use Rattle.std.proofs.Common.{sym, ap, ◌∙◌, Some}
use Rattle.ioc_dblex.specs.Macros.{replaced}
use Rattle.ioc_dblex.specs.Lines.{uncommented, line_text}
use Rattle.ioc_dblex.specs.declared.lines.Quoting.TheVariants.{Outside}
use Rattle.ioc_dblex.proofs.Pieces.{replaced_plain}
use Rattle.ioc_dblex.proofs.Plain.{plain_line}
use Rattle.ioc_dblex.proofs.lines.line_text.Goals as goal

pub returns-then-lacks : goal.returns-then-lacks
unfolding line_text
returns-then-lacks c =
    let plain = replaced_plain c.args.macros.now c.uncommented-text.result.now (sym c.lacks.ensures ∙ c.if-lacks.true) in
    sym plain ∙ ap (replaced c.args.macros.now) (c.uncommented-text.ensures ∙ ap (uncommented Outside) c.without_end-body.ensures)

pub returns-then-plain : goal.returns-then-plain
returns-then-plain c = ap Some c.without_end-body.ensures ∙ plain_line c.args.macros.now c.args.line.now (c.requires.known c.if-plain.true)
