use Rattle.std.proofs.Common.{◌≡◌, refl}
use Rattle.ioc_menus.specs.declared.selmode.Selmode.{Selmode}
use Rattle.ioc_menus.specs.declared.selmode.Selmode.TheVariants.{Specified, HighSignal, LowSignal, MedianSignal}
use Rattle.ioc_dbcommon.specs.declared.body.Need.TheVariants.{Inputs}
use Rattle.ioc_dbcommon.specs.declared.link_field.LinkField.{LinkField}
use Rattle.ioc_dbcommon.specs.Wants.{need_of}
use Rattle.rec_sel.specs.Sel.{chosen_by, sel_begin}
use Rattle.rec_sel.proofs.sel.SelRecordBody.begin.Goals as goal

-- In each mode several inputs are read.
needs_inputs : (mode : Selmode) (nvl : LinkField) → Inputs ≡ need_of (chosen_by mode nvl)
needs_inputs Specified nvl = refl
needs_inputs HighSignal nvl = refl
needs_inputs LowSignal nvl = refl
needs_inputs MedianSignal nvl = refl

pub returns : goal.returns
unfolding sel_begin
returns c = needs_inputs c.args.self.now.mode c.args.self.now.number_input
