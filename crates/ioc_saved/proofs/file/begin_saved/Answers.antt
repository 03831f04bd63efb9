use Rattle.std.specs.Prelude.{codes, decimal}
use Rattle.ioc_saved.specs.Files.{head}
use Rattle.ioc_saved.proofs.FilesAgain.{joined}
use Rattle.ioc_saved.proofs.file.begin_saved.Goals as goal

pub returns : goal.returns
unfolding head
returns c =
    joined c.args.out.now.items (codes "# Saved values of channels, as of the place ") (decimal c.args.place) (codes " of the journal") c.extend_from_slice.new.self.items c.add_number.new.out.items
    c.extend_from_slice-2.new.self.items c.push.new.self.items c.in_ok-extend_from_slice.ensures.items c.in_ok-add_number.ensures c.in_ok-extend_from_slice-2.ensures.items c.in_ok-push.ensures.items
