use Rattle.ioc_site_lines.proofs.Cutting.{trimmed_is}
use Rattle.ioc_site_lines.proofs.defining.trimmed.Goals as goal

pub returns : goal.returns
returns c = trimmed_is c.args.text.now c.trim_ascii.result.now c.trim_ascii.ensures.value
