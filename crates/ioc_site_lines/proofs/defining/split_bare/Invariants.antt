use Rattle.std.proofs.Common.{◌≡◌, ◌≤◌, ◌++◌, length, take, drop, None, false}
use Rattle.ioc_site_lines.specs.Defining.{bare_front, bare_back}
use Rattle.ioc_site_lines.proofs.defining.split_bare.Given as goal

abbrev pub invariant-loop-rest : goal.invariant-loop-rest
invariant-loop-rest l =
    (l.rest ≡ drop l.count l.text) × (l.count ≤ length l.text) × (take l.count l.text ++ bare_front l.sign l.quote l.is_escaped l.rest ≡ bare_front l.sign None false l.text) × (bare_back l.sign l.quote l.is_escaped l.rest ≡ bare_back l.sign None false l.text)

abbrev pub decreases-loop-rest : goal.decreases-loop-rest
decreases-loop-rest l = length l.rest
