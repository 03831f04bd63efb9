-- Which findings are mistakes.
use Rattle.std.specs.Prelude.{Bool, true, false}
use Rattle.ioc_site.specs.declared.finding.Finding.{Finding}
use Rattle.ioc_site.specs.declared.finding.Severity.{Severity}
use Rattle.ioc_site.specs.declared.finding.Severity.TheVariants.{Error, Warning}

-- Whether the severity is that of a mistake.
abbrev pub is_grave : Severity → Bool
is_grave Error = true
is_grave Warning = false

-- Whether the finding is a mistake.
abbrev pub is_error : Finding → Bool
is_error f = is_grave f.severity
