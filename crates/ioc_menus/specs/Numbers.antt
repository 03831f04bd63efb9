-- The numbers of the choices, in the order of each menu. Record Reference Manual, "Menu Types".
use Rattle.std.specs.Prelude.{◌≡◌, ◌↔◌, ℕ, Option, Some, List, [], ◌∷◌}
use Rattle.ioc_menus.specs.declared.severity.Severity.{Severity}
use Rattle.ioc_menus.specs.declared.severity.Severity.TheVariants as severity
use Rattle.ioc_menus.specs.declared.status.Status.{Status}
use Rattle.ioc_menus.specs.declared.status.Status.TheVariants as status
use Rattle.ioc_menus.specs.declared.scan.Scan.{Scan}
use Rattle.ioc_menus.specs.declared.scan.Scan.TheVariants as scan
use Rattle.ioc_menus.specs.declared.priority.Priority.{Priority}
use Rattle.ioc_menus.specs.declared.priority.Priority.TheVariants as priority
use Rattle.ioc_menus.specs.declared.pini.Pini.{Pini}
use Rattle.ioc_menus.specs.declared.pini.Pini.TheVariants as pini
use Rattle.ioc_menus.specs.declared.omsl.Omsl.{Omsl}
use Rattle.ioc_menus.specs.declared.omsl.Omsl.TheVariants as omsl
use Rattle.ioc_menus.specs.declared.ivoa.Ivoa.{Ivoa}
use Rattle.ioc_menus.specs.declared.ivoa.Ivoa.TheVariants as ivoa
use Rattle.ioc_menus.specs.declared.selm.Selm.{Selm}
use Rattle.ioc_menus.specs.declared.selm.Selm.TheVariants as selm
use Rattle.ioc_menus.specs.declared.linr.Linr.{Linr}
use Rattle.ioc_menus.specs.declared.linr.Linr.TheVariants as linr
use Rattle.ioc_menus.specs.declared.oif.Oif.{Oif}
use Rattle.ioc_menus.specs.declared.oif.Oif.TheVariants as oif
use Rattle.ioc_menus.specs.declared.oopt.Oopt.{Oopt}
use Rattle.ioc_menus.specs.declared.oopt.Oopt.TheVariants as oopt
use Rattle.ioc_menus.specs.declared.dopt.Dopt.{Dopt}
use Rattle.ioc_menus.specs.declared.dopt.Dopt.TheVariants as dopt
use Rattle.ioc_menus.specs.declared.selmode.Selmode.{Selmode}
use Rattle.ioc_menus.specs.declared.selmode.Selmode.TheVariants as selmode

-- The number of a `Severity` choice.
abbrev pub severity_number : Severity → ℕ
severity_number severity.NoAlarm = 0
severity_number severity.Minor = 1
severity_number severity.Major = 2
severity_number severity.Invalid = 3

-- The `Severity` choices, in the order of their numbers.
abbrev pub severities : List Severity
severities =
    severity.NoAlarm ∷ severity.Minor ∷ severity.Major ∷ severity.Invalid ∷ []

-- The number of a `Status` choice.
abbrev pub status_number : Status → ℕ
status_number status.NoAlarm = 0
status_number status.Read = 1
status_number status.Write = 2
status_number status.Hihi = 3
status_number status.High = 4
status_number status.Lolo = 5
status_number status.Low = 6
status_number status.State = 7
status_number status.Cos = 8
status_number status.Comm = 9
status_number status.Timeout = 10
status_number status.HwLimit = 11
status_number status.Calc = 12
status_number status.Scan = 13
status_number status.Link = 14
status_number status.Soft = 15
status_number status.BadSub = 16
status_number status.Udf = 17
status_number status.Disable = 18
status_number status.Simm = 19
status_number status.ReadAccess = 20
status_number status.WriteAccess = 21

-- The `Status` choices, in the order of their numbers.
abbrev pub statuses : List Status
statuses =
    status.NoAlarm ∷ status.Read ∷ status.Write ∷ status.Hihi ∷ status.High ∷ status.Lolo ∷ status.Low ∷ status.State ∷ status.Cos ∷ status.Comm ∷ status.Timeout ∷ status.HwLimit ∷ status.Calc ∷ status.Scan ∷ status.Link ∷ status.Soft ∷ status.BadSub ∷ status.Udf ∷ status.Disable ∷ status.Simm ∷ status.ReadAccess ∷ status.WriteAccess ∷ []

-- The number of a `Scan` choice.
abbrev pub scan_number : Scan → ℕ
scan_number scan.Passive = 0
scan_number scan.Event = 1
scan_number scan.IoIntr = 2
scan_number scan.TenSeconds = 3
scan_number scan.FiveSeconds = 4
scan_number scan.TwoSeconds = 5
scan_number scan.OneSecond = 6
scan_number scan.HalfSecond = 7
scan_number scan.FifthSecond = 8
scan_number scan.TenthSecond = 9

-- The `Scan` choices, in the order of their numbers.
abbrev pub scans : List Scan
scans =
    scan.Passive ∷ scan.Event ∷ scan.IoIntr ∷ scan.TenSeconds ∷ scan.FiveSeconds ∷ scan.TwoSeconds ∷ scan.OneSecond ∷ scan.HalfSecond ∷ scan.FifthSecond ∷ scan.TenthSecond ∷ []

-- The number of a `Priority` choice.
abbrev pub priority_number : Priority → ℕ
priority_number priority.Low = 0
priority_number priority.Medium = 1
priority_number priority.High = 2

-- The `Priority` choices, in the order of their numbers.
abbrev pub priorities : List Priority
priorities =
    priority.Low ∷ priority.Medium ∷ priority.High ∷ []

-- The number of a `Pini` choice.
abbrev pub pini_number : Pini → ℕ
pini_number pini.No = 0
pini_number pini.Yes = 1

-- The `Pini` choices, in the order of their numbers.
abbrev pub pinis : List Pini
pinis =
    pini.No ∷ pini.Yes ∷ []

-- The number of a `Omsl` choice.
abbrev pub omsl_number : Omsl → ℕ
omsl_number omsl.Supervisory = 0
omsl_number omsl.ClosedLoop = 1

-- The `Omsl` choices, in the order of their numbers.
abbrev pub omsls : List Omsl
omsls =
    omsl.Supervisory ∷ omsl.ClosedLoop ∷ []

-- The number of a `Ivoa` choice.
abbrev pub ivoa_number : Ivoa → ℕ
ivoa_number ivoa.ContinueNormally = 0
ivoa_number ivoa.DontDriveOutputs = 1
ivoa_number ivoa.SetOutputToIvov = 2

-- The `Ivoa` choices, in the order of their numbers.
abbrev pub ivoas : List Ivoa
ivoas =
    ivoa.ContinueNormally ∷ ivoa.DontDriveOutputs ∷ ivoa.SetOutputToIvov ∷ []

-- The number of a `Selm` choice.
abbrev pub selm_number : Selm → ℕ
selm_number selm.All = 0
selm_number selm.Specified = 1
selm_number selm.Mask = 2

-- The `Selm` choices, in the order of their numbers.
abbrev pub selms : List Selm
selms =
    selm.All ∷ selm.Specified ∷ selm.Mask ∷ []

-- The number of a `Linr` choice.
abbrev pub linr_number : Linr → ℕ
linr_number linr.NoConversion = 0
linr_number linr.Slope = 1
linr_number linr.Linear = 2

-- The `Linr` choices, in the order of their numbers.
abbrev pub linrs : List Linr
linrs =
    linr.NoConversion ∷ linr.Slope ∷ linr.Linear ∷ []

-- The number of an `Oif` choice.
abbrev pub oif_number : Oif → ℕ
oif_number oif.Full = 0
oif_number oif.Incremental = 1

-- The `Oif` choices, in the order of their numbers.
abbrev pub oifs : List Oif
oifs =
    oif.Full ∷ oif.Incremental ∷ []

-- The number of an `Oopt` choice.
abbrev pub oopt_number : Oopt → ℕ
oopt_number oopt.EveryTime = 0
oopt_number oopt.OnChange = 1
oopt_number oopt.WhenZero = 2
oopt_number oopt.WhenNonZero = 3
oopt_number oopt.TransitionToZero = 4
oopt_number oopt.TransitionToNonZero = 5

-- The `Oopt` choices, in the order of their numbers.
abbrev pub oopts : List Oopt
oopts =
    oopt.EveryTime ∷ oopt.OnChange ∷ oopt.WhenZero ∷ oopt.WhenNonZero ∷ oopt.TransitionToZero ∷ oopt.TransitionToNonZero ∷ []

-- The number of a `Dopt` choice.
abbrev pub dopt_number : Dopt → ℕ
dopt_number dopt.UseCalc = 0
dopt_number dopt.UseOcal = 1

-- The `Dopt` choices, in the order of their numbers.
abbrev pub dopts : List Dopt
dopts =
    dopt.UseCalc ∷ dopt.UseOcal ∷ []

-- The number of a `Selmode` choice.
abbrev pub selmode_number : Selmode → ℕ
selmode_number selmode.Specified = 0
selmode_number selmode.HighSignal = 1
selmode_number selmode.LowSignal = 2
selmode_number selmode.MedianSignal = 3

-- The `Selmode` choices, in the order of their numbers.
abbrev pub selmodes : List Selmode
selmodes =
    selmode.Specified ∷ selmode.HighSignal ∷ selmode.LowSignal ∷ selmode.MedianSignal ∷ []

-- Holds if the answer is a choice exactly if this is its number.
abbrev pub IsNumbered : {C : Type 0} → (C → ℕ) → ℕ → Option C → Type 0
IsNumbered {C} number_of number answer = (choice : C) → (answer ≡ Some choice) ↔ (number_of choice ≡ number)
