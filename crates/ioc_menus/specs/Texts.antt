-- The texts of the menus' choices. Record Reference Manual, "Menu Types".
use Rattle.std.specs.Prelude.{ℕ, Option, List, [], ◌∷◌, position, slice_get, codes}
use Rattle.std.specs.Str.{bytes_eq}
use Rattle.ioc_menus.specs.declared.menu.Menu.{Menu}
use Rattle.ioc_menus.specs.declared.menu.Menu.TheVariants.{Severity, Status, Scan, Priority, Pini, Omsl, Ivoa, Selm, Linr, Oif, Oopt, Dopt, Selmode}

-- The texts of SEVR, NSEV and every other field that holds a severity.
abbrev pub severity_texts : List (List ℕ)
severity_texts =
    codes "NO_ALARM" ∷ codes "MINOR" ∷ codes "MAJOR" ∷ codes "INVALID" ∷ []

-- The texts of STAT and NSTA.
abbrev pub status_texts : List (List ℕ)
status_texts =
    codes "NO_ALARM" ∷ codes "READ" ∷ codes "WRITE" ∷ codes "HIHI" ∷ codes "HIGH" ∷ codes "LOLO" ∷ codes "LOW" ∷ codes "STATE" ∷ codes "COS" ∷ codes "COMM" ∷ codes "TIMEOUT" ∷ codes "HWLIMIT" ∷ codes "CALC" ∷ codes "SCAN" ∷ codes "LINK" ∷ codes "SOFT" ∷ codes "BAD_SUB" ∷ codes "UDF" ∷ codes "DISABLE" ∷ codes "SIMM" ∷ codes "READ_ACCESS" ∷ codes "WRITE_ACCESS" ∷ []

-- The texts of SCAN.
abbrev pub scan_texts : List (List ℕ)
scan_texts =
    codes "Passive" ∷ codes "Event" ∷ codes "I/O Intr" ∷ codes "10 second" ∷ codes "5 second" ∷ codes "2 second" ∷ codes "1 second" ∷ codes ".5 second" ∷ codes ".2 second" ∷ codes ".1 second" ∷ []

-- The texts of PRIO.
abbrev pub priority_texts : List (List ℕ)
priority_texts =
    codes "LOW" ∷ codes "MEDIUM" ∷ codes "HIGH" ∷ []

-- The texts of PINI. The other choices that EPICS has are not supported.
abbrev pub pini_texts : List (List ℕ)
pini_texts =
    codes "NO" ∷ codes "YES" ∷ []

-- The texts of OMSL.
abbrev pub omsl_texts : List (List ℕ)
omsl_texts =
    codes "supervisory" ∷ codes "closed_loop" ∷ []

-- The texts of IVOA.
abbrev pub ivoa_texts : List (List ℕ)
ivoa_texts =
    codes "Continue normally" ∷ codes "Don't drive outputs" ∷ codes "Set output to IVOV" ∷ []

-- The texts of SELM.
abbrev pub selm_texts : List (List ℕ)
selm_texts =
    codes "All" ∷ codes "Specified" ∷ codes "Mask" ∷ []

-- The texts of LINR. The breakpoint tables that EPICS has are not supported.
abbrev pub linr_texts : List (List ℕ)
linr_texts =
    codes "NO CONVERSION" ∷ codes "SLOPE" ∷ codes "LINEAR" ∷ []

-- The texts of OIF.
abbrev pub oif_texts : List (List ℕ)
oif_texts =
    codes "Full" ∷ codes "Incremental" ∷ []

-- The texts of OOPT.
abbrev pub oopt_texts : List (List ℕ)
oopt_texts =
    codes "Every Time" ∷ codes "On Change" ∷ codes "When Zero" ∷ codes "When Non-zero" ∷ codes "Transition To Zero" ∷ codes "Transition To Non-zero" ∷ []

-- The texts of DOPT.
abbrev pub dopt_texts : List (List ℕ)
dopt_texts =
    codes "Use CALC" ∷ codes "Use OCAL" ∷ []

-- The texts of SELM of a sel.
abbrev pub selmode_texts : List (List ℕ)
selmode_texts =
    codes "Specified" ∷ codes "High Signal" ∷ codes "Low Signal" ∷ codes "Median Signal" ∷ []

-- The texts of a menu's choices, in the order of their numbers.
abbrev pub texts_of : Menu → List (List ℕ)
texts_of Severity = severity_texts
texts_of Status = status_texts
texts_of Scan = scan_texts
texts_of Priority = priority_texts
texts_of Pini = pini_texts
texts_of Omsl = omsl_texts
texts_of Ivoa = ivoa_texts
texts_of Selm = selm_texts
texts_of Linr = linr_texts
texts_of Oif = oif_texts
texts_of Oopt = oopt_texts
texts_of Dopt = dopt_texts
texts_of Selmode = selmode_texts

-- The number of the choice with this text.
abbrev pub choice_of : Menu → List ℕ → Option ℕ
choice_of menu text = position (λ t. bytes_eq t text) (texts_of menu)

-- The text of the choice with this number.
abbrev pub text_of : Menu → ℕ → Option (List ℕ)
text_of menu number = slice_get (texts_of menu) number
