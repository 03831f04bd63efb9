-- Which periods are walked at a tick. A tick is a tenth of a second. Application Developer's Guide,
-- "Periodic Scan Tasks".
use Rattle.std.specs.Prelude.{ℕ, List, [], ◌∷◌, ◌++◌, ◌%◌, ◌==◌, if◌then◌else◌}
use Rattle.ioc_menus.specs.declared.scan.Scan.{Scan}
use Rattle.ioc_menus.specs.declared.scan.Scan.TheVariants.{TenthSecond, FifthSecond, HalfSecond, OneSecond, TwoSeconds, FiveSeconds, TenSeconds}

-- The period, if the tick is one of every so many.
abbrev pub if_due : ℕ → ℕ → Scan → List Scan
if_due tick every choice = if tick % every == 0 then choice ∷ [] else []

-- The periods that are walked at a tick, the shortest first.
unfoldable pub periods_of : ℕ → List Scan
periods_of tick =
    if_due tick 1 TenthSecond ++ if_due tick 2 FifthSecond ++ if_due tick 5 HalfSecond ++ if_due tick 10 OneSecond
    ++ if_due tick 20 TwoSeconds ++ if_due tick 50 FiveSeconds ++ if_due tick 100 TenSeconds
