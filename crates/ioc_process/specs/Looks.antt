-- Steps that access their record once, in terms of the steps of the rules. The single access is
-- this project's own design.
use Rattle.std.specs.Prelude.{◌≡◌, ℕ, true, false, Option, Some}
use Rattle.std.specs.Prelude.{None as Nothing_}
use Rattle.ioc_dbcommon.specs.declared.body.Got.TheVariants as got
use Rattle.ioc_dbcommon.specs.declared.body.Need.{Need}
use Rattle.ioc_dbcommon.specs.declared.body.Need.TheVariants as need
use Rattle.ioc_dbcommon.specs.declared.body.Output.{Output}
use Rattle.ioc_dbcommon.specs.Links.{record_named, use_of}
use Rattle.ioc_dbcommon.specs.Wants.{is_unused, need_of, puts_out}
use Rattle.ioc_record.specs.RecordRules.{RecordRules}
use Rattle.ioc_store.specs.Marks.{at_rest, is_disabled}
use Rattle.ioc_store.specs.Rests.{rested}
use Rattle.ioc_store.specs.Showing.{showing}
use Rattle.ioc_store.specs.World.{World, at, common_at, put}
use Rattle.ioc_process.specs.declared.fast_path.IdleStart.{IdleStart}
use Rattle.ioc_process.specs.declared.fast_path.Shown.{Shown}
use Rattle.ioc_process.specs.declared.fast_path.Shown.TheVariants.{Named, Done, Rests}
use Rattle.ioc_process.specs.declared.fast_path.IdleStart.TheVariants.{ReadsDisable, Disabled, ReadsLink, ReadsDevice, ReadsInputs, Took, PutsOut}

module _ {R : Type 0} (k : RecordRules R) where
  -- Holds if SDIS is no link, the record isn't disabled, and its body needs this first.
  pub record Begins (r : R) (need : Need) : Type 0 where
    pub unused : is_unused (use_of (k.common r).disable_link) ≡ true
    pub on : is_disabled (k.common r) ≡ false
    pub needs : need_of (k.begin r) ≡ need

  -- A record that was found idle, by its state: what it is afterwards, and its output.
  abbrev pub Opens : R → IdleStart → Output → R → Type 0
  Opens r ReadsDisable written after = (after ≡ r) × (is_unused (use_of (k.common r).disable_link) ≡ false)
  Opens r Disabled written after = (after ≡ r) × (is_unused (use_of (k.common r).disable_link) ≡ true) × (is_disabled (k.common r) ≡ true)
  Opens r ReadsLink written after = (after ≡ r) × Begins r need.Link
  Opens r ReadsDevice written after = (after ≡ r) × Begins r need.Device
  Opens r ReadsInputs written after = (after ≡ r) × Begins r need.Inputs
  Opens r Took written after = (after ≡ k.taken r got.Nothing) × Begins r need.Nothing × (puts_out (k.output r got.Nothing) ≡ false)
  Opens r PutsOut written after = (after ≡ k.taken r got.Nothing) × Begins r need.Nothing × (written ≡ k.output r got.Nothing)

  -- Record `s` that was found idle, by its state: the world afterwards, and the output.
  abbrev pub Opened : World R → ℕ → IdleStart → Output → World R → Type 0
  Opened w s ReadsDisable written after = (after ≡ w) × (is_unused (use_of (common_at k w s).disable_link) ≡ false)
  Opened w s Disabled written after = (after ≡ w) × (is_unused (use_of (common_at k w s).disable_link) ≡ true) × (is_disabled (common_at k w s) ≡ true)
  Opened w s ReadsLink written after = (after ≡ w) × Begins (at k w s) need.Link
  Opened w s ReadsDevice written after = (after ≡ w) × Begins (at k w s) need.Device
  Opened w s ReadsInputs written after = (after ≡ w) × Begins (at k w s) need.Inputs
  Opened w s Took written after = (after ≡ put w s (k.taken (at k w s) got.Nothing)) × Begins (at k w s) need.Nothing × (puts_out (k.output (at k w s) got.Nothing) ≡ false)
  Opened w s PutsOut written after = (after ≡ put w s (k.taken (at k w s) got.Nothing)) × Begins (at k w s) need.Nothing × (written ≡ k.output (at k w s) got.Nothing)

  -- A record that has shown its alarms, by its forward link and what is left to do: what it is
  -- afterwards.
  abbrev pub Shows : R → Shown → R → Type 0
  Shows r (Named target) after = (after ≡ r) × (record_named (use_of (k.common r).forward_link) ≡ Some target)
  Shows r Rests after = (after ≡ r) × (record_named (use_of (k.common r).forward_link) ≡ Nothing_)
  Shows r Done after = (after ≡ k.with_common r (at_rest (k.common r))) × (record_named (use_of (k.common r).forward_link) ≡ Nothing_)
      × ((k.common r).notification ≡ Nothing_) × ((k.common r).reprocess ≡ false)

  -- Record `s` shows its alarms, and is done if its forward link names no record.
  abbrev pub shown_on : World R → ℕ → Option ℕ → World R
  shown_on w s (Some target) = showing k w s
  shown_on w s Nothing_ = rested k (showing k w s) s
