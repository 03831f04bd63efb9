-- Seals of a journal.
use Rattle.std.specs.Prelude.{ℕ, List}
use Rattle.sha2.specs.Hashers.{Holds256}
use Rattle.ioc_journal_lines.specs.declared.seal.Seals.{Seals}

-- The running hash is that of these lines.
abbrev pub Covers : Seals → List ℕ → Type 0
Covers seals lines = Holds256 seals.hasher lines
