-- The words for replies have at most 20 bytes.
use Rattle.std.proofs.Common.{◌≤◌, length, lit≤}
use Rattle.ioc_values.specs.declared.error.IocError.{IocError}
use Rattle.ioc_values.specs.declared.error.IocError.TheVariants as refusal
use Rattle.ioc_values.specs.Words.{refusal_words}

pub refusal_short : (refused : IocError) → length (refusal_words refused) ≤ 20
unfolding refusal_words
refusal_short refusal.NoRecord = lit≤ tt
refusal_short refusal.NoField = lit≤ tt
refusal_short refusal.NoMod = lit≤ tt
refusal_short refusal.PutDisabled = lit≤ tt
refusal_short refusal.BadValue = lit≤ tt
refusal_short refusal.BadLink = lit≤ tt
refusal_short refusal.NotifyPending = lit≤ tt
refusal_short refusal.Stale = lit≤ tt
refusal_short refusal.QueueFull = lit≤ tt
refusal_short refusal.NoMemory = lit≤ tt
refusal_short refusal.JournalFull = lit≤ tt
refusal_short refusal.Stopped = lit≤ tt
