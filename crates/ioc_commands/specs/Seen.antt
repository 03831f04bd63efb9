-- The commands of the code, as those of the specifications.
use Rattle.std.specs.Prelude.{ℕ, List}
use Rattle.std.specs.Borrow.{Bor}
use Rattle.ioc_commands.specs.Commands.{Command as Asked, Silent as asks-nothing, Bad as asks-badly, Process as asks-process, Put as asks-put, Get as asks-get, At as asks-at, Next-done as asks-next-done, Next-fault as asks-next-fault, Next-later as asks-next-later, Done as asks-done, Fault as asks-fault, Event as asks-event, Interrupt as asks-interrupt, Scan as asks-scan, Link as asks-link, Tally as asks-tally, Notify as asks-notify, Cancel as asks-cancel, Sets as asks-sets}
use Rattle.ioc_commands.specs.declared.command.Command.{Command}
use Rattle.ioc_commands.specs.declared.command.Command.TheVariants.{Silent, Bad, Process, Put, Get, At, NextDone, NextFault, NextLater, Done, Fault, Event, Interrupt, Scan, Link, Tally, Notify, Cancel, Sets}

abbrev pub bytes : Bor (List ℕ) → List ℕ
bytes b = b.now

abbrev pub seen : Command → Asked
seen Silent = asks-nothing
seen Bad = asks-badly
seen (Process name) = asks-process name.now
seen (Put name field text) = asks-put name.now field.now text.now
seen (Get name field) = asks-get name.now field.now
seen (At moment) = asks-at moment
seen (NextDone name text) = asks-next-done name.now text.now
seen (NextFault name) = asks-next-fault name.now
seen (NextLater name) = asks-next-later name.now
seen (Done name wait text) = asks-done name.now wait text.now
seen (Fault name wait) = asks-fault name.now wait
seen (Event name) = asks-event name.now
seen (Interrupt word) = asks-interrupt word.now
seen (Scan period) = asks-scan period
seen (Link name field text) = asks-link name.now field.now text.now
seen Tally = asks-tally
seen (Notify name field text) = asks-notify name.now field.now text.now
seen (Cancel number) = asks-cancel number
seen Sets = asks-sets
