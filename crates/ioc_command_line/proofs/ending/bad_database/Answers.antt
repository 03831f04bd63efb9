use Rattle.std.proofs.Common.{inl, refl}
use Rattle.ioc_command_line.proofs.ending.bad_database.Goals as goal

pub returns-in-Ok : goal.returns-in-Ok
returns-in-Ok c = inl (c.in-Ok.path, c.in-Ok.ensures.ok, refl)
