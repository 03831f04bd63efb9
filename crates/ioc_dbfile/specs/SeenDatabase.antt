-- What contracts see of a loaded database.
use Rattle.rec_types.specs.Record.{Record}
use Rattle.ioc_dbfile.specs.declared.database.Database.{Database}
use Rattle.ioc_dbfile.specs.Loader.{Loading}

-- The names of a database, and its records by their numbers.
abbrev pub database_of : Database → Loading Record
database_of d = record { names = d.names; records = d.records.items }
