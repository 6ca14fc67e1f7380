-- Why a statement could not be run (this project's rule): want of memory is told apart.
use Rattle.sqlite.specs.declared.error.Error.{Error}
use Rattle.sqlite.specs.declared.error.Error.TheVariants.{SqliteFailure}
use Rattle.sqlite.specs.declared.error.ErrorCode.TheVariants as code
use Rattle.sqlite_keeper.specs.declared.fault.SqlFault.{SqlFault}
use Rattle.sqlite_keeper.specs.declared.fault.SqlFault.TheVariants.{Failed, OutOfMemory}

-- what an error of the database is
abbrev pub sql_fault : Error → SqlFault
sql_fault (SqliteFailure code.OutOfMemory) = OutOfMemory
sql_fault _ = Failed
