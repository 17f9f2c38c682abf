-- What a refused allocation leaves.
use Rattle.cdb_base.specs.declared.no_memory.NoMemory.{NoMemory}

-- its only value, which code makes of an error of the library alone
abbrev pub no_memory : NoMemory
no_memory = record { refused = tt }
