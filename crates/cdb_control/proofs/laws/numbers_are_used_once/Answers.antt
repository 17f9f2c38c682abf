use Rattle.cdb_control.proofs.Least.{numbered}
use Rattle.cdb_control.proofs.Refused.{leaves, next_number_used}
use Rattle.cdb_control.proofs.laws.numbers_are_used_once.Goals as goal

pub returns-clause-next : goal.returns-clause-next
returns-clause-next c = next_number_used

pub returns-clause-rise : goal.returns-clause-rise
returns-clause-rise c = λ rules t seat command. (leaves rules t seat command).numbers

pub returns-clause-above : goal.returns-clause-above
returns-clause-above c = λ rules setup seats journal. (numbered rules setup seats journal).0
