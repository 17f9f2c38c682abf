use Rattle.std.proofs.Common.{◌≡◌}
use Rattle.cdb_session.proofs.TypedWords.{beginning, found_in}
use Rattle.cdb_session.proofs.typed.full.Given as goal

abbrev pub invariant-loop-option : goal.invariant-loop-option
invariant-loop-option l = found_in l.found ≡ beginning l.options l.word l.option-index
