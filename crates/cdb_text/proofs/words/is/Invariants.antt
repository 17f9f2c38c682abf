use Rattle.std.proofs.Common.{◌≡◌, take}
use Rattle.cdb_text.proofs.words.is.Given as goal

abbrev pub invariant-loop-i : goal.invariant-loop-i
invariant-loop-i l = take l.i l.word ≡ take l.i l.name
