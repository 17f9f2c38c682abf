use Rattle.std.proofs.Common.{◌≡◌, map, take, string_bytes}
use Rattle.cdb_base.specs.Requests.{texts}
use Rattle.revdbg.proofs.requested.texts_of_each.Given as goal

abbrev pub invariant-loop-word : goal.invariant-loop-word
invariant-loop-word l = texts l.texts.items ≡ map string_bytes (take l.word-index l.words)
