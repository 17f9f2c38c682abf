use Rattle.std.proofs.Common.{◌≡◌, ◌+◌, map, take, ℕ, List, Bor}
use Rattle.std.specs.List.{join_with_byte}
use Rattle.cdb_session.proofs.typed.joined.Given as goal

abbrev pub invariant-loop-word : goal.invariant-loop-word
invariant-loop-word l = l.text.items ≡ join_with_byte 32 (map (λ (it : Bor (List ℕ)). it.now) (take (l.word-index + 1) l.fn.words))
