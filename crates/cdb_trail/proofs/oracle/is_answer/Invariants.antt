use Rattle.std.proofs.Common.{◌≡◌, drop, map}
use Rattle.cdb_trail.specs.Oracle.{is_answer}
use Rattle.cdb_trail.proofs.oracle.is_answer.Given as goal

-- none so far rests on it
abbrev pub invariant-loop-vote : goal.invariant-loop-vote
invariant-loop-vote l = is_answer (map (λ vote. vote.now) (drop l.vote-index l.votes)) l.query ≡ is_answer (map (λ vote. vote.now) l.votes) l.query
