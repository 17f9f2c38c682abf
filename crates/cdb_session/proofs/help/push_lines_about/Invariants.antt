use Rattle.std.proofs.Common.{◌≡◌, ◌++◌, map, take, ℕ, List, Bor}
use Rattle.std.specs.Prelude.{string_bytes}
use Rattle.cdb_session.proofs.OneRequest.{about}
use Rattle.cdb_session.proofs.help.push_lines_about.Given as goal

abbrev pub invariant-loop-line : goal.invariant-loop-line
invariant-loop-line l = string_bytes l.text ≡ string_bytes l.fn.text ++ about l.fn.topic (map (λ (it : Bor (List ℕ)). it.now) (take l.line-index l.line-items))
