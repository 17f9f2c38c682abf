use Rattle.std.proofs.Common.{◌≡◌, sym, ap, ◌∙◌}
use Rattle.crossbeam_queue.specs.Passes.{view}
use Rattle.cdb_shared.specs.declared.knowledge.Knowledge.{Knowledge}
use Rattle.cdb_shared.specs.Turn.{opening, resting, known_seats_from, seats_after, story, without_first}
use Rattle.cdb_shared.proofs.Keeps.{forks}
use Rattle.cdb_shared.proofs.Calls.{rest_dealt}
use Rattle.cdb_shared.proofs.shared.Shared.open_watched.Goals as goal

pub another-alone-requires-clause-rule : goal.another-alone-requires-clause-rule
another-alone-requires-clause-rule g c = forks _ _ (ap (λ (v : Knowledge). v.stage) c.give.ensures.given)

pub returns-clause-rest : goal.returns-clause-rest
returns-clause-rest g c =
    let control = c.args.control in
    let first : view c.in-Ok-ruled.pass ≡ opening = c.in-Ok-ruled.ensures.3 in
    let given = c.give.ensures.given ∙ ap (λ (v : Knowledge). resting (seats_after v.stage v.known_seats (story control))) first in
    let left = c.another-alone.ensures.rule.0 ∙ ap without_first given in
    rest_dealt _ control _ (c.deal-seats.ensures control (left ∙ ap (λ n. resting (known_seats_from (story control) 1 n)) (sym c.seats-count.ensures.0)))
