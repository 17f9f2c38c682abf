use Rattle.std.proofs.Common.{ap, ◌∙◌}
use Rattle.cdb_leader.specs.Inbox.{first_phase, second_phase}
use Rattle.cdb_leader.proofs.IndexLaws.{less, first_of, second_of, IsRowOf-proposed, IsRowOf-voted, others_forgotten}
use Rattle.cdb_leader.proofs.row.Row.forget.Goals as goal

pub returns-in-P1 : goal.returns-in-P1
returns-in-P1 c = λ at h.
    IsRowOf-proposed (less _ _) _ (first_of _ _ _ _ _ c.in-P1.is at) (ap (second_phase c.args.round) c.in-P1.is) h c.forget.ensures

pub returns-in-P2 : goal.returns-in-P2
returns-in-P2 c = λ at h.
    IsRowOf-voted (less _ _) _ (ap (first_phase c.args.round) c.in-P2.is) (second_of _ _ _ _ c.in-P2.is at) h
    c.forget_vote.ensures.first_phases c.forget_vote.ensures.second_phases c.forget_vote.ensures.vote
    (c.forget_vote.ensures.other_vote ∙ others_forgotten _ _ _ h)
