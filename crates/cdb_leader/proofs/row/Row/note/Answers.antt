use Rattle.std.proofs.Common.{ap, Some, ◌∙◌}
use Rattle.cdb_leader.specs.Inbox.{first_phase, second_phase}
use Rattle.cdb_leader.specs.Index.{are_different}
use Rattle.cdb_leader.proofs.IndexLaws.{more, first_of, second_of, IsRowOf-proposed, IsRowOf-voted, others_noted}
use Rattle.cdb_leader.proofs.row.Row.note.Goals as goal

pub returns-in-P1 : goal.returns-in-P1
returns-in-P1 c = λ at h.
    IsRowOf-proposed (more _ _) _ (first_of _ _ _ _ _ c.in-P1.is at) (ap (second_phase c.args.round) c.in-P1.is) h c.note.ensures

pub returns-in-P2 : goal.returns-in-P2
returns-in-P2 c = λ at h.
    let reads = second_of _ _ _ _ c.in-P2.is at in
    IsRowOf-voted (more _ _) _ (ap (first_phase c.args.round) c.in-P2.is) reads h
    c.note_vote.ensures.first_phases c.note_vote.ensures.second_phases c.note_vote.ensures.vote
    (c.note_vote.ensures.other_vote
    ∙ others_noted _ _ _ reads h (c.is_different-other.ensures ∙ ap (λ o. are_different o (Some c.in-P2.aux)) (c.find_vote.ensures h)))
