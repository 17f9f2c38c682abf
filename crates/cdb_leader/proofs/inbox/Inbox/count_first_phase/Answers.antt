use Rattle.std.proofs.Common.{◌∙◌}
use Rattle.cdb_leader.proofs.IndexLaws.{count_kept}
use Rattle.cdb_leader.proofs.inbox.Inbox.count_first_phase.Goals as goal

pub returns-then-knows_all : goal.returns-then-knows_all
returns-then-knows_all c = c.count.ensures ∙ count_kept _ _ _ c.row.ensures.first_phases (c.knows_all.ensures c.if-knows_all.true)
