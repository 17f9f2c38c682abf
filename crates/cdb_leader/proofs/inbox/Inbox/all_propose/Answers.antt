use Rattle.std.proofs.Common.{sym, ◌∙◌}
use Rattle.cdb_leader.proofs.IndexLaws.{only_parts}
use Rattle.cdb_leader.proofs.inbox.Inbox.all_propose.Goals as goal

pub returns-then-known_propose : goal.returns-then-known_propose
returns-then-known_propose c =
    rw (c.all_propose.ensures, c.from.ensures, c.empty.ensures) (only_parts _ _ _ (sym c.if-known_propose.true ∙ c.known_propose.ensures))

pub returns-else-known_propose : goal.returns-else-known_propose
returns-else-known_propose c = c.if-known_propose.false ∙ only_parts _ _ _ (sym c.if-known_propose.false ∙ c.known_propose.ensures)
