use Rattle.std.proofs.Common.{refl}
use Rattle.cdb_standing.proofs.Held.{has_listed, may_back}
use Rattle.cdb_standing.proofs.Rows.{put_joins}
use Rattle.cdb_standing.proofs.take.take_step.Goals as goal

pub mail_back-requires : goal.mail_back-requires
mail_back-requires c =
    may_back c.requires.kept c.args.p _ _ _ (put_joins (rw c.index.ensures.value at c.take_last-entry.ensures) _ refl)

pub unlist_at-requires-clause-some : goal.unlist_at-requires-clause-some
unlist_at-requires-clause-some c =
    rw c.accessed.ensures.value
    (has_listed c.requires.kept c.requires.kept.accesses c.args.p _ _ _ (put_joins (rw c.index.ensures.value at c.take_last-entry.ensures) _ refl))

pub unlist_at-requires-2-clause-some : goal.unlist_at-requires-2-clause-some
unlist_at-requires-2-clause-some c =
    rw c.written.ensures.value
    (has_listed c.requires.kept c.requires.kept.writes c.args.p _ _ _ (put_joins (rw c.index.ensures.value at c.take_last-entry.ensures) _ refl))
