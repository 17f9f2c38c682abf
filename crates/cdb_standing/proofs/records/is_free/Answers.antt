use Rattle.std.proofs.Common.{sym, true≢false}
use Rattle.cdb_standing.proofs.records.is_free.Goals as goal

pub returns-in-None : goal.returns-in-None
returns-in-None c = ((λ e. absurd (true≢false (sym e))), (λ free. absurd (c.in-None.ensures free.0 free.1)))

pub returns-in-Some-first_dependent : goal.returns-in-Some-first_dependent
returns-in-Some-first_dependent c = (
  λ e. absurd (true≢false (sym e)),
  λ free. let dependent = c.in-Some-first_dependent.ensures free.0 free.1 in absurd (free.2 dependent.position dependent.link),
)
