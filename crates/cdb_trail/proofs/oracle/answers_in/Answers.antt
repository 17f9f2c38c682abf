use Rattle.std.proofs.Common.{List, ap, ◌∙◌}
use Rattle.cdb_trail.specs.Oracle.{answers_among, on_trail}
use Rattle.cdb_trail.specs.declared.oracle.TrailEvent.{TrailEvent}
use Rattle.cdb_trail.proofs.oracle.answers_in.Goals as goal

pub returns : goal.returns
returns c = c.in_ok-names.ensures ∙ ap (λ (ts : List TrailEvent). answers_among (on_trail ts) ts) (c.as_slice.ensures.value ∙ c.in_ok-all.ensures)
