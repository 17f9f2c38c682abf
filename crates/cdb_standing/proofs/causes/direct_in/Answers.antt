use Rattle.std.proofs.Common.{ap, ◌∙◌}
use Rattle.cdb_standing.proofs.LinksFound.{none_more, one_more}
use Rattle.cdb_standing.proofs.causes.direct_in.Goals as goal
use Rattle.cdb_standing.proofs.causes.direct_in.Goals.{in-Some, in_default}

pub loop-i-preserved : goal.loop-i-preserved
loop-i-preserved c =
    let before = c.loop-i.invariant in
    let here = rw c.new.ensures.value at c.direct_of.ensures in
    elim c.match-direct_of.branch [
      | in-Some w ↦ (
        rw (ap (λ v. v.items) w.causes-is, w.push_reserved.ensures.items)
            (one_more c.requires.kept.sound before.0 w.in-Some.name (rw w.in-Some.is at here)),
        ap (λ v. v.capacity) w.causes-is ∙ w.push_reserved.ensures.capacity ∙ before.1,
      )
      | in_default w ↦ (
        rw (ap (λ v. v.items) w.causes-is)
            (none_more c.requires.kept.sound before.0 (rw w.in_default.is at here)),
        ap (λ v. v.capacity) w.causes-is ∙ before.1,
      )
    ]
