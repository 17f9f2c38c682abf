use Rattle.std.proofs.Common.{append_assoc}
use Rattle.std.proofs.lemmas.Result.{IfOk-equal}
use Rattle.cdb_draw.specs.Arrows.{arrow_text}
use Rattle.cdb_draw.proofs.arrow.push_way.Goals as goal

pub returns : goal.returns
unfolding arrow_text
returns c =
    IfOk-equal c.push_each-3.result _ _ _ c.push_each-3.ensures
    (rw (c.in_ok-push_each-2.ensures, c.in_ok-push_each.ensures, c.class.ensures) (simp append_assoc))
