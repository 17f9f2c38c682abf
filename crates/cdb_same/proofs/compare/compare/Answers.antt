use Rattle.cdb_same.proofs.Apart.{none_apart}
use Rattle.cdb_same.proofs.compare.compare.Goals as goal

pub returns : goal.returns
returns c =
    none_apart c.args.first.now c.args.second.now c.requires.first.standing c.requires.second.standing
    (rw (c.as_slice.ensures.value, c.in_ok-events.ensures) at c.in_default.ensures)
    (rw (c.as_slice-2.ensures.value, c.in_ok-others.ensures) at c.in_default-alone.ensures) c.in-None.ensures
