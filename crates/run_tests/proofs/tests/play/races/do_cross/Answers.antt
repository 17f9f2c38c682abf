use Rattle.std.proofs.Common.{arith, length, vec_len, ◌+◌, ◌≤◌, ◌≡◌, ap, subst, ◌∙◌}
use Rattle.cdb_base.specs.Limits.{MAX_SEATS}
use Rattle.cdb_setup.specs.Parts.{Parts}
use Rattle.cdb_play.proofs.SeatsFit.{same_setup}
use Rattle.run_tests.proofs.tests.play.races.do_cross.Goals as goal

pub race_with-requires-clause-fits : goal.race_with-requires-clause-fits
race_with-requires-clause-fits g c κs within = λ parts stands.
    subst (λ (its : Parts). its.processes + length c.as_slice.result.now ≤ MAX_SEATS)
    (same_setup c.read.result c.in_ok-parts.parts parts c.in_ok-parts.was (c.read.ensures.only parts stands))
    (omega (arith, c.fits.ensures.0 c.if-not-fits.false, c.len.ensures, c.as_slice.ensures.len))

pub race_with-requires-clause-gates : goal.race_with-requires-clause-gates
race_with-requires-clause-gates g c κs within = λ parts stands.
    subst (λ (its : Parts). vec_len c.in_ok-gates.gates ≡ its.processes + length c.as_slice.result.now)
    (same_setup c.read.result c.in_ok-parts.parts parts c.in_ok-parts.was (c.read.ensures.only parts stands))
    (omega (arith, c.if-len-from.false, c.len-else-not-fits.ensures, c.from.ensures, c.n.ensures.value, c.len-else-not-fits-2.ensures, c.as_slice.ensures.len))
