use Rattle.std.proofs.Common.{rules, ◌≡◌, sym, subst}
use Rattle.std.specs.Prelude.{Decides}
use Rattle.cdb_setup.specs.Equal.{are_equal}
use Rattle.cdb_setup.proofs.Whole.{are_equal_decides}
use Rattle.cdb_setup.proofs.setup.SetupPartialEq.eq.Goals as goal

pub returns-then-eq-2-clause-parts : goal.returns-then-eq-2-clause-parts
returns-then-eq-2-clause-parts c =
    let e : c.are_same_lists.result ≡ are_equal c.args.self.now c.args.other.now = search rules in
    subst (λ r. Decides r (c.args.self.now ≡ c.args.other.now)) (sym e) (are_equal_decides c.args.self.now c.args.other.now)

pub returns-else-eq-2-clause-parts : goal.returns-else-eq-2-clause-parts
returns-else-eq-2-clause-parts c =
    let e : c.if-self-other-3.value ≡ are_equal c.args.self.now c.args.other.now = search rules in
    subst (λ r. Decides r (c.args.self.now ≡ c.args.other.now)) (sym e) (are_equal_decides c.args.self.now c.args.other.now)
