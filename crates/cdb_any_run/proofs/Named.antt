-- A run has the machine that its setup names: what holds by that machine holds by the rules of the setup.
use Rattle.std.proofs.Common.{◌≡◌, sym, subst}
use Rattle.cdb_agreement.specs.Algorithms.{rules, rules_by}
use Rattle.cdb_any_run.specs.Any.{run_view, IsTrueToSetup}
use Rattle.cdb_any_run.specs.declared.any.ByMachine.{ByMachine}
use Rattle.cdb_any_run.specs.declared.any.ByMachine.TheVariants as run_of
use Rattle.cdb_rules.specs.RunView.{RunView}
use Rattle.cdb_rules.specs.Rules.{Rules}
use Rattle.cdb_setup.specs.declared.setup.Algorithm.TheVariants.{Leader, Alpha}

module _ {run : ByMachine} {stands value : RunView} (Holds : Rules → RunView → Type 0) where
  pub in_leader : IsTrueToSetup run → run_view run ≡ value → run ≡ run_of.Leader stands
      → Holds (rules_by Leader stands.setup) stands → Holds (rules value.setup) value
  in_leader named seen is given =
      subst (λ v. Holds (rules v.setup) v) (rw is at seen)
      (subst (λ algorithm. Holds (rules_by algorithm stands.setup) stands) (sym (rw is at named)) given)

  pub in_alpha : IsTrueToSetup run → run_view run ≡ value → run ≡ run_of.Alpha stands
      → Holds (rules_by Alpha stands.setup) stands → Holds (rules value.setup) value
  in_alpha named seen is given =
      subst (λ v. Holds (rules v.setup) v) (rw is at seen)
      (subst (λ algorithm. Holds (rules_by algorithm stands.setup) stands) (sym (rw is at named)) given)
