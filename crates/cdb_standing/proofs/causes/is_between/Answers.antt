use Rattle.std.proofs.Common.{◌≡◌, ◌⊎◌, true, true≢false, eqb-true, inl, inr, sym, ◌∙◌}
use Rattle.std.proofs.lemmas.Bool.{eqb-false}
use Rattle.cdb_standing.specs.Accesses.{writes}
use Rattle.cdb_standing.proofs.LinksFound.{with_cause, with_step}
use Rattle.cdb_standing.proofs.causes.is_between.Goals as goal
use Rattle.cdb_standing.proofs.causes.is_between.Goals.{then-eq, else-eq}

pub returns-then-writes : goal.returns-then-writes
returns-then-writes c =
    let either : (c.args.s ≡ c.args.p) ⊎ (writes c.args.kind.now ≡ true) = elim c.if-eq.branch [
      | then-eq w ↦ inl (eqb-true c.args.s c.args.p (sym c.eq.ensures ∙ w.if-eq.true))
      | else-eq w ↦ inr (sym w.writes.ensures ∙ sym w.value-is ∙ c.if-writes.true)
    ] in
    let found = c.has_between.ensures in
    let is = with_cause c.requires.same c.args.cause.now.mark c.args.p c.args.ahead c.args.s c.conflicts.ensures either in
    ((λ yes. is.0 (found.0 yes)), (λ h. found.1 (is.1 h)))

pub returns-else-writes : goal.returns-else-writes
returns-else-writes c =
    let found = c.has_between-else-writes.ensures in
    elim c.if-eq.branch [
      | then-eq w ↦ absurd (true≢false (sym w.if-eq.true ∙ sym w.value-is ∙ c.if-writes.false))
      | else-eq w ↦ (
          let is =
          with_step c.requires.same c.args.cause.now.mark c.args.p c.args.ahead c.args.s c.conflicts-else-writes.ensures
          (eqb-false c.args.s c.args.p (sym c.eq.ensures ∙ w.if-eq.false)) (sym w.writes.ensures ∙ sym w.value-is ∙ c.if-writes.false) in
          ((λ yes. is.0 (found.0 yes)), (λ h. found.1 (is.1 h))))
    ]
