use Rattle.std.proofs.Common.{refl, sym, subst, true≢false}
use Rattle.cdb_standing.specs.Moves.{IsEndOf}
use Rattle.cdb_standing.proofs.Beside.{history_seen}
use Rattle.cdb_standing.proofs.Numbered.{last_named}
use Rattle.cdb_standing.proofs.records.Records.take_last_of.Goals as goal

pub take_step-kind-requires : goal.take_step-kind-requires
take_step-kind-requires g c = rw (history_seen _ _ c.self.view_is) at (c.if-not-is_free.ensures.0 refl)

pub returns-then-not-is_free : goal.returns-then-not-is_free
returns-then-not-is_free g c =
    let its = c.steps_of-k.ensures in
    rw (← history_seen _ _ c.self.view_is) (
      λ name last free.
          let is =
          last_named c.args.p c.self.inside.history c.steps_of-k.result name its.numbered its.count its.end last.0 last.1 last.2 (free.0, free.1) in
          true≢false (sym (c.if-not-is_free.ensures.1 (rw (← is) at free))),
      refl,
    )

pub returns : goal.returns
returns g c =
    let seen = history_seen _ _ c.self.view_is in (
      (c.steps_of-k.result, refl, subst (λ h. IsEndOf h c.args.p c.steps_of-k.result) seen c.steps_of-k.ensures.end),
      rw seen at (c.if-not-is_free.ensures.0 refl),
      c.take_step-kind.ensures,
    )
