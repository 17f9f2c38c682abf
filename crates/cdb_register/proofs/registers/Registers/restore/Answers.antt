use Rattle.std.proofs.Common.{ap, ◌∙◌}
use Rattle.cdb_register.specs.Registers.{RegisterStates, with_register, restored}
use Rattle.cdb_register.proofs.Changes.{set-update_nth, with_register-back}
use Rattle.cdb_register.proofs.registers.Registers.restore.Goals as goal

pub returns-in-R-clause-after : goal.returns-in-R-clause-after
returns-in-R-clause-after c =
    let changed = set-update_nth (restored c.args.cell) c.self.inside.of_processes.items c.index.result c.in-R.p _ _
    c.index.ensures.value c.index_mut-state.ensures.value c.restore.ensures in
    rw (c.in-R.is, ← c.self.view_is) (λ k. record { of_processes = changed k; of_decision = c.self.inside.of_decision })

pub returns-in-R-clause-undoes : goal.returns-in-R-clause-undoes
returns-in-R-clause-undoes c = λ before by was kept.
    returns-in-R-clause-after c
    ∙ ap (λ (r : RegisterStates). with_register (restored c.args.cell) r c.args.register) was
    ∙ with_register-back by c.args.cell before c.args.register kept
