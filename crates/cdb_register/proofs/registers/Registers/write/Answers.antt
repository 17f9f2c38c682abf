use Rattle.cdb_register.specs.Registers.{put_cell}
use Rattle.cdb_register.proofs.Changes.{set-update_nth}
use Rattle.cdb_register.proofs.registers.Registers.write.Goals as goal

pub returns-in-R-clause-after : goal.returns-in-R-clause-after
returns-in-R-clause-after c =
    let changed = set-update_nth (put_cell c.args.cell) c.self.inside.of_processes.items c.index.result c.in-R.p _ _
    c.index.ensures.value c.index_mut-state.ensures.value c.write.ensures.after in
    rw (c.in-R.is, ← c.self.view_is) (λ k. record { of_processes = changed k; of_decision = c.self.inside.of_decision })
