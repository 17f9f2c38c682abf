use Rattle.std.proofs.Common.{ap, ◌∙◌}
use Rattle.cdb_base.specs.Positions.{set_nth}
use Rattle.cdb_rules.proofs.Positions.{set_at}
use Rattle.cdb_run.proofs.Views.{found_there}
use Rattle.cdb_run.proofs.state.State.step.Goals as goal

pub write-overwritten-requires : goal.write-overwritten-requires
write-overwritten-requires g c =
    let stood =
    found_there c.args.self.now.processes.items c.index.result c.args.p c.index_mut-progress.result.now
    c.index.ensures.value c.requires.within c.index_mut-progress.ensures.value in
    c.due-wish.ensures.due c.args.self.now.registers (c.requires.from c.index_mut-progress.result.now stood).due

pub returns-clause-ok : goal.returns-clause-ok
returns-clause-ok g c =
    let held = c.args.self.now in
    record {
      may = c.requires;
      progress = c.index_mut-progress.result.now;
      stood =
          found_there held.processes.items c.index.result c.args.p c.index_mut-progress.result.now
          c.index.ensures.value c.requires.within c.index_mut-progress.ensures.value;
      next = c.take_input.new.local;
      accepted = rw c.input_at-input.ensures at c.in_ok-back.ensures.next;
      after =
          λ i. record {
            processes =
                (set_at held.processes.items c.index.result c.args.p c.count.new.progress c.index.ensures.value
                ∙ ap (set_nth held.processes.items c.args.p) c.count.ensures) i;
            mail = (c.in_default.ensures.ok ∙ c.due-wish.ensures.mail held.mail c.args.p) i;
            registers = (c.write-overwritten.ensures.after ∙ c.due-wish.ensures.registers held.registers) i;
          };
      back = c.in_ok-back.ensures.back;
      overwritten = c.write-overwritten.ensures.overwritten;
    }
