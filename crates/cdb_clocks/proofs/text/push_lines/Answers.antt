use Rattle.std.proofs.Common.{ℕ, string_bytes, append_assoc, arith}
use Rattle.cdb_base.specs.declared.event.Event.{Event}
use Rattle.cdb_explain.proofs.Along.{its_line}
use Rattle.cdb_explain.specs.declared.line.Causes.TheVariants.{Shown}
use Rattle.cdb_rules.proofs.Flagged.{item_at}
use Rattle.cdb_rules.specs.RunView.{RunView}
use Rattle.cdb_clocks.proofs.Lines.{its_lines, lines_more}
use Rattle.cdb_clocks.specs.Rows.{clock_in}
use Rattle.cdb_clocks.specs.Texts.{first_lines, step_text}
use Rattle.cdb_standing.specs.Tables.{rows_in}
use Rattle.cdb_clocks.proofs.text.push_lines.Goals as goal

pub loop-i-preserved : goal.loop-i-preserved
loop-i-preserved g c =
    let rules = g.T.Runs.rules in
    let run : RunView = c.args.run.now in
    let clock = clock_in (rows_in c.args.rows.now.items) in
    let i : ℕ = c.loop-i.i in
    let event : Event = c.index-events-i.result in
    let next = c.in_ok-play_on.ensures in
    let at = item_at c.events-events.ensures i event (omega arith) c.index-events-i.is in
    let line = its_line rules i next.standing at next.played c.in_ok-deed.ensures Shown in
    let later : RunView = g.T.Runs.run c.play_on.new.again in
    record {
      played = next.played;
      text =
          rw (
            c.in_ok-push_step.ensures,
            c.loop-i.invariant.text,
            lines_more rules run clock i,
            its_lines rules run clock i event _ _ at line,
          )
          (append_assoc (string_bytes c.args.text.now) (first_lines rules run clock i) (step_text rules later c.in_ok-deed.deed clock event));
    }
