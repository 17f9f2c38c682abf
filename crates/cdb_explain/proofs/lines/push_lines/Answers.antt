use Rattle.std.proofs.Common.{ℕ, ◌<◌, length, refl, ap, arith}
use Rattle.std.proofs.lemmas.Grind.{common_steps}
use Rattle.cdb_explain.specs.Explanations.{line_at}
use Rattle.cdb_explain.proofs.Flags.{count_more, flag_read, text_more}
use Rattle.cdb_explain.proofs.lines.push_lines.Goals as goal

pub loop-i-preserved : goal.loop-i-preserved
loop-i-preserved g c =
    let flags = c.args.flags.now in
    let i : ℕ = c.loop-i.i in
    let so = c.loop-i.invariant in
    let next = c.in_ok-count.ensures in
    let within : i < length flags = omega (arith, ap length c.events-i-end.ensures) in
    let is = flag_read flags i _ _ within refl in
    record {
      played = next.played;
      text = text_more flags i _ is (line_at g.T.Runs.rules c.args.causes c.args.run.now) _ _ _ so.text next.line;
      count = count_more flags i _ is _ _ so.count next.count;
      few = grind (arith, common_steps, next.count, so.few);
    }
