use Rattle.std.proofs.Common.{◌≡◌, ◌<◌, rules, length, refl}
use Rattle.cdb_text.specs.declared.fault.LineFault.TheVariants.{Empty}
use Rattle.cdb_streams.proofs.LinesRead.{one_line, ended, not_empty}
use Rattle.cdb_streams.proofs.script.commands_of.Goals as goal

pub loop-rest-preserved : goal.loop-rest-preserved
loop-rest-preserved c =
    let line = c.first_line.result.0.now in
    let some : 0 < length line = not_empty line (λ none. let bad = (c.in-Ok.ensures.fault Empty).1 none in absurd cc) in
    let left : 0 < length c.loop-rest.rest.now = search rules in
    rw c.in_ok-push_command-in-Ok.ensures
    (one_line c.args.script.now c.loop-rest.commands.items c.loop-rest.rest.now line c.first_line.result.1.now c.loop-rest.invariant c.first_line.ensures.lines
    c.in-Ok.command ((c.in-Ok.ensures.command c.in-Ok.command).0 refl) some left c.first_line.ensures.shorter c.first_line.ensures.newline)

pub returns-clause-commands : goal.returns-clause-commands
returns-clause-commands c =
    let none : length c.loop-rest.rest.now ≡ 0 = search rules in
    ended c.args.script.now c.loop-rest.commands.items c.loop-rest.rest.now c.loop-rest.invariant none
