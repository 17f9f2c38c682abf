use Rattle.std.proofs.Common.{◌-◌, eqb-true, sym, ◌∙◌, arith}
use Rattle.std.proofs.lemmas.Bool.{eqb-false}
use Rattle.cdb_standing.proofs.LinksFound.{own_last, own_none, receive_last, list_last}
use Rattle.cdb_standing.proofs.causes.last_cause_of_step.Goals as goal

pub returns-then-k-gt1 : goal.returns-then-k-gt1
returns-then-k-gt1 c =
    let e = eqb-true c.args.p c.args.q (sym c.eq.ensures ∙ c.if-eq.true) in
    rw (← e) (own_last c.requires.kept.sound c.args.p c.args.k c.args.ahead c.args.kind.now c.requires.at (c.args.k - 1) (omega arith) (omega arith))

pub returns-else-k-gt1 : goal.returns-else-k-gt1
returns-else-k-gt1 c =
    let e = eqb-true c.args.p c.args.q (sym c.eq.ensures ∙ c.if-eq.true) in
    rw (← e) (own_none c.requires.kept.sound c.args.p c.args.k c.args.ahead c.args.kind.now c.requires.at (omega arith))

pub returns-in-Recv : goal.returns-in-Recv
returns-in-Recv c =
    let apart = eqb-false c.args.p c.args.q (sym c.eq.ensures ∙ c.if-eq.false) in
    rw (c.in-Recv.is, c.by_message.ensures)
    (receive_last c.requires.kept.sound c.args.p c.args.k c.args.ahead c.args.q apart c.in-Recv.s c.in-Recv.m (rw c.in-Recv.is at c.requires.at))

pub returns-in_default : goal.returns-in_default
returns-in_default c =
    let apart = eqb-false c.args.p c.args.q (sym c.eq.ensures ∙ c.if-eq.false) in
    list_last c.requires.kept.sound c.args.p c.args.k c.args.ahead c.args.kind.now c.requires.at
    c.in_default.not-Recv c.args.q apart c.conflicts.ensures c.by_list.result c.by_list.ensures
