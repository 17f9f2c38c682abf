use Rattle.std.proofs.Common.{arith, subst, sym}
use Rattle.std.specs.Prelude.{OnOk, OnErr}
use Rattle.cdb_leader.specs.Index.{IsIndexOf}
use Rattle.cdb_leader.proofs.IndexLaws.{known_short, known_all, known_long}
use Rattle.cdb_leader.proofs.index.Index.note.Goals as goal

pub returns-then-messages-lt-KNOWN-clause-ok : goal.returns-then-messages-lt-KNOWN-clause-ok
returns-then-messages-lt-KNOWN-clause-ok c = λ h.
    subst (λ inbox. OnOk c.note_known.result (IsIndexOf c.note_known.new.self inbox)) (sym (known_short _ _ c.if-messages-lt-KNOWN.true))
    (c.note_known.ensures.ok (subst (IsIndexOf c.args.self.now) (known_all c.args.messages.now (omega arith)) h))

pub returns-then-messages-lt-KNOWN-clause-err : goal.returns-then-messages-lt-KNOWN-clause-err
returns-then-messages-lt-KNOWN-clause-err c = λ h.
    subst (λ inbox. OnErr c.note_known.result (IsIndexOf c.note_known.new.self inbox)) (sym (known_all c.args.messages.now (omega arith)))
    (c.note_known.ensures.err (subst (IsIndexOf c.args.self.now) (known_all c.args.messages.now (omega arith)) h))

pub returns-else-messages-lt-KNOWN-clause-ok : goal.returns-else-messages-lt-KNOWN-clause-ok
returns-else-messages-lt-KNOWN-clause-ok c = λ h.
    subst (IsIndexOf c.args.self.now) (sym (known_long _ _ c.if-messages-lt-KNOWN.false)) h
