use Rattle.std.proofs.Common.{arith, subst, sym}
use Rattle.cdb_leader.specs.Index.{IsIndexOf}
use Rattle.cdb_leader.proofs.IndexLaws.{known_short, known_all, known_long}
use Rattle.cdb_leader.proofs.index.Index.forget.Goals as goal

pub returns-then-messages-lt-KNOWN : goal.returns-then-messages-lt-KNOWN
returns-then-messages-lt-KNOWN c = λ h.
    subst (IsIndexOf c.forget_known.new.self) (sym (known_all c.args.messages.now (omega arith)))
    (c.forget_known.ensures (subst (IsIndexOf c.args.self.now) (known_short _ _ c.if-messages-lt-KNOWN.true) h))

pub returns-else-messages-lt-KNOWN : goal.returns-else-messages-lt-KNOWN
returns-else-messages-lt-KNOWN c = λ h.
    subst (IsIndexOf c.args.self.now) (known_long _ _ c.if-messages-lt-KNOWN.false) h
