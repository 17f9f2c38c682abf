use Rattle.std.proofs.Common.{[], List, ℕ, Bor, sym, ◌∙◌, arith}
use Rattle.cdb_session.proofs.TypedWords.{full_of_two}
use Rattle.cdb_session.proofs.typed.full.Goals as goal

pub returns-then-is_some : goal.returns-then-is_some
returns-then-is_some c =
    let none : Bor (List ℕ) = record { ref_ptr = (0, 0); now = [] } in
    full_of_two c.args.options.now c.args.word.now c.loop-option.option-index none c.loop-option.found (omega (arith, c.loop-option-test.true))
    c.loop-option.invariant (sym c.is_some.ensures ∙ c.if-is_some.true) (sym c.starts_with.ensures.value ∙ c.if-starts_with.true)
