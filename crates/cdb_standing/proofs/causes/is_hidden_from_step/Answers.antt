use Rattle.std.proofs.lemmas.Bool.{cases_eq}
use Rattle.std.proofs.Common.{ℕ, true≢false, inl, inr, sym, ◌∙◌, arith}
use Rattle.cdb_standing.proofs.LinksFound.{lies_there, none_lies}
use Rattle.cdb_standing.proofs.causes.is_hidden_from_step.Goals as goal

pub returns-then-not-access_one : goal.returns-then-not-access_one
returns-then-not-access_one c = λ q l is.
    none_lies c.requires.kept.sound c.requires.at is (λ same s one nine h.
    true≢false (sym (c.if-not-access_one.ensures.none h.5.n h.5.one (sym same ∙ h.5.one))))

pub returns-then-is_between : goal.returns-then-is_between
returns-then-is_between c = λ q l is. lies_there c.requires.kept.sound c.requires.at is (c.is_between.ensures.0 c.if-is_between.true)

pub loop-i-preserved : goal.loop-i-preserved
loop-i-preserved c = λ s one le.
    let i : ℕ = c.loop-i.i in
    elim (cases_eq s c.new-s.result) [
      | inl e ↦ rw e (λ h. true≢false (sym (c.is_between.ensures.1 h) ∙ c.if-is_between.false))
      | inr other ↦ c.loop-i.invariant s one (omega arith)
    ]

pub returns : goal.returns
returns c = λ q l is. none_lies c.requires.kept.sound c.requires.at is (λ same s one nine. c.loop-i.invariant s one (omega arith))
