-- The text of the trail to a step.
use Rattle.std.specs.Prelude.{◌≡◌, ℕ, List, ◌++◌, codes, decimal, Option, Some, None}
use Rattle.cdb_agreement.specs.Algorithms.{rules}
use Rattle.cdb_explain.specs.Asked.{IsStepAsked}
use Rattle.cdb_explain.specs.Explanations.{events_text, flagged_text}
use Rattle.cdb_explain.specs.declared.line.Causes.TheVariants.{Hidden}
use Rattle.cdb_rules.specs.RunView.{RunView}
use Rattle.cdb_trail.specs.Oracle.{answers_in, answers_text}
use Rattle.cdb_trail.specs.Trailed.{IsTrailIn}
use Rattle.cdb_trail.specs.declared.trail.Trail.{Trail}

-- the line of the input at which a trail begins
abbrev pub proposal_text : ℕ → ℕ → List ℕ
proposal_text proposer value = codes "process " ++ decimal proposer ++ codes " proposes " ++ decimal value ++ codes "\n"

-- the text of a trail: its input, then a line for each event on it, in the order of the history, the oracle's answers
-- on which it rests, and how many events they are of how many
abbrev pub trail_text : RunView → Trail → List ℕ
trail_text run trail =
    let flags = trail.flags.items in
    proposal_text trail.proposer trail.value
    ++ events_text rules Hidden run flags ++ answers_text (answers_in run flags)
    ++ flagged_text run flags

-- the text is that of the trail to the event at that position
abbrev pub IsTrailText : RunView → ℕ → List ℕ → Type 0
IsTrailText run position text = (trail : Trail) × IsTrailIn run position (Some trail) × (text ≡ trail_text run trail)

-- the text is that of the trail to this step: to p.k, or without k to the last standing step of p
abbrev pub IsTrailToStep : RunView → ℕ → Option ℕ → List ℕ → Type 0
IsTrailToStep run p k text = (position : ℕ) × IsStepAsked run.history p k position × IsTrailText run position text

-- this step takes no value, so no trail leads to it
abbrev pub TakesNoValue : RunView → ℕ → Option ℕ → Type 0
TakesNoValue run p k = (position : ℕ) × IsStepAsked run.history p k position × IsTrailIn run position None
