use Rattle.std.proofs.Common.{◌≡◌, ◌∙◌, ℕ, List, ap, sym, codes, bytes_eq}
use Rattle.std.proofs.lemmas.Bool.{false≢true}
use Rattle.cdb_goal.specs.Words.{IsWordOf, Goal as GoalName, Differ, All, Stuck, Decides}
use Rattle.cdb_goal.proofs.goal.Goal.read.Goals as goal

-- a word that names none of each kind names none
names_none : (word : List ℕ) → (word ≡ codes "differ" → ⊥) → (word ≡ codes "all" → ⊥) → ((round : ℕ) → IsWordOf (Stuck round) word → ⊥)
    → ((p value : ℕ) → IsWordOf (Decides p value) word → ⊥) → (goal : GoalName) → IsWordOf goal word → ⊥
names_none word differ all stuck decides Differ is = differ is
names_none word differ all stuck decides All is = all is
names_none word differ all stuck decides (Stuck round) is = stuck round is
names_none word differ all stuck decides (Decides p value) is = decides p value is

pub returns-in-None : goal.returns-in-None
returns-in-None c =
    let word = c.args.word.now in
    names_none word (λ is. false≢true (sym c.if-eq.false ∙ c.eq.ensures ∙ ap (λ w. bytes_eq w (codes "differ")) is))
    (λ is. false≢true (sym c.if-eq-2.false ∙ c.eq-2.ensures ∙ ap (λ w. bytes_eq w (codes "all")) is))
    (rw c.in_default.is at c.stuck_round.ensures) (rw c.in-None.is at c.decided.ensures)
