use Rattle.std.proofs.Common.{ℕ, List, Option, Some, None, MatchOption, sym, ◌∙◌, subst}
use Rattle.cdb_base.specs.declared.event.Event.{Event}
use Rattle.cdb_base.specs.declared.name.StepId.{StepId}
use Rattle.cdb_causal.specs.Names.{IsNamedAt, IsNewName, IsPositionOf}
use Rattle.cdb_standing.proofs.history.History.position.Goals as goal

-- the one position of a name is that where it was found
place_is : (history : List Event) (name : StepId) (one : ℕ) → IsPositionOf history name one
    → (found : Option ℕ) → MatchOption found (IsNewName history name) (λ at. IsNamedAt history at name)
    → MatchOption found (IsNewName history name) (IsPositionOf history name)
place_is history name one is None none = none
place_is history name one is (Some at) named = subst (IsPositionOf history name) (sym (is.only at named)) is

pub returns-in_ok-to_vec-in-Some : goal.returns-in_ok-to_vec-in-Some
returns-in_ok-to_vec-in-Some c =
    let listed = c.deref.ensures.value ∙ c.in_ok-to_vec-in-Some.ensures in
    place_is c.args.self.now c.args.name c.in-Some.ensures.0 c.in-Some.ensures.1 c.place_of.result (rw listed at c.place_of.ensures)
