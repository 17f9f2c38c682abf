-- Steps that may be taken in the other order.
use Rattle.std.specs.Prelude.{◌≡◌, Bool, false}

-- two steps that do not depend on each other may be taken in the other order, and lead to the same state
abbrev pub IsExchangeable : {State Step : Type 0} → (State → Step → State → Type 0) → (Step → Step → Bool) → Type 0
IsExchangeable {State} {Step} IsStep depends =
    (from between to : State) (first second : Step) → depends first second ≡ false
    → IsStep from first between → IsStep between second to
    → (other : State) × IsStep from second other × IsStep other first to
