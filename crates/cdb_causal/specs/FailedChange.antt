-- Changes of a state that may fail.
use Rattle.std.specs.Prelude.{◌≡◌, ◌⊎◌, Result, Err}
use Rattle.std.specs.Borrow.{MutBor}
use Rattle.std.specs.Fn.{FnOnceReturnsAtMut, Once}

-- the change was not begun, or it was, failed with that error, and left the new state
abbrev pub HasFailed : {F S R E : Type 0}
    → Once F (MutBor S × Unit {0}) (Result R E × (MutBor S × Unit {0})) → F → S → E → S → Type 0
HasFailed called change old error new = (new ≡ old) ⊎ FnOnceReturnsAtMut called change old (Err error) new
