use Rattle.std.proofs.Common.{◌≡◌, ℕ, ◌<◌, ◌≤◌, max}
use Rattle.cdb_standing.specs.Cuts.{cut_of as count_of}
use Rattle.cdb_clocks.proofs.clock.raise.Given as goal

abbrev pub invariant-loop-i : goal.invariant-loop-i
invariant-loop-i l = record {
  raised : (q : ℕ) → q ≤ l.i → count_of l.clock q ≡ max (count_of l.initial.clock q) (count_of l.other q);
  others : (q : ℕ) → l.i < q → count_of l.clock q ≡ count_of l.initial.clock q;
}
