use Rattle.std.proofs.Common.{◌≡◌, ◌+◌, ◌≤◌, ℕ, length, vec_len, vec_capacity}
use Rattle.cdb_causal.specs.Names.{IsNamedAt}
use Rattle.cdb_run.proofs.RollingBack.{AreLeft}
use Rattle.cdb_run.proofs.run.Run.roll_back.Given as goal

abbrev pub invariant-loop-event : goal.invariant-loop-event
invariant-loop-event g l =
    record {
      setup : l.self.setup ≡ l.fn.self.setup;
      left :
          (at : ℕ) → IsNamedAt l.fn.self.history at l.fn.name
          → AreLeft l.fn.self.history at l.fn.removed.items l.self.history l.events.items l.removed.items;
      kept : vec_capacity l.fn.removed ≤ vec_capacity l.removed;
      room : vec_len l.removed + length l.events.items ≤ vec_capacity l.removed;
    }

abbrev pub decreases-loop-event : goal.decreases-loop-event
decreases-loop-event g l = vec_len l.events
