use Rattle.std.proofs.Common.{◌≡◌, ℕ, suc, length, take, Some}
use Rattle.cdb_base.specs.Positions.{nth}
use Rattle.cdb_base.specs.declared.event.Event.TheVariants.{Step}
use Rattle.cdb_base.specs.declared.event.Kind.{Kind}
use Rattle.cdb_clocks.specs.Rows.{AreKept, HasLedOf}
use Rattle.cdb_standing.specs.Tables.{rows_in}
use Rattle.cdb_clocks.proofs.clock.next_clock.Given as goal

abbrev pub invariant-loop-cause : goal.invariant-loop-cause
invariant-loop-cause l = record {
  nine : length l.clock ≡ 9;
  led : (end : ℕ) (kind : Kind) → nth l.history (suc end) ≡ Some (Step l.p l.k kind)
      → AreKept l.history end (rows_in l.rows.items) → HasLedOf l.history (suc end) (take l.cause-index l.cause-items) l.clock;
}
