-- The machine of a run: a table at a setup.
use Rattle.std.specs.Prelude.{ℕ, suc, Bool, true, false, ◌==◌, List, [], ◌∷◌, map}
use Rattle.cdb_process.specs.Process as process
use Rattle.cdb_process.specs.Table.{Table}
use Rattle.cdb_rules.specs.State.{Machine, fresh_progress}
use Rattle.cdb_rules.specs.declared.progress.Progress.{Progress}
use Rattle.cdb_setup.specs.Parts.{Parts}
use Rattle.cdb_setup.specs.declared.setup.Algorithm.{Algorithm}
use Rattle.cdb_setup.specs.declared.setup.Algorithm.TheVariants.{Leader, Alpha}

-- the first local states of processes p, p + 1, .. of n, one for each input
abbrev pub first_states : {Local : Type 0} → (ℕ → ℕ → ℕ → ℕ → Local) → ℕ → ℕ → ℕ → List ℕ → List Local
first_states first p n q [] = []
first_states first p n q (value ∷ values) = first p n q value ∷ first_states first (suc p) n q values

-- Alpha alone has registers
abbrev pub uses_registers : Algorithm → Bool
uses_registers Leader = false
uses_registers Alpha = true

-- the machine of a setup: where its version is 2, copies can be lost
abbrev pub machine_of : {Local : Type 0} → Table Local → Parts → Machine Local
machine_of table setup =
    record {
      firsts = first_states table.first 1 setup.processes setup.quorum setup.inputs;
      has_registers = uses_registers setup.algorithm;
      loses_copies = setup.version == 2;
      next = table.next;
      accepts_query = table.accepts_query;
      accepts_receive = table.accepts_receive;
      wish = table.wish;
      done = λ local. table.place local == table.last_place;
    }

-- what the machine of a process keeps to
abbrev pub IsLawful : {L : Type 0} → Machine L → Type 0
IsLawful machine = process.IsLawful machine.next machine.accepts_query machine.accepts_receive machine.wish

-- how far each process has come before its first step
abbrev pub progress_at_start : {Local : Type 0} → Table Local → Parts → List (Progress Local)
progress_at_start table setup =
    map fresh_progress (first_states table.first 1 setup.processes setup.quorum setup.inputs)
