-- Short runs in which processes decide.
use Rattle.std.specs.Prelude.{ℕ, length, List, [], ◌∷◌, Option, option_map}
use Rattle.cdb_base.specs.declared.event.Event.{Event}
use Rattle.cdb_base.specs.declared.event.Event.TheVariants.{Step}
use Rattle.cdb_base.specs.declared.event.Kind.TheVariants.{Query, Send, Recv, Read, Write, Local}
use Rattle.cdb_base.specs.declared.register.Reg.TheVariants.{R, Dec}
use Rattle.cdb_agreement.specs.Algorithms.{leader_machine, alpha_machine}
use Rattle.cdb_rules.specs.Decisions.{decisions_of}
use Rattle.cdb_rules.specs.Step.{fold}
use Rattle.cdb_setup.specs.Parts.{Parts}
use Rattle.cdb_setup.specs.declared.setup.Algorithm.{Algorithm}
use Rattle.cdb_setup.specs.declared.setup.Algorithm.TheVariants.{Leader, Alpha}

-- processes with these inputs, of which each is a quorum alone
abbrev pub alone : Algorithm → List ℕ → Parts
alone algorithm inputs =
    record { version = 1; algorithm = algorithm; processes = length inputs; quorum = 1; inputs = inputs; answers = [] }

-- the eight steps in which process p hears itself alone
abbrev pub leader_steps : ℕ → List Event
leader_steps p =
    Step p 1 (Query p) ∷ Step p 2 (Send 1) ∷ Step p 3 (Recv p 1) ∷ Step p 4 Local
    ∷ Step p 5 (Send 2) ∷ Step p 6 (Recv p 2) ∷ Step p 7 Local ∷ Step p 8 (Send 3) ∷ []

-- the ten steps in which process 1 of one carries its first round through, and reads the decision
abbrev pub alpha_steps : List Event
alpha_steps =
    Step 1 1 (Read Dec) ∷ Step 1 2 (Query 1) ∷ Step 1 3 (Write (R 1)) ∷ Step 1 4 (Read (R 1)) ∷ Step 1 5 Local
    ∷ Step 1 6 (Write (R 1)) ∷ Step 1 7 (Read (R 1)) ∷ Step 1 8 Local ∷ Step 1 9 (Write Dec) ∷ Step 1 10 (Read Dec) ∷ []

-- the decisions that stand after a valid history
abbrev pub leader_decisions : List ℕ → List Event → Option (List (ℕ × ℕ))
leader_decisions inputs history =
    option_map (decisions_of (λ local. local.decision)) (fold (leader_machine (alone Leader inputs)) history)

abbrev pub alpha_decisions : List ℕ → List Event → Option (List (ℕ × ℕ))
alpha_decisions inputs history =
    option_map (decisions_of (λ local. local.decision)) (fold (alpha_machine (alone Alpha inputs)) history)
