-- How a session greets.
use Rattle.std.specs.Prelude.{ℕ, ◌==◌, List, [], ◌∷◌, codes, decimal, if◌then◌else◌}
use Rattle.std.specs.List.{concat}
use Rattle.cdb_setup.specs.Parts.{Parts}
use Rattle.cdb_setup.specs.declared.setup.Algorithm.{Algorithm}
use Rattle.cdb_setup.specs.declared.setup.Algorithm.TheVariants.{Leader, Alpha}

abbrev pub algorithm_words : Algorithm → List ℕ
algorithm_words Leader = codes "leader-based consensus"
algorithm_words Alpha = codes "Alpha over registers"

abbrev pub process_word : ℕ → List ℕ
process_word n = if n == 1 then codes "process" else codes "processes"

-- in version 2 the network may lose copies
abbrev pub loss_words : ℕ → List ℕ
loss_words version = if version == 2 then codes "copies can be lost" else codes "no copy is lost"

-- the setup in words, in one line
abbrev pub greeting_text : Parts → List ℕ
greeting_text setup =
    concat
    (algorithm_words setup.algorithm ∷ codes ", " ∷ decimal setup.processes ∷ codes " " ∷ process_word setup.processes
    ∷ codes ", quorum " ∷ decimal setup.quorum ∷ codes ", " ∷ loss_words setup.version
    ∷ codes "; help lists the commands\n" ∷ [])

-- a session without a prompt has nobody whom it greets
abbrev pub greeting_at : List ℕ → List ℕ → List ℕ
greeting_at [] greeting = []
greeting_at (byte ∷ prompt) greeting = greeting
