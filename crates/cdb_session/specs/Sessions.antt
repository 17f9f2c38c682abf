-- What a session has done, by its moves.
use Rattle.std.specs.Prelude.{◌≡◌, ◌≢◌, ℕ, ◌≤◌, ◌^◌, List, [], ◌∷◌, ◌++◌, length, Result, Ok, Err}
use Rattle.std.specs.List.{AllByRecursion}
use Rattle.cdb_streams.specs.Lines.{lines_of}
use Rattle.cdb_streams.specs.declared.fault.PlayFault.{PlayFault}
use Rattle.cdb_streams.specs.declared.fault.PlayFault.TheVariants as fault
use Rattle.cdb_session.specs.Moves.{Move, Read, ReadFailed, Output, read_in, written_in, AsksForInput, FailsToWrite}
use Rattle.cdb_session.specs.Moves.{EndsWith, FindsTheEnd}
use Rattle.cdb_session.specs.Requests.{ended_lines, HaveQuit}

-- the most bytes that a session reads, which no input has in practice
abbrev pub most_input : ℕ
most_input = 2 ^ 63

-- a line was `quit`, or the input was at its end, or as much was read as may be
pub data HasEnded (moves : List Move) : Type 0 where
  by_quit : HaveQuit (ended_lines (read_in moves)) → HasEnded moves
  at_end : FindsTheEnd moves → HasEnded moves
  at_most : most_input ≤ length (read_in moves) → HasEnded moves

-- the input was not found at its end
abbrev pub IsOpen : List Move → Type 0
IsOpen moves = AllByRecursion (λ move. move ≢ Read []) moves

-- of a session that responds to these lines with this
module _ (Responds : List (List ℕ) → List Output → Type 0) where
  -- all lines that have ended have their responses in full, and none of them is `quit`; and there may be more
  pub record HasResponded (moves : List Move) : Type 0 where
    pub responded : Responds (ended_lines (read_in moves)) (written_in moves)
    pub goes_on : ¬ HaveQuit (ended_lines (read_in moves))
    pub more : IsOpen moves

  -- whenever the session asks for more input, all lines that it was given so far have their responses in full
  abbrev pub RespondsInTime : List Move → Type 0
  RespondsInTime moves =
      (before : List Move) (ask : Move) (later : List Move) → moves ≡ before ++ ask ∷ later → AsksForInput ask
      → HasResponded before

  -- all has its response, a last line too that lacks its byte 10
  pub record IsWhole (moves : List Move) : Type 0 where
    pub responded : Responds (lines_of (read_in moves)) (written_in moves)
    pub ended : HasEnded moves

  -- what was written is a beginning of the responses to the first of the lines
  pub record IsBroken (moves : List Move) : Type 0 where
    pub lines : List (List ℕ)
    pub others : List (List ℕ)
    pub outputs : List Output
    pub missing : List Output
    pub begins : lines_of (read_in moves) ≡ lines ++ others
    pub responded : Responds lines outputs
    pub written : outputs ≡ written_in moves ++ missing

-- What may be said besides, once the session has ended: so it has served these lines with this, and so it was cut
-- short.
module _ (Responds Serves : List (List ℕ) → List Output → Type 0) (IsCutShort : List Move → Type 0) where
  -- the moves by what the session returned
  abbrev pub EndsAs : {A : Type 0} → Result A PlayFault → List Move → Type 0
  EndsAs (Ok done) moves = IsWhole Serves moves
  EndsAs (Err fault.Read) moves = HasResponded Serves moves × EndsWith (λ last. last ≡ ReadFailed) moves
  EndsAs (Err fault.Write) moves = IsBroken Serves moves × EndsWith FailsToWrite moves
  EndsAs (Err (fault.NoMemory refused)) moves = IsCutShort moves
  EndsAs (Err (fault.Setup why)) moves = ⊥
  EndsAs (Err (fault.Line script line why)) moves = ⊥
  EndsAs (Err (fault.ScriptTooLong script)) moves = ⊥

  -- a session that has made these moves, and returned this
  pub record IsSessionBy {A : Type 0} (returned : Result A PlayFault) (moves : List Move) : Type 0 where
    pub in_time : RespondsInTime Responds moves
    pub ends : EndsAs returned moves
