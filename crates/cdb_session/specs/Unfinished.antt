-- What the code keeps for itself: a session in the middle of its input.
use Rattle.std.specs.Prelude.{◌≡◌, ◌⊎◌, ℕ, ◌+◌, ◌≤◌, Bool, true, false, List, [], ◌∷◌, ◌++◌, length, take, Result, Ok}
use Rattle.std.specs.Prelude.{Err, IsTrue, ◌↔◌, unwrap_or}
use Rattle.std.specs.List.{AllZip, AllByRecursion, flat_map}
use Rattle.cdb_session.specs.Requests.{HasNoEnd, Asks, AsksFor, IsQuit}
use Rattle.cdb_session.specs.Typed.{line_meant}
use Rattle.cdb_session.specs.Moves.{Known, Move, read_in, written_in, FindsTheEnd, Makes, WritesAll}
use Rattle.cdb_rules.specs.RunView.{RunView}
use Rattle.cdb_session.specs.Answers.{HasExchanges}
use Rattle.cdb_session.specs.Exchanges.{Answer, Exchange}
use Rattle.cdb_session.specs.declared.inquiry.Inquiry.{Inquiry}
use Rattle.cdb_session.specs.declared.request.Request.{Request}
use Rattle.cdb_session.specs.declared.request.Request.TheVariants.{Quit}
use Rattle.cdb_streams.specs.declared.buffer.OutputFault.{OutputFault}
use Rattle.cdb_streams.specs.declared.buffer.OutputFault.TheVariants as output
use Rattle.cdb_streams.specs.declared.fault.PlayFault.{PlayFault}
use Rattle.cdb_streams.specs.Faults.{of_output}
use Rattle.cdb_setup.specs.Format.{longest}
use Rattle.cdb_session.specs.Styles.{StyleView, Part, MakesNone}
use Rattle.cdb_session.specs.Replies.{next_place, place_after, shown, dialogue}
use Rattle.cdb_session.specs.Lines.{SessionView, HasDone, HasLooked, Shows}
use Rattle.cdb_session.specs.Served.{HoldsSession, IsAnswered}
use Rattle.cdb_session.specs.Sessions.{most_input, IsOpen, RespondsInTime}

-- the lines, each with its end
abbrev pub with_ends : List (List ℕ) → List ℕ
with_ends lines = flat_map (λ line. line ++ 10 ∷ []) lines

-- what is kept of the beginning of a line: enough to see that it is too long
abbrev pub unfinished_of : List ℕ → List ℕ
unfinished_of line = take (longest + 1) line

-- what the session returns at its end, and where its output failed
abbrev pub ended_well : Result (Unit {0}) PlayFault
ended_well = Ok tt

abbrev pub ended_by : OutputFault → Result (Unit {0}) PlayFault
ended_by fault = Err (of_output fault)

-- the input was at its end, or as much was read as may be
abbrev pub IsOver : List Move → Type 0
IsOver moves = FindsTheEnd moves ⊎ (most_input ≤ length (read_in moves))

module _ (Answers : RunView → Inquiry → Answer → Type 0) (style : StyleView) where
  -- what a line asks for was done, and what is to be put out then was handed over
  pub record IsHandled (result : Result Bool OutputFault) (before behind : Known) (old new : SessionView)
      (unfinished : List ℕ) : Type 0 where
    pub exchange : Exchange
    pub asks : Asks exchange unfinished
    pub done : HasDone Answers old.place.seat old.part exchange new.part
    pub looked : HasLooked old exchange new.part
    pub place : new.place ≡ next_place style old.place exchange
    pub outputs : WritesAll result before behind (shown style old.place exchange)

  -- after such a line nothing is held, and it was `quit` where this is true
  pub record IsBehind (request : Request) (left : List ℕ) (was_quit : Bool) : Type 0 where
    pub emptied : left ≡ []
    pub quit_exactly : IsTrue was_quit ↔ (request ≡ Quit)

  -- memory is out, and what the line asks for may have been begun
  abbrev pub IsLost : SessionView → SessionView → List ℕ → Type 0
  IsLost old new unfinished =
      MakesNone old.part new.part
      ⊎ ((request : Request) × AsksFor request (line_meant unfinished)
      × Shows Answers style {E = Unit {0}} (Err tt) old request new)

  -- a line that had ended was responded to
  abbrev pub RespondsToLine : Result Bool OutputFault → Known → Known → SessionView → SessionView → List ℕ → List ℕ
      → Type 0
  RespondsToLine (Ok was_quit) before behind old new unfinished left =
      (line : IsHandled (Ok was_quit) before behind old new unfinished)
      × IsBehind line.exchange.0 left was_quit
  RespondsToLine (Err output.Write) before behind old new unfinished left =
      IsHandled (Err output.Write) before behind old new unfinished
  RespondsToLine (Err (output.NoMemory refused)) before behind old new unfinished left =
      (before ≡ behind) × IsLost old new unfinished

  -- ---- of a session whose journal had this when it began

  module _ (begun : Part) where
    -- so far the session has responded in time, whatever its journal will have of it beside these lines
    abbrev pub RespondsOnTime : List Exchange → List Move → Type 0
    RespondsOnTime exchanges moves =
        (final : Part) (others : List Exchange) → HasExchanges Answers style begun final (exchanges ++ others)
        → RespondsInTime (IsAnswered Answers style begun final) moves

    -- After these moves the lines that have ended have their responses. Of the next line this much is held, and these
    -- bytes that were read are not yet looked at.
    pub record StaysAt (moves : List Move) (session : SessionView) (unfinished left : List ℕ) : Type 0 where
      pub lines : List (List ℕ)
      pub line : List ℕ
      pub exchanges : List Exchange
      pub read : read_in moves ≡ with_ends lines ++ (line ++ left)
      pub ended : AllByRecursion HasNoEnd lines
      pub unended : HasNoEnd line
      pub unfinished_is : unfinished ≡ unfinished_of line
      pub asked : AllZip Asks exchanges lines
      pub goes_on : AllByRecursion (λ line. ¬ IsQuit line) lines
      pub written : written_in moves ≡ dialogue style exchanges
      pub place_is : session.place ≡ place_after style exchanges
      pub watched : unwrap_or session.place.watched begun.entries ≤ session.part.entries
      pub longer : begun.entries ≤ session.part.entries
      pub has : HasExchanges Answers style begun session.part exchanges
      pub in_time : RespondsOnTime exchanges moves

    -- From the first of what is known on, this number of bytes was read, and not the end of the input. Each line among
    -- them has its response; what is left is the beginning of a line that is held, and bytes that were not looked at.
    pub record Arrives (first now : Known) (session : SessionView) (unfinished left : List ℕ) (read : ℕ) : Type 0 where
      pub moves : List Move
      pub makes : Makes first now moves
      pub stays : StaysAt moves session unfinished left
      pub many : length (read_in moves) ≡ read
      pub still : IsOpen moves

    -- where a session has come to that was at some bytes to be looked at: behind them, or at its end
    abbrev pub HasComeTo : Result Bool OutputFault → Known → Known → SessionView → List ℕ → ℕ → Type 0
    HasComeTo (Ok false) first now session unfinished read = Arrives first now session unfinished [] read
    HasComeTo (Ok true) first now session unfinished read =
        HoldsSession Answers style begun session.part ended_well first now
    HasComeTo (Err fault) first now session unfinished read =
        HoldsSession Answers style begun session.part (ended_by fault) first now

  -- the bytes were looked at
  abbrev pub Feeds : Result Bool OutputFault → Known → Known → SessionView → SessionView → List ℕ → List ℕ → List ℕ
      → Type 0
  Feeds result before behind old new unfinished left bytes =
      (begun : Part) (first : Known) (read : ℕ) → Arrives begun first before old unfinished bytes read
      → HasComeTo begun result first behind new left read

  -- a last line that has not ended was responded to
  abbrev pub RespondsToLast : Result (Unit {0}) PlayFault → Known → Known → SessionView → SessionView → List ℕ → Type 0
  RespondsToLast result before behind old new unfinished =
      (begun : Part) (first : Known) (moves : List Move) → Makes first before moves
      → StaysAt begun moves old unfinished [] → IsOver moves
      → HoldsSession Answers style begun new.part result first behind
