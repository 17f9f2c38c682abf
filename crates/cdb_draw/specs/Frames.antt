-- The frames of a script: the picture of the run after each of its commands that changed it, all on one canvas, with
-- room for the run of most events, so that none is cut off.
use Rattle.std.specs.Prelude.{◌≡◌, ℕ, suc, ◌-◌, ◌≤◌, Bool, true, false, List, [], ◌∷◌, ◌++◌}
use Rattle.std.specs.Prelude.{length, map, max, replicate, take, fold, Option, None, Some}
use Rattle.std.specs.List.{flat_map, range_with_len}
use Rattle.std.specs.Option.{option_map_or}
use Rattle.cdb_base.specs.Positions.{nth}
use Rattle.cdb_commands.specs.ReplyView.{ReplyView, Stepped, Undone, Redone, RolledBack}
use Rattle.cdb_commands.specs.declared.command.Command.{Command}
use Rattle.cdb_control.specs.Journal.{reply_in}
use Rattle.cdb_control.specs.OneSeat.{carried_out}
use Rattle.cdb_explain.specs.RunLeft.{IsFaultOfRun, run_of}
use Rattle.cdb_explain.specs.declared.fault.AnswerFault.{AnswerFault}
use Rattle.cdb_explain.specs.declared.fault.AnswerFault.TheVariants.{Play, TooManyEvents}
use Rattle.cdb_rules.specs.RunView.{RunView}
use Rattle.cdb_rules.specs.Rules.{Rules}
use Rattle.cdb_setup.specs.Format.{Encodes}
use Rattle.cdb_setup.specs.Parts.{Parts}
use Rattle.cdb_streams.specs.Scripts.{IsScript}
use Rattle.cdb_streams.specs.declared.fault.PlayFault.TheVariants as play
use Rattle.cdb_draw.specs.Drawn.{IsCrowded}
use Rattle.cdb_draw.specs.Layout.{grid_of}
use Rattle.cdb_draw.specs.Picture.{picture_text}
pub use Rattle.cdb_draw.specs.declared.frames.Frame.{Frame}
use Rattle.cdb_draw.specs.Limits.{MOST_DRAWN}
use Rattle.cdb_draw.specs.declared.weight.Weight.{Weight}
use Rattle.cdb_draw.specs.declared.weight.Weight.TheVariants.{Full, Bold}

-- whether a command took an event or took some out, by its reply; nothing where it left the run as it was
abbrev pub took_by : ReplyView → Option Bool
took_by (Stepped event decides paused) = Some true
took_by (Redone event decides) = Some true
took_by (Undone event) = Some false
took_by (RolledBack count) = Some false
took_by reply = None

-- how strongly each of so many events is drawn: the last one is bold where the command took it
abbrev pub frame_weights : Bool → ℕ → List Weight
frame_weights true (suc n) = replicate n Full ++ Bold ∷ []
frame_weights took n = replicate n Full

-- the frame after so many commands, with so many events, of which the last command took one or took some out
abbrev pub frame_by : ℕ → ℕ → Option Bool → List Frame
frame_by commands events (Some took) = record { commands = commands; events = events; took = took } ∷ []
frame_by commands events None = []

-- no frame has more room than that of most events
abbrev pub room_of : List Frame → ℕ
room_of frames = fold (λ most frame. max most frame.events) 0 frames

module _ (rules : Parts → Rules) (setup : Parts) (commands : List Command) where
  -- the run after the first k commands
  abbrev pub run_at : ℕ → RunView
  run_at k = run_of rules (carried_out setup (take k commands))

  abbrev pub events_at : ℕ → ℕ
  events_at k = length (run_at k).history

  -- the frame after the k-th command, by its reply in the state before it
  abbrev pub frame_at : ℕ → List Frame
  frame_at k =
      option_map_or (λ command.
      frame_by k (events_at k) (took_by (reply_in rules (carried_out setup (take (k - 1) commands)) 1 command)))
      (nth commands k) []

  abbrev pub frames_of : List Frame
  frames_of = flat_map frame_at (range_with_len 1 (length commands))

  -- its picture, on a canvas with that room
  abbrev pub frame_text : ℕ → ℕ → Frame → List ℕ
  frame_text columns room frame =
      let run = run_at frame.commands in
      picture_text rules (grid_of setup columns room) run (frame_weights frame.took (length run.history))

  abbrev pub frame_texts : ℕ → List (List ℕ)
  frame_texts columns = map (frame_text columns (room_of frames_of)) frames_of

  -- what is known of each frame that is kept
  pub record IsFrameOf (frame : Frame) : Type 0 where
    pub carried_out : frame.commands ≤ length commands
    pub stand : frame.events ≡ events_at frame.commands
    pub few : frame.events ≤ MOST_DRAWN

  -- the run is crowded after some of the commands
  abbrev pub GetsCrowded : Type 0
  GetsCrowded = (k : ℕ) × (k ≤ length commands) × IsCrowded (run_at k)

  -- else a fault is that memory is out
  abbrev pub IsFaultOfFinding : AnswerFault → Type 0
  IsFaultOfFinding TooManyEvents = GetsCrowded
  IsFaultOfFinding (Play (play.NoMemory refused)) = Unit {0}
  IsFaultOfFinding fault = ⊥

-- the pictures are the frames of the script, on the setup that a text of JSON encodes
abbrev pub AreFramesOf : (Parts → Rules) → List ℕ → List ℕ → ℕ → List (List ℕ) → Type 0
AreFramesOf rules json script columns pictures =
    (setup : Parts) × Encodes json setup × (commands : List Command) × IsScript commands script
    × (pictures ≡ frame_texts rules setup commands columns)

-- the run is crowded after some of the commands; else as where a script leaves no run
abbrev pub IsFaultOfFrames : (Parts → Rules) → List ℕ → List ℕ → AnswerFault → Type 0
IsFaultOfFrames rules json script TooManyEvents =
    (setup : Parts) × Encodes json setup × (commands : List Command) × IsScript commands script
    × GetsCrowded rules setup commands
IsFaultOfFrames rules json script (Play fault) = IsFaultOfRun json script fault
IsFaultOfFrames rules json script fault = ⊥
