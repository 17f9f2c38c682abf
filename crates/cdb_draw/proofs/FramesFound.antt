-- The frame after the next command of a script.
use Rattle.std.proofs.Common.{◌≡◌, ◌∙◌, ℕ, suc, ◌+◌, ◌-◌, ◌<◌, ◌≤◌, Bool, List, [], ◌∷◌, ◌++◌, Option, Some, None, option_map}
use Rattle.std.proofs.Common.{get_or, length, map, max, fold, slice_get, take, refl, sym, ap, subst, arith}
use Rattle.std.specs.List.{All, AllByRecursion, flat_map, range_with_len}
use Rattle.std.proofs.lemmas.List.{take_more}
use Rattle.std.proofs.lemmas.List.Elements.{All-weaker, recursion_from_All}
use Rattle.std.proofs.lemmas.Option.{slice_get-get_or, slice_get-map}
use Rattle.cdb_commands.specs.declared.command.Command.{Command}
use Rattle.cdb_control.specs.Journal.{Journaled, extended, reply_in}
use Rattle.cdb_control.specs.OneSeat.{HasCarriedOut, carried_out}
use Rattle.cdb_control.proofs.OneSeat.{one_command}
use Rattle.cdb_explain.proofs.CarriedOut.{run_left}
use Rattle.cdb_explain.specs.RunLeft.{run_of}
use Rattle.cdb_rules.specs.RunView.{RunView}
use Rattle.cdb_rules.specs.Rules.{Rules}
use Rattle.cdb_setup.specs.Parts.{Parts}
use Rattle.cdb_draw.specs.Frames.{events_at, frame_at, frame_by, frame_text, frame_weights, IsFrameOf, room_of, took_by, Frame}
use Rattle.cdb_draw.specs.Layout.{grid_of, Grid}
use Rattle.cdb_draw.specs.Picture.{picture_text}
use Rattle.cdb_draw.specs.Limits.{MOST_DRAWN}
use Rattle.cdb_draw.specs.declared.weight.Weight.{Weight}
use Rattle.cdb_any_run.proofs.OpenCopies.{flat_map-more}

-- a command that left the run as it was has no frame
pub no_frame : (k events : ℕ) (took : Option Bool) → ((b : Bool) → took ≡ Some b → ⊥) → frame_by k events took ≡ []
no_frame k events None none = refl
no_frame k events (Some b) none = absurd (none b refl)

pub frame_is : (k events stand : ℕ) (found : Option Bool) (took : Bool) → events ≡ stand → found ≡ Some took
    → frame_by k stand found ≡ record { commands = k; events = events; took = took } ∷ []
frame_is k events stand found took a b = rw (b, a) refl

-- no frame has more room than each may
pub few_from : (most : ℕ) (frames : List Frame) (a : ℕ) → a ≤ most → AllByRecursion (λ (frame : Frame). frame.events ≤ most) frames
    → fold (λ (m : ℕ) (frame : Frame). max m frame.events) a frames ≤ most
few_from most [] a small all = small
few_from most (frame ∷ frames) a small (one, all) = few_from most frames (max a frame.events) (omega arith) all

module _ (rules : Parts → Rules) (setup : Parts) (commands : List Command) where
  pub room_few : (frames : List Frame) → All (IsFrameOf rules setup commands) frames → room_of frames ≤ MOST_DRAWN
  room_few frames all =
      few_from MOST_DRAWN frames 0 (omega arith)
      (recursion_from_All (λ (frame : Frame). frame.events ≤ MOST_DRAWN) frames
      (All-weaker (IsFrameOf rules setup commands) (λ (frame : Frame). frame.events ≤ MOST_DRAWN) (λ frame is. is.few) frames all))

  pub drawn_so : (columns room : ℕ) (frame : Frame) (grid : Grid) (run : RunView) (weights : List Weight) → grid ≡ grid_of setup columns room
      → run ≡ run_of rules (carried_out setup (take frame.commands commands)) → weights ≡ frame_weights frame.took (length run.history)
      → picture_text rules grid run weights ≡ frame_text rules setup commands columns room frame
  drawn_so columns room frame grid run weights a b c = rw (a, c, b) refl

  -- the picture of one of them
  pub picture_at : (columns room : ℕ) (frames : List Frame) (i : ℕ) (frame : Frame) → i < length frames → frame ≡ get_or frames i frame
      → (text : List ℕ) → text ≡ frame_text rules setup commands columns room frame
      → slice_get (map (frame_text rules setup commands columns room) frames) i ≡ Some text
  picture_at columns room frames i frame below is text drawn =
      let f = frame_text rules setup commands columns room in
      slice_get-map f frames i ∙ ap (option_map f) (slice_get-get_or frames i frame below ∙ ap (λ (it : Frame). Some it) (sym is))
      ∙ ap (λ (t : List ℕ). Some t) (sym drawn)

module _ (rules : Parts → Rules) (setup : Parts) (commands : List Command) (i : ℕ) where
  -- the frames up to it
  pub frames_more : {frames grown : List Frame} → frames ≡ flat_map (frame_at rules setup commands) (range_with_len 1 i)
      → grown ≡ frames ++ frame_at rules setup commands (i + 1) → grown ≡ flat_map (frame_at rules setup commands) (range_with_len 1 (i + 1))
  frames_more so grows =
      let f = frame_at rules setup commands in
      let next : i + 1 ≡ 1 + i = omega arith in
      grows ∙ ap (λ (l : List Frame). l ++ f (i + 1)) so ∙ ap (λ n. flat_map f (range_with_len 1 i) ++ f n) next ∙ sym (flat_map-more f 1 i)

  module _ (command : Command) (below : i < length commands) (is : command ≡ get_or commands i command)
      (control : Journaled) (along : HasCarriedOut setup (take i commands) control) where
    pub frame_next : (took : Option Bool) → took ≡ took_by (reply_in rules control 1 command)
        → frame_at rules setup commands (i + 1) ≡ frame_by (i + 1) (events_at rules setup commands (i + 1)) took
    frame_next took said = subst (λ (n : ℕ). frame_at rules setup commands n ≡ frame_by n (events_at rules setup commands n) took) next here
      where
        next : suc i ≡ i + 1
        next = omega arith

        at : slice_get commands i ≡ Some command
        at = slice_get-get_or commands i command below ∙ ap (λ (c : Command). Some c) (sym is)

        same : reply_in rules control 1 command ≡ reply_in rules (carried_out setup (take i commands)) 1 command
        same = rw (along.of_setup, along.one_seat, along.carried_out) refl

        here : frame_at rules setup commands (suc i) ≡ frame_by (suc i) (events_at rules setup commands (suc i)) took
        here =
            let last : suc i - 1 ≡ i = omega arith in
            rw (at, last, said, same) refl

    -- what stands after it
    pub events_next : (left : Journaled) → left ≡ extended rules control 1 command → length (run_of rules left).history ≡ events_at rules setup commands (i + 1)
    events_next left extends =
        let more : take i commands ++ command ∷ [] ≡ take (i + 1) commands =
        ap (λ (other : Command). take i commands ++ other ∷ []) is ∙ sym (take_more commands i command below) in
        let carried =
        subst (λ (done : List Command). HasCarriedOut setup done left) more
        (one_command rules setup (take i commands) command control along left extends) in
        ap (λ (run : RunView). length run.history) (run_left rules setup (take (i + 1) commands) left carried)
