use Rattle.std.proofs.Common.{◌≡◌, ◌∙◌, ◌+◌, ◌++◌, List, ap, append-nil, length, sym, arith}
use Rattle.std.proofs.lemmas.List.Elements.{All-push, All-same}
use Rattle.cdb_agreement.specs.Algorithms.{rules}
use Rattle.cdb_draw.specs.Frames.{events_at, IsFrameOf, Frame}
use Rattle.cdb_draw.proofs.FramesFound.{events_next, frame_is, frame_next, no_frame}
use Rattle.cdb_draw.proofs.frames.add_next.Goals as goal

pub returns-in_default-clause-frames : goal.returns-in_default-clause-frames
returns-in_default-clause-frames c =
    let setup = c.args.control.now.setup in
    let commands = c.args.commands.now in
    let none =
    frame_next rules setup commands c.args.i c.index-commands-i.result c.requires.i
    c.index-commands-i.is c.args.control.now c.requires.before _ c.in_ok-took.ensures.took
    ∙ no_frame _ _ c.in_ok-took.field-0 c.in_default.not-Some in
    (sym (append-nil c.args.frames.now.items) ∙ ap (λ (more : List Frame). c.args.frames.now.items ++ more) (sym none), λ each. each)

pub returns-then-events-gt-MOST_DRAWN-clause-fault : goal.returns-then-events-gt-MOST_DRAWN-clause-fault
returns-then-events-gt-MOST_DRAWN-clause-fault c =
    let setup = c.args.control.now.setup in
    let commands = c.args.commands.now in
    let stand = ap length (c.as_slice-events.ensures.value ∙ c.in_ok-standing.ensures ∙ c.run.ensures.history)
    ∙ events_next rules setup commands c.args.i c.index-commands-i.result c.requires.i
    c.index-commands-i.is c.args.control.now c.requires.before _ c.in_ok-took.ensures.done in
    (c.args.i + 1, omega arith, omega arith)

pub returns-clause-frames : goal.returns-clause-frames
returns-clause-frames c =
    let setup = c.args.control.now.setup in
    let commands = c.args.commands.now in
    let stand : length c.as_slice-events.result.now ≡ events_at rules setup commands (c.args.i + 1) =
    ap length (c.as_slice-events.ensures.value ∙ c.in_ok-standing.ensures ∙ c.run.ensures.history)
    ∙ events_next rules setup commands c.args.i c.index-commands-i.result c.requires.i
    c.index-commands-i.is c.args.control.now c.requires.before _ c.in_ok-took.ensures.done in
    let framed =
    frame_next rules setup commands c.args.i c.index-commands-i.result c.requires.i
    c.index-commands-i.is c.args.control.now c.requires.before _ c.in_ok-took.ensures.took
    ∙ frame_is (c.args.i + 1) _ _ _ c.in-Some.took stand c.in-Some.is in
    let grown = c.in_ok-push_frame.ensures in
    let IsFrame = IsFrameOf rules setup commands in (
      grown ∙ ap (λ (more : List Frame). c.args.frames.now.items ++ more) (sym framed),
      λ each.
          All-same IsFrame _ _ grown
          (All-push IsFrame c.args.frames.now.items _ each (record { carried_out = omega arith; stand = stand; few = omega arith })),
    )
