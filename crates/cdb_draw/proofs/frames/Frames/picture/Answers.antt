use Rattle.std.proofs.Common.{◌∙◌, List, ap, length, take}
use Rattle.std.proofs.lemmas.List.{length-map}
use Rattle.std.proofs.lemmas.Result.{IfOk-weaker}
use Rattle.cdb_agreement.specs.Algorithms.{rules}
use Rattle.cdb_base.specs.declared.event.Event.{Event}
use Rattle.cdb_explain.specs.RunLeft.{run_of}
use Rattle.cdb_control.specs.OneSeat.{carried_out}
use Rattle.cdb_commands.specs.declared.command.Command.{Command}
use Rattle.cdb_draw.specs.Frames.{frame_text, frame_weights}
use Rattle.cdb_draw.proofs.FramesFound.{drawn_so, picture_at}
use Rattle.cdb_draw.proofs.frames.Frames.picture.Goals as goal

pub returns : goal.returns
returns c =
    let its = c.self.inside in
    let frame = c.index-frame.result.now in
    let setup = its.setup in
    let commands = its.commands.items in
    let stands = c.in_ok-run.ensures.is ∙ ap (λ (all : List Command). run_of rules (carried_out setup (take frame.commands all))) c.deref.ensures.value in
    let weights =
    c.as_slice.ensures.value ∙ c.in_ok-weights.ensures.weights ∙ ap (λ (events : List Event). frame_weights frame.took (length events)) c.events.ensures in
    let below = rw (length-map its.frames.items (frame_text rules setup commands its.columns its.room)) at (rw (← c.self.view_is) at c.requires) in
    rw (← c.self.view_is)
    (IfOk-weaker c.weighed_picture.result _ _
    (λ text is. picture_at rules setup commands its.columns its.room its.frames.items c.args.i frame below c.index-frame.ensures text.items
    (is ∙ drawn_so rules setup commands its.columns its.room frame _ _ _ c.grid_of-grid.ensures.value stands weights))
    c.weighed_picture.ensures)
