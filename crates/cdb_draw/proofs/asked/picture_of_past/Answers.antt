use Rattle.std.proofs.Common.{◌≡◌, ℕ, List, Vec, Some, length, subst, Global}
use Rattle.std.proofs.lemmas.Result.{IfOk-weaker}
use Rattle.cdb_agreement.specs.Algorithms.{rules}
use Rattle.cdb_base.specs.declared.event.Event.{Event}
use Rattle.cdb_causal.specs.Dependence.{depends}
use Rattle.cdb_causal.specs.Past.{IsSlice}
use Rattle.cdb_rules.specs.RunView.{RunView}
use Rattle.cdb_rules.specs.Runs.{with_history}
use Rattle.cdb_draw.specs.Drawn.{IsPictureOfPast}
use Rattle.cdb_draw.specs.Picture.{IsPicture}
use Rattle.cdb_draw.proofs.asked.picture_of_past.Goals as goal

-- of what has led to an event the picture is that of a run by itself
past_drawn : (run drawn : RunView) (columns position : ℕ) (shown : List Event) → shown ≡ drawn.history
    → (events : List Event) × (others : List Event) × IsSlice depends run.history position events others × (drawn ≡ with_history run events)
    → (text : List ℕ) → IsPicture rules drawn columns (Some (length shown)) text → IsPictureOfPast rules run columns (Some position) text
past_drawn run drawn columns position shown same (events, others, slice, is) text picture =
    let last = subst (λ (es : List Event). IsPicture rules drawn columns (Some (length es)) text) same picture in
    (events, others, slice, subst (λ (r : RunView). IsPicture rules r columns (Some (length r.history)) text) is last)

pub returns : goal.returns
returns c =
    let drawn = past_drawn c.args.run.now c.in_ok-past.past c.args.columns c.args.position c.events.result.now c.events.ensures c.in_ok-past.ensures.past in
    IfOk-weaker c.picture_of.result _ _ (λ (text : Vec ℕ Global). drawn text.items) c.picture_of.ensures
