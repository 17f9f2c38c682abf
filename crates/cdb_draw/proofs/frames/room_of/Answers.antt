use Rattle.std.proofs.Common.{unwrap_or, ap, ◌∙◌, rules, tests}
use Rattle.std.proofs.lemmas.Iterator.{YieldsList-from_slice, YieldsList-from_map}
use Rattle.std.proofs.lemmas.Iterator.Consumers.{reduce_from_yields_List}
use Rattle.std.proofs.lemmas.List.Folds.{max_of_map}
use Rattle.cdb_draw.specs.declared.frames.Frame.{Frame}
use Rattle.cdb_draw.proofs.frames.room_of.Goals as goal

pub returns : goal.returns
returns c =
    let s = c.args.frames.now in
    c.unwrap_or.ensures ∙ ap (λ o. unwrap_or o 0) (reduce_from_yields_List _ c.map.result _ c.max.ensures.ran (YieldsList-from_map _ (λ (x : Frame). x.events)
    (YieldsList-from_slice s cc) c.map.ensures.closure (λ x b q k. search (rules, tests)))) ∙ max_of_map (λ (x : Frame). x.events) s
