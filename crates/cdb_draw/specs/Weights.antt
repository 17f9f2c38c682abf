-- How strongly each event of a picture is drawn.
use Rattle.std.specs.Prelude.{◌≡◌, ℕ, Bool, true, false, List, [], ◌∷◌, codes, length}
use Rattle.std.specs.Prelude.{replicate, unwrap_or, Option, None, Some}
use Rattle.cdb_base.specs.Positions.{nth}
use Rattle.cdb_rules.specs.Flags.{FlagsPast}
use Rattle.cdb_rules.specs.RunView.{RunView}
use Rattle.cdb_trail.specs.Trailed.{IsTrailIn}
use Rattle.cdb_trail.specs.declared.trail.Trail.{Trail}
pub use Rattle.cdb_draw.specs.declared.weight.Weight.{Weight}
pub use Rattle.cdb_draw.specs.declared.weight.Weight.TheVariants.{Pale, Full, Bold}

-- the class in the style
abbrev pub weight_text : Weight → List ℕ
weight_text Pale = codes "pale"
weight_text Full = codes "full"
weight_text Bold = codes "bold"

-- that of the event at a position
abbrev pub weight_at : List Weight → ℕ → Weight
weight_at weights position = unwrap_or (nth weights position) Pale

-- of an event that has led to the step that is asked for or not, and is on the trail to it or not
abbrev pub weigh : Bool → Bool → Weight
weigh led true = Bold
weigh true false = Full
weigh false false = Pale

-- of each event of a history, with a flag of either kind for each
abbrev pub weigh_each : List Bool → List Bool → List Weight
weigh_each (led ∷ past) (on ∷ trail) = weigh led on ∷ weigh_each past trail
weigh_each past trail = []

-- the flags of a trail, where one leads there
abbrev pub trail_flags : ℕ → Option Trail → List Bool
trail_flags events (Some trail) = trail.flags.items
trail_flags events None = replicate events false

-- Everything is in full; or the trail to the event at that position is bold, what else has led there is in full, and
-- the rest is pale.
abbrev pub AreWeighed : RunView → Option ℕ → List Weight → Type 0
AreWeighed run None weights = weights ≡ replicate (length run.history) Full
AreWeighed run (Some position) weights =
    (past : List Bool) × FlagsPast run.history position past × (trail : Option Trail) × IsTrailIn run position trail
    × (weights ≡ weigh_each past (trail_flags (length run.history) trail))
