-- The oracle's answers on which a trail rests: the queries whose answers its votes count, and that began the rounds in
-- which its values were settled.
use Rattle.std.specs.Prelude.{ℕ, Bool, false, ◌==◌, ◌&&◌, List, ◌++◌, codes, length}
use Rattle.std.specs.Prelude.{filter, map, option_map, option_to_list}
use Rattle.std.specs.List.{flat_map, list_any, range_with_len}
use Rattle.cdb_agreement.specs.Algorithms.{rules as both_rules}
use Rattle.cdb_base.specs.Event.{event_name}
use Rattle.cdb_base.specs.Positions.{nth}
use Rattle.cdb_base.specs.declared.event.Event.{Event}
use Rattle.cdb_base.specs.declared.event.Event.TheVariants.{Step}
use Rattle.cdb_base.specs.declared.name.StepId.{StepId}
use Rattle.cdb_deeds.specs.declared.deed.Deed.{Deed}
use Rattle.cdb_deeds.specs.declared.deed.Deed.TheVariants.{Round, Votes, SettlesRegister, SettlesInput}
use Rattle.cdb_explain.specs.Explanations.{deed_at}
use Rattle.cdb_explain.specs.Flagged.{is_flagged}
use Rattle.cdb_explain.specs.Rounds.{round_before}
use Rattle.cdb_rules.specs.RunView.{RunView}
use Rattle.cdb_rules.specs.Rules.{Rules}
use Rattle.cdb_setup.specs.Parts.{Parts}
use Rattle.cdb_text.specs.Reports.{causes_text}
use Rattle.cdb_trail.specs.declared.oracle.TrailEvent.{TrailEvent}

-- the event at that position, what it did, the round of its process before it, and whether it is flagged
abbrev pub trail_event_at : (Parts → Rules) → RunView → List Bool → ℕ → Event → TrailEvent
trail_event_at rules run flags position event = record {
  event = event;
  deed = deed_at run position;
  round = round_before rules run position;
  on_trail = is_flagged flags position;
}

-- the first events, count of them
abbrev pub first_trail_events : (Parts → Rules) → RunView → List Bool → ℕ → List TrailEvent
first_trail_events rules run flags count =
    flat_map
    (λ position. option_to_list (option_map (trail_event_at rules run flags position) (nth run.history position)))
    (range_with_len 1 count)

abbrev pub trail_events : (Parts → Rules) → RunView → List Bool → List TrailEvent
trail_events rules run flags = first_trail_events rules run flags (length run.history)

-- a step of process p that did that counts an answer to process q: a vote those to the senders that name the leader,
-- and what settles the value of a round of Alpha the one to its own process
abbrev pub counts : Deed → ℕ → ℕ → Bool
counts (Votes source leader by) p q = list_any (λ name. name.s == q) by
counts (SettlesRegister value register) p q = q == p
counts (SettlesInput value) p q = q == p
counts deed p q = false

-- the step began that round
abbrev pub began : Deed → ℕ → Bool
began (Round r) round = r == round
began deed round = false

-- the query began the round of the vote, and the vote counts its answer
abbrev pub rests_by : TrailEvent → TrailEvent → Event → Event → Bool
rests_by vote query (Step p k kind) (Step q l other) = counts vote.deed p q && began query.deed vote.round
rests_by vote query event other = false

abbrev pub rests : TrailEvent → TrailEvent → Bool
rests vote query = rests_by vote query vote.event query.event

-- one of the votes rests on the query
abbrev pub is_answer : List TrailEvent → TrailEvent → Bool
is_answer votes query = list_any (λ vote. rests vote query) votes

-- the names of those of the queries on which one of the votes rests, in order
abbrev pub answers_among : List TrailEvent → List TrailEvent → List StepId
answers_among votes queries = map (λ query. event_name query.event) (filter (is_answer votes) queries)

abbrev pub on_trail : List TrailEvent → List TrailEvent
on_trail all = filter (λ it. it.on_trail) all

abbrev pub answers_in : RunView → List Bool → List StepId
answers_in run flags =
    answers_among (on_trail (trail_events both_rules run flags)) (trail_events both_rules run flags)

-- `oracle answers P.K ..`, or `oracle answers none`
unfoldable pub answers_word : List ℕ
answers_word = codes "oracle answers"

abbrev pub answers_text : List StepId → List ℕ
answers_text names = answers_word ++ causes_text names ++ codes "\n"
