use Rattle.std.proofs.Common.{refl, sym, ap, ◌∙◌}
use Rattle.crossbeam_queue.specs.Passes.{view}
use Rattle.cdb_shared.specs.Seats.{SeatView}
use Rattle.cdb_shared.specs.Turn.{first_alone, without_first}
use Rattle.cdb_shared.specs.declared.knowledge.Knowledge.{Knowledge}
use Rattle.cdb_shared.proofs.Keeps.{merges, forks}
use Rattle.cdb_shared.proofs.Calls.{rests_of, seat_seen, of_one, numbered, met, met_begins, looked}
use Rattle.cdb_shared.proofs.shared.Shared.meet.Goals as goal

pub absorb-requires-clause-rule : goal.absorb-requires-clause-rule
absorb-requires-clause-rule g c =
    merges (rests_of _ (view c.b.inside.pass) _ c.b.view_is c.requires.b.1) (rests_of _ (view c.a.inside.pass) _ c.a.view_is c.requires.a.1)

pub another-alone-requires-clause-rule : goal.another-alone-requires-clause-rule
another-alone-requires-clause-rule g c = forks _ _ (ap (λ (v : Knowledge). v.stage) c.give.ensures.given)

pub invariant_of-result-3 : goal.invariant_of-result-3
invariant_of-result-3 g c =
    let both = met (view c.a.inside.pass) (view c.b.inside.pass) _ c.take-control.result c.a.inside.one c.b.inside.one
    c.absorb.ensures.rule c.take-control.ensures.taken c.give.ensures.given in
    (of_one _ (c.another-alone.ensures.rule.0 ∙ ap without_first both.0), tt)

pub invariant_of-result-4 : goal.invariant_of-result-4
invariant_of-result-4 g c =
    let both = met (view c.a.inside.pass) (view c.b.inside.pass) _ c.take-control.result c.a.inside.one c.b.inside.one
    c.absorb.ensures.rule c.take-control.ensures.taken c.give.ensures.given in
    let cut = c.another-alone.ensures in
    let its = c.b.invariant.1 in (
      cut.queue.0.2 ∙ c.give.ensures.queue.2 ∙ c.take-control.ensures.queue.2 ∙ c.absorb.ensures.queue.2 ∙ c.b.invariant.0,
      numbered _ (cut.rule.0 ∙ ap without_first both.0) (record { same = its.same; from_one = its.from_one; to_last = its.to_last }),
    )

pub returns : goal.returns
returns g c =
    let u = view c.a.inside.pass in
    let v = view c.b.inside.pass in
    let control = c.take-control.result in
    let cut = c.another-alone.ensures in
    let home_a = cut.queue.1.0 ∙ c.self.view_is ∙ sym c.requires.a.0 ∙ sym (ap (λ (s : SeatView). s.home) c.a.view_is) in
    let home_b = cut.queue.0.0 ∙ c.give.ensures.queue.0 ∙ c.take-control.ensures.queue.0 ∙ c.absorb.ensures.queue.0 in
    let both = met u v _ control c.a.inside.one c.b.inside.one c.absorb.ensures.rule c.take-control.ensures.taken c.give.ensures.given in
    let a = seat_seen u control control c.a.inside.one _ c.a.view_is home_a both.1 (cut.rule.1 ∙ ap first_alone both.0) in
    let b = seat_seen v control control c.b.inside.one _ c.b.view_is home_b both.2 (cut.rule.0 ∙ ap without_first both.0) in
    record { a = looked a; b = looked b; met = met_begins a b }
