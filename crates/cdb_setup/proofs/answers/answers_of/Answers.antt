use Rattle.std.proofs.Common.{arith, map, IfOk, ◌∙◌}
use Rattle.std.proofs.lemmas.List.{length-map}
use Rattle.std.proofs.lemmas.Grind.{common_steps}
use Rattle.std.proofs.lemmas.Result.{IfOk-weaker, IfErr-weaker}
use Rattle.serde_json.specs.View.{view}
use Rattle.cdb_setup.specs.Parts.{lists_in}
use Rattle.cdb_setup.specs.Readings.{HasAnswers}
use Rattle.cdb_setup.proofs.Whole.{lists_first_of, joined, after_answers}
use Rattle.cdb_setup.proofs.answers.answers_of.Goals as goal

pub returns-clause-found : goal.returns-clause-found
returns-clause-found c =
    let json = view c.args.value.now in
    let has : IfOk c.all_lists.result (λ lists. HasAnswers c.args.count (view c.args.value.now) (lists_in lists.items)) = grind (arith, common_steps) in
    IfOk-weaker c.all_lists.result _ _
    (λ lists here. (here, after_answers c.args.count (lists_in lists.items) json c.requires.clear c.requires.count here)) has

pub returns-clause-fault : goal.returns-clause-fault
returns-clause-fault c =
    let json = view c.args.value.now in
    let values = c.in-Some.values.now in
    let many = length-map values view ∙ c.in-Some.ensures.1 in
    IfErr-weaker c.all_lists.result _ _
    (λ fault first differs. joined 9 fault json c.requires.clear
    (lists_first_of (map view values) json c.in-Some.ensures.0 c.args.count many fault (first differs))) c.all_lists.ensures.fault
