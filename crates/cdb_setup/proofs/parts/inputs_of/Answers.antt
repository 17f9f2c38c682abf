use Rattle.std.proofs.Common.{arith, map, IfOk}
use Rattle.std.proofs.lemmas.Grind.{common_steps}
use Rattle.std.proofs.lemmas.Result.{IfOk-weaker, IfErr-weaker}
use Rattle.serde_json.specs.View.{view}
use Rattle.cdb_setup.specs.Readings.{HasInputs}
use Rattle.cdb_setup.proofs.Whole.{inputs_first, joined, after_inputs}
use Rattle.cdb_setup.proofs.parts.inputs_of.Goals as goal

pub returns-clause-found : goal.returns-clause-found
returns-clause-found c =
    let json = view c.args.value.now in
    let has : IfOk c.all_inputs.result (λ inputs. HasInputs c.args.count (view c.args.value.now) inputs.items) = grind (arith, common_steps) in
    IfOk-weaker c.all_inputs.result _ _
    (λ inputs here. (here, after_inputs c.args.count inputs.items json c.requires.clear c.requires.count here)) has

pub returns-clause-fault : goal.returns-clause-fault
returns-clause-fault c =
    let json = view c.args.value.now in
    IfErr-weaker c.all_inputs.result _ _
    (λ fault first differs. joined 8 fault json c.requires.clear
    (inputs_first (map view c.in-Some.values.now) json c.in-Some.ensures.0 fault (first differs))) c.all_inputs.ensures.fault
