use Rattle.std.proofs.Common.{◌≡◌, List, ℕ, [], ◌++◌, Result, Ok, Err, string_bytes, ap, sym, ◌∙◌, append-nil}
use Rattle.cdb_base.specs.declared.name.StepId.{StepId}
use Rattle.cdb_base.specs.declared.refusal.Refusal.{Refusal}
use Rattle.cdb_base.specs.Results.{MapsTo}
use Rattle.cdb_explain.specs.Explanations.{because_text}
use Rattle.cdb_rules.specs.EventRefs.{name_given}
use Rattle.cdb_rules.specs.Runs.{causes_in}
use Rattle.cdb_explain.proofs.line.push_because.Goals as goal

-- a refused look for causes adds nothing
no_because : (returned : Result (List StepId) Refusal) {A : Type 0} (view : A → List StepId) (result : Result A Refusal) (why : Refusal)
    → MapsTo view result returned → result ≡ Err why → because_text returned ≡ []
no_because returned view (Ok found) why says is = cc
no_because returned view (Err refusal) why says is = ap because_text says

pub returns-in-Err : goal.returns-in-Err
returns-in-Err g c =
    let run = g.T.Runs.run c.args.run.now in
    let text : List ℕ = string_bytes c.args.text.now in
    let refused = no_because (causes_in run (name_given c.reference.result)) _ c.explain.result _ c.explain.ensures.causes c.in-Err.is in
    let none = ap (λ name. because_text (causes_in run name)) (sym c.reference.ensures) ∙ refused in
    sym (ap (λ (t : List ℕ). text ++ t) none ∙ append-nil text)
