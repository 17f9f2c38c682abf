use Rattle.std.proofs.Common.{Vec, ℕ, List, Result, Ok, Err}
use Rattle.std.specs.Global.{Global}
use Rattle.std.specs.Prelude.{IfErr}
use Rattle.std.proofs.lemmas.Result.{IfOk-weaker}
use Rattle.cdb_agreement.specs.Algorithms.{rules}
use Rattle.cdb_explain.specs.RunLeft.{IsRunLeft}
use Rattle.cdb_explain.specs.declared.fault.AnswerFault.{AnswerFault}
use Rattle.cdb_explain.specs.declared.fault.AnswerFault.TheVariants.{Play}
use Rattle.cdb_goal.specs.declared.goal.Goal.{Goal}
use Rattle.cdb_rules.specs.RunView.{RunView}
use Rattle.cdb_search.specs.Shrunk.{IsFaultOfShrink}
use Rattle.cdb_streams.specs.declared.fault.PlayFault.TheVariants as play
use Rattle.cdb_program.specs.Searches.{IsFaultOfShrunk}
use Rattle.cdb_program.proofs.searches.shrunk.Goals as goal

not_shrunk : (goal : Goal) (json script : List ℕ) (run : RunView) → IsRunLeft rules json script run
    → (made : Result (Vec ℕ Global) AnswerFault) → IfErr made (IsFaultOfShrink rules run goal) → IfErr made (IsFaultOfShrunk goal json script)
not_shrunk goal json script run left (Ok text) none = tt
not_shrunk goal json script run left (Err (Play (play.NoMemory refused))) none = left.encodes.0
not_shrunk goal json script run left (Err (Play fault)) none = absurd none
not_shrunk goal json script run left (Err fault) none = (run, left, none)

pub returns-clause-text : goal.returns-clause-text
returns-clause-text c =
    IfOk-weaker c.shrink.result _ _ (λ text is. (c.in_ok-run.run', c.in_ok-run.ensures.left.left, is)) c.shrink.ensures.text

pub returns-clause-fault : goal.returns-clause-fault
returns-clause-fault c =
    not_shrunk c.args.goal c.args.setup.now c.args.script.now c.in_ok-run.run' c.in_ok-run.ensures.left.left c.shrink.result c.shrink.ensures.fault
