use Rattle.std.proofs.lemmas.Result.{IfOk-weaker}
use Rattle.cdb_program.proofs.WrittenTexts.{no_answer}
use Rattle.cdb_program.proofs.questions.answer.Goals as goal

pub returns-clause-text : goal.returns-clause-text
returns-clause-text c =
    IfOk-weaker c.text_about.result _ _ (λ text is. (c.in_ok-run.run', c.in_ok-run.ensures.left.left, is)) c.text_about.ensures.text

pub returns-clause-fault : goal.returns-clause-fault
returns-clause-fault c =
    no_answer c.args.question c.args.setup.now c.args.script.now c.in_ok-run.run' c.in_ok-run.ensures.left.left c.text_about.result c.text_about.ensures.fault
