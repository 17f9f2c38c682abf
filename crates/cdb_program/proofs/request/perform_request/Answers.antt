use Rattle.cdb_program.proofs.Reported.{done_alone}
use Rattle.cdb_program.proofs.request.perform_request.Goals as goal

pub perform_one-requires-clause-other : goal.perform_one-requires-clause-other
perform_one-requires-clause-other g c κs within =
    (done_alone c.args.request.now (λ setup seats from journal page is. c.in_default.not-Debug setup seats from journal page is)).no_session

pub returns-in_default : goal.returns-in_default
returns-in_default g c =
    (done_alone c.args.request.now (λ setup seats from journal page is. c.in_default.not-Debug setup seats from journal page is)).performs
    c.args.prompt.now _ _ _ c.perform_one.ensures.done c.perform_one.ensures.saved
