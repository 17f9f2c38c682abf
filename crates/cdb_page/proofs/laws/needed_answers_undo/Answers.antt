use Rattle.cdb_page.proofs.PageAnswers.{answers}
use Rattle.cdb_page.proofs.PageSteps.{entry_of}
use Rattle.cdb_page.proofs.laws.needed_answers_undo.Goals as goal

pub returns : goal.returns
returns g c = λ run range valid entries are at entry event has stands.
    answers run at event ((g.met.T.Runs.histories run.setup range).named run.history valid at event stands)
    entry.needed (entry_of run entries are at entry has).needed
