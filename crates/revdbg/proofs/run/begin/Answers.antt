use Rattle.std.proofs.Common.{map, string_bytes}
use Rattle.cdb_base.specs.Requests.{texts}
use Rattle.revdbg.proofs.Requests.{asked_of_words}
use Rattle.revdbg.proofs.run.begin.Goals as goal

pub returns-clause-asked : goal.returns-clause-asked
returns-clause-asked g c =
    let read = c.texts_of-read in
    asked_of_words (λ words. map string_bytes words.items) (λ found. texts found.items) c.args.prompt.now _ _ _ c.args.words read.result
    read.ensures.texts read.ensures.memory c.run.ensures.asked c.run.ensures.unread
