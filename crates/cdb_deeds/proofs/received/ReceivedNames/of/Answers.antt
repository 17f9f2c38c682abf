use Rattle.std.proofs.Common.{◌<◌, ◌∙◌, map, arith}
use Rattle.cdb_deeds.proofs.ReceivedDeeds.{names_read, row_read}
use Rattle.cdb_deeds.proofs.received.ReceivedNames.of.Goals as goal

pub returns : goal.returns
returns c = λ history is.
    let rows = c.self.inside.of_processes.items in
    let less : c.index.result < 9 = omega (arith, c.index.ensures.below_nine) in
    c.deref.ensures.value ∙ row_read (λ row. row.items) rows c.index.result c.index-2.result.now c.index-2.ensures
    ∙ names_read history (map (λ row. row.items) rows) (c.self.view_is ∙ is) c.index.result c.args.p _ c.index.ensures.value less
