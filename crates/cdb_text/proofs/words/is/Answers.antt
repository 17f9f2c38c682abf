use Rattle.std.proofs.Common.{sym, ◌∙◌, arith}
use Rattle.std.proofs.lemmas.List.{take_all}
use Rattle.std.proofs.lemmas.Slice.Eq.{bytes_eq-Decides}
use Rattle.cdb_text.proofs.words.is.Goals as goal

pub returns : goal.returns
returns c =
    let all = sym (take_all c.loop-i.i c.args.word.now (omega arith)) ∙ c.loop-i.invariant ∙ take_all c.loop-i.i c.args.name.now (omega arith) in
    sym ((bytes_eq-Decides c.args.word.now c.args.name.now).1 all)
