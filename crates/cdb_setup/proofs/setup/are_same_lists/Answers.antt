use Rattle.std.proofs.Common.{◌==◌, sym, ◌∙◌}
use Rattle.std.specs.Cmp.Lexicographic.{pointwise}
use Rattle.std.specs.Cmp.Derive.Mapped.{pointwise-map}
use Rattle.cdb_setup.proofs.setup.are_same_lists.Goals as goal

pub returns : goal.returns
returns c = c.eq.ensures ∙ sym (pointwise-map (λ list. list.items) (pointwise ◌==◌) c.args.lists.now c.args.others.now)
