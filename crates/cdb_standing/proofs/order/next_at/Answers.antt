use Rattle.std.proofs.Common.{◌≡◌, ◌+◌, suc, slice_index, refl, sym, ap, subst, ◌∙◌, add-one, arith}
use Rattle.std.specs.Option.{option_copied}
use Rattle.cdb_standing.specs.Cuts.{cut_of}
use Rattle.cdb_standing.proofs.CutsFound.{cut_at}
use Rattle.cdb_standing.proofs.RowUpdates.{looked_up}
use Rattle.cdb_standing.proofs.order.next_at.Goals as goal

pub returns : goal.returns
returns c =
    let e : suc c.args.i ≡ c.args.i + 1 = omega arith in
    let is = subst (λ q. cut_of c.args.from.now q ≡ slice_index c.args.from.now c.args.i) e (cut_at c.args.from.now c.args.i) in
    let found = looked_up c.get.result c.row.result.now c.saturating_sub-j.result c.get.ensures.lookup.3 in (
      record {
        few = c.requires.few;
        number = omega arith;
        at = (
          c.in_ok-mark.field-0.now.kind,
          rw (← c.new.ensures.value, ← c.row.ensures, add-one) (sym found ∙ ap option_copied c.in_ok-mark.was),
        );
      },
      refl,
    )
