use Rattle.std.proofs.Common.{◌≡◌, suc, ◌-◌, Some, slice_get, leb-true, sym, ap, ◌∙◌, arith}
use Rattle.std.specs.Option.{option_copied}
use Rattle.cdb_base.specs.Positions.{nth}
use Rattle.cdb_standing.specs.Tables.{steps_of, row_of}
use Rattle.cdb_standing.proofs.CutsFound.{none_behind}
use Rattle.cdb_standing.proofs.RowUpdates.{looked_up}
use Rattle.cdb_standing.proofs.cuts.has_none_behind.Goals as goal

pub returns-in-Some : goal.returns-in-Some
returns-in-Some c = λ le.
    let entry = c.in-Some.entry.now in
    let row = row_of (steps_of c.args.tables.now) c.args.q in
    let found = looked_up c.get.result c.row.result.now (c.args.cut - 2) c.get.ensures.lookup.3 in
    let one : c.args.cut - 1 ≡ suc (c.args.cut - 2) = omega arith in
    let at : nth row (c.args.cut - 1) ≡ Some entry =
    rw one (sym (ap option_copied (sym c.in-Some.is) ∙ found ∙ ap (λ l. slice_get l (c.args.cut - 2)) c.row.ensures)) in
    none_behind c.requires.sound c.args.q c.args.cut entry.mark c.args.mark entry.kind at (leb-true entry.mark c.args.mark le)
