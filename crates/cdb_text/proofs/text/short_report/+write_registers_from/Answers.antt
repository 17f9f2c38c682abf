use Rattle.std.proofs.Common.{◌≡◌, ℕ, ◌+◌, ◌-◌, ◌≤◌, List, ◌++◌, length, get_or, take, drop, arith}
use Rattle.std.proofs.lemmas.Grind.{common_steps}
use Rattle.std.proofs.lemmas.Option.{gets}
use Rattle.cdb_base.specs.declared.register.Cell.{Cell}
use Rattle.cdb_text.specs.Reports.{register_line, registers_from}
use Rattle.cdb_text.proofs.Written.{both}
use Rattle.cdb_text.proofs.text.short_report.+write_registers_from.Goals as goal

next : (number : ℕ) (cells : List Cell) (cell : Cell) → 2 ≤ length cells → cell ≡ get_or cells 0 cell
    → registers_from number cells ≡ register_line number cell ++ registers_from (number + 1) (take (length cells - 1) (drop 1 cells))
next number cells cell many is = grind (arith, common_steps, gets)

pub returns-in-len1-up-clause-written : goal.returns-in-len1-up-clause-written
returns-in-len1-up-clause-written t c =
    rw (next c.args.number c.args.cells.now _ c.in-len1-up.len_at_least c.cell-item-2.is)
    (both c.write_register_line-next.ensures.written c.write_registers_from.ensures.written)
