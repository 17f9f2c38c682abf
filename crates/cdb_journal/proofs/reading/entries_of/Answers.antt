use Rattle.std.proofs.Common.{◌≡◌, [], ◌∷◌, rules, tests, length, refl, sym, ap, subst, arith, List, length-append}
use Rattle.cdb_control.specs.Journal.{entry}
use Rattle.cdb_control.specs.declared.control.Entry.{Entry}
use Rattle.cdb_text.specs.Entries.{IsEntryLine}
use Rattle.cdb_journal.proofs.Read.{IsUnderWay, one_line, ended}
use Rattle.cdb_journal.proofs.reading.entries_of.Goals as goal

pub loop-rest-preserved : goal.loop-rest-preserved
loop-rest-preserved c =
    let text = c.args.text.now in
    let entries = c.loop-rest.entries.items in
    let line = c.first_line.result.0.now in
    let behind = c.first_line.result.1.now in
    let so = c.loop-rest.invariant in
    let e = entry c.in-Ok.seat c.in-Ok.command in
    let its : IsEntryLine c.in-Ok.seat c.in-Ok.command line = (c.in-Ok.ensures.entry c.in-Ok.seat c.in-Ok.command).0 refl in
    record {
      under_way = subst (λ (es : List Entry). IsUnderWay text es behind) (sym c.push_entry.ensures.items)
          (one_line text entries c.loop-rest.rest.now line behind so.under_way c.first_line.ensures.lines e its);
      len = omega (arith, c.push_entry.ensures.len, so.len, ap length c.push_entry.ensures.items, length-append entries (e ∷ []));
      room = omega (arith, c.push_entry.ensures.capacity, so.room);
    }

pub returns-clause-entries : goal.returns-clause-entries
returns-clause-entries c =
    let none : length c.loop-rest.rest.now ≡ 0 = search (rules, tests) in
    (c.if-is_too_long.ensures, ended c.args.text.now c.loop-rest.entries.items c.loop-rest.rest.now c.loop-rest.invariant.under_way none)
