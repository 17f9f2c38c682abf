use Rattle.cdb_text.proofs.Written.{both}
use Rattle.cdb_text.proofs.text.short_report.write_view.Goals as goal

pub returns : goal.returns
returns c =
    let steps = both (both c.write_place-next.ensures.written c.write_word-next.ensures.written) c.write_number-next.ensures.written in
    let queries = both (both steps c.write_word-next-2.ensures.written) c.write_number-next-2.ensures.written in
    let decision = both (both queries c.write_word-next-3.ensures.written) c.write_value-next.ensures.written in
    both decision c.write_byte.ensures.written
