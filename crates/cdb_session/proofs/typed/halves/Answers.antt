use Rattle.std.proofs.Common.{◌≡◌, position, sym, ◌∙◌, rules, tests}
use Rattle.std.proofs.lemmas.Iterator.{YieldsList-from_slice}
use Rattle.std.proofs.lemmas.Iterator.Search.{position_from_yields_List}
use Rattle.cdb_session.specs.Typed.{is_mark}
use Rattle.cdb_session.proofs.TypedWords.{no_name, position_none}
use Rattle.cdb_session.proofs.typed.halves.Goals as goal

pub returns-in-None-clause-none : goal.returns-in-None-clause-none
returns-in-None-clause-none c =
    let piece = c.args.piece.now in
    let found : c.position.result ≡ position is_mark piece =
    position_from_yields_List is_mark _ _ c.position.result c.position.ensures.ran (YieldsList-from_slice piece cc) (λ x b q k. search (rules, tests)) in
    no_name piece (position_none is_mark piece (sym found ∙ c.in-None.is))
