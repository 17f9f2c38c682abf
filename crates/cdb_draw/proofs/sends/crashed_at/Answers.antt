use Rattle.std.proofs.Common.{◌≡◌, suc, ◌+◌, Some, option_map, position, ap, sym, ◌∙◌, rules, tests, arith}
use Rattle.std.proofs.lemmas.Iterator.{YieldsList-from_slice}
use Rattle.std.proofs.lemmas.Iterator.Search.{position_from_yields_List}
use Rattle.cdb_draw.specs.Positions.{is_crash_of}
use Rattle.cdb_draw.proofs.sends.crashed_at.Goals as goal

pub returns-in_err-crash : goal.returns-in_err-crash
returns-in_err-crash c =
    let test = is_crash_of c.args.p in
    let found : c.position.result ≡ position test c.args.events.now =
    position_from_yields_List test _ _ c.position.result c.position.ensures.ran
    (YieldsList-from_slice c.args.events.now cc) (λ x b q k. search (rules, tests)) in
    c.from_residual.ensures ∙ ap (option_map suc) (sym c.in_err-crash.was ∙ found)

pub returns : goal.returns
returns c =
    let test = is_crash_of c.args.p in
    let found : c.position.result ≡ position test c.args.events.now =
    position_from_yields_List test _ _ c.position.result c.position.ensures.ran
    (YieldsList-from_slice c.args.events.now cc) (λ x b q k. search (rules, tests)) in
    let next : c.in_ok-crash.crash + 1 ≡ suc c.in_ok-crash.crash = omega arith in
    ap Some next ∙ ap (option_map suc) (sym c.in_ok-crash.was ∙ found)
