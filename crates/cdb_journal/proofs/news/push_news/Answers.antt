use Rattle.std.proofs.Common.{◌≡◌, ℕ, ◌+◌, ◌-◌, List, drop, length, take, min, ap, ◌∙◌, arith, length-append, length-drop}
use Rattle.std.proofs.lemmas.List.{length-take, take_rest}
use Rattle.cdb_control.specs.Journal.{Journaled}
use Rattle.cdb_control.specs.declared.control.Entry.{Entry}
use Rattle.cdb_journal.proofs.NewsLines.{news_listed}
use Rattle.cdb_journal.proofs.news.push_news.Goals as goal

pub returns-clause-news : goal.returns-clause-news
returns-clause-news g c =
    let rules = g.R.Runs.rules in
    let entries = c.args.entries.now in
    let first = c.carry_out_each.new.control in
    let last = c.push_each.new.control in
    let silent : ℕ = c.min-silent.result in
    let least : silent ≡ min (c.args.from - length c.journal.result.now) (length entries) = c.min-silent.ensures in
    let before : length first.journal ≡ length c.args.control.now.journal + length (take silent entries) =
    ap (λ (k : Journaled). length k.journal) c.in_ok-carry_out_each.ensures ∙ length-append c.args.control.now.journal (take silent entries) in
    let all : length last.journal ≡ length first.journal + length (drop silent entries) =
    ap (λ (k : Journaled). length k.journal) c.in_ok-push_each.ensures.control ∙ length-append first.journal _
    ∙ ap (λ (rest : List Entry). length first.journal + length rest) (take_rest entries silent) in
    let from : length first.journal ≡ min c.args.from (length last.journal) =
    omega (arith, least, ap length c.journal.ensures.entries, before, all, length-take silent entries, length-drop silent entries, c.requires.from) in
    rw (c.into_bytes.ensures.value, c.in_ok-push_each.ensures.text, c.new-text.ensures.bytes, from) (news_listed rules last c.args.seat c.args.from)
