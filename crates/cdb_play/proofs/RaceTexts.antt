-- The text of a race is that of its journal.
use Rattle.std.proofs.Common.{◌≡◌, ℕ, ◌+◌, ◌-◌, List, [], length, length-drop, map, take, drop, Vec, Global, refl, sym, ap, ◌∙◌, arith}
use Rattle.std.proofs.lemmas.List.{ext_get_or, get_or-drop, drop-map, take_rest}
use Rattle.std.proofs.lemmas.List.FromFn.{get_or-map-range_with_len, length-map-range_with_len}
use Rattle.cdb_commands.specs.ReplyView.{reply_view}
use Rattle.cdb_control.specs.Journal.{Journaled}
use Rattle.cdb_commands.specs.declared.command.Command.{Command}
use Rattle.cdb_commands.specs.declared.reply.Reply.{Reply}
use Rattle.cdb_race.specs.Races.{IsRaced, replies_in, all_reply_views}
use Rattle.cdb_rules.specs.Rules.{Rules}
use Rattle.cdb_setup.specs.Parts.{Parts}
use Rattle.cdb_play.specs.Races.{race_text, script_seats, text_with, IsTextOfCommands}

-- the text of the replies to the scripts' seats, where all replies are shown, is that of the race
pub text_of_race : {rules : Parts → Rules} {setup : Parts} {turns : ℕ} {scripts : List (List Command)} {c : Journaled}
    {replies shown : List (Vec Reply Global)} {n : ℕ} → shown ≡ replies → n ≡ setup.processes → IsRaced rules setup turns scripts c (all_reply_views replies)
    → IsTextOfCommands rules setup turns scripts (text_with rules c (all_reply_views (take (length shown - n) (drop n shown))))
unfolding race_text
text_of_race {rules} {setup} {turns} {scripts} {c} {replies} same count raced =
    let lists = all_reply_views replies in
    let n = setup.processes in
    let first : c.setup.processes ≡ n = ap (λ (s : Parts). s.processes) raced.setup_is in
    let many : length (drop n lists) ≡ c.seats - c.setup.processes = omega (arith, length-drop n lists, raced.many, first) in
    let these : drop n lists ≡ map (λ s. replies_in rules s c) (script_seats c) =
    ext_get_or [] _ _ (many ∙ sym (length-map-range_with_len _ _ _)) (λ k below.
    get_or-drop n lists k [] ∙ raced.replied k (omega (arith, many, raced.seats_are))
    ∙ sym (get_or-map-range_with_len (λ s. replies_in rules s c) (c.setup.processes + 1) _ k (n + k + 1) [] (omega arith) (omega arith))) in
    (c, lists, raced, rw (same, take_rest replies _, ← drop-map (λ (list : Vec Reply Global). map reply_view list.items) _ replies, count, these) refl)
