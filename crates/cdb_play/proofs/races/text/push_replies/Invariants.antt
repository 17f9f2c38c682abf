use Rattle.std.proofs.Common.{◌≡◌, ◌++◌, map, take, string_bytes}
use Rattle.std.specs.List.{flat_map}
use Rattle.cdb_commands.specs.ReplyView.{reply_view}
use Rattle.cdb_text.specs.Texts.{text_of}
use Rattle.cdb_play.proofs.races.text.push_replies.Given as goal

abbrev pub invariant-loop-reply : goal.invariant-loop-reply
invariant-loop-reply l = string_bytes l.text ≡ string_bytes l.initial.text ++ flat_map text_of (map reply_view (take l.reply-index l.replies))
