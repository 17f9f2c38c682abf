use Rattle.std.proofs.Common.{◌≡◌, ◌++◌, take, string_bytes, flat_map}
use Rattle.cdb_slice.specs.Scripts.{line_text}
use Rattle.cdb_slice.proofs.script.push_lines.Given as goal

abbrev pub invariant-loop-command : goal.invariant-loop-command
invariant-loop-command l = string_bytes l.text ≡ string_bytes l.initial.text ++ flat_map line_text (take l.command-index l.commands)
