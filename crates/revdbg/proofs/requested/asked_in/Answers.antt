use Rattle.std.proofs.Common.{List, [], ap, inl, inr, subst}
use Rattle.clap.specs.Words.{Kinds, subcommand_of}
use Rattle.cdb_arguments.specs.CommandLine.{program}
use Rattle.cdb_base.specs.Requests.{RequestView, Text, asked_for, texts}
use Rattle.revdbg.specs.Requested.{IsAskedBy, IsPerformed, IsRefusal, OrOutOfMemory}
use Rattle.revdbg.proofs.Requests.{memory_has_no_kinds, only_memory, turns_named}
use Rattle.revdbg.proofs.requested.asked_in.Goals as goal

pub returns-in-Ok-asked-clause-turns : goal.returns-in-Ok-asked-clause-turns
returns-in-Ok-asked-clause-turns c =
    turns_named (subcommand_of program (texts c.as_slice.result.now)) (asked_for c.in-Ok-asked.asked) c.in-Ok-asked.ensures.ok

pub returns-in-Ok-asked-clause-asked : goal.returns-in-Ok-asked-clause-asked
returns-in-Ok-asked-clause-asked c =
    let said = c.in-Ok-asked.ensures in rw c.in-Ok.is
    (λ prompt action of. subst (λ (words : List Text). IsAskedBy prompt words action) (ap texts c.as_slice.ensures.value) (record {
      plain = λ it line. inl (subst (λ (asked : RequestView). IsPerformed prompt asked action) (said.plain it line).0 of);
      taken = λ none. inl (asked_for c.in-Ok-asked.asked, said.ok, of);
      refused = λ some. absurd (some said.right);
    }))

pub returns-in-Err-asked-clause-asked : goal.returns-in-Err-asked-clause-asked
returns-in-Err-asked-clause-asked c =
    let fault = c.in-Err-asked.fault in
    let said = c.in-Err-asked.ensures in
    let made = c.refused.ensures in rw c.in-Ok.is
    (λ prompt action of. subst (λ (words : List Text). IsAskedBy prompt words action) (ap texts c.as_slice.ensures.value) (record {
      plain = λ it line. inr (only_memory action (made [] (memory_has_no_kinds fault (said.plain it line).1) prompt action of));
      taken = λ none. inr (only_memory action (subst (λ (kinds : Kinds). OrOutOfMemory (IsRefusal kinds) action) none (made _ said.refused prompt action of)));
      refused = λ some. made _ said.refused prompt action of;
    }))
