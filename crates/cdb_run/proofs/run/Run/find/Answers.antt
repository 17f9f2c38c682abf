use Rattle.std.proofs.Common.{◌≡◌, ℕ, ◌<◌, ◌≤◌, true, true≢false, sym, arith}
use Rattle.std.proofs.lemmas.Bool.Decides.{nat_tests}
use Rattle.cdb_rules.specs.EventRefs.{name_given, CanName}
use Rattle.cdb_rules.specs.Machines.{machine_of}
use Rattle.cdb_rules.specs.Step.{is_among}
use Rattle.cdb_rules.specs.Undo.{names_processes}
use Rattle.cdb_rules.specs.declared.event_ref.EventRef.{EventRef}
use Rattle.cdb_rules.specs.declared.event_ref.EventRef.TheVariants.{Step, Lost}
use Rattle.cdb_rules.proofs.Undo.{none_named, number_of, too_great}
use Rattle.cdb_rules.proofs.Taken.{both}
use Rattle.cdb_setup.specs.Parts.{IsWithin}
use Rattle.cdb_run.proofs.run.Run.find.Goals as goal

among_nine : (n p : ℕ) → n ≤ 9 → is_among n p ≡ true → IsWithin 1 9 p
among_nine n p few among = grind (arith, nat_tests)

-- an event can be named whose processes the run has, and whose number is one that an event has
can_name : (n : ℕ) → n ≤ 9 → (event : EventRef) → names_processes n (name_given event) ≡ true → number_of (name_given event) ≤ 9999 → CanName event
can_name n few (Step p k) there low = (among_nine n p few there, omega (arith, low))
can_name n few (Lost s m p) there low =
    let among = both (is_among n s) (is_among n p) there in (among_nine n s few among.0, omega (arith, low), among_nine n p few among.1)

not_low : (k : ℕ) → (k ≤ 9999 → ⊥) → 9999 < k
not_low k high = grind arith

pub returns-in_default : goal.returns-in_default
returns-in_default g c =
    let run = c.args.self.now in
    let name = name_given c.args.event in
    let there : names_processes run.setup.processes name ≡ true = sym c.if-not-has_processes.ensures in
    none_named run.history name run.setup.processes there
    (too_great (machine_of g.P.Process.table run.setup) run.history c.proper.ensures.in_order name
    (not_low (number_of name) (λ low.
    true≢false (sym (c.in_default.ensures.some (can_name run.setup.processes c.proper.ensures.ranges.processes.1 c.args.event there low))))))

pub returns-in-None : goal.returns-in-None
returns-in-None g c =
    none_named c.args.self.now.history (name_given c.args.event) c.args.self.now.setup.processes (sym c.if-not-has_processes.ensures)
    (rw (c.history.ensures.events, c.in-Some.ensures.value) at c.in-None.ensures)
