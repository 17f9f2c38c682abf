-- A journal of a race under way is no longer than the seats make calls.
use Rattle.std.proofs.Common.{◌≡◌, ℕ, zero, suc, ◌+◌, ◌*◌, ◌<◌, ◌≤◌, List, [], ◌∷◌, length, map, sum, get_or, ap, arith, length-take}
use Rattle.std.proofs.lemmas.Bool.Decides.{nat_tests}
use Rattle.std.proofs.lemmas.Grind.{common_steps}
use Rattle.std.proofs.lemmas.List.{length-replicate}
use Rattle.std.proofs.lemmas.List.Sums.{sum_by-cons}
use Rattle.cdb_control.specs.Journal.{Journaled, own, AreOfSeats}
use Rattle.cdb_commands.specs.declared.command.Command.{Command}
use Rattle.cdb_commands.specs.declared.command.Command.TheVariants.{Auto}
use Rattle.cdb_control.specs.declared.control.Entry.{Entry}
use Rattle.cdb_race.specs.Races.{IsUnderWay, most_calls}
use Rattle.cdb_setup.specs.Parts.{Parts}

-- the entries of the first seats, this many of them
abbrev pub of_first : ℕ → List Entry → ℕ
of_first zero es = 0
of_first (suc n) es = of_first n es + length (own (suc n) es)

no_less : (n : ℕ) (e : Entry) (es : List Entry) → of_first n es ≤ of_first n (e ∷ es)
no_less zero e es = omega arith
no_less (suc n) e es = grind (arith, common_steps, no_less n e es)

one_more : (n : ℕ) (e : Entry) (es : List Entry) → 1 ≤ e.seat → e.seat ≤ n → 1 + of_first n es ≤ of_first n (e ∷ es)
one_more zero e es from to = absurd (omega arith)
one_more (suc n) e es from to = grind (arith, common_steps, nat_tests, no_less n e es, one_more n e es from)

-- each entry is of one of the seats
all_counted : (n : ℕ) (es : List Entry) → AreOfSeats n es → length es ≤ of_first n es
all_counted n [] all = omega arith
all_counted n (e ∷ es) all = omega (arith, all_counted n es all.1, one_more n e es all.0.0 all.0.1)

of_processes : (n turns : ℕ) (es : List Entry) → ((p : ℕ) → 1 ≤ p → p ≤ n → length (own p es) ≤ turns) → of_first n es ≤ n * turns
of_processes zero turns es each = omega arith
of_processes (suc n) turns es each =
    omega (arith, of_processes n turns es (λ p from to. each p from (omega arith)), each (suc n) (omega arith) (omega arith))

of_scripts : (from : ℕ) (scripts : List (List Command)) (es : List Entry)
    → ((k : ℕ) → k < length scripts → length (own (from + k + 1) es) ≤ length (get_or scripts k []))
    → of_first (from + length scripts) es ≤ of_first from es + sum (map length scripts)
of_scripts from [] es each = let same : from + 0 ≡ from = omega arith in omega (arith, ap (λ n. of_first n es) same)
of_scripts from (script ∷ scripts) es each =
    let position : suc from + length scripts ≡ from + suc (length scripts) = omega arith in
    let at : from + 0 + 1 ≡ suc from = omega arith in
    let next : (k : ℕ) → from + suc k + 1 ≡ suc from + k + 1 = λ k. omega arith in
    let rest = of_scripts (suc from) scripts es (λ k low. rw next at (each (suc k) (omega arith))) in
    omega (
      arith,
      rest,
      each 0 (omega arith),
      ap (λ n. length (own n es)) at,
      ap (λ n. of_first n es) position,
      sum_by-cons (λ (n : ℕ). n) (length script) (map length scripts),
    )

-- so the journal of a race has no more entries than that
pub few_calls : (setup : Parts) (turns : ℕ) (scripts : List (List Command)) (c : Journaled)
    → IsUnderWay setup turns scripts c → length c.journal ≤ most_calls setup turns scripts
few_calls setup turns scripts c way =
    let es = c.journal in
    let processes = of_processes setup.processes turns es
    (λ p from to. let d = way.driven p from to in omega (arith, ap length d.2, length-replicate d.0 (Auto p), d.1)) in
    let served = of_scripts setup.processes scripts es
    (λ k low. let s = way.served k low in omega (arith, ap length s.1, length-take s.0 (get_or scripts k []))) in
    omega (arith, processes, served, all_counted c.seats es way.entries, ap (λ n. of_first n es) way.seats_are)
