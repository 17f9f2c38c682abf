use Rattle.std.proofs.Common.{◌≡◌, true, false, List, ℕ, Bor, length, map, nat_lt, ap, ◌∙◌, rules, tests}
use Rattle.std.proofs.lemmas.Bool.Decides.{nat_tests}
use Rattle.cdb_setup.specs.Format.{longest}
use Rattle.cdb_session.specs.Typed.{words_meant, line_meant}
use Rattle.cdb_session.proofs.typed.line_meant.Goals as goal

pub returns-then-line-gt-MAX_BYTES : goal.returns-then-line-gt-MAX_BYTES
unfolding line_meant
returns-then-line-gt-MAX_BYTES c =
    let long : nat_lt longest (length c.args.line.now) ≡ true = search (rules, tests, nat_tests) in
    rw long (search rules)

pub returns : goal.returns
unfolding line_meant
returns c =
    let short : nat_lt longest (length c.args.line.now) ≡ false = search (rules, tests, nat_tests) in
    let words : map (λ (it : Bor (List ℕ)). it.now) c.as_slice.result.now ≡ words_meant c.args.line.now =
    ap (λ (items : List (Bor (List ℕ))). map (λ it. it.now) items) c.as_slice.ensures.value ∙ c.in_ok-words.ensures in
    rw (short, ← words) c.joined.ensures
