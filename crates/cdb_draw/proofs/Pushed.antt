-- Texts that are added one after the other.
use Rattle.std.proofs.Common.{◌≡◌, ◌∙◌, ℕ, ◌+◌, List, ◌++◌, append_assoc, ap, sym}
use Rattle.std.specs.List.{flat_map, range_with_len}
use Rattle.cdb_any_run.proofs.OpenCopies.{flat_map-more}

-- the text of one number more
pub pushed_more : (texts : ℕ → List ℕ) (before : List ℕ) (a i : ℕ) {k : ℕ} {now after : List ℕ} → k ≡ a + i
    → now ≡ before ++ flat_map texts (range_with_len a i) → after ≡ now ++ texts k
    → after ≡ before ++ flat_map texts (range_with_len a (i + 1))
pushed_more texts before a i {k} here so one =
    let first = flat_map texts (range_with_len a i) in
    one ∙ ap (λ (t : List ℕ). t ++ texts k) so ∙ append_assoc before first (texts k)
    ∙ ap (λ (t : List ℕ). before ++ t) (ap (λ n. first ++ texts n) here ∙ sym (flat_map-more texts a i))
