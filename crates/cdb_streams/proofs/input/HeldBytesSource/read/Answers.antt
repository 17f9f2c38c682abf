use Rattle.std.proofs.Common.{rules, ◌≡◌, ℕ, ◌+◌, ◌-◌, ◌<◌, length, drop, take, ◌++◌, arith, ap, sym, subst, ◌∙◌}
use Rattle.std.proofs.Math.Seq.{take-append_seam}
use Rattle.std.proofs.lemmas.List.Folds.{drop_split}
use Rattle.cdb_streams.proofs.input.HeldBytesSource.read.Goals as goal

pub returns-else-end-len-clause-bytes : goal.returns-else-end-len-clause-bytes
returns-else-end-len-clause-bytes c =
    let items = c.self.inside.bytes.items in
    let read : ℕ = c.self.inside.read in
    let count : ℕ = c.min-count.result in
    let taken = c.copy_from_slice.new.self in
    let rest = drop count c.args.buffer.now in
    let least = c.min-count.ensures in
    let long : length taken ≡ count = search rules in
    let kept : take count (taken ++ rest) ≡ taken = subst (λ n. take n (taken ++ rest) ≡ taken) long (take-append_seam taken rest) in
    let same = c.copy_from_slice.ensures.after ∙ ap (λ bytes. take (read + count - read) (drop read bytes)) c.deref.ensures.value in (
      sym c.self.view_is ∙ drop_split items read (read + count) (omega arith) ∙ ap (λ bytes. bytes ++ drop (read + count) items) (sym same ∙ sym kept),
      λ none some. (let all : 0 < length c.args.buffer.now = search rules in search rules),
    )
