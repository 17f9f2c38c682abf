use Rattle.std.proofs.Common.{◌∙◌, sym, subst, ◌≤◌, ◌<◌, ℕ, List, length}
use Rattle.cdb_page.proofs.OnAndOn.{file_took_more, keeps_up_on, keeps_up_still, took_none, took_some}
use Rattle.cdb_page.proofs.live.LivePageSink.write.Goals as goal

pub invariant_of-self : goal.invariant_of-self
invariant_of-self g c =
    let some : 0 < length c.take-written.new.taken.items =
    subst (λ (text : List ℕ). 0 < length text) (sym c.take-written.ensures.taken) (took_some _ _ _
    c.take-written.ensures.within (subst (λ (count : ℕ). 0 < count) c.unwrap_or.ensures c.if-unwrap_or-gt0.true)) in
    keeps_up_on _ _ _ _ _ _ _ c.self.invariant c.take-written.ensures.taken c.take-written.ensures.file some
    (rw c.as_slice.ensures.value at c.show_lines-self-inside.ensures)

pub invariant_of-self-else-unwrap_or-gt0 : goal.invariant_of-self-else-unwrap_or-gt0
invariant_of-self-else-unwrap_or-gt0 g c =
    let none = subst (λ (count : ℕ). count ≤ 0) c.unwrap_or.ensures c.if-unwrap_or-gt0.false in
    keeps_up_still _ _ _ _ c.self.invariant (c.take-written.ensures.taken ∙ took_none _ _ _ none)
    (rw c.take-written.ensures.taken (file_took_more _ _ _ _ _ c.self.invariant.journal c.take-written.ensures.file))
