use Rattle.std.proofs.Common.{rules}
use Rattle.std.proofs.lemmas.List.Sorted.{IsNonDecreasingBy-from_sort, answers_always}
use Rattle.cdb_standing.specs.InOrder.{Marked}
use Rattle.cdb_standing.proofs.Gathering.{in_order_is, if_ok_mapped}
use Rattle.cdb_standing.proofs.order.in_order.Goals as goal

pub returns : goal.returns
returns c =
    let rises =
    IsNonDecreasingBy-from_sort (λ (x : Marked). x.mark) c.sort_by_key.new.self.items
    (c.in_ok-sort_by_key.ensures.sorted (λ (x : Marked). x.mark) (answers_always _ _ _ (λ f a r g h. search rules))) in
    if_ok_mapped
    (λ events are.
    in_order_is c.requires.sound c.sort_by_key.new.self.items c.in_ok-found.ensures
    c.sort_by_key.ensures.permutation rises events.items (rw c.deref.ensures.value at are))
    c.without_marks.result c.without_marks.ensures
