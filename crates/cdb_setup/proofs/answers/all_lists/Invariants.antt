use Rattle.std.proofs.Common.{◌≡◌, take, map}
use Rattle.std.specs.List.{AllByRecursion}
use Rattle.serde_json.specs.View.{view}
use Rattle.cdb_setup.specs.Parts.{IsWithin}
use Rattle.cdb_setup.specs.Format.{array_of_whole}
use Rattle.cdb_setup.proofs.answers.all_lists.Given as goal

abbrev pub invariant-loop-index : goal.invariant-loop-index
invariant-loop-index l = record {
  read : take l.index (map view l.values) ≡ map array_of_whole (map (λ list. list.items) l.lists.items);
  within : AllByRecursion (AllByRecursion (IsWithin 1 l.count)) (map (λ list. list.items) l.lists.items);
}
