use Rattle.std.proofs.Common.{rules, ◌≡◌, None, nat_eq}
use Rattle.std.specs.HashMap.{get}
use Rattle.cdb_leader.proofs.IndexLaws.{row_of_none}
use Rattle.cdb_leader.proofs.index.Index.new.Goals as goal

pub returns : goal.returns
returns c = record {
  rounds = λ r. (let none : None ≡ get nat_eq c.new.result r = search rules in row_of_none r _ none c.new-3.ensures);
  none = c.new-3.ensures;
  decisions = search rules;
}
