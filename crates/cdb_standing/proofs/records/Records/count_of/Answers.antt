use Rattle.std.proofs.Common.{◌∙◌, refl}
use Rattle.cdb_standing.proofs.Beside.{history_seen}
use Rattle.cdb_standing.proofs.DirectCounts.{counted, counted_free}
use Rattle.cdb_standing.proofs.records.Records.count_of.Goals as goal

pub returns-in_ok-to_vec-in-Some : goal.returns-in_ok-to_vec-in-Some
returns-in_ok-to_vec-in-Some g c =
    let listed = c.deref.ensures.value ∙ c.in_ok-to_vec-in-Some.ensures in
    let at = rw c.in-Some.is at c.in_ok-at.ensures in
    let count = rw listed at c.count_direct.ensures in
    rw (← history_seen _ _ c.self.view_is) (record {
      count = counted c.self.inside.history c.args.name c.in-Some.at at c.count_direct.result count;
      free = counted_free c.self.inside.history c.args.name c.in-Some.at at c.count_direct.result count;
      none = λ new. absurd (new c.in-Some.at at.named);
    })

pub returns-in-None : goal.returns-in-None
returns-in-None g c =
    let new = rw c.in-None.is at c.in_ok-at.ensures in
    rw (← history_seen _ _ c.self.view_is)
    (record { count = λ at named. absurd (new at named); free = λ at named. absurd (new at named); none = λ is. refl })
