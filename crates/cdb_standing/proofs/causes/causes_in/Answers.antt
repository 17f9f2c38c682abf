use Rattle.cdb_standing.proofs.LinksFound.{all_direct}
use Rattle.cdb_standing.proofs.Places.{the_place}
use Rattle.cdb_standing.proofs.causes.causes_in.Goals as goal

pub returns-in-Some : goal.returns-in-Some
returns-in-Some c = λ at h.
    let it = c.in-Some.it in
    all_direct c.requires.sound at
    (the_place c.requires.sound it.mark it.event
    c.in-Some.ensures.stands at (rw (← c.in-Some.ensures.named) at h)) c.direct_in.ensures

pub returns-in-None : goal.returns-in-None
returns-in-None c = λ at h. absurd (c.in-None.ensures at h)
