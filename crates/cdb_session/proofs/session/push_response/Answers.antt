use Rattle.cdb_session.proofs.session.push_response.Goals as goal

pub returns-in-None : goal.returns-in-None
returns-in-None c = rw (c.in-Help.is, c.in-None.is, ← c.style.view_is) c.push_help.ensures

pub returns-in-Some : goal.returns-in-Some
returns-in-Some c = rw (c.in-Help.is, c.in-Some.is, ← c.style.view_is) c.push_about.ensures
