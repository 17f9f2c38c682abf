use Rattle.cdb_page.proofs.entries.entry_at.Goals as goal

pub returns : goal.returns
returns c = record {
  causes = rw c.events-events.ensures at c.in_ok-causes.ensures.causes;
  dependents = rw c.events-events.ensures at c.in_ok-causes.ensures.dependents;
  needed = rw c.events-events.ensures at c.needed_by.ensures;
  origin = c.requires.origin;
}
