use Rattle.std.proofs.Common.{refl}
use Rattle.cdb_control.proofs.Own.{Begins-refl}
use Rattle.cdb_shared_session.proofs.KeptEntries.{behind, keeps_then}
use Rattle.cdb_shared_session.proofs.alone.KeptControl.keep.Goals as goal

pub returns-clause-kept : goal.returns-clause-kept
returns-clause-kept g c = λ first before.
    let journal = c.self.inside.control.journal in
    let counted = rw c.in-Ok.is at (rw (← c.self.view_is) at before) in
    let added = c.add-self-inside.ensures journal (rw (c.journal-journal.ensures.entries, behind) refl) counted.1 in
    keeps_then g.J.Sink.stream first c.self.inside.file c.add-self-inside.new.file 0 c.in-Ok.count c.add-self-inside.result journal journal
    counted (Begins-refl journal) added
