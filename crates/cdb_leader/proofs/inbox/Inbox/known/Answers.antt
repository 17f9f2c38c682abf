use Rattle.std.proofs.Common.{◌≡◌, length, ap, sym, ◌∙◌}
use Rattle.cdb_leader.specs.Index.{known}
use Rattle.cdb_leader.proofs.IndexLaws.{known_is}
use Rattle.cdb_leader.proofs.inbox.Inbox.known.Goals as goal

pub returns : goal.returns
returns c =
    let long : c.len.result ≡ length c.deref.result.now = c.len.ensures ∙ sym c.deref.ensures.len in
    known_is _ _ _ long c.min.ensures ∙ ap known (c.deref.ensures.value ∙ c.self.view_is)
