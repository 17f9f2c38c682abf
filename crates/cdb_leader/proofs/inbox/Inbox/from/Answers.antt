use Rattle.std.proofs.Common.{◌≡◌, length, ap, sym, ◌∙◌}
use Rattle.cdb_leader.specs.Index.{from_kept}
use Rattle.cdb_leader.proofs.IndexLaws.{from_is}
use Rattle.cdb_leader.proofs.inbox.Inbox.from.Goals as goal

pub returns : goal.returns
returns c =
    let long : c.len.result ≡ length c.deref.result.now = c.len.ensures ∙ sym c.deref.ensures.len in
    from_is _ c.args.kept _ _ long (rw (c.unwrap_or-start.ensures, c.position.ensures) at c.min.ensures)
    ∙ ap (from_kept c.args.kept) (c.deref.ensures.value ∙ c.self.view_is)
