use Rattle.std.proofs.Common.{◌≡◌, ap, rules, subst, refl, append_assoc, codes, decimal, List, ℕ, [], ◌++◌}
use Rattle.std.proofs.lemmas.Result.{err_from_is_err_and}
use Rattle.cdb_commands.specs.ReplyView.{reply_view}
use Rattle.cdb_control.specs.Journal.{reply_in}
use Rattle.cdb_text.specs.Texts.{text_of}
use Rattle.cdb_streams.specs.PiecesPut.{Puts}
use Rattle.cdb_streams.specs.declared.buffer.OutputFault.TheVariants.{Write}
use Rattle.cdb_streams.proofs.PiecesPut.{put_nothing, put_more, cut_short, put_last}
use Rattle.cdb_journal.specs.SeatReplies.{seat_reply_line}
use Rattle.cdb_journal.proofs.replays.perform.Goals as goal

pub returns-in_err-reply-clause-put : goal.returns-in_err-reply-clause-put
returns-in_err-reply-clause-put g c =
    let p = err_from_is_err_and c.from_residual.result c.from_residual.ensures.1 in
    rw (p.1, p.2) (record { before = []; rest = _; whole = refl; put = put_nothing g.W.Sink.stream _ _ })

pub returns-in_err-put-clause-put : goal.returns-in_err-put-clause-put
returns-in_err-put-clause-put g c =
    let p = err_from_is_err_and c.from_residual-in_err-put.result c.from_residual-in_err-put.ensures.1 in
    let seat = c.args.entry.seat in
    let reply = reply_in g.T.Runs.rules c.args.control.now seat c.args.entry.command in
    let same : c.as_bytes.result.now ≡ decimal seat = search rules in
    rw (p.1, p.2) (cut_short g.W.Sink.stream (Unit {0}) Write _ _ _ _ _ c.put.new.self [] (decimal seat) (codes " " ++ text_of reply)
    (seat_reply_line seat reply) (put_nothing g.W.Sink.stream _ _) (append_assoc (decimal seat) (codes " ") (text_of reply))
    (rw same at c.in_err-put.ensures.err))

pub returns-in_err-put-2-clause-put : goal.returns-in_err-put-2-clause-put
returns-in_err-put-2-clause-put g c =
    let p = err_from_is_err_and c.from_residual-in_err-put-2.result c.from_residual-in_err-put-2.ensures.1 in
    let seat = c.args.entry.seat in
    let reply = reply_in g.T.Runs.rules c.args.control.now seat c.args.entry.command in
    let same : c.as_bytes.result.now ≡ decimal seat = search rules in
    rw (p.1, p.2) (cut_short g.W.Sink.stream (Unit {0}) Write _ _ _ _ _ c.put-2.new.self (decimal seat) (codes " ") (text_of reply)
    (seat_reply_line seat reply) (rw same at c.in_ok-put.ensures.ok) (append_assoc (decimal seat) (codes " ") (text_of reply))
    c.in_err-put-2.ensures.err)

pub returns-clause-put : goal.returns-clause-put
returns-clause-put g c =
    let seat = c.args.entry.seat in
    let reply = reply_in g.T.Runs.rules c.args.control.now seat c.args.entry.command in
    let same : c.as_bytes.result.now ≡ decimal seat = search rules in
    let its : text_of (reply_view c.in_ok-reply.reply) ≡ text_of reply = ap text_of c.in_ok-reply.ensures.reply in
    let put = subst (λ (text : List ℕ). Puts g.W.Sink.stream c.put_reply.result c.put-2.new.out c.put-2.new.self c.put_reply.new.out
    c.put_reply.new.buffer text) its c.put_reply.ensures in
    put_last _ _ _ _ _ _ _ _ _ _ (seat_reply_line seat reply)
    (put_more _ _ _ _ _ _ _ _ _ (rw same at c.in_ok-put.ensures.ok) c.in_ok-put-2.ensures.ok) refl put
