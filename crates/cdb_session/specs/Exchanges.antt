-- What a line asks for, with what came of it.
use Rattle.std.specs.Prelude.{ℕ, Bool, List, [], Result}
use Rattle.cdb_commands.specs.ReplyView.{ReplyView}
use Rattle.cdb_session.specs.declared.request.Request.{Request}
use Rattle.cdb_session.specs.declared.request.Request.TheVariants.{Call}

-- the text that is asked for, or one that says why there is none
abbrev pub Answer : Type 0
Answer = Result (List ℕ) (List ℕ)

-- What came of a line: how many entries of the journal were seen at it, if somebody watches, and the news of others;
-- the replies that its command got, one each time that it was given; and where it asks something of the run, the
-- answer to it, and whether that was saved, where it was to be.
pub record Effect : Type 0 where
  pub seen : ℕ
  pub news : List ℕ
  pub got : List ReplyView
  pub answer : Answer
  pub saved : Bool

abbrev pub Exchange : Type 0
Exchange = Request × Effect

-- the replies to the command of a line
abbrev pub replies_at : Exchange → List ReplyView
replies_at (Call command times, effect) = effect.got
replies_at other = []
