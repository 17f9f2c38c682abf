-- What a session has done, by its moves and by what its journal has of it.
use Rattle.std.specs.Prelude.{◌≡◌, ℕ, ◌≤◌, List, ◌++◌, length, Result}
use Rattle.std.specs.List.{AllZip}
use Rattle.cdb_streams.specs.Lines.{lines_of}
use Rattle.cdb_streams.specs.declared.fault.PlayFault.{PlayFault}
use Rattle.cdb_session.specs.Moves.{Known, Move, Makes, Output, read_in, written_in}
use Rattle.cdb_rules.specs.RunView.{RunView}
use Rattle.cdb_session.specs.Answers.{HasExchanges}
use Rattle.cdb_session.specs.Exchanges.{Answer, Exchange}
use Rattle.cdb_session.specs.Replies.{dialogue}
use Rattle.cdb_session.specs.Requests.{AreAsked, AsksForNoLess}
use Rattle.cdb_session.specs.Sessions.{IsSessionBy}
use Rattle.cdb_session.specs.Styles.{StyleView, Part}
use Rattle.cdb_session.specs.declared.inquiry.Inquiry.{Inquiry}

module _ (Answers : RunView → Inquiry → Answer → Type 0) (style : StyleView) (begun part : Part) where
  -- these are the responses to these lines, whose commands the journal has, and after them maybe those of further
  -- lines
  abbrev pub IsAnswered : List (List ℕ) → List Output → Type 0
  IsAnswered lines outputs =
      (exchanges others : List Exchange) × AreAsked exchanges lines × (outputs ≡ dialogue style exchanges)
      × HasExchanges Answers style begun part (exchanges ++ others)

  -- so it is, without further ones
  abbrev pub IsServed : List (List ℕ) → List Output → Type 0
  IsServed lines outputs =
      (exchanges : List Exchange) × AreAsked exchanges lines × (outputs ≡ dialogue style exchanges)
      × HasExchanges Answers style begun part exchanges

  -- the journal has the commands of these lines, and of the next line's command as often as it was given until then
  pub record HasCommandsSoFar (lines next : List (List ℕ)) : Type 0 where
    pub exchanges : List Exchange
    pub beginning : List Exchange
    pub asked : AreAsked exchanges lines
    pub next_asked : AllZip AsksForNoLess beginning next
    pub commands : HasExchanges Answers style begun part (exchanges ++ beginning)

  -- The first of the lines have their responses in full, and the others not at all. The journal has the commands of the
  -- first lines, and of the next line what was given of its command.
  pub record IsCutShort (moves : List Move) : Type 0 where
    pub lines : List (List ℕ)
    pub next : List (List ℕ)
    pub others : List (List ℕ)
    pub begins : lines_of (read_in moves) ≡ (lines ++ next) ++ others
    pub one : length next ≤ 1
    pub responded : IsAnswered lines (written_in moves)
    pub commands : HasCommandsSoFar lines next

  -- a session that has made these moves, and returned this
  abbrev pub IsSession : {A : Type 0} → Result A PlayFault → List Move → Type 0
  IsSession returned moves = IsSessionBy IsAnswered IsServed IsCutShort returned moves

  -- such a session, from what was known of its console before to what is known after
  abbrev pub HoldsSession : {A : Type 0} → Result A PlayFault → Known → Known → Type 0
  HoldsSession returned old new = (made : List Move) × Makes old new made × IsSession returned made
