-- A session goes from one of its states to the next.
use Rattle.std.proofs.Common.{◌≡◌, ◌≢◌, inl, inr, ℕ, ◌+◌, ◌<◌, ◌≤◌, false, List, [], ◌∷◌, ◌++◌, length, take, nat_eq, refl, sym, ap, subst, ◌∙◌}
use Rattle.std.proofs.Common.{append_assoc, append-nil, arith, Bool, true, length-append}
use Rattle.std.specs.Prelude.{Result, Err, Ok, is_some, unwrap_or}
use Rattle.std.specs.List.{AllZip, AllByRecursion}
use Rattle.std.proofs.lemmas.List.{length-take, take_all, nil_from_length}
use Rattle.std.proofs.ByRecursion.{All-weaker}
use Rattle.std.proofs.lemmas.List.Elements.{All-append, All-nil}
use Rattle.cdb_base.specs.Memory.{no_memory}
use Rattle.cdb_rules.proofs.Alls.{all-append}
use Rattle.cdb_rules.specs.RunView.{RunView}
use Rattle.cdb_streams.specs.Lines.{lines_of}
use Rattle.cdb_streams.specs.declared.fault.PlayFault.{PlayFault}
use Rattle.cdb_setup.specs.Format.{longest}
use Rattle.cdb_session.specs.Answers.{HasExchanges}
use Rattle.cdb_session.specs.Exchanges.{Answer, Exchange}
use Rattle.cdb_session.specs.Lines.{SessionView}
use Rattle.cdb_session.specs.Moves.{Move, Output, Read, ReadFailed, says, given_by, written_by, read_in, written_in, AsksForInput, AreWrites, FailsToWrite}
use Rattle.cdb_session.specs.Moves.{EndsWith, Known, Makes, WritesAll}
use Rattle.cdb_session.specs.Replies.{dialogue, first_place, next_place, shown}
use Rattle.cdb_session.specs.News.{watches}
use Rattle.cdb_session.specs.declared.session.Place.{Place}
use Rattle.cdb_session.specs.Requests.{HasNoEnd, Asks, AsksFor, AsksForNoLess, AreAsked, HaveQuit, ended_lines, up_to_quit, IsQuit}
use Rattle.cdb_session.specs.Served.{IsAnswered, IsServed, IsCutShort, IsSession, HoldsSession}
use Rattle.cdb_session.specs.Sessions.{most_input, EndsAs, HasEnded, IsOpen, HasResponded, RespondsInTime, at_end, at_most, by_quit}
use Rattle.cdb_session.specs.Styles.{StyleView, Part, MakesNone}
use Rattle.cdb_session.specs.Typed.{line_meant}
use Rattle.cdb_session.specs.Unfinished.{IsOver, with_ends, unfinished_of, ended_well, ended_by, StaysAt, Arrives, IsBehind, IsHandled}
use Rattle.cdb_session.specs.Unfinished.{IsLost, RespondsOnTime, RespondsToLast, RespondsToLine}
use Rattle.cdb_session.specs.declared.inquiry.Inquiry.{Inquiry}
use Rattle.cdb_session.specs.declared.request.Request.{Request}
use Rattle.cdb_session.proofs.CutLines.{asks_whole, AllZip-more, up_to_quit-append, have_none, is_not_quit, up_to_quit-one, up_to_quit-quit, ended_of_joined}
use Rattle.cdb_session.proofs.CutLines.{lines_of_joined, one_unended, with_ends-append, lines_of_none, ended_and_more, take-take_append}
use Rattle.cdb_session.proofs.GotReplies.{HasPart, MakesNone-refl, commands_done, commands_lost, dialogue-more, place_after-more, seen_next}
use Rattle.cdb_session.proofs.LaterParts.{has_later}
use Rattle.cdb_session.proofs.MovesInOrder.{nothing_asked, one_move, writes_more, read-append, written-append, nothing_read, Makes-more, EndsWith-more}
use Rattle.cdb_streams.specs.declared.buffer.OutputFault.{OutputFault}
use Rattle.cdb_session.specs.declared.request.Request.TheVariants.{Quit}
use Rattle.cdb_streams.specs.declared.buffer.OutputFault.TheVariants as output
use Rattle.cdb_streams.specs.declared.fault.PlayFault.TheVariants as fault

pub none_in_nothing : HasNoEnd []
none_in_nothing = All-nil _

pub unfinished_of_nothing : unfinished_of [] ≡ []
unfinished_of_nothing = take_all (longest + 1) [] (omega arith)

-- ---- the input is read

pub open_read : (moves : List Move) (move : Move) → IsOpen moves → move ≢ Read [] → IsOpen (moves ++ move ∷ [])
open_read moves move still some = all-append (λ its. its ≢ Read []) moves (move ∷ []) still (some, tt)

pub open_writes : (moves made : List Move) → IsOpen moves → AreWrites made → IsOpen (moves ++ made)
open_writes moves made still writes =
    all-append (λ its. its ≢ Read []) moves made still
    (All-weaker _ _ (λ move asks_not is. asks_not (subst AsksForInput (sym is) tt)) made writes)

pub read_more : (moves made : List Move) → AreWrites made → read_in (moves ++ made) ≡ read_in moves
read_more moves made writes = read-append moves made ∙ ap (λ more. read_in moves ++ more) (nothing_read made writes) ∙ append-nil (read_in moves)

pub over_more : (moves made : List Move) → AreWrites made → IsOver moves → HasEnded (moves ++ made)
over_more moves made writes (inl ends) = at_end (
  ends.0,
  ends.1 ++ made,
  ap (λ front. front ++ made) ends.2 ∙ append_assoc ends.0 (Read [] ∷ ends.1) made,
  all-append (λ move. ¬ AsksForInput move) ends.1 made ends.3 writes,
)
over_more moves made writes (inr most) = at_most (subst (λ bytes. most_input ≤ length bytes) (sym (read_more moves made writes)) most)

-- without further lines
pub no_further : (Answers : RunView → Inquiry → Answer → Type 0) (style : StyleView) (begun part : Part) (exchanges : List Exchange)
    → HasExchanges Answers style begun part exchanges → HasExchanges Answers style begun part (exchanges ++ [])
no_further Answers style begun part exchanges has = subst (HasExchanges Answers style begun part) (sym (append-nil exchanges)) has

-- before input is asked for
in_time_at_first : (Responds : List (List ℕ) → List Output → Type 0) (made : List Move) → AreWrites made → RespondsInTime Responds made
in_time_at_first Responds made writes = writes_more (HasResponded Responds) [] made (nothing_asked (HasResponded Responds)) writes

module _ {Answers : RunView → Inquiry → Answer → Type 0} {style : StyleView} {begun : Part} where
  -- a session ends so whose lines have their responses
  pub all_ended : {part : Part} {exchanges : List Exchange} {moves : List Move} → RespondsOnTime Answers style begun exchanges moves
      → HasExchanges Answers style begun part exchanges → (returned : Result (Unit {0}) PlayFault)
      → EndsAs (IsAnswered Answers style begun part) (IsServed Answers style begun part) (IsCutShort Answers style begun part) returned moves
      → IsSession Answers style begun part returned moves
  all_ended {part} {exchanges} in_time has returned ends = record { in_time = in_time part [] (no_further Answers style begun part exchanges has); ends = ends }

  module _ {moves : List Move} {session : SessionView} {unfinished left : List ℕ} (at : StaysAt Answers style begun moves session unfinished left) where
    -- bytes that end no line are held
    pub more_unfinished : (more behind kept : List ℕ) → left ≡ more ++ behind → HasNoEnd more
        → kept ≡ take (longest + 1) (unfinished ++ more) → StaysAt Answers style begun moves session kept behind
    more_unfinished more behind kept cut none is = record {
      lines = at.lines;
      line = at.line ++ more;
      exchanges = at.exchanges;
      read = at.read ∙ ap (λ bytes. with_ends at.lines ++ bytes) (ap (λ bytes. at.line ++ bytes) cut ∙ sym (append_assoc at.line more behind));
      ended = at.ended;
      unended = All-append (λ byte. nat_eq byte 10 ≡ false) at.line more at.unended none;
      unfinished_is = is ∙ ap (λ front. take (longest + 1) (front ++ more)) at.unfinished_is ∙ take-take_append (longest + 1) at.line more;
      asked = at.asked;
      goes_on = at.goes_on;
      written = at.written;
      place_is = at.place_is;
      watched = at.watched;
      longer = at.longer;
      has = at.has;
      in_time = at.in_time;
    }

    asked_so_far : AreAsked at.exchanges at.lines
    asked_so_far =
        let all : up_to_quit at.lines ≡ at.lines =
        ap up_to_quit (sym (append-nil at.lines)) ∙ up_to_quit-append at.lines [] at.goes_on ∙ append-nil at.lines in
        subst (AllZip Asks at.exchanges) (sym all) at.asked

    -- one line more, with which they may end
    pub asked_behind : (exchange : Exchange) → Asks exchange at.line → (others : List (List ℕ)) → up_to_quit others ≡ at.line ∷ []
        → AreAsked (at.exchanges ++ exchange ∷ []) (at.lines ++ others)
    asked_behind exchange asks others ends =
        subst (AllZip Asks (at.exchanges ++ exchange ∷ [])) (sym (up_to_quit-append at.lines others at.goes_on ∙ ap (λ parts. at.lines ++ parts) ends))
        (AllZip-more at.exchanges at.lines exchange at.line at.asked asks)

    -- what is held asks for what the line asks for
    pub whole_line : (exchange : Exchange) → Asks exchange unfinished → Asks exchange at.line
    whole_line exchange asks = asks_whole exchange at.line (subst (Asks exchange) at.unfinished_is asks)

    -- the line stands there whole, and others behind it
    abbrev pub StandsBefore : List (List ℕ) → Type 0
    StandsBefore others = lines_of (read_in moves) ≡ (at.lines ++ at.line ∷ []) ++ others

    -- memory is out, and the journal has what was given of the next line's command, or nothing of it
    module _ (new : Part) where
      lost_at : (its : List Exchange) (next others : List (List ℕ)) → AllZip AsksForNoLess its next → length next ≤ 1
          → lines_of (read_in moves) ≡ (at.lines ++ next) ++ others → HasExchanges Answers style begun new (at.exchanges ++ its)
          → IsSession Answers style begun new (ended_by (output.NoMemory no_memory)) moves
      lost_at its next others asks one begins has = record {
        in_time = at.in_time new its has;
        ends = record {
          lines = at.lines;
          next = next;
          others = others;
          begins = begins;
          one = one;
          responded = (at.exchanges, its, asked_so_far, at.written, has);
          commands = record { exchanges = at.exchanges; beginning = its; asked = asked_so_far; next_asked = asks; commands = has };
        };
      }

      pub lost_before : HasExchanges Answers style begun new at.exchanges → IsSession Answers style begun new (ended_by (output.NoMemory no_memory)) moves
      lost_before has =
          let others = lines_of (at.line ++ left) in
          let begins : lines_of (read_in moves) ≡ (at.lines ++ []) ++ others =
          ap lines_of at.read ∙ lines_of_joined at.lines (at.line ++ left) at.ended ∙ ap (λ front. front ++ others) (sym (append-nil at.lines)) in
          lost_at [] [] others tt (omega arith) begins (no_further Answers style begun new at.exchanges has)

      pub line_lost : (request : Request) → AsksFor request (line_meant at.line) → (others : List (List ℕ)) → StandsBefore others
          → HasPart Answers style begun at.exchanges new request → IsSession Answers style begun new (ended_by (output.NoMemory no_memory)) moves
      line_lost request asks others begins (inl has) = lost_before has
      line_lost request asks others begins (inr (its, has, all)) =
          lost_at (its ∷ []) (at.line ∷ []) others (all at.line asks, tt) (omega arith) begins has

  -- ---- more input is asked for

  module _ {moves : List Move} {session : SessionView} {unfinished : List ℕ} (at : StaysAt Answers style begun moves session unfinished [])
      (still : IsOpen moves) where
    so_far : (Responds : List (List ℕ) → List Output → Type 0) → Responds at.lines (written_in moves) → HasResponded Responds moves
    so_far Responds responded =
        let lines : ended_lines (read_in moves) ≡ at.lines =
        ap ended_lines (at.read ∙ ap (λ bytes. with_ends at.lines ++ bytes) (append-nil at.line)) ∙ ended_of_joined at.lines at.line at.ended at.unended in
        record {
          responded = subst (λ parts. Responds parts (written_in moves)) (sym lines) responded;
          goes_on = subst (λ parts. ¬ HaveQuit parts) (sym lines) (have_none at.lines at.goes_on);
          more = still;
        }

    pub asked_once : (ask : Move) → written_by ask ≡ [] → StaysAt Answers style begun (moves ++ ask ∷ []) session unfinished (given_by ask)
    asked_once ask none = record {
      lines = at.lines;
      line = at.line;
      exchanges = at.exchanges;
      read =
          read-append moves (ask ∷ []) ∙ (λ i. at.read i ++ append-nil (given_by ask) i)
          ∙ ap (λ last. (with_ends at.lines ++ last) ++ given_by ask) (append-nil at.line) ∙ append_assoc (with_ends at.lines) at.line (given_by ask);
      ended = at.ended;
      unended = at.unended;
      unfinished_is = at.unfinished_is;
      asked = at.asked;
      goes_on = at.goes_on;
      written =
          written-append moves (ask ∷ []) ∙ ap (λ text. written_in moves ++ text) (append-nil (written_by ask) ∙ none)
          ∙ append-nil (written_in moves) ∙ at.written;
      place_is = at.place_is;
      watched = at.watched;
      longer = at.longer;
      has = at.has;
      in_time = λ final others has.
          let Responds = IsAnswered Answers style begun final in
          one_move (HasResponded Responds) moves ask (at.in_time final others has)
          (λ asks. so_far Responds (at.exchanges, others, asked_so_far at, at.written, has));
    }

  pub read_failed : {moves : List Move} {session : SessionView} {unfinished : List ℕ} → StaysAt Answers style begun moves session unfinished [] → IsOpen moves
      → let outcome : Result (Unit {0}) PlayFault = Err fault.Read in IsSession Answers style begun session.part outcome (moves ++ ReadFailed ∷ [])
  read_failed {moves} {session} at still =
      let now = asked_once at still ReadFailed refl in
      all_ended now.in_time now.has (Err fault.Read) (
        so_far now (open_read moves ReadFailed still (λ is. cc)) (IsServed Answers style begun session.part)
            (now.exchanges, asked_so_far now, now.written, now.has),
        (moves, ReadFailed, refl, refl),
      )

  -- ---- a line stands there whole

  module _ {moves : List Move} {session : SessionView} {unfinished : List ℕ} where
    pub now_read : {left : List ℕ} (at : StaysAt Answers style begun moves session unfinished (10 ∷ left))
        → read_in moves ≡ with_ends (at.lines ++ at.line ∷ []) ++ left
    now_read {left} at =
        at.read
        ∙ sym (ap (λ front. front ++ left) (with_ends-append at.lines at.line) ∙ append_assoc (with_ends at.lines) (at.line ++ 10 ∷ []) left
        ∙ ap (λ last. with_ends at.lines ++ last) (append_assoc at.line (10 ∷ []) left))

    pub now_ended : {left : List ℕ} (at : StaysAt Answers style begun moves session unfinished left) → AllByRecursion HasNoEnd (at.lines ++ at.line ∷ [])
    now_ended at = all-append HasNoEnd at.lines (at.line ∷ []) at.ended (at.unended, tt)

    -- by its end
    pub ended_line : {left : List ℕ} (at : StaysAt Answers style begun moves session unfinished (10 ∷ left)) → StandsBefore at (lines_of left)
    ended_line {left} at = ap lines_of (now_read at) ∙ lines_of_joined (at.lines ++ at.line ∷ []) left (now_ended at)

    -- or since the input has ended
    module _ (at : StaysAt Answers style begun moves session unfinished []) where
      pub last_line : 0 < length unfinished → StandsBefore at []
      last_line some =
          let some_line : 0 < length at.line = omega (arith, some, ap length at.unfinished_is, length-take (longest + 1) at.line) in
          ap lines_of (at.read ∙ ap (λ last. with_ends at.lines ++ last) (append-nil at.line))
          ∙ lines_of_joined at.lines at.line at.ended ∙ ap (λ last. at.lines ++ last) (one_unended at.line some_line at.unended)
          ∙ sym (append-nil (at.lines ++ at.line ∷ []))

      -- there is no such line
      pub no_last_line : IsOver moves → length unfinished ≡ 0 → IsSession Answers style begun session.part ended_well moves
      no_last_line over none =
          let no_line : at.line ≡ [] = nil_from_length at.line (omega (arith, none, ap length at.unfinished_is, length-take (longest + 1) at.line)) in
          let lines : lines_of (read_in moves) ≡ at.lines =
          ap lines_of (at.read ∙ ap (λ last. with_ends at.lines ++ (last ++ [])) no_line)
          ∙ lines_of_joined at.lines [] at.ended ∙ ap (λ last. at.lines ++ last) lines_of_none ∙ append-nil at.lines in
          all_ended at.in_time at.has ended_well (record {
            responded =
                subst (λ parts. IsServed Answers style begun session.part parts (written_in moves)) (sym lines)
                (at.exchanges, asked_so_far at, at.written, at.has);
            ended = subst HasEnded (append-nil moves) (over_more moves [] tt over);
          })

-- ---- before the first line

module _ {Answers : RunView → Inquiry → Answer → Type 0} {style : StyleView} (session : SessionView) (made : List Move) (writes : AreWrites made) where
  none_yet : HasExchanges Answers style session.part session.part []
  none_yet = record { calls = sym (append-nil session.part.calls); replies = sym (append-nil session.part.replies); each = tt }

  pub prompted : session.place ≡ first_place style → written_in made ≡ says (style.greeting ++ style.prompt)
      → StaysAt Answers style session.part made session [] []
  prompted first said = record {
    lines = [];
    line = [];
    exchanges = [];
    read = nothing_read made writes;
    ended = tt;
    unended = none_in_nothing;
    unfinished_is = sym unfinished_of_nothing;
    asked = tt;
    goes_on = tt;
    written = said ∙ sym (append-nil (says (style.greeting ++ style.prompt)));
    place_is = first;
    watched = subst (λ (p : Place). unwrap_or p.watched session.part.entries ≤ session.part.entries) (sym first) (omega arith);
    longer = omega arith;
    has = none_yet;
    in_time = λ final others has. in_time_at_first (IsAnswered Answers style session.part final) made writes;
  }

  pub not_prompted : (missing : List Output) → says (style.greeting ++ style.prompt) ≡ written_in made ++ missing
      → EndsWith FailsToWrite made → IsSession Answers style session.part session.part (ended_by output.Write) made
  not_prompted missing said fails = record {
    in_time = in_time_at_first (IsAnswered Answers style session.part session.part) made writes;
    ends = (
      record {
        lines = [];
        others = lines_of (read_in made);
        outputs = dialogue style [];
        missing = missing;
        begins = refl;
        responded = ([], tt, refl, none_yet);
        written = append-nil (says (style.greeting ++ style.prompt)) ∙ said;
      },
      fails,
    );
  }

-- ---- a session responds to the lines of the bytes that it was given, whatever replies will follow

module _ {Answers : RunView → Inquiry → Answer → Type 0} {style : StyleView} {begun : Part} where
  module _ {moves : List Move} {old : SessionView} {unfinished left : List ℕ} (at : StaysAt Answers style begun moves old unfinished left) where
    -- memory is out, and nothing of a line was done
    nothing_done : (new : SessionView) → MakesNone old.part new.part → IsSession Answers style begun new.part (ended_by (output.NoMemory no_memory)) moves
    nothing_done new none = lost_before at new.part (has_later Answers style begun old.part new.part none at.exchanges at.has)

    -- or a part of it
    lost : (others : List (List ℕ)) → StandsBefore at others → (new : SessionView) → IsLost Answers style old new unfinished
        → IsSession Answers style begun new.part (ended_by (output.NoMemory no_memory)) moves
    lost others begins new (inl none) = nothing_done new none
    lost others begins new (inr (request, asks, inl none)) = nothing_done new none
    lost others begins new (inr (request, asks, inr (some, effect, looked))) =
        line_lost at new.part request (whole_line at (request, effect) asks) others begins
        (commands_lost Answers style begun old.part new.part old.place at.exchanges at.has at.place_is at.watched at.longer request some effect looked)

  -- ---- a line was handled

  module _ {moves : List Move} {before next : Known} {old new : SessionView} {unfinished left : List ℕ} {result : Result Bool OutputFault}
      (at : StaysAt Answers style begun moves old unfinished left) (line : IsHandled Answers style result before next old new unfinished) where
    abbrev made : List Move
    made = line.outputs.0

    abbrev exchanges_now : List Exchange
    exchanges_now = at.exchanges ++ line.exchange ∷ []

    asked : Asks line.exchange at.line
    asked = whole_line at line.exchange line.asks

    commands : HasExchanges Answers style begun new.part exchanges_now
    commands =
        commands_done Answers style begun old.part new.part old.place at.exchanges at.has at.place_is at.watched at.longer line.exchange line.done line.looked

    text : written_in moves ++ shown style old.place line.exchange ≡ dialogue style exchanges_now
    text = (λ i. at.written i ++ shown style (at.place_is i) line.exchange) ∙ sym (dialogue-more style at.exchanges line.exchange)

    said_all : written_in made ≡ shown style old.place line.exchange → written_in (moves ++ made) ≡ dialogue style exchanges_now
    said_all said = written-append moves made ∙ ap (λ outputs. written_in moves ++ outputs) said ∙ text

    in_time : RespondsOnTime Answers style begun exchanges_now (moves ++ made)
    in_time final others has =
        writes_more (HasResponded (IsAnswered Answers style begun final)) moves made
        (at.in_time final (line.exchange ∷ others)
        (subst (HasExchanges Answers style begun final) (append_assoc at.exchanges (line.exchange ∷ []) others) has)) line.outputs.2

    longer_now : begun.entries ≤ new.part.entries
    longer_now = omega (arith, at.longer, line.done.calls.goes_on.longer)

    watched_now : unwrap_or new.place.watched begun.entries ≤ new.part.entries
    watched_now =
        let before = is_some old.place.watched in
        subst (λ (p : Place). unwrap_or p.watched begun.entries ≤ new.part.entries) (sym line.place)
        (seen_next begun.entries new.part (length old.part.calls) old.part.entries old.place.watched before (watches before line.exchange.0)
        line.exchange.1.seen line.exchange.1.news longer_now line.looked)

  module _ {moves : List Move} {before next : Known} {old : SessionView} {unfinished left : List ℕ}
      (at : StaysAt Answers style begun moves old unfinished left) (others : List (List ℕ)) (begins : StandsBefore at others) where
    -- the writing failed
    broken : {new : SessionView} (line : IsHandled Answers style (Err output.Write) before next old new unfinished)
        → IsSession Answers style begun new.part (ended_by output.Write) (moves ++ made at line)
    broken {new} line =
        let missing = line.outputs.3.0 in
        all_ended (in_time at line) (commands at line) (ended_by output.Write) (
          record {
            lines = at.lines ++ at.line ∷ [];
            others = others;
            outputs = dialogue style (exchanges_now at line);
            missing = missing;
            begins = ap lines_of (read_more moves (made at line) line.outputs.2) ∙ begins;
            responded = (
              exchanges_now at line,
              asked_behind at line.exchange (asked at line) (at.line ∷ []) (up_to_quit-one at.line),
              refl,
              commands at line,
            );
            written =
                sym (text at line) ∙ ap (λ outputs. written_in moves ++ outputs) line.outputs.3.1
                ∙ sym (append_assoc (written_in moves) (written_in (made at line)) missing)
                ∙ ap (λ front. front ++ missing) (sym (written-append moves (made at line)));
          },
          EndsWith-more FailsToWrite moves (made at line) line.outputs.3.2,
        )

    -- it was the last
    served : {new : SessionView} {was_quit : Bool} (line : IsHandled Answers style (Ok was_quit) before next old new unfinished) {kept : List ℕ}
        → IsBehind Answers style line.exchange.0 kept was_quit → up_to_quit (at.line ∷ others) ≡ at.line ∷ []
        → HasEnded (moves ++ made at line) → IsSession Answers style begun new.part ended_well (moves ++ made at line)
    served {new} line is ends ended =
        let lines : lines_of (read_in (moves ++ made at line)) ≡ at.lines ++ at.line ∷ others =
        ap lines_of (read_more moves (made at line) line.outputs.2) ∙ begins ∙ append_assoc at.lines (at.line ∷ []) others in
        all_ended (in_time at line) (commands at line) ended_well (record {
          responded =
              subst (λ parts. IsServed Answers style begun new.part parts (written_in (moves ++ made at line))) (sym lines)
              (exchanges_now at line, asked_behind at line.exchange (asked at line) (at.line ∷ others) ends, said_all at line line.outputs.3, commands at line);
          ended = ended;
        })

    -- it failed
    line_fails : {first : Known} → Makes first before moves → (fault : OutputFault) (new : SessionView) (kept : List ℕ)
        → RespondsToLine Answers style (Err fault) before next old new unfinished kept → HoldsSession Answers style begun new.part (ended_by fault) first next
    line_fails makes output.Write new kept line = (moves ++ made at line, Makes-more _ before next moves (made at line) makes line.outputs.1, broken line)
    line_fails {first} makes (output.NoMemory why) new kept a = (moves, subst (λ known. Makes first known moves) a.0 makes, lost at others begins new a.1)

  -- ---- bytes are looked at

  module _ {first now : Known} {session : SessionView} {kept left : List ℕ} {read : ℕ} (a : Arrives Answers style begun first now session kept left read) where
    -- memory is out
    pub memory_out : HoldsSession Answers style begun session.part (ended_by (output.NoMemory no_memory)) first now
    memory_out = (a.moves, a.makes, nothing_done a.stays session (MakesNone-refl session.part))

    -- the bytes up to some are held
    pub holds : (more behind all : List ℕ) → left ≡ more ++ behind → HasNoEnd more
        → all ≡ take (longest + 1) (kept ++ more) → Arrives Answers style begun first now session all behind read
    holds more behind all cut none is =
        record { moves = a.moves; makes = a.makes; stays = more_unfinished a.stays more behind all cut none is; many = a.many; still = a.still }

  -- a line has ended
  module _ {first now next : Known} {session : SessionView} {kept left : List ℕ} {read : ℕ}
      (a : Arrives Answers style begun first now session kept (10 ∷ left) read) where
    -- it is not `quit`
    pub responds : {new : SessionView} {all : List ℕ} (was_quit : Bool) → RespondsToLine Answers style (Ok was_quit) now next session new kept all
        → was_quit ≡ false → Arrives Answers style begun first next new all left read
    responds was_quit (line, is) goes_on =
        let at = a.stays in
        let its : List Move = made at line in
        let read = read_more a.moves its line.outputs.2 in
        let other : line.exchange.0 ≢ Quit = λ quits. (let both : true ≡ false = sym (is.quit_exactly.1 quits) ∙ goes_on in cc) in
        record {
          moves = a.moves ++ its;
          makes = Makes-more first now next a.moves its a.makes line.outputs.1;
          stays = record {
            lines = at.lines ++ at.line ∷ [];
            line = [];
            exchanges = exchanges_now at line;
            read = read ∙ now_read at;
            ended = now_ended at;
            unended = none_in_nothing;
            unfinished_is = is.emptied ∙ sym unfinished_of_nothing;
            asked = AllZip-more at.exchanges at.lines line.exchange at.line at.asked (asked at line);
            goes_on = all-append (λ its. ¬ IsQuit its) at.lines (at.line ∷ []) at.goes_on (is_not_quit line.exchange at.line (asked at line) other, tt);
            written = said_all at line line.outputs.3;
            place_is = line.place ∙ ap (λ place. next_place style place line.exchange) at.place_is ∙ sym (place_after-more style at.exchanges line.exchange);
            watched = watched_now at line;
            longer = longer_now at line;
            has = commands at line;
            in_time = in_time at line;
          };
          many = ap length read ∙ a.many;
          still = open_writes a.moves its a.still line.outputs.2;
        }

    pub quits : {new : SessionView} {all : List ℕ} (was_quit : Bool) → RespondsToLine Answers style (Ok was_quit) now next session new kept all
        → was_quit ≡ true → HoldsSession Answers style begun new.part ended_well first next
    quits {new} was_quit (line, is) quit =
        let at = a.stays in
        let its : List Move = made at line in
        let is_quit : line.exchange.0 ≡ Quit = is.quit_exactly.0 quit in
        let quits : IsQuit at.line = (subst (λ (r : Request). AsksFor r (line_meant at.line)) is_quit (asked at line)).1 in
        let ended : ended_lines (read_in (a.moves ++ its)) ≡ at.lines ++ at.line ∷ ended_lines left =
        ap ended_lines (read_more a.moves its line.outputs.2 ∙ now_read at) ∙ ended_and_more (at.lines ++ at.line ∷ []) left (now_ended at)
        ∙ append_assoc at.lines (at.line ∷ []) (ended_lines left) in (
          a.moves ++ its,
          Makes-more first now next a.moves its a.makes line.outputs.1,
          served at (lines_of left) (ended_line at) line is (up_to_quit-quit at.line (lines_of left) quits)
              (by_quit (at.lines, ended_lines left, at.line, ended, quits)),
        )

    pub fails : (fault : OutputFault) (new : SessionView) (all : List ℕ) → RespondsToLine Answers style (Err fault) now next session new kept all
        → HoldsSession Answers style begun new.part (ended_by fault) first next
    fails = line_fails a.stays (lines_of left) (ended_line a.stays) a.makes

-- ---- the last line

module _ {Answers : RunView → Inquiry → Answer → Type 0} {style : StyleView} where
  pub last_none : (before : Known) (session : SessionView) (unfinished : List ℕ) → length unfinished ≡ 0
      → RespondsToLast Answers style ended_well before before session session unfinished
  last_none before session unfinished none begun first moves makes at over = (moves, makes, no_last_line at over none)

  module _ {before next : Known} {session : SessionView} {unfinished : List ℕ} (some : 0 < length unfinished) where
    pub last_done : {new : SessionView} {kept : List ℕ} (was_quit : Bool) → RespondsToLine Answers style (Ok was_quit) before next session new unfinished kept
        → RespondsToLast Answers style ended_well before next session new unfinished
    last_done was_quit (line, is) begun first moves makes at over = (
      moves ++ made at line,
      Makes-more first before next moves (made at line) makes line.outputs.1,
      served at [] (last_line at some) line is (up_to_quit-one at.line) (over_more moves (made at line) line.outputs.2 over),
    )

    pub last_fails : (fault : OutputFault) (new : SessionView) (kept : List ℕ)
        → RespondsToLine Answers style (Err fault) before next session new unfinished kept
        → RespondsToLast Answers style (ended_by fault) before next session new unfinished
    last_fails fault new kept line begun first moves makes at over = line_fails at [] (last_line at some) makes fault new kept line

-- ---- a session from its first line to its last

module _ (Answers : RunView → Inquiry → Answer → Type 0) (style : StyleView) where
  -- ---- the first line

  module _ {before now : Known} (session : SessionView) where
    pub started : (A E : Type 0) (a : A) → session.place ≡ first_place style
        → WritesAll {E = E} (Ok a) before now (says (style.greeting ++ style.prompt)) → Arrives Answers style session.part before now session [] [] 0
    started A E a first said = record {
      moves = said.0;
      makes = said.1;
      stays =
          prompted session said.0 said.2 first said.3;
      many = ap length (nothing_read said.0 said.2);
      still = open_writes [] said.0 tt said.2;
    }

    pub not_started : (A E : Type 0) (e : E) → WritesAll {A = A} (Err e) before now (says (style.greeting ++ style.prompt))
        → HoldsSession Answers style session.part session.part (ended_by output.Write) before now
    not_started A E e said = (said.0, said.1, not_prompted session said.0 said.2 said.3.0 said.3.1 said.3.2)

  -- ---- in between

  module _ {first now : Known} {session : SessionView} {unfinished : List ℕ} {read : ℕ} {begun : Part}
      (a : Arrives Answers style begun first now session unfinished [] read)
      {next : Known} where
    pub not_read : Makes now next (ReadFailed ∷ []) → let outcome : Result (Unit {0}) PlayFault = Err fault.Read in
        HoldsSession Answers style begun session.part outcome first next
    not_read makes = (a.moves ++ ReadFailed ∷ [], Makes-more first now next a.moves (ReadFailed ∷ []) a.makes makes, read_failed a.stays a.still)

    module _ (count : ℕ) (buffer : List ℕ) (makes : Makes now next (Read (take count buffer) ∷ [])) where
      pub given : count ≤ length buffer → count ≢ 0 → Arrives Answers style begun first next session unfinished (take count buffer) (read + count)
      given within some =
          let bytes : List ℕ = take count buffer in
          let long : length bytes ≡ count = omega (arith, length-take count buffer, within) in
          record {
            moves = a.moves ++ Read bytes ∷ [];
            makes = Makes-more first now next a.moves (Read bytes ∷ []) a.makes makes;
            stays = asked_once a.stays a.still (Read bytes) refl;
            many =
                let all = ap length (read-append a.moves (Read bytes ∷ [])) ∙ length-append (read_in a.moves) (bytes ++ []) in
                omega (arith, all, a.many, ap length (append-nil bytes), long);
            still =
                open_read a.moves (Read bytes) a.still
                (λ is. let none = sym (append-nil bytes) ∙ ap (λ move. read_in (move ∷ [])) is in some (sym long ∙ ap length none));
          }

      -- the end of the input was found
      pub over_at_end : count ≡ 0 → (new : SessionView) {behind : Known} {outcome : Result (Unit {0}) PlayFault}
          → RespondsToLast Answers style outcome next behind session new unfinished → HoldsSession Answers style begun new.part outcome first behind
      over_at_end is new last =
          let none : take count buffer ≡ [] = ap (λ n. take n buffer) is in
          let moves : List Move = a.moves ++ Read (take count buffer) ∷ [] in
          last begun first moves (Makes-more first now next a.moves (Read (take count buffer) ∷ []) a.makes makes)
          (subst (StaysAt Answers style begun moves session unfinished) none (asked_once a.stays a.still (Read (take count buffer)) refl))
          (inl (a.moves, [], ap (λ bytes. a.moves ++ Read bytes ∷ []) none, tt))

    -- as much was read as may be
    pub over_at_most : most_input ≤ read → (new : SessionView) {outcome : Result (Unit {0}) PlayFault}
        → RespondsToLast Answers style outcome now next session new unfinished → HoldsSession Answers style begun new.part outcome first next
    over_at_most most new last = last begun first a.moves a.makes a.stays (inr (subst (λ n. most_input ≤ n) (sym a.many) most))
