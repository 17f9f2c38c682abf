-- What a session answers to one line.
use Rattle.std.proofs.lemmas.Bool.{cases_Bool}
use Rattle.std.proofs.lemmas.Grind.{common_steps, flat_map-append}
use Rattle.std.proofs.lemmas.Option.{gets}
use Rattle.std.proofs.Common.{rules, ◌≡◌, ◌≢◌, inl, inr, ◌+◌, ℕ, Bool, true, List, [], ◌++◌, map, length, length-append, sym, ap, subst, ◌∙◌, arith, zero}
use Rattle.std.proofs.Common.{suc, ◌-◌, ◌<◌, ◌≤◌, false, ◌∷◌, refl, append_assoc, append-nil}
use Rattle.std.proofs.lemmas.List.{length-map, map-append}
use Rattle.std.specs.List.{AllByRecursion, flat_map}
use Rattle.std.specs.Prelude.{Result, Ok, Err, IfOk}
use Rattle.cdb_commands.specs.ReplyView.{ReplyView, is_refused}
use Rattle.cdb_commands.specs.declared.command.Command.{Command}
use Rattle.cdb_control.specs.Journal.{entry}
use Rattle.cdb_control.specs.declared.control.Entry.{Entry}
use Rattle.cdb_rules.proofs.Alls.{all-append}
use Rattle.cdb_rules.specs.RunView.{RunView}
use Rattle.cdb_text.specs.Texts.{text_of}
use Rattle.cdb_session.specs.Moves.{WritesAll, Known, file, says}
use Rattle.cdb_session.specs.Requests.{AsksFor}
use Rattle.cdb_session.specs.Answers.{AnswersNow}
use Rattle.cdb_session.specs.Dialogues.{answer_text, own_response, prompt_after, savings_of}
use Rattle.cdb_session.specs.Typed.{line_meant}
use Rattle.cdb_session.specs.Exchanges.{Answer, Effect, Exchange}
use Rattle.cdb_session.specs.declared.inquiry.Inquiry.{Inquiry}
use Rattle.cdb_session.specs.declared.request.Request.{Request}
use Rattle.cdb_session.specs.declared.request.Request.TheVariants.{Call, Ask}
use Rattle.cdb_session.specs.declared.shown.Shown.{Shown}
use Rattle.cdb_streams.specs.declared.buffer.OutputFault.{OutputFault}
use Rattle.cdb_session.specs.Styles.{StyleView, Part, MakesNone, IsFull, AreCalled, GoesOn}
use Rattle.cdb_session.specs.News.{HasNews}
use Rattle.cdb_session.specs.Repeats.{AreAllReplies}
use Rattle.cdb_session.specs.Replies.{next_place, replies_text}
use Rattle.cdb_session.specs.Unfinished.{IsHandled}
use Rattle.cdb_session.specs.Lines.{SessionView, HasBegun, HasDone, HasGot, IsAround, IsText, PutsOut, Shows, outputs_of, GivesOnce, is_last, text_once}
use Rattle.cdb_session.specs.declared.session.Place.{Place}
use Rattle.cdb_session.proofs.GotReplies.{GoesOn-refl, GoesOn-trans, MakesNone-refl, answer_behind, begun_where_done, none_called}
use Rattle.cdb_session.proofs.LaterParts.{done_on, news_on}

pub nothing_begun : (seat : ℕ) (old new : Part) (request : Request) → MakesNone old new → HasBegun seat old request new
nothing_begun seat old new (Call command times) none = ([], omega arith, refl, none_called old new none)
nothing_begun seat old new request none = none

module _ (Answers : RunView → Inquiry → Answer → Type 0) (style : StyleView) where
  module _ (effect : Effect) (place : Place) where
    -- the run was asked
    pub ask_shows : {E : Type 0} (r : Result Shown E) (old new : Part) (inquiry : Inquiry) (answer : Answer)
        → MakesNone old new → AnswersNow Answers new inquiry answer
        → IfOk r (λ its. (news : List ℕ) (saved : Bool) → outputs_of news its saved
        ≡ map file (savings_of inquiry answer saved) ++ says (news ++ answer_text (place.lines + 1) inquiry answer saved))
        → PutsOut Answers style effect r place old (Ask inquiry) new
    ask_shows (Ok its) old new inquiry answer none is put = (
      [],
      answer,
      (
        record { calls = none_called old new none; done = answer_behind Answers old new inquiry answer none is },
        put effect.news effect.saved,
      ),
    )
    ask_shows (Err fault) old new inquiry answer none is put = none

    -- a line that asks for no command and nothing of the run
    pub own_shows : (E : Type 0) (text : List ℕ) (its : Shown) (old : Part) (request : Request)
        → ((command : Command) (times : ℕ) → request ≢ Call command times) → ((inquiry : Inquiry) → request ≢ Ask inquiry)
        → text ≡ own_response style.chooses (place.lines + 1) request → IsText its text
        → PutsOut Answers style {E = E} effect (Ok its) place old request old
    own_shows E text its old (Call command times) other and_other is put = absurd (other command times refl)
    own_shows E text its old (Ask inquiry) other and_other is put = absurd (and_other inquiry refl)
    own_shows E text its old request other and_other is put = (
      [],
      Ok [],
      (
        record { calls = none_called old old (MakesNone-refl old); done = tt },
        put effect.news effect.saved ∙ ap (λ response. says (effect.news ++ response)) is,
      ),
    )

  -- ---- the news and the prompt

  around : (its all : Shown) (news behind : List ℕ) → IsAround its all news behind → (saved : Bool)
      → outputs_of [] all saved ≡ outputs_of news its saved ++ says behind
  around its all news behind a saved = grind (arith, common_steps, gets)

  -- ---- a held line

  abbrev pub line_handled : (E : Type 0) (its : Shown) {before behind : Known} {old new : SessionView} {unfinished : List ℕ}
      {result : Result Bool OutputFault} {request : Request} → AsksFor request (line_meant unfinished)
      → Shows Answers style {E = E} (Ok its) old request new → (saved : Bool)
      → WritesAll result before behind (outputs_of [] its saved) → IsHandled Answers style result before behind old new unfinished
  line_handled E its {before = before} {behind = behind} {result = result} {request = request} asks shows saved puts =
      let here = shows saved in
      record {
        exchange = (request, here.0);
        asks = asks;
        done = here.1;
        looked = here.2;
        place = here.4;
        outputs = subst (WritesAll result before behind) here.3 puts;
      }

  -- ---- a line, from the look at the journal on

  module _ (old : SessionView) (mid new : Part) (none : MakesNone old.part mid) (request : Request) (seen : ℕ) (news : List ℕ)
      (has : HasNews mid (length mid.calls) mid.entries old.place.watched request seen news) where
    got_behind : (other : Request) (got : List ReplyView) → HasGot old.place.seat mid other got new → HasGot old.place.seat old.part other got new
    got_behind other got k = search rules

    done_behind : (exchange : Exchange) → HasDone Answers old.place.seat mid exchange new → HasDone Answers old.place.seat old.part exchange new
    done_behind exchange its =
        let done =
        done_on Answers new new (GoesOn-refl new) (λ is. (is, refl)) mid.entries old.part.entries none.goes_on.longer (length mid.calls) exchange its.done in
        record { calls = got_behind exchange.0 _ its.calls; done = rw (ap length none.calls) at done }

    begun_behind : (other : Request) → HasBegun old.place.seat mid other new → HasBegun old.place.seat old.part other new
    begun_behind (Call command times) (got, few, all, calls) = (got, few, all, got_behind (Call command times) got calls)
    begun_behind other more = search rules

    -- what was seen is seen behind the commands that follow
    looked_before : GoesOn mid new → HasNews new (length old.part.calls) old.part.entries old.place.watched request seen news
    looked_before on =
        let its = news_on mid new on (length mid.calls) mid.entries old.part.entries none.goes_on.longer old.place.watched request seen news has in
        rw (ap length none.calls) at its

    goes_on_begun : (other : Request) → HasBegun old.place.seat mid other new → GoesOn mid new
    goes_on_begun (Call command times) (got, few, all, calls) = calls.goes_on
    goes_on_begun other more = more.goes_on

    -- so much was seen, and these were the news
    abbrev with_news : Bool → Effect
    with_news saved = record { seen = seen; news = news; got = []; answer = Ok []; saved = saved }

    -- there is no memory for the response
    pub unanswered : (E F : Type 0) (e : E) (f : F) (place : Place)
        → (let r : Result Shown E = Err e in (effect : Effect) → PutsOut Answers style effect r old.place mid request new)
        → Shows Answers style {E = F} (Err f) old request (record { part = new; place = place })
    unanswered E F e f place responds =
        let begun = responds (with_news true) in
        inr (begun_behind request begun, with_news true, looked_before (goes_on_begun request begun))

    module _ (E F : Type 0) (its : Shown) (place : Place)
        (responds : (effect : Effect) → PutsOut Answers style {E = E} effect (Ok its) old.place mid request new) where
      -- or for what is shown
      pub unshown : (f : F) → Shows Answers style {E = F} (Err f) old request (record { part = new; place = place })
      unshown f =
          let s = responds (with_news true) in
          inr (
            begun_where_done Answers old.place.seat old.part new request _ (done_behind _ s.2.0),
            with_news true,
            looked_before s.2.0.calls.goes_on,
          )

      pub shows : (all : Shown) → IsAround its all news (prompt_after style.prompt request)
          → place ≡ next_place style old.place (request, with_news true)
          → Shows Answers style {E = F} (Ok all) old request (record { part = new; place = place })
      shows all is next = λ saved.
          let s = responds (with_news saved) in
          let prompt : List ℕ = prompt_after style.prompt request in (
            record { seen = seen; news = news; got = s.0; answer = s.1; saved = saved },
            done_behind _ s.2.0,
            looked_before s.2.0.calls.goes_on,
            around its all news prompt is saved ∙ ap (λ front. front ++ says prompt) s.2.1,
            next,
          )

-- ---- a command that is given several times, one time after the other

abbrev IsCarriedOut : ReplyView → Type 0
IsCarriedOut reply = is_refused reply ≡ false

-- so far the command got these replies, none of them a refusal, and this is their text
pub record HasRepeated (seat : ℕ) (command : Command) (old : Part) (got : List ReplyView) (now : Part) (text : List ℕ) : Type 0 where
  pub calls : AreCalled old (map (λ reply. entry seat command) got) got now
  pub carried_out : AllByRecursion IsCarriedOut got
  pub text_is : text ≡ flat_map text_of got

pub begun_repeat : (seat : ℕ) (command : Command) (part : Part) → HasRepeated seat command part [] part []
begun_repeat seat command part = record { calls = none_called part part (MakesNone-refl part); carried_out = tt; text_is = refl }

-- behind commands that were carried out the others follow
replies_then : (Full : Type 0) (got more : List ReplyView) (n all : ℕ) → AllByRecursion IsCarriedOut got → all ≡ length got + n
    → AreAllReplies Full n more
    → AreAllReplies Full all (got ++ more) × (replies_text all (got ++ more) ≡ flat_map text_of got ++ replies_text n more)
replies_then Full [] more n all are is these = let same : all ≡ n = omega (arith, is) in rw same (these, refl)
replies_then Full (reply ∷ got) more n zero are is these = absurd (omega (arith, is))
replies_then Full (reply ∷ got) more n (suc all) are is these =
    let others = replies_then Full got more n all are.1 (omega (arith, is)) these in
    rw are.0 (
      others.0,
      ap (λ text. text_of reply ++ text) others.1 ∙ sym (append_assoc (text_of reply) (flat_map text_of got) (replies_text n more)),
    )

-- the last reply, or none
last_replies : (Full : Type 0) (times : ℕ) (more : List ReplyView) → length more ≤ 1 → is_last more ≡ true → (more ≡ [] → Full)
    → AreAllReplies Full (suc times) more × (replies_text (suc times) more ≡ text_once more)
last_replies Full times [] few last full = (full refl, refl)
last_replies Full times (reply ∷ []) few last full = let refused : is_refused reply ≡ true = last in rw refused (refl, append-nil (text_of reply))
last_replies Full times (reply ∷ other ∷ more) few last full = absurd (omega (arith, few))

-- one reply, or none, of which it is not known whether it is the last
some_last : (more : List ReplyView) → length more ≤ 1 → AreAllReplies ⊥ (length more) more
some_last [] few = refl
some_last (reply ∷ []) few =
    elim (cases_Bool (is_refused reply)) [
      | inl refused ↦ rw refused refl
      | inr taken ↦ rw taken refl
    ]
some_last (reply ∷ other ∷ more) few = absurd (omega (arith, few))

module _ {seat : ℕ} {command : Command} {old now : Part} {before : List ℕ} (got : List ReplyView) (so : HasRepeated seat command old got now before) where
  abbrev one : ReplyView → Entry
  one reply = entry seat command

  calls_more : (more : List ReplyView) (new : Part) → AreCalled now (map one more) more new → AreCalled old (map one (got ++ more)) (got ++ more) new
  calls_more more new k = record {
    goes_on = GoesOn-trans old now new so.calls.goes_on k.goes_on;
    calls =
        k.calls ∙ ap (λ (calls : List Entry). calls ++ map one more) so.calls.calls ∙ append_assoc old.calls (map one got) (map one more)
        ∙ ap (λ (made : List Entry). old.calls ++ made) (sym (map-append one got more));
    replies = k.replies ∙ ap (λ (replies : List ReplyView). replies ++ more) so.calls.replies ∙ append_assoc old.replies got more;
    full = λ full. (let first = so.calls.full full in let second = k.full first.1 in (λ i. first.0 i ++ second.0 i, second.1));
  }

  -- one time more
  pub repeated_more : (E : Type 0) (last : Bool) (text : List ℕ) (new : Part) → GivesOnce {E = E} (Ok last) now (entry seat command) before text new
      → last ≡ false → (reply : ReplyView) × HasRepeated seat command old (got ++ reply ∷ []) new text
  repeated_more E last text new ([], k, few, said) goes_on = absurd (let e : true ≡ false = sym said.1 ∙ goes_on in cc)
  repeated_more E last text new (reply ∷ [], k, few, said) goes_on = (
    reply,
    record {
      calls = calls_more (reply ∷ []) new k;
      carried_out = all-append IsCarriedOut got (reply ∷ []) so.carried_out (sym said.1 ∙ goes_on, tt);
      text_is = said.2 ∙ (λ i. so.text_is i ++ sym (append-nil (text_of reply)) i) ∙ sym (flat_map-append text_of got (reply ∷ []));
    },
  )
  repeated_more E last text new (reply ∷ other ∷ more, k, few, said) goes_on = absurd (omega (arith, few))

-- ---- the end

module _ (Answers : RunView → Inquiry → Answer → Type 0) (style : StyleView) (effect : Effect) (place : Place) (old : Part) {command : Command} (times : ℕ)
    (got : List ReplyView) {now : Part} {before : List ℕ} (so : HasRepeated place.seat command old got now before) where
  abbrev IsEnd : Part → List ReplyView → Type 0
  IsEnd new all = IsFull new × (length new.calls ≡ length old.calls + length all)

  -- these were all replies
  put_out : (E : Type 0) (text : List ℕ) (its : Shown) (new : Part) (all : List ReplyView)
      → AreCalled old (map (λ reply. entry place.seat command) all) all new
      → AreAllReplies (IsEnd new all) times all × (text ≡ replies_text times all)
      → IsText its text → PutsOut Answers style {E = E} effect (Ok its) place old (Call command times) new
  put_out E text its new all calls (are, is) puts = (
    all,
    Ok [],
    (record { calls = calls; done = are }, puts effect.news effect.saved ∙ ap (λ response. says (effect.news ++ response)) is),
  )

  -- it was given as often as it was to be
  pub all_given : (E : Type 0) (its : Shown) → length got ≡ times → IsText its before
      → PutsOut Answers style {E = E} effect (Ok its) place old (Call command times) now
  all_given E its all puts =
      let these = replies_then (IsEnd now got) got [] 0 times so.carried_out (omega (arith, all)) refl in
      let same = append-nil got in
      put_out E before its now got so.calls (
        subst (AreAllReplies (IsEnd now got) times) same these.0,
        so.text_is ∙ sym (append-nil (flat_map text_of got)) ∙ sym these.1 ∙ ap (replies_text times) same,
      ) puts

  module _ (low : length got < times) where
    -- the last time it was refused, or found the journal full
    pub last_given : (E F : Type 0) (last : Bool) (text : List ℕ) (its : Shown) (new : Part)
        → GivesOnce {E = F} (Ok last) now (entry place.seat command) before text new → last ≡ true → IsText its text
        → PutsOut Answers style {E = E} effect (Ok its) place old (Call command times) new
    last_given E F last text its new (more, k, few, (full, is, said)) ends puts =
        let calls = calls_more got so more new k in
        let all : List ReplyView = got ++ more in
        let many : length new.calls ≡ length old.calls + length all =
        ap length calls.calls ∙ length-append old.calls _ ∙ ap (λ n. length old.calls + n) (length-map all _) in
        let left : ℕ = times - suc (length got) in
        let these = last_replies (IsEnd new all) left more few (sym is ∙ ends) (λ none. (full none, many)) in
        let its_all = replies_then (IsEnd new all) got more (suc left) times so.carried_out (omega (arith, low)) these.0 in
        put_out E text its new all calls
        (its_all.0, said ∙ (λ i. so.text_is i ++ sym these.1 i) ∙ sym its_all.1) puts

    -- memory is out
    pub cut_short : (F : Type 0) (why : F) (text : List ℕ) (new : Part)
        → GivesOnce {E = F} (Err why) now (entry place.seat command) before text new → HasBegun place.seat old (Call command times) new
    cut_short F why text new (more, k, few, none) =
        let many = length-append got more in (
          got ++ more,
          omega (arith, low, many, few),
          (replies_then ⊥ got more (length more) _ so.carried_out many (some_last more few)).0,
          calls_more got so more new k,
        )
