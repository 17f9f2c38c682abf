-- What a session has made after each call: its seat's calls, their replies, and the calls of its gate.
use Rattle.std.proofs.lemmas.Grind.{common_steps}
use Rattle.std.proofs.lemmas.Option.{gets}
use Rattle.std.proofs.Common.{◌≡◌, ℕ, ◌+◌, Bool, true, false, List, [], ◌∷◌, ◌++◌, length, Option, refl, sym, ap, ◌∙◌, append-nil, append_assoc, arith}
use Rattle.std.proofs.Common.{length-append, ◌≢◌, ◌≤◌, ◌↔◌, true≢false}
use Rattle.cdb_base.specs.Limits.{MAX_ENTRIES}
use Rattle.cdb_base.specs.Memory.{no_memory}
use Rattle.cdb_commands.specs.declared.command.Command.{Command}
use Rattle.cdb_commands.specs.ReplyView.{ReplyView}
use Rattle.cdb_control.proofs.Own.{Begins-refl}
use Rattle.cdb_control.specs.declared.control.CallFault.{CallFault}
use Rattle.cdb_control.specs.declared.control.CallFault.TheVariants as call_fault
use Rattle.cdb_rules.specs.Rules.{Rules}
use Rattle.cdb_setup.specs.Parts.{Parts}
use Rattle.cdb_shared.specs.declared.session.End.{End}
use Rattle.cdb_shared.specs.declared.session.End.TheVariants.{Stopped, NoMemory, JournalFull}
use Rattle.cdb_shared.specs.Gates.{GateCall, Asked, Notified, and_calls, IsAsked, IsNotified, gate_calls_of, last_gate_calls, gate_calls_in, IsSession}
use Rattle.cdb_shared.specs.Seats.{SeatView, IsLater, IsCall, SameCalls, SeesFull, SeesRoom}
use Rattle.cdb_shared.specs.Sessions.{calls_of, replies_to, end_at}
use Rattle.cdb_shared.proofs.Steps.{IsLater-trans, calls_of-call, calls_of-fault, replies_to-call, replies_to-fault, append_one}

and_calls_twice : (old : Option (List GateCall)) (a b : List GateCall) → and_calls (and_calls old a) b ≡ and_calls old (a ++ b)
and_calls_twice old a b = grind (arith, common_steps, gets)

-- the calls of a gate for one answered call
abbrev calls_of_one : ℕ → List Command → Command → List GateCall
calls_of_one number made command = Asked number made true ∷ Notified number (made ++ command ∷ []) ∷ []

gate_calls_of-push : (number : ℕ) (made replied : List Command) (command : Command)
    → gate_calls_of number made (replied ++ command ∷ [])
    ≡ gate_calls_of number made replied ++ calls_of_one (number + length replied) (made ++ replied) command
gate_calls_of-push number made [] command = λ i. calls_of_one (none i) (sym (append-nil made) i) command
  where
    none : number ≡ number + 0
    none = omega arith
gate_calls_of-push number made (c ∷ cs) command =
    let all = made ++ c ∷ [] in
    let next : number + 1 + length cs ≡ number + length (c ∷ cs) = omega arith in
    ap (λ l. Asked number made true ∷ Notified number all ∷ l)
    (gate_calls_of-push (number + 1) all cs command
    ∙ (λ i. gate_calls_of (number + 1) all cs ++ calls_of_one (next i) (append_assoc made (c ∷ []) cs i) command))

-- A session so far: it has made these calls, this many, and had the replies; its gate was asked before each call and
-- notified after it.
pub record Made (rules : Parts → Rules) (old new : SeatView) (before after : Option (List GateCall)) (number : ℕ)
    (commands : List Command) (replies : List ReplyView) : Type 0 where
  pub seat : IsLater old new
  pub calls : calls_of new ≡ calls_of old ++ commands
  pub replied : replies_to rules new ≡ replies_to rules old ++ replies
  pub many : number ≡ length commands
  pub gate_calls : after ≡ and_calls before (gate_calls_of 1 (calls_of old) commands)

-- of no call
pub none_made : (rules : Parts → Rules) {seat : SeatView} (gate : Option (List GateCall)) {replies : List ReplyView} → seat.rests ≡ true → replies ≡ []
    → Made rules seat seat gate gate 0 [] replies
none_made rules {seat} gate rests none = record {
  seat = record { home = refl; setup = refl; seats = refl; number = refl; rests = rests; begins = Begins-refl seat.seen };
  calls = sym (append-nil _);
  replied = sym (append-nil _) ∙ ap (λ l. replies_to rules seat ++ l) (sym none);
  many = refl;
  gate_calls = none_known gate;
}
  where
    none_known : (gate : Option (List GateCall)) → gate ≡ and_calls gate []
    none_known gate = grind (arith, common_steps, gets)

-- where nothing was asked for at the end, no fault was met, and the gate stopped nothing
calm : (end : End) (number : ℕ) (made : List Command) → last_gate_calls end number made ≡ []
    → (end ≢ Stopped) × (end ≢ JournalFull) × (end ≢ NoMemory no_memory)
calm end number made last = grind (arith, common_steps, gets)

-- at a fault the gate was asked for the call, and let it pass
at_fault : (fault : CallFault) (number : ℕ) (made : List Command) {end : End} → end ≡ end_at fault
    → (last_gate_calls end number made ≡ Asked number made true ∷ []) × (end ≢ Stopped)
    × (end ≡ JournalFull → fault ≡ call_fault.JournalFull) × (end ≡ NoMemory no_memory → fault ≢ call_fault.JournalFull)
at_fault fault number made is = grind (arith, common_steps, gets)

module _ {rules : Parts → Rules} {old seat : SeatView} {before was : Option (List GateCall)} {number : ℕ} {commands : List Command}
    {replies : List ReplyView} (made : Made rules old seat before was number commands replies) where
  -- a session that ended with these calls and replies
  ended : {passes : Bool} {end : End} {new : SeatView} {last : Option (List GateCall)} → IsLater old new → calls_of new ≡ calls_of old ++ commands
      → replies_to rules new ≡ replies_to rules old ++ replies → last ≡ and_calls before (gate_calls_in (calls_of old) commands end)
      → (passes ≡ true → end ≢ Stopped) → (end ≡ JournalFull → SeesFull new) → (end ≡ NoMemory no_memory → SeesRoom new)
      → IsSession rules passes before last old new end commands replies
  ended later calls replied gate_calls passed full short = record {
    seat = later;
    calls = calls;
    replied = replied;
    gate = record { replied = commands; calls = calls; gate_calls = gate_calls };
    passed = passed;
    full = full;
    short = short;
  }

  -- one whose calls were all answered
  pub finished : {passes : Bool} (end : End) → last_gate_calls end (length commands + 1) (calls_of old ++ commands) ≡ []
      → IsSession rules passes before was old seat end commands replies
  finished end last =
      let none = calm end _ _ last in
      ended made.seat made.calls made.replied
      (made.gate_calls ∙ ap (and_calls before) (sym (append-nil _) ∙ ap (λ l. gate_calls_of 1 (calls_of old) commands ++ l) (sym last)))
      (λ always. none.0) (λ is. absurd (none.1 is)) (λ is. absurd (none.2 is))

  module _ {asked : Option (List GateCall)} {answer : Bool} (ask : IsAsked was asked (number + 1) seat answer) where
    -- the gate was asked before the next call
    with_asked : (passed : Bool) → answer ≡ passed
        → asked ≡ and_calls before (gate_calls_of 1 (calls_of old) commands ++ Asked (length commands + 1) (calls_of old ++ commands) passed ∷ [])
    with_asked passed is =
        ask ∙ (λ i. and_calls (made.gate_calls i) (Asked (made.many i + 1) (made.calls i) (is i) ∷ []))
        ∙ and_calls_twice before (gate_calls_of 1 (calls_of old) commands) _

    -- it did not let it pass
    pub stopped : {passes : Bool} → answer ≡ false → (passes ≡ true → answer ≡ true) → IsSession rules passes before asked old seat Stopped commands replies
    stopped is always =
        ended made.seat made.calls made.replied (with_asked false is)
        (λ pass _. true≢false (sym (always pass) ∙ is)) (λ it. absurd (cc)) (λ it. absurd (cc))

    module _ (is : answer ≡ true) {new : SeatView} (later : IsLater seat new) where
      -- the call met a fault
      pub faulted : {passes : Bool} (fault : CallFault) {end : End} → end ≡ end_at fault → SameCalls seat new.seen
          → (fault ≡ call_fault.JournalFull) ↔ SeesFull new
          → length new.seen ≤ MAX_ENTRIES → IsSession rules passes before asked old new end commands replies
      faulted fault ends same sees limit =
          let by = at_fault fault _ _ ends in
          ended (IsLater-trans old seat new made.seat later) (calls_of-fault seat new later same ∙ made.calls)
          (replies_to-fault rules seat new later same ∙ made.replied)
          (with_asked true is ∙ ap (λ l. and_calls before (gate_calls_of 1 (calls_of old) commands ++ l)) (sym by.0))
          (λ always. by.1) (λ it. sees.0 (by.2 it))
          (λ it. let apart : length new.seen ≢ MAX_ENTRIES = λ many. by.3 it (sees.1 many) in omega (arith, limit, apart))

      -- the call had its reply, and the gate was notified
      pub one_more : (command : Command) {reply : ReplyView} {notified : Option (List GateCall)} {more : List Command} {all : List ReplyView}
          → IsCall rules seat command reply new → IsNotified asked notified (number + 1) new → more ≡ commands ++ command ∷ [] → all ≡ replies ++ reply ∷ []
          → Made rules old new before notified (number + 1) more all
      one_more command {reply} call said longer longer_replies =
          let made_all = gate_calls_of 1 (calls_of old) commands in
          let ask_one = Asked (length commands + 1) (calls_of old ++ commands) true in
          let one : 1 + length commands ≡ length commands + 1 = omega arith in
          let calls = calls_of-call rules seat new command reply later call in
          let added = calls ∙ ap (λ l. l ++ command ∷ []) made.calls in
          record {
            seat = IsLater-trans old seat new made.seat later;
            calls = append_one (calls_of old) commands command made.calls calls longer;
            replied = append_one (replies_to rules old) replies reply made.replied (replies_to-call rules seat new command reply later call) longer_replies;
            many = omega (arith, made.many, ap length longer, length-append commands (command ∷ []));
            gate_calls =
                said ∙ (λ i. and_calls (with_asked true is i) (Notified (made.many i + 1) (added i) ∷ []))
                ∙ and_calls_twice before (made_all ++ ask_one ∷ []) _
                ∙ ap (and_calls before) (append_assoc made_all (ask_one ∷ []) _
                ∙ (λ i. made_all ++ calls_of_one (sym one i) (calls_of old ++ commands) command)
                ∙ sym (gate_calls_of-push 1 (calls_of old) commands command) ∙ ap (gate_calls_of 1 (calls_of old)) (sym longer));
          }
