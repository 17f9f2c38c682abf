-- What one call adds to a seat's own calls and to the replies.
use Rattle.std.proofs.lemmas.Grind.{common_steps}
use Rattle.std.proofs.lemmas.Option.{gets}
use Rattle.std.proofs.Common.{◌≡◌, ◌≢◌, ℕ, length-append, suc, ◌+◌, ◌<◌, ◌≤◌, ◌==◌, Bool, cond, List, [], ◌∷◌, ◌++◌, length, get_or, take}
use Rattle.std.proofs.Common.{replicate, refl, sym, ap, ◌∙◌, subst, arith, append_assoc}
use Rattle.std.proofs.lemmas.List.{take_more}
use Rattle.cdb_commands.specs.declared.command.Command.{Command}
use Rattle.cdb_base.specs.declared.refusal.Refusal.TheVariants as refusal
use Rattle.cdb_commands.specs.ReplyView.{ReplyView, Refused}
use Rattle.cdb_control.specs.declared.control.Entry.{Entry}
use Rattle.cdb_control.specs.declared.control.CallFault.{CallFault}
use Rattle.cdb_control.specs.declared.control.CallFault.TheVariants.{JournalFull, NoMemory}
use Rattle.cdb_control.specs.Journal.{entry, replies_of, own}
use Rattle.cdb_rules.specs.Rules.{Rules}
use Rattle.cdb_setup.specs.Parts.{Parts}
use Rattle.cdb_control.proofs.Own.{Begins-trans, own-push, replies_of-push, replies_of-same}
use Rattle.cdb_shared.specs.declared.session.End.{End}
use Rattle.cdb_shared.specs.declared.session.End.TheVariants.{Done, Stopped}
use Rattle.cdb_shared.specs.Seats.{SeatView, IsLater, IsCall, SameCalls}
use Rattle.cdb_shared.specs.Sessions.{calls_of, replies_to, end_at, NoneDone, IsDriven}

pub IsLater-trans : (a b c : SeatView) → IsLater a b → IsLater b c → IsLater a c
IsLater-trans a b c x y = record {
  home = y.home ∙ x.home;
  setup = y.setup ∙ x.setup;
  seats = y.seats ∙ x.seats;
  number = y.number ∙ x.number;
  rests = y.rests;
  begins = Begins-trans a.seen b.seen c.seen x.begins y.begins;
}

-- a call is one more of the seat's own
pub calls_of-call : (rules : Parts → Rules) (old new : SeatView) (command : Command) (reply : ReplyView) → IsLater old new
    → IsCall rules old command reply new → calls_of new ≡ calls_of old ++ command ∷ []
calls_of-call rules old new command reply later call =
    (λ i. own (later.number i) (call.entry i)) ∙ own-push old.number call.journal command ∙ ap (λ l. l ++ command ∷ []) call.calls

same_replies : (rules : Parts → Rules) (old new : SeatView) → IsLater old new → (journal : List Entry) → new.seen ≡ journal
    → replies_to rules new ≡ replies_of (rules old.setup) old.setup old.seats old.number journal
same_replies rules old new later journal is = λ i. replies_of (rules (later.setup i)) (later.setup i) (later.seats i) (later.number i) (is i)

-- and its reply is one more of the seat's replies
pub replies_to-call : (rules : Parts → Rules) (old new : SeatView) (command : Command) (reply : ReplyView) → IsLater old new
    → IsCall rules old command reply new → replies_to rules new ≡ replies_to rules old ++ reply ∷ []
replies_to-call rules old new command reply later call =
    same_replies rules old new later (call.journal ++ entry old.number command ∷ []) call.entry
    ∙ replies_of-push (rules old.setup) old.setup old.seats old.number call.journal command
    ∙ (λ i. replies_of-same (rules old.setup) old.setup old.seats old.number old.seen call.journal call.begins call.calls i ++ sym call.reply i ∷ [])

-- a call that met a fault adds no reply
pub replies_to-fault : (rules : Parts → Rules) (old new : SeatView) → IsLater old new → SameCalls old new.seen → replies_to rules new ≡ replies_to rules old
replies_to-fault rules old new later same =
    same_replies rules old new later new.seen refl ∙ replies_of-same (rules old.setup) old.setup old.seats old.number old.seen new.seen later.begins same

pub calls_of-fault : (old new : SeatView) → IsLater old new → SameCalls old new.seen → calls_of new ≡ calls_of old
calls_of-fault old new later same = ap (λ n. own n new.seen) later.number ∙ same

-- a seat has no more calls than the journal has entries
pub length-own : (seat : ℕ) (es : List Entry) → length (own seat es) ≤ length es
length-own seat [] = omega arith
length-own seat (e ∷ es) = grind (arith, common_steps, length-own seat es)

-- a driven seat whose call did
pub driven_fault : (fault : CallFault) {end : End} {count turns : ℕ} (replies : List ReplyView) → end ≡ end_at fault
    → count < turns → NoneDone replies → IsDriven end count turns replies
driven_fault fault {count} {turns} replies is low none = subst (λ (e : End). IsDriven e count turns replies) (sym is) (by_fault fault)
  where
    by_fault : (f : CallFault) → IsDriven (end_at f) count turns replies
    by_fault JournalFull = (low, none)
    by_fault (NoMemory refused) = (low, none)

-- one element more on both sides
pub append_one : {A : Type 0} {before after : List A} (start rest : List A) {more : List A} (x : A) → before ≡ start ++ rest
    → after ≡ before ++ x ∷ [] → more ≡ rest ++ x ∷ [] → after ≡ start ++ more
append_one start rest x was grows is = grows ∙ ap (λ l. l ++ x ∷ []) was ∙ append_assoc start rest (x ∷ []) ∙ ap (λ l. start ++ l) (sym is)

pub take_one_more : {A : Type 0} (xs : List A) (i : ℕ) (x : A) → i < length xs → x ≡ get_or xs i x → take (i + 1) xs ≡ take i xs ++ x ∷ []
take_one_more xs i x low is = take_more xs i x low ∙ ap (λ y. take i xs ++ y ∷ []) (sym is)

-- a seat that made this many calls has seen as many entries
pub few_calls : (old new : SeatView) (made : List Command) → calls_of new ≡ calls_of old ++ made → length new.seen ≤ 999999 → length made ≤ 999999
few_calls old new made is low = omega (arith, length-own new.number new.seen, ap length is, length-append (calls_of old) made)
