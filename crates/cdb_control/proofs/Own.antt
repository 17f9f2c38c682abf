-- Beginnings of journals, and a seat's own commands and replies.
use Rattle.std.proofs.lemmas.Grind.{common_steps}
use Rattle.std.proofs.lemmas.Option.{gets}
use Rattle.std.proofs.Common.{◌≡◌, ◌≢◌, ℕ, ◌==◌, Bool, true, false, cond, List, [], ◌∷◌, ◌++◌, refl, sym, ap, ◌∙◌, arith, append_assoc, append-nil}
use Rattle.cdb_commands.specs.declared.command.Command.{Command}
use Rattle.cdb_control.specs.declared.control.Entry.{Entry}
use Rattle.cdb_setup.specs.Parts.{Parts}
use Rattle.cdb_commands.specs.ReplyView.{ReplyView}
use Rattle.cdb_rules.specs.Rules.{Rules}
use Rattle.cdb_control.specs.State.{State, first_control_state}
use Rattle.cdb_control.specs.Commands.{reply_of, obey}
use Rattle.cdb_control.specs.Journal.{entry, replay_from, replay, own, replies_from, replies_of, Begins}

-- a journal begins with itself
pub Begins-refl : (es : List Entry) → Begins es es
Begins-refl es = ([], sym (append-nil es))

pub Begins-trans : (a b c : List Entry) → Begins a b → Begins b c → Begins a c
Begins-trans a b c x y = (x.0 ++ y.0, y.1 ∙ ap (λ l. l ++ y.0) x.1 ∙ append_assoc a x.0 y.0)

pub Begins-push : (a b : List Entry) (e : Entry) → Begins a b → Begins a (b ++ e ∷ [])
Begins-push a b e x = (x.0 ++ e ∷ [], ap (λ l. l ++ e ∷ []) x.1 ∙ append_assoc a x.0 (e ∷ []))

pub own-append : (seat : ℕ) (es fs : List Entry) → own seat (es ++ fs) ≡ own seat es ++ own seat fs
own-append seat [] fs = refl
own-append seat (e ∷ es) fs = grind (arith, common_steps, gets, own-append seat es fs)

same_seat : (n : ℕ) → (n == n) ≡ true
same_seat n = grind arith

pub own-push : (seat : ℕ) (es : List Entry) (command : _) → own seat (es ++ entry seat command ∷ []) ≡ own seat es ++ command ∷ []
own-push seat es command = own-append seat es (entry seat command ∷ []) ∙ ap (λ b. own seat es ++ cond b (command ∷ []) []) (same_seat seat)

pub own-push_other : (seat other : ℕ) (es : List Entry) (command : _) → other ≢ seat → own seat (es ++ entry other command ∷ []) ≡ own seat es
own-push_other seat other es command apart =
    own-append seat es (entry other command ∷ []) ∙ ap (λ b. own seat es ++ cond b (command ∷ []) []) (other_seat other seat apart) ∙ append-nil (own seat es)
  where
    other_seat : (n m : ℕ) → n ≢ m → (n == m) ≡ false
    other_seat n m ne = grind arith

pub replies_from-append : (rules : Rules) (t : State) (seat : ℕ) (es fs : List Entry)
    → replies_from rules t seat (es ++ fs) ≡ replies_from rules t seat es ++ replies_from rules (replay_from rules t es) seat fs
replies_from-append rules t seat [] fs = refl
replies_from-append rules t seat (e ∷ es) fs =
    grind (arith, common_steps, gets, replies_from-append rules (obey rules t e.seat e.command) seat es fs)

-- a list that is the same after something was added: nothing was added
nothing_added : {A : Type 0} (xs ys : List A) → xs ++ ys ≡ xs → ys ≡ []
nothing_added [] ys e = e
nothing_added (x ∷ xs) ys e = nothing_added xs ys (cc)

-- a seat with no command has no reply
pub replies_from-none : (rules : Rules) (t : State) (seat : ℕ) (es : List Entry) → own seat es ≡ [] → replies_from rules t seat es ≡ []
replies_from-none rules t seat [] none = refl
replies_from-none rules t seat (e ∷ es) none =
    grind (arith, common_steps, gets, replies_from-none rules (obey rules t e.seat e.command) seat es)

-- what others did adds no reply of this seat
pub replies_of-same : (rules : Rules) (setup : Parts) (seats seat : ℕ) (seen journal : List Entry) → Begins seen journal
    → own seat journal ≡ own seat seen → replies_of rules setup seats seat journal ≡ replies_of rules setup seats seat seen
replies_of-same rules setup seats seat seen journal begins same =
    let t = first_control_state setup seats in
    let rest = begins.0 in
    let none : own seat rest ≡ [] = nothing_added (own seat seen) (own seat rest) (sym (own-append seat seen rest) ∙ ap (own seat) (sym begins.1) ∙ same) in
    ap (replies_from rules t seat) begins.1 ∙ replies_from-append rules t seat seen rest ∙ ap (λ l. replies_from rules t seat seen ++ l)
    (replies_from-none rules (replay_from rules t seen) seat rest none) ∙ append-nil (replies_from rules t seat seen)

-- entries without a command of this seat add no reply
pub replies_of-more : (rules : Rules) (setup : Parts) (seats seat : ℕ) (journal more : List Entry)
    → own seat more ≡ [] → replies_of rules setup seats seat (journal ++ more) ≡ replies_of rules setup seats seat journal
replies_of-more rules setup seats seat journal more none =
    replies_of-same rules setup seats seat journal (journal ++ more) (more, refl)
    (own-append seat journal more ∙ ap (λ (l : List Command). own seat journal ++ l) none ∙ append-nil (own seat journal))

-- one command of the seat adds its reply
pub replies_of-push : (rules : Rules) (setup : Parts) (seats seat : ℕ) (journal : List Entry) (command : Command) → replies_of rules setup seats seat
    (journal ++ entry seat command ∷ []) ≡ replies_of rules setup seats seat journal ++ reply_of rules (replay rules setup seats journal) seat command ∷ []
unfolding replay
replies_of-push rules setup seats seat journal command =
    let t = first_control_state setup seats in
    replies_from-append rules t seat journal (entry seat command ∷ [])
    ∙ ap (λ b. replies_from rules t seat journal ++ cond b (reply_of rules (replay_from rules t journal) seat command ∷ []) []) (same_seat seat)
