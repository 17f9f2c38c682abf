-- What one call adds to the journal of a control of one's own.
use Rattle.std.proofs.Common.{◌≡◌, ◌↔◌, ℕ, ◌≤◌, List, [], ◌∷◌, ◌++◌, length, refl, sym, ap, subst, ◌∙◌, arith, length-append}
use Rattle.std.proofs.lemmas.List.{take-append-le}
use Rattle.std.specs.Prelude.{Result, Ok, Err, IfOk, OnErr}
use Rattle.cdb_base.specs.Limits.{MAX_ENTRIES}
use Rattle.cdb_commands.specs.ReplyView.{ReplyView, reply_view}
use Rattle.cdb_commands.specs.declared.command.Command.{Command}
use Rattle.cdb_commands.specs.declared.reply.Reply.{Reply}
use Rattle.cdb_control.specs.Commands.{reply_of, obey}
use Rattle.cdb_control.specs.Journal.{Journaled, entry, extended, reply_in, replay_from, replay}
use Rattle.cdb_control.specs.State.{State, first_control_state}
use Rattle.cdb_control.specs.declared.control.CallFault.{CallFault}
use Rattle.cdb_control.specs.declared.control.CallFault.TheVariants.{JournalFull, NoMemory}
use Rattle.cdb_control.specs.declared.control.Entry.{Entry}
use Rattle.cdb_control.proofs.Own.{Begins-refl, Begins-trans}
use Rattle.cdb_rules.specs.Rules.{Rules}
use Rattle.cdb_setup.specs.Parts.{Parts}
use Rattle.cdb_session.specs.Alone.{all_replies_from, whole_part, IsLaterControl}
use Rattle.cdb_session.specs.Styles.{Onward, stays, goes, GoesOn, IsCalled, MakesNone, Calls}
use Rattle.cdb_session.specs.Answers.{run_left}
use Rattle.cdb_session.proofs.GotReplies.{MakesNone-refl}

pub all_replies-append : (rules : Rules) (t : State) (es fs : List Entry)
    → all_replies_from rules t (es ++ fs) ≡ all_replies_from rules t es ++ all_replies_from rules (replay_from rules t es) fs
all_replies-append rules t [] fs = refl
all_replies-append rules t (e ∷ es) fs =
    ap (λ (more : List ReplyView). reply_of rules t e.seat e.command ∷ more) (all_replies-append rules (obey rules t e.seat e.command) es fs)

none_made : (rules : Parts → Rules) (old new : Journaled) → new ≡ old → MakesNone (whole_part rules old) (whole_part rules new)
none_made rules old new same =
    subst (λ (c : Journaled). MakesNone (whole_part rules old) (whole_part rules c)) (sym same) (MakesNone-refl (whole_part rules old))

-- the journal begins as before
goes_on : (rules : Parts → Rules) (c : Journaled) (e : Entry) (rooms : List ℕ)
    → let more : Journaled = record c { journal = c.journal ++ e ∷ []; rooms = rooms } in
    GoesOn (whole_part rules c) (whole_part rules more)
goes_on rules c e rooms =
    record {
      longer = omega (arith, length-append c.journal (e ∷ []));
      calls_in = λ first few. refl;
      left_by = λ first few. ap (run_left rules c.setup c.seats) (take-append-le first c.journal (e ∷ []) few);
      news = λ from to few. refl;
    }

pub calls_made : (rules : Parts → Rules) (old new : Journaled) (seat : ℕ) (command : Command) (r : Result Reply CallFault)
    → IfOk r (λ reply. reply_view reply ≡ reply_in rules old seat command) → IfOk r (λ reply. new ≡ extended rules old seat command) → OnErr r (new ≡ old)
    → ((r ≡ Err JournalFull) ↔ (length old.journal ≡ MAX_ENTRIES)) → Calls (whole_part rules old) (entry seat command) r (whole_part rules new)
unfolding replay
calls_made rules old new seat command (Ok reply) is made same full =
    let more = extended rules old seat command in
    let one : IsCalled (whole_part rules old) (entry seat command) (reply_view reply) (whole_part rules more) = record {
      goes_on = goes_on rules old (entry seat command) more.rooms;
      calls = refl;
      replies =
          all_replies-append (rules old.setup) (first_control_state old.setup old.seats) old.journal (entry seat command ∷ [])
          ∙ ap (λ (last : ReplyView). all_replies_from (rules old.setup) (first_control_state old.setup old.seats) old.journal ++ last ∷ []) (sym is);
      room = λ none. (let e : Ok reply ≡ Err JournalFull = full.1 none in cc);
    } in
    subst (λ (c : Journaled). IsCalled (whole_part rules old) (entry seat command) (reply_view reply) (whole_part rules c)) (sym made) one
calls_made rules old new seat command (Err JournalFull) is made same full =
    (none_made rules old new same, ap (λ (c : Journaled). length c.journal) same ∙ full.0 refl)
calls_made rules old new seat command (Err (NoMemory refused)) is made same full = none_made rules old new same

pub later_control : (first now : Journaled) → length first.journal ≤ MAX_ENTRIES → Onward IsLaterControl first now → IsLaterControl first now
later_control first _ few stays = record { setup = refl; seats = refl; begins = Begins-refl first.journal; few = few }
later_control first now few (goes middle _ before later) =
    let b = later_control first middle few before in
    record {
      setup = later.setup ∙ b.setup;
      seats = later.seats ∙ b.seats;
      begins = Begins-trans first.journal middle.journal now.journal b.begins later.begins;
      few = later.few;
    }
