-- A deed names only messages that its process received before.
use Rattle.std.proofs.Common.{◌≡◌, ℕ, ◌==◌, Bool, true, false, inl, inr, List, [], ◌∷◌, Option, Some, None, if◌then◌else◌, ◌+◌, ◌&&◌, refl, ap, arith}
use Rattle.std.specs.Prelude.{option_to_list, not, nat_lt}
use Rattle.std.specs.Option.{option_map_or, option_and_then}
use Rattle.std.proofs.lemmas.Bool.Decides.{nat_tests}
use Rattle.std.proofs.lemmas.Option.{none-some, same_Some}
use Rattle.cdb_alpha.specs.LocalState.{LocalState as AlphaState}
use Rattle.cdb_alpha.specs.declared.place.Place.{Place as AlphaPlace}
use Rattle.cdb_alpha.specs.declared.place.Place.TheVariants.{A1, A4, A7}
use Rattle.cdb_alpha.specs.Machine.{alpha_table}
use Rattle.cdb_base.specs.Positions.{nth}
use Rattle.cdb_base.specs.Processes.{all_processes}
use Rattle.cdb_base.specs.declared.event.Event.{Event}
use Rattle.cdb_base.specs.declared.event.Event.TheVariants.{Step}
use Rattle.cdb_base.specs.declared.event.Kind.{Kind}
use Rattle.cdb_base.specs.declared.event.Kind.TheVariants.{Query, Recv, Local, Learn}
use Rattle.cdb_base.specs.declared.name.MsgName.{MsgName}
use Rattle.cdb_causal.specs.Exchange.{IsIn, here, there}
use Rattle.cdb_leader.specs.LocalState.{LocalState}
use Rattle.cdb_leader.specs.Machine.{leader_table}
use Rattle.cdb_leader.specs.Inbox.{is_only_proposal}
use Rattle.cdb_leader.specs.Table.{heard_first_phase, is_lead}
use Rattle.cdb_leader.specs.declared.place.Place.{Place}
use Rattle.cdb_leader.specs.declared.place.Place.TheVariants.{L0, L2, L4}
use Rattle.cdb_process.proofs.Members.{IsIn as IsEntry, contained_in}
use Rattle.cdb_rules.proofs.ListMembers.{nothing_in, from_flat}
use Rattle.cdb_rules.proofs.ValidHistories.{in_position}
use Rattle.cdb_rules.specs.RunView.{RunView}
use Rattle.cdb_rules.specs.Runs.{local_in}
use Rattle.cdb_setup.specs.declared.setup.Algorithm.{Algorithm}
use Rattle.cdb_setup.specs.declared.setup.Algorithm.TheVariants.{Leader, Alpha}
use Rattle.cdb_deeds.specs.AlphaDeeds.{alpha_deed, judges, settles, register_of_value, register_of_later}
use Rattle.cdb_deeds.specs.AlphaDeeds as of_alpha
use Rattle.cdb_deeds.specs.Deeds.{deed_by, received_at, received_names}
use Rattle.cdb_deeds.specs.Laws.{HasReceived, NamesReceived, messages_named}
use Rattle.cdb_deeds.specs.LeaderDeeds.{ends, leader_deed, local_deed, messages_in, number_in, number_of_proposal, number_of_estimate}
use Rattle.cdb_deeds.specs.LeaderDeeds.{number_of_learnt, query_deed, sets_aux, source_at, source_with, votes}
use Rattle.cdb_deeds.specs.declared.deed.Deed.{Deed}
use Rattle.cdb_deeds.specs.declared.deed.Deed.TheVariants as deed
use Rattle.cdb_deeds.specs.declared.deed.Source.{Source}
use Rattle.cdb_deeds.specs.declared.leader.Phase.{Phase}
use Rattle.cdb_deeds.specs.declared.leader.Phase.TheVariants.{First, Naming, Second}

-- ---- lists

in_option : {X : Type 0} (o : Option X) (x : X) → IsIn x (option_to_list o) → o ≡ Some x
in_option None x i = absurd (nothing_in x i)
in_option (Some _) x here = refl
in_option (Some _) x (there i) = absurd (nothing_in x i)

given_in : {X : Type 0} (xs : List X) (o : Option ℕ) (x : X) → option_and_then (nth xs) o ≡ Some x → IsIn x xs
given_in xs None x at = absurd (none-some x at)
given_in xs (Some i) x at = in_position xs i x at

stands : {X : Type 0} (x : X) (xs : List X) → IsEntry x xs → IsIn x xs
stands x [] none = elim none [ ]
stands x (y ∷ ys) (inl same) = rw same here
stands x (y ∷ ys) (inr later) = there (stands x ys later)

-- ---- what has a name was received

receives : (p : ℕ) (event : Event) (name : MsgName) → received_at p event ≡ Some name → (k : ℕ) × (event ≡ Step p k (Recv name.s name.m))
receives p (Step q k (Recv s m)) name is = (k, grind (arith, nat_tests))
receives p event name is = absurd (cc)

was_received : (p : ℕ) (history : List Event) (name : MsgName) → IsIn name (received_names p history) → HasReceived history p name
was_received p history name it =
    let found = from_flat (λ event. option_to_list (received_at p event)) history name it in
    let said = receives p found.0 name (in_option (received_at p found.0) name found.2) in
    (said.0, rw (← said.1) found.1)

-- ---- the leader machine

module _ (s : LocalState) (names : List MsgName) where
  -- it names only these
  abbrev Within : Deed → Type 0
  Within did = (name : MsgName) → IsIn name (messages_named did) → IsIn name names

  nothing_named : Within deed.Nothing
  nothing_named name i = absurd (nothing_in name i)

  counted : (phase : Phase) (name : MsgName) → IsIn name (messages_in phase s names) → IsIn name names
  counted phase name it =
      let found = from_flat (λ m. option_to_list (option_and_then (nth names) (number_in phase s m))) all_processes name it in
      given_in names (number_in phase s found.0) name (in_option _ name found.2)

  -- the source has one of the names
  abbrev IsNamed : Option Source → Type 0
  IsNamed source = (x : Source) → source ≡ Some x → IsIn x.message names

  with_name : (i : ℕ) (o : Option MsgName) (v : Option ℕ) (x : Source) → nth names i ≡ o → source_with o v ≡ Some x → IsIn x.message names
  with_name i (Some name) (Some v) x at is =
      rw (← ap (λ (it : Source). it.message) (same_Some (record { value = v; message = name }) x is)) (in_position names i name at)
  with_name i o v x at is = absurd (cc)

  source_named : (o : Option ℕ) → IsNamed (option_and_then (source_at s names) o)
  source_named None x is = absurd (none-some x is)
  source_named (Some i) x is = with_name i (nth names i) _ x refl is

  of_source : (x : Source) (by : List MsgName) (name : MsgName) → IsIn x.message names
      → (IsIn name by → IsIn name names) → IsIn name (x.message ∷ by) → IsIn name names
  of_source x by _ first rest here = first
  of_source x by name first rest (there later) = rest later

  votes_within : (leader : Option ℕ) (source : Option Source) → IsNamed source → Within (votes s names leader source)
  votes_within (Some l) (Some x) known name it = of_source x _ name (known x refl) (counted (Naming l) name) it
  votes_within leader source known name it = counted First name it

  ends_within : (source : Option Source) → IsNamed source → Within (ends s names source)
  ends_within None known name it = counted Second name it
  ends_within (Some x) known name it = go (is_only_proposal s.round x.value s.inbox) it
    where
      go : (b : Bool) → IsIn name (messages_named (if b then deed.Settles x (messages_in Second s names) else deed.Adopts x (messages_in Second s names)))
          → IsIn name names
      go true it = of_source x _ name (known x refl) (counted Second name) it
      go false it = of_source x _ name (known x refl) (counted Second name) it

  learns_within : (source : Option Source) → IsNamed source → Within (option_map_or deed.Learns source deed.Nothing)
  learns_within None known name it = nothing_named name it
  learns_within (Some x) known name it = of_source x [] name (known x refl) (nothing_named name) it

  if_within : (b : Bool) (did : Deed) → Within did → Within (if b then did else deed.Nothing)
  if_within true did within = within
  if_within false did within = nothing_named

  aux_within : Within (sets_aux s names)
  aux_within = votes_within _ _ (source_named (number_of_estimate s))

  query_within : (place : Place) (l : ℕ) → Within (query_deed place s names l)
  query_within L0 l = if_within (nat_lt s.round 999999) (deed.Round (s.round + 1)) nothing_named
  query_within L2 l = if_within (heard_first_phase s && not (is_lead l s.lead)) (sets_aux s names) aux_within
  query_within place l = nothing_named

  local_within : (place : Place) → Within (local_deed place s names)
  local_within L2 = aux_within
  local_within L4 = ends_within _ (source_named (number_of_proposal s))
  local_within place = nothing_named

  leader_within : (kind : Kind) → Within (leader_deed s names kind)
  leader_within (Query l) = query_within s.place l
  leader_within Local = local_within s.place
  leader_within Learn = learns_within _ (source_named (number_of_learnt s))
  leader_within kind = nothing_named

-- ---- the Alpha machine names no message

abbrev NamesNone : Deed → Type 0
NamesNone did = messages_named did ≡ []

judges_none : (s : AlphaState) (onward : Deed) (o : Option ℕ) → NamesNone onward → NamesNone (judges s onward o)
judges_none s onward (Some register) none = refl
judges_none s onward None none = none

settles_none : (s : AlphaState) (o : Option ℕ) → NamesNone (settles s o)
settles_none s (Some register) = refl
settles_none s None = refl

asks_none : (b : Bool) (round : ℕ) → NamesNone (if b then deed.Round round else deed.Nothing)
asks_none true round = refl
asks_none false round = refl

query_none : (place : AlphaPlace) (p : ℕ) (s : AlphaState) (l : ℕ) → NamesNone (of_alpha.query_deed place p s l)
query_none A1 p s l = asks_none (l == p) s.round
query_none place p s l = refl

local_none : (place : AlphaPlace) (s : AlphaState) → NamesNone (of_alpha.local_deed place s)
local_none A4 s = judges_none s _ (register_of_later s) (settles_none s (register_of_value s))
local_none A7 s = judges_none s _ (register_of_later s) refl
local_none place s = refl

alpha_none : (p : ℕ) (s : AlphaState) (kind : Kind) → NamesNone (alpha_deed p s kind)
alpha_none p s (Query l) = query_none s.place p s l
alpha_none p s Local = local_none s.place s
alpha_none p s kind = refl

-- ---- of a run

by_algorithm : (algorithm : Algorithm) (run : RunView) (p : ℕ) (kind : Kind) (name : MsgName)
    → IsIn name (messages_named (deed_by algorithm run p kind)) → HasReceived run.history p name
by_algorithm Leader run p kind name it = go (local_in leader_table run p) it
  where
    go : (o : Option LocalState) → IsIn name (messages_named (option_map_or (λ local. leader_deed local (received_names p run.history) kind) o deed.Nothing))
        → HasReceived run.history p name
    go None it = absurd (nothing_in name it)
    go (Some local) it = was_received p run.history name (leader_within local (received_names p run.history) kind name it)
by_algorithm Alpha run p kind name it = go (local_in alpha_table run p) it
  where
    go : (o : Option AlphaState) → IsIn name (messages_named (option_map_or (λ local. alpha_deed p local kind) o deed.Nothing)) → HasReceived run.history p name
    go None it = absurd (nothing_in name it)
    go (Some local) it = absurd (nothing_in name (rw (alpha_none p local kind) at it))

pub deeds_name_received : NamesReceived
deeds_name_received run p k kind name it =
    by_algorithm run.setup.algorithm run p kind name (stands name _ (contained_in (messages_named (deed_by run.setup.algorithm run p kind)) name it))
