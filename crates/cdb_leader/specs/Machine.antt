-- The machine as a whole.
use Rattle.cdb_process.specs.Table.{Table}
use Rattle.cdb_leader.specs.LocalState.{LocalState, first_state}
use Rattle.cdb_leader.specs.Place.{place_number}
use Rattle.cdb_leader.specs.Table.{next_state, wish_of, accepts_query_at, accepts_receive_at}

abbrev pub leader_table : Table LocalState
leader_table =
    record {
      first = λ me n q input. first_state q input;
      next = next_state;
      accepts_query = λ local. accepts_query_at local.place local;
      accepts_receive = λ local. accepts_receive_at local.place;
      wish = wish_of;
      decision = λ local. local.decision;
      place = λ local. place_number local.place;
      round = λ local. local.round;
      last_place = 6;
    }
