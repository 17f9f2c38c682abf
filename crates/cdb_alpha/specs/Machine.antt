-- The machine as a whole.
use Rattle.std.specs.Prelude.{false}
use Rattle.cdb_process.specs.Table.{Table}
use Rattle.cdb_alpha.specs.LocalState.{LocalState, first_state}
use Rattle.cdb_alpha.specs.Place.{place_number}
use Rattle.cdb_alpha.specs.Table.{row_at, is_asking, next_state, wish_of}

abbrev pub alpha_table : Table LocalState
alpha_table =
    record {
      first = λ me n q input. first_state me n input;
      next = next_state;
      accepts_query = λ local. is_asking (row_at local.place local);
      accepts_receive = λ local. false;
      wish = wish_of;
      decision = λ local. local.decision;
      place = λ local. place_number local.place;
      round = λ local. local.round;
      last_place = 9;
    }
