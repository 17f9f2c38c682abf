use Rattle.std.proofs.Common.{rules}
use Rattle.cdb_shared_session.proofs.threads.run_all.Goals as goal

pub scoped-requires : goal.scoped-requires
scoped-requires g c =
    let its = c.type_bounds in
    record {
      at = λ a. (
        c.requires,
        (
          record { owned = its.send-R.owned; leaving = λ k x w. search rules },
          record { owned = its.send-A.owned; leaving = λ k x w. search rules },
          record { owned = its.send-P.owned; leaving = λ k x w. search rules },
          record { owned = its.send-P-Seat.owned; leaving = λ k x w. search rules },
          record { shared = its.sync-Rt.shared },
        ),
      );
    }

pub returns : goal.returns
returns g c = (let did = c.scoped.ensures.1 in record { left = did.0; fault = did.1 })
