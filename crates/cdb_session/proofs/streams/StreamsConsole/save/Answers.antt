use Rattle.std.proofs.Common.{refl}
use Rattle.std.proofs.KnownBytes.{Appends-nil, Consumes-nil}
use Rattle.cdb_session.proofs.MovesInOrder.{is_no_end}
use Rattle.cdb_session.proofs.streams.StreamsConsole.save.Goals as goal

pub returns : goal.returns
returns g c = record {
  moves = record {
    moves = tt;
    left = Consumes-nil _;
    all = is_no_end _ (λ asks. asks);
    held = Appends-nil _;
    saved = c.save.ensures;
    failed_reads = refl;
    failed_writes = refl;
  };
}
