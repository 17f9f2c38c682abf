use Rattle.cdb_base.specs.Memory.{no_memory}
use Rattle.cdb_setup.specs.Format.{Encodes}
use Rattle.cdb_setup.specs.Parts.{Parts}
use Rattle.cdb_setup.specs.declared.fault.SetupFault.TheVariants.{NoMemory}
use Rattle.std.proofs.Common.{◌≡◌, ◌≤◌, ◌+◌, Err, Global, Vec, inl, ℕ, length, rules}
use Rattle.std.proofs.lemmas.List.{length-map}
use Rattle.cdb_play.proofs.SeatsFit.{same_setup}
use Rattle.cdb_play.specs.Races.{bytes_of}
use Rattle.cdb_program.proofs.Raced.{memory_alone, race_seen, race_unread}
use Rattle.cdb_program.proofs.races.race_bytes.Goals as goal

pub returns-in-Err : goal.returns-in-Err
returns-in-Err g c =
    let fault = c.in-Err.fault in
    let only : (other : Parts) → Encodes c.args.setup.now other → fault ≡ (NoMemory no_memory) =
    λ other its. memory_alone c.read.result fault other c.in-Err.is (c.read.ensures.only other its) in
    inl (
      Err c.from.result,
      c.of_race.ensures,
      rw c.from.ensures (race_unread c.args.setup.now c.args.turns
          (bytes_of c.args.scripts.now) fault _ c.in-Err.ensures.fault (λ long. cc (c.in-Err.ensures.too_long long)) only),
    )

pub returns : goal.returns
returns g c =
    let found = c.in-Ok.parts in
    let said = c.race_on-raced.ensures in
    let scripts = bytes_of c.args.scripts.now in
    let so_many : found.processes + length c.args.scripts.now ≤ 64 = search rules in
    let few : found.processes + length scripts ≤ 64 = rw (length-map c.args.scripts.now (λ (s : Vec ℕ Global). s.items)) so_many in
    inl (
      c.race_on-raced.result,
      c.of_race-2.ensures,
      race_seen g.O.Sink.stream c.args.setup.now c.args.turns found scripts c.race_on-raced.result _ _ c.in-Ok.ensures.found
          (λ other its. same_setup c.read.result found other c.in-Ok.is (c.read.ensures.only other its)) few said.wrote
          said.agree said.fault,
    )
