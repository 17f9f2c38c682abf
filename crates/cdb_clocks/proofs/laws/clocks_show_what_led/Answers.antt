use Rattle.cdb_clocks.proofs.WrittenClocks.{clock_shows}
use Rattle.cdb_clocks.proofs.laws.clocks_show_what_led.Goals as goal

pub returns : goal.returns
returns c = clock_shows
