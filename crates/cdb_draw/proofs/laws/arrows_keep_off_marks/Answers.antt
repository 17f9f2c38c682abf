use Rattle.cdb_draw.proofs.KeptPlaces.{arrows_keep_off}
use Rattle.cdb_draw.proofs.laws.arrows_keep_off_marks.Goals as goal

pub returns : goal.returns
returns c = arrows_keep_off
