use Rattle.cdb_text.proofs.Written.{utf8}
use Rattle.cdb_text.proofs.text.bytes.push_bytes.Goals as goal

pub from_utf8_unchecked-requires : goal.from_utf8_unchecked-requires
from_utf8_unchecked-requires c = utf8 c.args.bytes.now c.requires
