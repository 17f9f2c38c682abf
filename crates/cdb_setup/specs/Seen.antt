-- The parts that the fields of a setup hold.
use Rattle.cdb_setup.specs.declared.setup.Setup.TheInside.{Inside}
use Rattle.cdb_setup.specs.Parts.{Parts, lists_in}

abbrev pub parts_of : Inside → Parts
parts_of fields = record {
  version = fields.version;
  algorithm = fields.algorithm;
  processes = fields.processes;
  quorum = fields.quorum;
  inputs = fields.inputs.items;
  answers = lists_in fields.answers.items;
}
