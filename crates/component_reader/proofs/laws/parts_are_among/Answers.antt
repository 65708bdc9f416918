use Rattle.component_reader.proofs.Parts.{part_among}
use Rattle.component_reader.proofs.laws.parts_are_among.Goals as goal

pub returns : goal.returns
returns c d b log place n marks valid base legal h l a = part_among d b valid base log place n marks legal h l a
