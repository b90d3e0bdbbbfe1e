use Rattle.load.proofs.header_or_offence.Goals as goal

pub header_of-requires : goal.header_of-requires
header_of-requires c = c.requires.few _ c.in-Ok.is
