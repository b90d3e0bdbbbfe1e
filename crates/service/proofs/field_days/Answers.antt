use Rattle.service.proofs.Stretches.{sweeps}
use Rattle.reading.proofs.Own.{field-map}
use Rattle.service.proofs.field_days.Goals as goal

pub all_bits-requires : goal.all_bits-requires
all_bits-requires c = search sweeps

pub field_bits-requires : goal.field_bits-requires
field_bits-requires c = search field-map

pub returns : goal.returns
returns c = search sweeps
