use Rattle.reading.proofs.Own.{field-map, lookups}
use Rattle.reading.proofs.field_known.Goals as goal

pub returns-then-field-eq0 : goal.returns-then-field-eq0
returns-then-field-eq0 c = search lookups

pub known_field-requires : goal.known_field-requires
known_field-requires c = search field-map

pub returns : goal.returns
returns c = search lookups
