use Rattle.index_check.proofs.Whole.{lookups}
use Rattle.index_check.proofs.are_lookups.Goals as goal

pub field_section-requires : goal.field_section-requires
field_section-requires c = search lookups

pub stop_section-requires : goal.stop_section-requires
stop_section-requires c = search lookups

pub both_right-requires : goal.both_right-requires
both_right-requires c = search lookups

pub returns-then-not-both_right : goal.returns-then-not-both_right
returns-then-not-both_right c = search lookups

pub interchange_section-requires : goal.interchange_section-requires
interchange_section-requires c = search lookups

pub class_section-requires : goal.class_section-requires
class_section-requires c = search lookups

pub both_right-requires-2 : goal.both_right-requires-2
both_right-requires-2 c = search lookups

pub returns-then-not-both_right-2 : goal.returns-then-not-both_right-2
returns-then-not-both_right-2 c = search lookups

pub services_from-requires : goal.services_from-requires
services_from-requires c = search lookups

pub places_right-requires : goal.places_right-requires
places_right-requires c = search lookups

pub returns : goal.returns
returns c = search lookups
