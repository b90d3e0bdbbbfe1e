use mathlib.Core.Path.{◌∙◌}
use Rattle.load.proofs.Answers.{loading, refused, stays, too_short, left_alone, none-stray, none-broken, none_over, room-enough, accepted, filled}
use Rattle.load.proofs.Helper.{standing}
use Rattle.load.proofs.load_drafting.Goals as goal

pub returns-then-table-used-clause-value : goal.returns-then-table-used-clause-value
returns-then-table-used-clause-value c = search (too_short, c.header_or_offence-delivered.ensures ∙ c.check_delivery-counted.ensures.value, c.in-Ok.is, c.if-table-used.true)

pub returns-then-table-used-clause-table_after : goal.returns-then-table-used-clause-table_after
returns-then-table-used-clause-table_after c = search (left_alone, c.header_or_offence-delivered.ensures ∙ c.check_delivery-counted.ensures.value, c.in-Ok.is, c.if-table-used.true)

pub put_table-requires-clause-fplan_value : goal.put_table-requires-clause-fplan_value
put_table-requires-clause-fplan_value c = (search (none-stray, c.header_or_offence-delivered.ensures ∙ c.check_delivery-counted.ensures.value, c.in-Ok.is), search (none_over, c.header_or_offence-delivered.ensures ∙ c.check_delivery-counted.ensures.value, c.in-Ok.is))

pub put_table-requires-clause-fplan_in_bounds : goal.put_table-requires-clause-fplan_in_bounds
put_table-requires-clause-fplan_in_bounds c = search (room-enough, c.header_or_offence-delivered.ensures ∙ c.check_delivery-counted.ensures.value, c.in-Ok.is, c.if-table-used.false)

pub put_table-requires-clause-sections_sound : goal.put_table-requires-clause-sections_sound
put_table-requires-clause-sections_sound c = search (none-broken, c.header_or_offence-delivered.ensures ∙ c.check_delivery-counted.ensures.value, c.in-Ok.is)

pub returns-in-Err-clause-value : goal.returns-in-Err-clause-value
returns-in-Err-clause-value c = search (refused, c.header_or_offence-delivered.ensures ∙ c.check_delivery-counted.ensures.value, c.in-Err.is)

pub returns-in-Err-clause-table_after : goal.returns-in-Err-clause-table_after
returns-in-Err-clause-table_after c = search (stays, c.header_or_offence-delivered.ensures ∙ c.check_delivery-counted.ensures.value, c.in-Err.is)

pub returns-else-table-used-clause-value : goal.returns-else-table-used-clause-value
returns-else-table-used-clause-value c = search (accepted, c.header_or_offence-delivered.ensures ∙ c.check_delivery-counted.ensures.value, c.in-Ok.is, c.if-table-used.false)

pub returns-else-table-used-clause-table_after : goal.returns-else-table-used-clause-table_after
returns-else-table-used-clause-table_after c = search (filled, c.header_or_offence-delivered.ensures ∙ c.check_delivery-counted.ensures.value, c.in-Ok.is, c.if-table-used.false, c.put_table.ensures)
