-- For worked examples: `unfolding placing` opens every definition that a table's places, and the old table, are computed by. Assumes nothing.
use Rattle.timetable.specs.Table.{stop_place_from, stop_number_at, pointing, resolved, stops_at}
use Rattle.whole_runs.specs.OldTable.{old_table_words, old_table_of, old_record_sound, old_records_sound, old_is_table, old_calls_refusal, old_journey, old_walk_of}

unfoldable pub placing : Unit {0}
unfolding stop_place_from stop_number_at pointing resolved stops_at old_table_words old_table_of old_record_sound old_records_sound old_is_table old_calls_refusal old_journey old_walk_of
placing = tt
