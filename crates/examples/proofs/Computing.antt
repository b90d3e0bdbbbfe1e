-- For worked examples: `unfolding computing` opens every definition that a delivery, its table and its questions are computed by. Assumes nothing.
use Rattle.base.specs.Lists.{every, some_of, count_if, find, gathered, upto}
use Rattle.base.specs.Text.{bytes}
use Rattle.bitfield.specs.BitField.{hex_from, hex_words, bits_in, bit, framed}
use Rattle.calendar.specs.Calendar.{years_before, months_before, exists, day_of, date_in, period_of}
use Rattle.columns.specs.Columns.{pad_to, columns, count, number_from}
use Rattle.fields.specs.Fields.{hash_digits, hash, time_in, range_end_in, detail_in}
use Rattle.forms.specs.Form.{stray_from, unnamed, row_form, form_from}
use Rattle.forms.specs.Kinds.{kind_of}
use Rattle.lines.specs.Lines.{start_with, pieces, no_cr, numbered, lines_from, skipped, to_lf, cut_at}
use Rattle.timetable.specs.Checks.{times_first, ends_first, service_checks, service_first, services_first, plan_first}
use Rattle.timetable.specs.Legs.{field_runs, stretches}
use Rattle.timetable.specs.Files.{held_in, period_first, bit_fields_first, stops_first, interchanges_first}
use Rattle.names.specs.NameField.{name_length}
use Rattle.timetable.specs.Load.{delivered, length_offence, content_offence, offence, onto, helper_needed, loaded, written}
use Rattle.timetable.specs.Runs.{has_run, lateness, opening_sound}
use Rattle.timetable.specs.Table.{service_words, table_words}
use Rattle.timetable.specs.Offences.{◌<|>◌, first}
use Rattle.timetable.specs.Plan.{told_in, opens_service, tolds, said_on}
use Rattle.timetable.specs.Ranges.{places, last_place, from_place, to_place, legs_of}
use Rattle.timetable.specs.Service.{head_lines, blocks, holding, called_on, service_of}
use Rattle.timetable.specs.Table.{rows_in, service_at, services_in, table_of, record_sound, records_sound, head_sound, is_table}
use Rattle.timetable.specs.View.{interchange_at_stop}
use Rattle.timetable.specs.Run.{first_refusal, idle_legs, leading_legs, call_refusal, calls_refusal, stretch_course, day_course, course_on, service_course, run_of}
use Rattle.timetable.specs.Questions.{day_in, day_asked, interchange_in, interchange_asked, rows_of, journey, walk_of}
use Rattle.examples.specs.Trial.{route_r, week_along, trial, friday_rows, changing_r, changing, planned_listing, dial}
use Rattle.examples.proofs.Naming.{naming}
use Rattle.examples.proofs.Classing.{classing}
use Rattle.examples.proofs.Placing.{placing}

unfoldable pub computing : Unit {0}
unfolding every some_of count_if find gathered upto bytes hex_from hex_words bits_in bit framed years_before months_before exists day_of date_in period_of pad_to columns count number_from hash_digits hash time_in range_end_in detail_in stray_from unnamed row_form form_from kind_of start_with pieces no_cr numbered lines_from skipped to_lf cut_at said_on times_first ends_first field_runs stretches service_checks service_first services_first plan_first held_in period_first bit_fields_first name_length stops_first interchanges_first delivered length_offence content_offence offence service_words table_words onto helper_needed loaded written ◌<|>◌ first told_in opens_service tolds day_in day_asked interchange_at_stop interchange_in interchange_asked first_refusal idle_legs leading_legs call_refusal calls_refusal stretch_course day_course course_on service_course run_of rows_of journey walk_of places last_place from_place to_place legs_of head_lines blocks holding called_on service_of rows_in service_at services_in table_of record_sound records_sound head_sound is_table route_r week_along trial friday_rows changing_r changing planned_listing dial has_run lateness opening_sound naming classing placing
computing = tt
