use mathlib.Core.Path.{ap}
use Rattle.std.proofs.lemmas.Result.{err_from_is_err_and}
use Rattle.load.specs.Inner.Delivered.{header_or_offence}
use Rattle.load.proofs.Helper.{lent-fields, lent-stops, stops-inside, lent-interchanges, lent-index, maps-inside, fields-held, stops-still, stops-stand, refused-stand}
use Rattle.load.proofs.Files.{held, days-few, fields-few, stops-few, interchanges-few, classes-few, words-few, period-out, fields_out, stops-out, interchanges-out, classes-out, plan-out, all_right, few-held}
use Rattle.load.proofs.check_delivery.Goals as goal

pub returns-in_err-start-clause-value : goal.returns-in_err-start-clause-value
returns-in_err-start-clause-value c =
    let p = err_from_is_err_and c.from_residual.result c.from_residual.ensures.1 in
    rw (p.1, p.2) (period-out _ _ _ _ _ _ _ c.check_period.ensures _ _ c.in_file.ensures c.in_err-start.was)

pub returns-in_err-start-clause-stops_stand : goal.returns-in_err-start-clause-stops_stand
returns-in_err-start-clause-stops_stand c = let p = err_from_is_err_and c.from_residual.result c.from_residual.ensures.1 in refused-stand _ _ _ _ _ p.0 (ap header_or_offence p.1)

pub returns-in_err-fields-clause-value : goal.returns-in_err-fields-clause-value
returns-in_err-fields-clause-value c =
    let p = err_from_is_err_and c.from_residual-in_err-fields.result c.from_residual-in_err-fields.ensures.1 in
    rw (p.1, p.2) (fields_out _ _ _ _ _ _ _ c.check_period.ensures _ _ (held 1 c.in_file.ensures c.in_ok-start.was) _ _ c.fields_in.ensures.value _ _ c.in_file-2.ensures c.in_err-fields.was)

pub returns-in_err-fields-clause-stops_stand : goal.returns-in_err-fields-clause-stops_stand
returns-in_err-fields-clause-stops_stand c = let p = err_from_is_err_and c.from_residual-in_err-fields.result c.from_residual-in_err-fields.ensures.1 in refused-stand _ _ _ _ _ p.0 (ap header_or_offence p.1)

pub returns-in_err-stops-clause-value : goal.returns-in_err-stops-clause-value
returns-in_err-stops-clause-value c =
    let p = err_from_is_err_and c.from_residual-in_err-stops.result c.from_residual-in_err-stops.ensures.1 in
    rw (p.1, p.2) (stops-out _ _ _ _ _ _ _ c.check_period.ensures _ _ (held 1 c.in_file.ensures c.in_ok-start.was) _ _ c.fields_in.ensures.value _ _ (held 2 c.in_file-2.ensures c.in_ok-fields.was) _ _ c.stops_in.ensures.value _ _ c.in_file-3.ensures c.in_err-stops.was)

pub returns-in_err-stops-clause-stops_stand : goal.returns-in_err-stops-clause-stops_stand
returns-in_err-stops-clause-stops_stand c = let p = err_from_is_err_and c.from_residual-in_err-stops.result c.from_residual-in_err-stops.ensures.1 in refused-stand _ _ _ _ _ p.0 (ap header_or_offence p.1)

pub returns-in_err-interchanges-clause-value : goal.returns-in_err-interchanges-clause-value
returns-in_err-interchanges-clause-value c =
    let p = err_from_is_err_and c.from_residual-in_err-interchanges.result c.from_residual-in_err-interchanges.ensures.1 in
    rw (p.1, p.2) (interchanges-out _ _ _ _ _ _ _ c.check_period.ensures _ _ (held 1 c.in_file.ensures c.in_ok-start.was) _ _ c.fields_in.ensures.value _ _ (held 2 c.in_file-2.ensures c.in_ok-fields.was) _ _ c.stops_in.ensures.value _ _ (held 3 c.in_file-3.ensures c.in_ok-stops.was) _ _ c.interchanges_in.ensures.value _ _ c.in_file-4.ensures c.in_err-interchanges.was)

pub returns-in_err-interchanges-clause-stops_stand : goal.returns-in_err-interchanges-clause-stops_stand
returns-in_err-interchanges-clause-stops_stand c = let p = err_from_is_err_and c.from_residual-in_err-interchanges.result c.from_residual-in_err-interchanges.ensures.1 in refused-stand _ _ _ _ _ p.0 (ap header_or_offence p.1)

pub returns-in_err-classes-clause-value : goal.returns-in_err-classes-clause-value
returns-in_err-classes-clause-value c =
    let p = err_from_is_err_and c.from_residual-in_err-classes.result c.from_residual-in_err-classes.ensures.1 in
    rw (p.1, p.2) (classes-out _ _ _ _ _ _ _ c.check_period.ensures _ _ (held 1 c.in_file.ensures c.in_ok-start.was) _ _ c.fields_in.ensures.value _ _ (held 2 c.in_file-2.ensures c.in_ok-fields.was) _ _ c.stops_in.ensures.value _ _ (held 3 c.in_file-3.ensures c.in_ok-stops.was) _ _ c.interchanges_in.ensures.value _ _ (held 4 c.in_file-4.ensures c.in_ok-interchanges.was) _ _ c.classes_in.ensures.value _ _ c.in_file-5.ensures c.in_err-classes.was)

pub returns-in_err-classes-clause-stops_stand : goal.returns-in_err-classes-clause-stops_stand
returns-in_err-classes-clause-stops_stand c = let p = err_from_is_err_and c.from_residual-in_err-classes.result c.from_residual-in_err-classes.ensures.1 in refused-stand _ _ _ _ _ p.0 (ap header_or_offence p.1)

pub returns-in_err-services-clause-value : goal.returns-in_err-services-clause-value
returns-in_err-services-clause-value c =
    let p = err_from_is_err_and c.from_residual-in_err-services.result c.from_residual-in_err-services.ensures.1 in
    rw (p.1, p.2) (plan-out _ _ _ _ _ _ _ c.check_period.ensures _ _ (held 1 c.in_file.ensures c.in_ok-start.was) _ _ c.fields_in.ensures.value _ _ (held 2 c.in_file-2.ensures c.in_ok-fields.was) _ _ c.stops_in.ensures.value _ _ (held 3 c.in_file-3.ensures c.in_ok-stops.was) _ _ c.interchanges_in.ensures.value _ _ (held 4 c.in_file-4.ensures c.in_ok-interchanges.was) _ _ c.classes_in.ensures.value _ _ (held 6 c.in_file-5.ensures c.in_ok-classes.was) _ c.plan_by.ensures _ _ c.in_file-6.ensures c.in_err-services.was)

pub returns-in_err-services-clause-stops_stand : goal.returns-in_err-services-clause-stops_stand
returns-in_err-services-clause-stops_stand c = let p = err_from_is_err_and c.from_residual-in_err-services.result c.from_residual-in_err-services.ensures.1 in refused-stand _ _ _ _ _ p.0 (ap header_or_offence p.1)

pub fields_in-requires-clause-lent_at : goal.fields_in-requires-clause-lent_at
fields_in-requires-clause-lent_at c = search (lent-fields, c.requires.short, c.requires.emptied)

pub fields_in-requires-clause-bitfeld_len_bound : goal.fields_in-requires-clause-bitfeld_len_bound
fields_in-requires-clause-bitfeld_len_bound c = (c.requires.short.bitfeld, days-few _ _ _ (held 1 c.in_file.ensures c.in_ok-start.was) _ c.check_period.ensures)

pub stops_in-requires-clause-lent_at : goal.stops_in-requires-clause-lent_at
stops_in-requires-clause-lent_at c = search (lent-stops, c.requires.short, c.requires.emptied, c.fields_in.ensures.fields_after)

pub interchanges_in-requires-clause-umsteigb_len_bound : goal.interchanges_in-requires-clause-umsteigb_len_bound
interchanges_in-requires-clause-umsteigb_len_bound c = (c.requires.short.umsteigb, stops-inside _ _ _ _ _ _ _ _ c.requires.short c.requires.emptied _ _ c.fields_in.ensures.fields_after _ _ c.stops_in.ensures.stops_after)

pub interchanges_in-requires-clause-stop_map : goal.interchanges_in-requires-clause-stop_map
interchanges_in-requires-clause-stop_map c = c.stops_in.ensures.stops_after.held _ _ (held 3 c.in_file-3.ensures c.in_ok-stops.was)

pub interchanges_in-requires-clause-lent_at : goal.interchanges_in-requires-clause-lent_at
interchanges_in-requires-clause-lent_at c = lent-interchanges _ _ _ _ _ _ _ _ c.requires.short c.requires.emptied _ _ c.fields_in.ensures.fields_after _ _ c.stops_in.ensures.stops_after

pub classes_in-requires-clause-index_lent : goal.classes_in-requires-clause-index_lent
classes_in-requires-clause-index_lent c = lent-index _ _ _ _ _ _ _ _ c.requires.short c.requires.emptied _ _ c.fields_in.ensures.fields_after _ _ c.stops_in.ensures.stops_after _ c.interchanges_in.auto.m c.interchanges_in.ensures.m_unchanged

pub plan_by-requires-clause-fplan_len_bound : goal.plan_by-requires-clause-fplan_len_bound
plan_by-requires-clause-fplan_len_bound c = (c.requires.short.fplan, days-few _ _ _ (held 1 c.in_file.ensures c.in_ok-start.was) _ c.check_period.ensures, maps-inside _ _ _ _ _ _ _ _ c.requires.short c.requires.emptied _ _ c.fields_in.ensures.fields_after _ _ c.stops_in.ensures.stops_after _ c.interchanges_in.auto.m c.interchanges_in.ensures.m_unchanged _ _ c.classes_in.ensures.index_after)

pub plan_by-requires-clause-field_map : goal.plan_by-requires-clause-field_map
plan_by-requires-clause-field_map c = (
  fields-held _ _ _ _ _ _ _ _ c.requires.short c.requires.emptied _ _ c.fields_in.ensures.fields_after _ _ c.stops_in.ensures.stops_after _ c.interchanges_in.auto.m c.interchanges_in.ensures.m_unchanged _ _ c.classes_in.ensures.index_after _ _ (held 2 c.in_file-2.ensures c.in_ok-fields.was),
  stops-still _ _ _ _ _ _ _ _ c.requires.short c.requires.emptied _ _ c.fields_in.ensures.fields_after _ _ c.stops_in.ensures.stops_after _ c.interchanges_in.auto.m c.interchanges_in.ensures.m_unchanged _ _ c.classes_in.ensures.index_after _ _ (held 3 c.in_file-3.ensures c.in_ok-stops.was),
  c.classes_in.ensures.index_after.held _ _ (held 6 c.in_file-5.ensures c.in_ok-classes.was),
)

pub returns-clause-few : goal.returns-clause-few
returns-clause-few c = few-held (record {
  fields = fields-few _ _ _ (held 2 c.in_file-2.ensures c.in_ok-fields.was) _ _ _ c.fields_in.ensures.value c.requires.short.bitfeld;
  stops = stops-few _ _ _ (held 3 c.in_file-3.ensures c.in_ok-stops.was) _ _ c.stops_in.ensures.value c.requires.short.bahnhof;
  interchanges = interchanges-few _ _ _ (held 4 c.in_file-4.ensures c.in_ok-interchanges.was) _ _ _ c.interchanges_in.ensures.value c.requires.short.umsteigb;
  classes = classes-few _ _ _ (held 6 c.in_file-5.ensures c.in_ok-classes.was) _ _ c.classes_in.ensures.value c.requires.short.zugart;
  words = words-few _ _ _ (held 5 c.in_file-6.ensures c.in_ok-services.was) _ _ _ _ _ c.plan_by.ensures c.requires.short.fplan;
})

pub returns-clause-value : goal.returns-clause-value
returns-clause-value c = all_right _ _ _ _ _ _ _ c.check_period.ensures _ _ (held 1 c.in_file.ensures c.in_ok-start.was) _ _ c.fields_in.ensures.value _ _ (held 2 c.in_file-2.ensures c.in_ok-fields.was) _ _ c.stops_in.ensures.value _ _ (held 3 c.in_file-3.ensures c.in_ok-stops.was) _ _ c.interchanges_in.ensures.value _ _ (held 4 c.in_file-4.ensures c.in_ok-interchanges.was) _ _ c.classes_in.ensures.value _ _ (held 6 c.in_file-5.ensures c.in_ok-classes.was) _ c.plan_by.ensures _ _ (held 5 c.in_file-6.ensures c.in_ok-services.was)

pub returns-clause-stops_stand : goal.returns-clause-stops_stand
returns-clause-stops_stand c = stops-stand _ _ _ _ _ _ _ _ c.requires.short c.requires.emptied _ _ c.fields_in.ensures.fields_after _ _ c.stops_in.ensures.stops_after _ c.interchanges_in.auto.m c.interchanges_in.ensures.m_unchanged _ _ c.classes_in.ensures.index_after _ _ (held 3 c.in_file-3.ensures c.in_ok-stops.was) _
