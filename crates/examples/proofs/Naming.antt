-- For worked examples: `unfolding naming` opens every definition that a name list and the question for a name are computed by. Assumes nothing.
use Rattle.names.specs.Grammar.{among}
use Rattle.names.specs.Names.{span, closed, body_of, body_size, has_pattern, pattern_of, pattern_size, names_from, patterns_from, name_list, allows, fits, name_for}
use Rattle.timetable.specs.StopNames.{stop_name_in, stop_name_asked}

unfoldable pub naming : Unit {0}
unfolding among span closed body_of body_size has_pattern pattern_of pattern_size names_from patterns_from name_list allows fits name_for stop_name_in stop_name_asked
naming = tt
