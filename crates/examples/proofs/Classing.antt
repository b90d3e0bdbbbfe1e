-- For worked examples: `unfolding classing` opens every definition that ZUGART and the question between two categories are computed by. Assumes nothing.
use Rattle.timetable.specs.Files.{classes_first}
use Rattle.timetable.specs.View.{class_for}
use Rattle.timetable.specs.Questions.{between_in, between_asked}

unfoldable pub classing : Unit {0}
unfolding classes_first class_for between_in between_asked
classing = tt
