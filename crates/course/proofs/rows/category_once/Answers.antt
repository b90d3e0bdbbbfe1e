use Rattle.course.proofs.rows.Record.{held}
use Rattle.course.proofs.rows.category_once.Goals as goal

pub category_words-requires : goal.category_words-requires
category_words-requires c = search held

pub bounds-s-7 : goal.bounds-s-7
bounds-s-7 c = search held

pub covered_once-requires : goal.covered_once-requires
covered_once-requires c = search held

pub returns : goal.returns
returns c = search held
