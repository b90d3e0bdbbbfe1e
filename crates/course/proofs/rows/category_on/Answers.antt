use Rattle.course.proofs.rows.Record.{held}
use Rattle.course.proofs.rows.category_on.Goals as goal

pub category_words-g-requires : goal.category_words-g-requires
category_words-g-requires c = search held

pub bounds-s-7 : goal.bounds-s-7
bounds-s-7 c = search held

pub covering_place-requires : goal.covering_place-requires
covering_place-requires c = search held

pub returns-in_default : goal.returns-in_default
returns-in_default c = search held

pub category_at-range-requires : goal.category_at-range-requires
category_at-range-requires c = search held

pub returns : goal.returns
returns c = search held
