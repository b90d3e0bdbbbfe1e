use Rattle.table.proofs.Records.{whole}
use Rattle.table.proofs.look_at.Goals as goal

pub returns-then-w-lt-HEADER_WORDS : goal.returns-then-w-lt-HEADER_WORDS
returns-then-w-lt-HEADER_WORDS c = search whole

pub returns-then-not-header_sound : goal.returns-then-not-header_sound
returns-then-not-header_sound c = search whole

pub returns-then-not-classes_sound : goal.returns-then-not-classes_sound
returns-then-not-classes_sound c = search whole

pub slice_bounds-records_look-count : goal.slice_bounds-records_look-count
slice_bounds-records_look-count c = search whole

pub slice_bounds-records_look-start : goal.slice_bounds-records_look-start
slice_bounds-records_look-start c = search whole

pub slice_bounds-records_look-end : goal.slice_bounds-records_look-end
slice_bounds-records_look-end c = search whole

pub returns : goal.returns
returns c = search whole
