use Rattle.period.proofs.Laws.{place-fits, dates}
use Rattle.period.proofs.date_line.Goals as goal

pub returns-then-f-at : goal.returns-then-f-at
returns-then-f-at c = search dates

pub overflow_cast-next : goal.overflow_cast-next
overflow_cast-next c = search place-fits

pub slice_bounds-text-count : goal.slice_bounds-text-count
slice_bounds-text-count c = search dates

pub slice_bounds-text-start : goal.slice_bounds-text-start
slice_bounds-text-start c = search dates

pub slice_bounds-text-end : goal.slice_bounds-text-end
slice_bounds-text-end c = search dates

pub returns-in-Err : goal.returns-in-Err
returns-in-Err c = search dates

pub returns-in_default-date : goal.returns-in_default-date
returns-in_default-date c = search dates

pub returns : goal.returns
returns c = search dates
