use Rattle.timetable.specs.Table.{records_sound}
use Rattle.table.specs.Steady.{records_steady}
use Rattle.table.proofs.Records.{records, records-again, records-steady}
use Rattle.table.proofs.records_look.Goals as goal

pub returns-in_err-seen : goal.returns-in_err-seen
returns-in_err-seen c = search records

pub bounds-w-at : goal.bounds-w-at
bounds-w-at c = search records

pub loop-preserved : goal.loop-preserved
loop-preserved c =
    let given = c.args in
    let loop = c.loop in
    let look = c.record_look in
    let seen = c.in_ok-seen in (
      search records,
      records-again given.stops given.w.now loop.at look.result loop.invariant.0 look.ensures given.v loop.counter (records_sound given.stops given.v given.w.now) c.loop-test.true loop.invariant.1 seen.seen seen.was,
      records-steady given.stops given.w.now loop.at look.result loop.invariant.0 look.ensures given.v loop.counter (records_steady given.stops given.v given.w.now) c.loop-test.true loop.steady loop.invariant.2 seen.seen seen.was,
    )

pub returns-then-at-w : goal.returns-then-at-w
returns-then-at-w c = search records

pub returns-else-at-w : goal.returns-else-at-w
returns-else-at-w c = search records
