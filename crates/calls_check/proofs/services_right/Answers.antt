use Rattle.calls_check.proofs.Entries.{services, all-again}
use Rattle.calls_check.proofs.services_right.Goals as goal

pub bounds-w-6 : goal.bounds-w-6
bounds-w-6 c = search services

pub bounds-w-7 : goal.bounds-w-7
bounds-w-7 c = search services

pub loop-i-init : goal.loop-i-init
loop-i-init c = (search services, search services)

pub route_right-requires : goal.route_right-requires
route_right-requires c = search services

pub returns-then-not-route_right : goal.returns-then-not-route_right
returns-then-not-route_right c = search services

pub overflow_add-k : goal.overflow_add-k
overflow_add-k c = search services

pub returns : goal.returns
returns c = search services

pub loop-i-preserved : goal.loop-i-preserved
loop-i-preserved c = (
  search services,
  search (
    all-again,
    c.loop-i.invariant.1,
    c.loop-i-test.true,
    c.calls_at-c.ensures,
    c.route_right.ensures,
    c.if-not-route_right.false,
    c.next_place-at.ensures,
  ),
)
