use Rattle.service.proofs.Stretches.{swept-next, sweeps}
use Rattle.base.proofs.Laws.{tests}
use Rattle.service.proofs.torn_days.Goals as goal

pub no_bits-begun-requires : goal.no_bits-begun-requires
no_bits-begun-requires c = search sweeps

pub no_bits-ended-requires : goal.no_bits-ended-requires
no_bits-ended-requires c = search sweeps

pub no_bits-broken-requires : goal.no_bits-broken-requires
no_bits-broken-requires c = search sweeps

pub loop-leg-init : goal.loop-leg-init
loop-leg-init c = (search sweeps, search tests)

pub covering_place-requires : goal.covering_place-requires
covering_place-requires c = search sweeps

pub enum_known-place : goal.enum_known-place
enum_known-place c = search sweeps

pub enum_told-1 : goal.enum_told-1
enum_told-1 c = search sweeps

pub returns-in_default : goal.returns-in_default
returns-in_default c = search sweeps

pub day_at-range-requires : goal.day_at-range-requires
day_at-range-requires c = search sweeps

pub field_days-on-requires : goal.field_days-on-requires
field_days-on-requires c = search tests

pub both-requires : goal.both-requires
both-requires c = search sweeps

pub either-broken_now-requires : goal.either-broken_now-requires
either-broken_now-requires c = search sweeps

pub without-requires : goal.without-requires
without-requires c = search sweeps

pub either-ended_now-requires : goal.either-ended_now-requires
either-ended_now-requires c = search sweeps

pub either-begun_now-requires : goal.either-begun_now-requires
either-begun_now-requires c = search sweeps

pub loop-leg-smaller : goal.loop-leg-smaller
loop-leg-smaller c = search sweeps

pub returns : goal.returns
returns c = search sweeps

pub loop-leg-preserved : goal.loop-leg-preserved
loop-leg-preserved c = (
  swept-next _ _ _ _ _ _ c.requires.ranges_value c.covering_place.ensures _ c.in-Some.is _ c.day_at-range.ensures _ _ _
      c.loop-leg-test.true c.field_days-on.ensures
      c.both.ensures c.either-broken_now.ensures
      c.without.ensures c.either-ended_now.ensures c.either-begun_now.ensures c.loop-leg.invariant.0,
  c.loop-leg.invariant.1,
)
