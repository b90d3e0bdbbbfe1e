use Rattle.reading.proofs.Own.{stop-map, own}
use Rattle.reading.proofs.call_offence.Goals as goal

pub offends-requires : goal.offends-requires
offends-requires c = search own

pub returns-then-counts-ge-MOST_CALLS : goal.returns-then-counts-ge-MOST_CALLS
returns-then-counts-ge-MOST_CALLS c = search own

pub known_stop-requires : goal.known_stop-requires
known_stop-requires c = search stop-map

pub returns-then-known_stop : goal.returns-then-known_stop
returns-then-known_stop c = search own

pub offends-requires-2 : goal.offends-requires-2
offends-requires-2 c = search own

pub returns : goal.returns
returns c = search own
