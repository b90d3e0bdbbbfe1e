use mathlib.Core.Path.{ap}
use mathlib.Core.Bool.{not}
use Rattle.base.proofs.Laws.{tests}
use Rattle.index.specs.Index.{view_in}
use Rattle.board_runs.proofs.Goes.{one-record, record-ready}
use Rattle.board_runs.proofs.record_runs.Goals as goal

pub sizes_sound-requires : goal.sizes_sound-requires
sizes_sound-requires c = search one-record

pub no_runs-requires : goal.no_runs-requires
no_runs-requires c = search one-record

pub returns-then-not-sizes_sound : goal.returns-then-not-sizes_sound
returns-then-not-sizes_sound c = search one-record

pub opening_at-requires : goal.opening_at-requires
opening_at-requires c = search one-record

pub opening_sound-requires : goal.opening_sound-requires
opening_sound-requires c = search one-record

pub no_runs-requires-then-not-opening_sound : goal.no_runs-requires-then-not-opening_sound
no_runs-requires-then-not-opening_sound c = search one-record

pub returns-then-not-opening_sound : goal.returns-then-not-opening_sound
returns-then-not-opening_sound c = search one-record

pub no_runs-requires-then-not-goes_from : goal.no_runs-requires-then-not-goes_from
no_runs-requires-then-not-goes_from c = search one-record

pub returns-then-not-goes_from : goal.returns-then-not-goes_from
returns-then-not-goes_from c = search one-record

pub call_runs-requires : goal.call_runs-requires
call_runs-requires c =
    let given = c.args in
    record { ready = search tests; call_ready = record-ready given.steady (view_in given.w.now given.x.now) _ given.k given.p given.s.now _ c.goes_from.ensures (ap not c.if-not-goes_from.false) }

pub returns : goal.returns
returns c = search one-record
