use Rattle.reading.specs.Inner.Maps.{StopMap}
use Rattle.service_words.proofs.Calls.{calling}
use Rattle.service_words.proofs.calls_into.Goals as goal

pub stop_place-stop-requires : goal.stop_place-stop-requires
unfolding StopMap
stop_place-stop-requires c = search calling

pub loop-i-preserved : goal.loop-i-preserved
loop-i-preserved c = (search calling, search calling)

pub returns : goal.returns
returns c = search calling

pub put_call-requires : goal.put_call-requires
put_call-requires c = search calling
