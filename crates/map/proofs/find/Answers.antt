use Rattle.map.proofs.Finds.{walks}
use Rattle.map.proofs.find.Goals as goal

pub loop-next-smaller : goal.loop-next-smaller
loop-next-smaller c = search walks
