use Rattle.index.proofs.Quick.{longs}
use Rattle.index.proofs.is_long.Goals as goal

pub bounds-w-6 : goal.bounds-w-6
bounds-w-6 c = search longs

pub bounds-w-4 : goal.bounds-w-4
bounds-w-4 c = search longs
