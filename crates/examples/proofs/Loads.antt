-- The worked loads, proved together. Assumes nothing.
use mathlib.Core.Path.{refl}
use Rattle.examples.specs.Rows.{Hold}
use Rattle.examples.specs.Loads.{rows}
use Rattle.examples.proofs.Computing.{computing}

pub loads : Hold rows
unfolding computing
loads = (refl, (refl, (refl, (refl, (refl, (refl, (refl, (refl, (refl, (refl, (refl, (refl, (refl, (refl, (refl, (refl, (refl, (refl, (refl, (refl, (refl, (refl, (refl, (refl, (refl, (refl, (refl, (refl, (refl, (refl, (refl, (refl, (refl, (refl, (refl, tt)))))))))))))))))))))))))))))))))))
