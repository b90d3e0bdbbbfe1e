-- Calls that point at stops, proved together. Assumes nothing.
use mathlib.Core.Path.{refl}
use Rattle.examples.specs.Rows.{Hold}
use Rattle.examples.specs.Places.{rows}
use Rattle.examples.proofs.Computing.{computing}

pub places : Hold rows
unfolding computing
places = (refl, (refl, (refl, (refl, (refl, (refl, (refl, (refl, (refl, (refl, (refl, (refl, (refl, (refl, tt))))))))))))))
