-- The rows of document 01 that are marked P, proved together. Assumes nothing.
use mathlib.Core.Path.{refl}
use Rattle.examples.specs.Rows.{Hold, rows}
use Rattle.examples.proofs.Computing.{computing}

pub examples : Hold rows
unfolding computing
examples = (refl, (refl, (refl, (refl, (refl, (refl, (refl, (refl, (refl, (refl, (refl, (refl, (refl, (refl, (refl, (refl, (refl, (refl, (refl, (refl, (refl, (refl, (refl, (refl, (refl, (refl, (refl, (refl, (refl, (refl, (refl, (refl, (refl, (refl, (refl, (refl, (refl, tt)))))))))))))))))))))))))))))))))))))
