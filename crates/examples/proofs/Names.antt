-- Section 5.1's printed stops: at load, and asked for over the table of the delivery; proved together. Assumes nothing.
use mathlib.Core.Path.{refl}
use Rattle.examples.specs.Rows.{Hold}
use Rattle.examples.specs.Names.{rows}
use Rattle.examples.proofs.Computing.{computing}

pub standard-names : Hold rows
unfolding computing
standard-names = (refl, (refl, (refl, (refl, (refl, (refl, (refl, (refl, (refl, (refl, (refl, (refl, (refl, (refl, (refl, (refl, (refl, (refl, (refl, tt)))))))))))))))))))
