-- The edges, proved together. Assumes nothing.
use mathlib.Core.Path.{refl}
use Rattle.examples.specs.Rows.{Hold}
use Rattle.examples.specs.Edges.{rows}
use Rattle.examples.proofs.Computing.{computing}

pub edges : Hold rows
unfolding computing
edges = (refl, (refl, (refl, (refl, (refl, (refl, tt))))))
