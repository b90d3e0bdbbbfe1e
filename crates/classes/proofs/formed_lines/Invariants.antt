use mathlib.Core.Path.{◌≡◌}
use mathlib.Core.Bool.{true}
use Prim.Native.Nat.{◌-◌, ◌≤◌}
use lib.ListN.{length}
use Rattle.sections.proofs.Walk.{Walked}
use Rattle.classes.specs.Inner.Passes.{before, codes, sound}
use Rattle.classes.proofs.formed_lines.Given as goal

-- `classes::formed_lines` meets its contract: the lines before the loop's place have their form, and so many hold records. Assumes nothing.
abbrev pub invariant-loop-at : goal.invariant-loop-at
invariant-loop-at l = Walked l.f l.at l.no × (l.at ≤ length l.f) × (sound (before l.f l.at) ≡ true) × (l.count ≡ length (codes l.f l.at))

abbrev pub decreases-loop-at : goal.decreases-loop-at
decreases-loop-at l = length l.f - l.at
