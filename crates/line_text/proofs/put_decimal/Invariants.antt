use mathlib.Core.Path.{◌≡◌}
use Prim.Native.Nat.{◌+◌, ◌≤◌}
use lib.ListN.{length}
use Rattle.words.specs.Words.{write}
use Rattle.line_text.specs.Text.{decimal}
use Rattle.line_text.proofs.put_decimal.Given as goal

abbrev pub invariant-loop-i : goal.invariant-loop-i
invariant-loop-i l = (l.at + l.i ≤ length l.t) × (length l.t ≡ length l.initial.t) × (write l.t l.at (decimal l.i l.m) ≡ write l.initial.t l.at (decimal l.w l.n))
