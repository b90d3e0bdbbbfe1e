use mathlib.Core.Path.{◌≡◌}
use Prim.Native.Nat.{◌+◌, ◌≤◌}
use lib.ListN.{length}
use Rattle.words.specs.Words.{write}
use Rattle.line_text.specs.Text.{hash_before}
use Rattle.line_text.proofs.put_before.Given as goal

abbrev pub invariant-loop-i : goal.invariant-loop-i
invariant-loop-i l = (l.at + l.i ≤ length l.t) × (length l.t ≡ length l.initial.t) × (write l.t l.at (hash_before l.i l.m) ≡ write l.initial.t l.at (hash_before l.w l.n))
