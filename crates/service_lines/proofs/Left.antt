-- A loop over n rounds, of which i are done, by how many are left: for `search`, with the lemmas that go by that number. Assumes nothing.
use mathlib.Core.Path.{◌≡◌}
use Prim.Native.Nat.{ℕ, ◌+◌, ◌-◌, ◌≤◌, ◌<◌}
use native.Mathlib.Omega.{arith}

pub some-left : (n i : ℕ) → i < n → 0 < n - i
some-left n i h = omega arith

pub none-left : (n i : ℕ) → n ≤ i → n - i ≤ 0
none-left n i h = omega arith

pub one-less : (n i : ℕ) → i < n → n - (i + 1) + 1 ≡ n - i
one-less n i h = omega arith

pub ruleset rounds = (some-left, none-left, one-less)
