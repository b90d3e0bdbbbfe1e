-- The name field inside its line: a name ends where its line ends, or before (`name-inside`), and its bytes are those of the line (`name-bytes`).
-- Assumes nothing.
use mathlib.Core.Path.{◌≡◌, refl, ap}
use mathlib.Core.List.{List, [], ◌∷◌}
use mathlib.Core.Bool.{Bool, true, false, cond}
use Prim.Native.Nat.{ℕ, zero, suc, ◌-◌, ◌≤◌}
use native.Mathlib.Nat.{sub-zero}
use native.Mathlib.Omega.{arith}
use lib.ListN.{length, take, drop}
use Rattle.base.specs.Lists.{every}
use Rattle.columns.specs.Columns.{pad_to, columns, blank}
use Rattle.names.specs.NameField.{name_length, name_field}

-- columns past the end are blank
past-blank : (w : ℕ) → blank (pad_to w []) ≡ true
unfolding pad_to every
past-blank zero = refl
past-blank (suc w) = past-blank w

past-none : (w : ℕ) → name_length (pad_to w []) ≡ 0
unfolding pad_to name_length
past-none zero = refl
past-none (suc w) = go (blank (32 ∷ pad_to w [])) (past-blank (suc w))
  where
    go : (t : Bool) → t ≡ true → cond t 0 (suc (name_length (pad_to w []))) ≡ 0
    go t e = rw e refl

-- a name ends where its line ends, or before
inside : (w : ℕ) (l : List ℕ) → name_length (pad_to w l) ≤ length (take w l)
unfolding pad_to name_length
inside zero l = omega arith
inside (suc w) [] = omega (arith, past-none (suc w))
inside (suc w) (b ∷ l) = go (blank (b ∷ pad_to w l)) (inside w l)
  where
    go : (t : Bool) → name_length (pad_to w l) ≤ length (take w l) → cond t 0 (suc (name_length (pad_to w l))) ≤ suc (length (take w l))
    go true h = omega arith
    go false h = omega arith

-- and its bytes are those of the line
same_bytes : (w k : ℕ) (l : List ℕ) → k ≤ length (take w l) → take k (take w l) ≡ take k (pad_to w l)
unfolding pad_to
same_bytes w zero l h = refl
same_bytes zero (suc k) l h = absurd (omega arith)
same_bytes (suc w) (suc k) [] h = absurd (omega arith)
same_bytes (suc w) (suc k) (b ∷ l) h = ap (λ (r : List ℕ). b ∷ r) (same_bytes w k l (omega arith))

-- p is the part of the line in columns 13 to 62, k the length of the name
module _ (text p : List ℕ) (k : ℕ) (e : p ≡ take (62 - (13 - 1)) (drop (13 - 1) text)) (d : k ≡ name_length (columns 13 62 text)) where
  pub name-inside : k ≤ length p
  unfolding columns
  name-inside = rw (d, e) (inside (62 - (13 - 1)) (drop (13 - 1) text))

  pub name-bytes : take (k - 0) (drop 0 p) ≡ name_field text
  unfolding columns
  name-bytes =
      let l : k ≤ length (take (62 - (13 - 1)) (drop (13 - 1) text)) = rw (← e) name-inside in
      rw (sub-zero, e, ← d) (same_bytes (62 - (13 - 1)) k (drop (13 - 1) text) l)
