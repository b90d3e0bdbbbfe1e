-- Lines counted by their LFs: a byte more is a line more exactly if it is an LF, as long as bytes follow; and the needs of `lines_ended`. Assumes nothing.
use mathlib.Core.Path.{◌≡◌, refl, ap, sym, ◌∙◌}
use mathlib.Core.List.{List, [], ◌∷◌}
use mathlib.Core.Bool.{Bool, true, false, cond}
use Prim.Native.Nat.{ℕ, ◌+◌, ◌≤◌, ◌<◌, ◌^◌}
use native.Mathlib.Nat.{add-zero}
use native.Mathlib.Numerals.{add-one}
use native.Mathlib.Omega.{arith}
use lib.ListN.{length, get_or, drop, length-drop}
use lib.Seq.{drop-cons}
use lib.Dec.{eqb}
use Rattle.base.proofs.Laws.{tests}
use Rattle.lines.specs.Lines.{start_with, pieces, lines_of}
use Rattle.lines.proofs.Pieces.{pieces_step}
use Rattle.lines.proofs.Laws.{length-lines}

-- a byte goes to the first piece, where there is one
start-count : (b : ℕ) (ps : List (List ℕ)) (p : List ℕ) (qs : List (List ℕ)) → ps ≡ p ∷ qs → length (start_with b ps) ≡ length ps
unfolding start_with
start-count b ps p qs e = rw e refl

pieces-count : (b : ℕ) (s : List ℕ) → 0 < length s → length (pieces (b ∷ s)) ≡ cond (eqb b 10) 1 0 + length (pieces s)
unfolding pieces
pieces-count b s h = go (eqb b 10)
  where
    go : (t : Bool) → length (cond t ([] ∷ pieces s) (start_with b (pieces s))) ≡ cond t 1 0 + length (pieces s)
    go true = omega arith
    go false = omega (arith, start-count b (pieces s) _ _ (pieces_step s h))

-- the byte at a place, with bytes behind it
pub lines-count : (f : List ℕ) (k : ℕ) → k + 1 < length f → length (lines_of (drop k f)) ≡ cond (eqb (get_or f k 0) 10) 1 0 + length (lines_of (drop (k + 1) f))
lines-count f k h =
    length-lines 1 0 (drop k f) ∙ ap (λ (s : List ℕ). length (pieces s)) (rw (add-one k) (drop-cons f k 0 (omega arith)))
    ∙ pieces-count (get_or f k 0) (drop (k + 1) f) (simp length-drop (omega arith))
    ∙ ap (λ (n : ℕ). cond (eqb (get_or f k 0) 10) 1 0 + n) (sym (length-lines 1 0 (drop (k + 1) f)))

-- ---- the needs of `lines_ended`, for `search counts`: r is what the byte at place i counts

one-le : (b r : ℕ) → r ≡ cond (eqb b 10) 1 0 → r ≤ 1
one-le b r e = rw e (go (eqb b 10))
  where
    go : (t : Bool) → cond t 1 0 ≤ 1
    go true = omega arith
    go false = omega arith

module _ (f : List ℕ) (at i b r c : ℕ) (e : r ≡ cond (eqb b 10) 1 0) where
  pub ended-again : at + 128 < length f → i < 128 → b ≡ get_or f (at + i) 0
      → c + length (lines_of (drop (at + i) f)) ≡ length (lines_of (drop at f)) → c + r + length (lines_of (drop (at + (i + 1)) f)) ≡ length (lines_of (drop at f))
  ended-again h l d v =
      let w : at + i + 1 ≡ at + (i + 1) = omega arith in
      let x : r ≡ cond (eqb (get_or f (at + i) 0) 10) 1 0 = e ∙ ap (λ (y : ℕ). cond (eqb y 10) 1 0) d in
      omega (arith, v, x, rw w at (lines-count f (at + i) (omega arith)))

  pub ended-le : c ≤ i → c + r ≤ i + 1
  ended-le h = omega (arith, one-le b r e)

  pub ended-fits : c ≤ i → i < 128 → c + r < 2 ^ 8
  ended-fits h l = omega (arith, one-le b r e)

pub ended-first : (f : List ℕ) (at : ℕ) → 0 + length (lines_of (drop (at + 0) f)) ≡ length (lines_of (drop at f))
ended-first f at = rw (add-zero at) (omega arith)

pub ended-done : (f : List ℕ) (at i c m : ℕ) → 128 ≤ i → i ≤ 128 → c + length (lines_of (drop (at + i) f)) ≡ m → c + length (lines_of (drop (at + 128) f)) ≡ m
ended-done f at i c m h l v = let e : i ≡ 128 = omega arith in rw e at v

pub ended-small : (i c : ℕ) → i ≤ 128 → c ≤ i → c ≤ 128
ended-small i c h l = omega arith

pub ruleset counts = (tests, ended-first, ended-again, ended-le, ended-fits, ended-done, ended-small)
