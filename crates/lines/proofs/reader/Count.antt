-- A walk of a file that keeps its line number: what a place and a number say of the lines that are left; and the lines of a file counted without a walk, but for
-- those of its last bytes. Assumes nothing.
use mathlib.Core.Path.{◌≡◌, ap, ◌∙◌}
use mathlib.Core.List.{List}
use Prim.Native.Nat.{ℕ, ◌+◌, ◌-◌, ◌≤◌, ◌<◌, ◌^◌}
use native.Mathlib.Omega.{arith}
use lib.ListN.{length, take, drop, length-drop}
use lib.Seq.{length-take-le, take_all}
use Rattle.base.proofs.Laws.{tests}
use Rattle.lines.specs.Lines.{lines_from, lines_of, cut_at}
use Rattle.lines.specs.declared.Cut.{Cut}
use Rattle.lines.proofs.Laws.{cutting, lines_none, lines-le}

-- the next line starts at `at` and is line n: with the lines that are left, n counts them all, from 1
pub record Kept (f : List ℕ) (at n : ℕ) : Type 0 where
  pub within : at ≤ length f
  pub ahead : n ≤ at + 1
  pub some : 1 ≤ n
  pub left : n + length (lines_from n at (drop at f)) ≡ length (lines_of f) + 1

pub kept-first : (f : List ℕ) → Kept f 0 1
kept-first f = record { within = omega arith; ahead = omega arith; some = omega arith; left = omega arith }

module _ (f : List ℕ) (at n : ℕ) (k : Kept f at n) where
  -- a line further
  pub kept_next : (r : Cut) → at < length f → r ≡ cut_at f at n → Kept f r.next r.no
  kept_next r h e =
      let c = cutting f at n r h e in
      record { within = c.inside; ahead = omega (arith, c, k); some = omega (arith, c); left = omega (arith, c.count, k.left, ap length c.step) }

  -- at the end
  pub kept-last : length f ≤ at → n - 1 ≡ length (lines_of f)
  kept-last h = omega (arith, k.left, k.some, ap length (lines_none f at n h))

  -- where lines are left the number has room
  pub kept_small : length f + 1 < 2 ^ 32 → at < length f → n < 4294967295
  kept_small s h = omega (arith, k.ahead)

-- ---- the needs of `lines_in`, for `search counting`: `ended` lines end before place `at`

pub counting-first : (f : List ℕ) → 0 + length (lines_of (drop 0 f)) ≡ length (lines_of f)
counting-first f = omega arith

module _ (f : List ℕ) (at ended : ℕ) where
  -- r more end within the bytes that are counted at once
  pub counting-again : (r m : ℕ) → r + length (lines_of (drop (at + 128) f)) ≡ length (lines_of (drop at f)) → ended + length (lines_of (drop at f)) ≡ m
      → ended + r + length (lines_of (drop (at + 128) f)) ≡ m
  counting-again r m e v = omega (arith, e, v)

  pub counting-room : (r : ℕ) → r ≤ 128 → ended ≤ at → 128 < length f - at → length f + 1 < 2 ^ 32 → ended + r < 2 ^ 32
  counting-room r h l k s = omega arith

  -- the rest, as it is handed on
  pub rest-short : length f + 1 < 2 ^ 32 → length (take (length f - at) (drop at f)) + 1 < 2 ^ 32
  rest-short h = rw (length-take-le (length f - at) (drop at f) (omega (arith, length-drop at f))) (omega arith)

  module _ (n : ℕ) (e : n ≡ length (lines_of (take (length f - at) (drop at f)))) (v : ended + length (lines_of (drop at f)) ≡ length (lines_of f)) where
    pub counting-done : ended + n ≡ length (lines_of f)
    counting-done = omega (arith, v, e ∙ ap (λ (s : List ℕ). length (lines_of s)) (take_all (length f - at) (drop at f) (omega (arith, length-drop at f))))

    pub counting-fits : length f + 1 < 2 ^ 32 → ended + n < 2 ^ 32
    counting-fits h = omega (arith, counting-done, lines-le 1 0 f)

pub ruleset counting = (tests, counting-first, counting-again, counting-room, rest-short, counting-done, counting-fits)
