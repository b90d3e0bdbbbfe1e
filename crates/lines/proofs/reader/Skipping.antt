-- A line that reaches so far, and one that is skipped: the needs of `line_beyond` and `past_skipped`, for `search passing`, and what a walk that calls it knows. Assumes nothing.
use mathlib.Core.Path.{◌≡◌, refl, sym, ap, ◌∙◌}
use mathlib.Core.List.{List}
use mathlib.Core.Bool.{Bool, true, false, cond}
use Prim.Native.Nat.{ℕ, ◌+◌, ◌-◌, ◌^◌, ◌≤◌, ◌<◌}
use native.Mathlib.Omega.{arith}
use lib.ListN.{length, take, drop}
use Rattle.base.proofs.Laws.{tests}
use Rattle.lines.specs.Lines.{to_lf, cut_at, skipped}
use Rattle.lines.specs.Inner.Skips.{past_skipped}
use Rattle.lines.specs.declared.Cut.{Cut}
use Rattle.lines.proofs.Laws.{walk}
use Rattle.lines.proofs.Pieces.{beyond-inside, beyond-end, one-beyond}

pub beyond-fits : (f : List ℕ) (at width : ℕ) → width ≤ to_lf (drop at f) → at ≤ length f → length f < 2 ^ 64 → at + width < 2 ^ 64
beyond-fits f at width w h l = omega (arith, beyond-inside f at width w h)

-- r is the line, t whether it is skipped
module _ (f : List ℕ) (at : ℕ) (r : Cut) (t : Bool) (e : r ≡ cut_at f at 1) (d : t ≡ skipped (take (r.stop - at) (drop at f))) where
  pub skip-past : t ≡ true → r.next ≡ past_skipped f at
  unfolding past_skipped
  skip-past y = let z : skipped (take ((cut_at f at 1).stop - at) (drop at f)) ≡ true = ap (λ (x : Cut). skipped (take (x.stop - at) (drop at f))) (sym e) ∙ sym d ∙ y in rw (z, e) refl

  pub skip-stays : t ≡ false → at ≡ past_skipped f at
  unfolding past_skipped
  skip-stays y = let z : skipped (take ((cut_at f at 1).stop - at) (drop at f)) ≡ false = ap (λ (x : Cut). skipped (take (x.stop - at) (drop at f))) (sym e) ∙ sym d ∙ y in rw z refl

pub ruleset passing = (tests, walk, beyond-inside, beyond-fits, beyond-end, one-beyond, skip-past, skip-stays)

-- the line with number n that is passed: it is skipped, and the next starts at p
module _ (f : List ℕ) (at n p : ℕ) (e : p ≡ past_skipped f at) (h : at < p) where
  passed_first : skipped (take ((cut_at f at 1).stop - at) (drop at f)) ≡ true
  unfolding past_skipped
  passed_first = go (skipped (take ((cut_at f at 1).stop - at) (drop at f))) refl e
    where
      go : (t : Bool) → skipped (take ((cut_at f at 1).stop - at) (drop at f)) ≡ t → p ≡ cond t (cut_at f at 1).next at → t ≡ true
      go true y q = refl
      go false y q = absurd (omega (arith, q))

  pub passed-text : skipped (take ((cut_at f at n).stop - at) (drop at f)) ≡ true
  unfolding cut_at
  passed-text = passed_first

  pub passed-next : (cut_at f at n).next ≡ p
  unfolding past_skipped cut_at
  passed-next = sym (e ∙ rw passed_first refl)
