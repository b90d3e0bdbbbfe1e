-- Chains in any words: where one ends, and how it goes on. Assumes nothing.
use mathlib.Core.Path.{◌≡◌, refl, ◌∙◌, sym}
use mathlib.Core.List.{[], ◌∷◌}
use mathlib.Core.Logic.{⊎_elim}
use mathlib.Core.Bool.{cond}
use Prim.Native.Nat.{ℕ, zero, suc, ◌-◌, ◌≤◌, ◌<◌}
use native.Mathlib.Nat.{eq-or-lt_of_le}
use native.Mathlib.Omega.{arith}
use lib.Dec.{eqb}
use borrow.Author.Tests.{eq-eqb, ne_eqb}
use Rattle.stop_calls.specs.StopCalls.{chained}

module _ (link : ℕ → ℕ) where
  pub chained-none : (f : ℕ) → chained link f 0 ≡ []
  unfolding chained
  chained-none zero = refl
  chained-none (suc f) = rw (ne_eqb 0 (suc f) (λ d. absurd (omega arith))) (chained-none f)

  pub chained-over : (f e : ℕ) → f < e → chained link f e ≡ []
  unfolding chained
  chained-over zero e h = refl
  chained-over (suc f) e h = rw (ne_eqb e (suc f) (λ d. absurd (omega arith))) (chained-over f e (omega arith))

  pub chained-here : (f e : ℕ) → (e ≡ 0 → ⊥) → e ≤ f → chained link f e ≡ e ∷ chained link (e - 1) (link e)
  unfolding chained
  chained-here zero e z h = absurd (z (omega arith))
  chained-here (suc f) e z h = ⊎_elim at-e (λ l. below-e l (chained-here f e z)) (eq-or-lt_of_le h)
    where
      at-e : e ≡ suc f → cond (eqb e (suc f)) (suc f ∷ chained link f (link (suc f))) (chained link f e) ≡ e ∷ chained link (e - 1) (link e)
      at-e d =
          let q : suc f - 1 ≡ f = omega arith in
          rw (d, eq-eqb (suc f) (suc f) refl, q)

      below-e : e < suc f → (e ≤ f → chained link f e ≡ e ∷ chained link (e - 1) (link e)) → cond (eqb e (suc f)) (suc f ∷ chained link f (link (suc f))) (chained link f e) ≡ e ∷ chained link (e - 1) (link e)
      below-e l i = rw (ne_eqb e (suc f) (λ d. absurd (omega arith))) (i (omega arith))

  -- how far down it is looked from does not matter
  pub chained-any : (f g e : ℕ) → e ≤ f → e ≤ g → chained link f e ≡ chained link g e
  chained-any f g zero h l = chained-none f ∙ sym (chained-none g)
  chained-any f g (suc e) h l = chained-here f (suc e) (λ d. absurd (omega arith)) h ∙ sym (chained-here g (suc e) (λ d. absurd (omega arith)) l)
