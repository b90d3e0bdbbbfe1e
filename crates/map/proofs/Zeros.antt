-- The needs of the words that are zeroed, for `search zeros`. Assumes nothing.
use mathlib.Core.Path.{◌≡◌, refl, ap, ◌∙◌, sym}
use mathlib.Core.List.{List, ◌++◌}
use Prim.Native.Nat.{ℕ, suc, ◌+◌, ◌≤◌, ◌<◌}
use native.Mathlib.Numerals.{add-one}
use native.Mathlib.Omega.{arith}
use lib.ListN.{length, get_or, drop, set, replicate, length-replicate, replicate-append-replicate}
use lib.Seq.{drop-cons, set_at, append_snoc}
use Rattle.base.proofs.Laws.{tests}

pub clear-start : (t : List ℕ) → t ≡ replicate 0 0 ++ drop 0 t
clear-start t = refl

pub clear-turn : (t t₀ : List ℕ) (k words : ℕ) → k < words → words ≤ length t₀ → t ≡ replicate k 0 ++ drop k t₀ → set t k 0 ≡ replicate (k + 1) 0 ++ drop (k + 1) t₀
clear-turn t t₀ k words l h e =
    rw (e, drop-cons t₀ k 0 (omega arith), add-one)
    (set_at (replicate k 0) (get_or t₀ k 0) (drop (suc k) t₀) 0 k (length-replicate k 0) ∙ sym (append_snoc (replicate k 0) 0 (drop (suc k) t₀))
    ∙ ap (λ (l : List ℕ). l ++ drop (suc k) t₀) (replicate-append-replicate k 1 0 ∙ ap (λ (j : ℕ). replicate j 0) (add-one k)))

pub clear-done : (t t₀ : List ℕ) (k words : ℕ) → words ≤ k → k ≤ words → t ≡ replicate k 0 ++ drop k t₀ → t ≡ replicate words 0 ++ drop words t₀
clear-done t t₀ k words a b e = let d : k ≡ words = omega arith in rw (← d) e

pub ruleset zeros = (tests, clear-start, clear-turn, clear-done)
