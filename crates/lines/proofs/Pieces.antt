-- The first LF of a text, the piece before it and the pieces after it, and the needs of the functions of src. Assumes nothing.
use mathlib.Core.Path.{◌≡◌, refl, ap, sym, ◌∙◌}
use mathlib.Core.List.{List, [], ◌∷◌}
use mathlib.Core.Bool.{Bool, true, false, cond, not, ◌&&◌}
use Prim.Native.Nat.{ℕ, zero, suc, ◌+◌, ◌-◌, ◌≤◌, ◌<◌}
use native.Mathlib.Numerals.{add-one}
use native.Mathlib.Omega.{arith}
use native.Mathlib.Decide.{dec_lt}
use lib.ListN.{length, get_or, take, drop, drop_of_length-le, length-drop}
use lib.Seq.{drop-cons, drop-drop, get_or-drop, get_or-take, length-take-le, take_all}
use lib.Dec.{eqb, leb, lit≤}
use borrow.Author.Tests.{eq-eqb, ne_eqb, eqb-true, lt-ltb, le-leb, lt-leb, leb-true}
use Rattle.base.proofs.Laws.{tests, by_eqb, by-leb}
use Rattle.base.specs.Lists.{every}
use Rattle.columns.specs.Columns.{column, pad_to, is_of}
use Rattle.columns.specs.declared.ByteClass.TheVariants.{Byte}
use Rattle.columns.proofs.Laws.{pad-length}
use Rattle.lines.specs.Lines.{to_lf, start_with, pieces, no_cr, past_lf, cut_at, skipped}
use Rattle.lines.specs.declared.Cut.{Cut}

-- ---- the first LF

to_lf-here : (f : List ℕ) (i : ℕ) → i < length f → get_or f i 0 ≡ 10 → to_lf (drop i f) ≡ 0
unfolding to_lf
to_lf-here f i h e = rw (drop-cons f i 0, eq-eqb _ _ e)

to_lf-next : (f : List ℕ) (i : ℕ) → i < length f → (get_or f i 0 ≡ 10 → ⊥) → to_lf (drop i f) ≡ suc (to_lf (drop (i + 1) f))
unfolding to_lf
to_lf-next f i h n = rw (drop-cons f i 0, ne_eqb _ _ n, add-one)

to_lf-end : (f : List ℕ) (i : ℕ) → length f ≤ i → to_lf (drop i f) ≡ 0
unfolding to_lf
to_lf-end f i h = rw (drop_of_length-le f h)

pub to_lf-le : (s : List ℕ) → to_lf s ≤ length s
unfolding to_lf
to_lf-le [] = lit≤ tt
to_lf-le (b ∷ s) = go (eqb b 10) (to_lf s) (to_lf-le s)
  where
    go : (t : Bool) (n : ℕ) → n ≤ length s → cond t 0 (suc n) ≤ suc (length s)
    go true n h = omega arith
    go false n h = omega arith

-- the byte there is an LF
pub to_lf-is : (s : List ℕ) → to_lf s < length s → get_or s (to_lf s) 0 ≡ 10
unfolding to_lf
to_lf-is [] h = absurd (omega arith)
to_lf-is (b ∷ s) h = go (eqb b 10) refl h (to_lf-is s)
  where
    go : (t : Bool) → eqb b 10 ≡ t → cond t 0 (suc (to_lf s)) < suc (length s) → (to_lf s < length s → get_or s (to_lf s) 0 ≡ 10) → get_or (b ∷ s) (cond t 0 (suc (to_lf s))) 0 ≡ 10
    go true e l ih = eqb-true b 10 e
    go false e l ih = ih (omega arith)

-- an LF is no later than any that is seen
to_lf-before : (s : List ℕ) (k : ℕ) → k < length s → get_or s k 0 ≡ 10 → to_lf s ≤ k
unfolding to_lf
to_lf-before [] k h e = absurd (omega arith)
to_lf-before (b ∷ s) zero h e = rw (eq-eqb b 10 e) (omega arith)
to_lf-before (b ∷ s) (suc k) h e = go (eqb b 10) (to_lf-before s k (omega arith) e)
  where
    go : (t : Bool) → to_lf s ≤ k → cond t 0 (suc (to_lf s)) ≤ suc k
    go true v = omega arith
    go false v = omega arith

-- bytes before it may be passed over
to_lf-past : (s : List ℕ) (n : ℕ) → n ≤ to_lf s → n + to_lf (drop n s) ≡ to_lf s
unfolding to_lf
to_lf-past s zero h = omega arith
to_lf-past [] (suc n) h = absurd (omega arith)
to_lf-past (b ∷ s) (suc n) h = go (eqb b 10) h (to_lf-past s n)
  where
    go : (t : Bool) → suc n ≤ cond t 0 (suc (to_lf s)) → (n ≤ to_lf s → n + to_lf (drop n s) ≡ to_lf s) → suc n + to_lf (drop n s) ≡ cond t 0 (suc (to_lf s))
    go true v ih = absurd (omega arith)
    go false v ih = omega (arith, ih (omega arith))

-- ---- the first piece, and the rest

pub pieces_step : (s : List ℕ) → 0 < length s → pieces s ≡ take (to_lf s) s ∷ pieces (drop (suc (to_lf s)) s)
unfolding to_lf pieces start_with
pieces_step [] h = absurd (omega arith)
pieces_step (b ∷ []) h = go (eqb b 10)
  where
    go : (t : Bool) → cond t ([] ∷ pieces []) (start_with b (pieces [])) ≡ take (cond t 0 1) (b ∷ []) ∷ pieces (drop (suc (cond t 0 1)) (b ∷ []))
    go true = refl
    go false = refl
pieces_step (b ∷ c ∷ s) h = go (eqb b 10) (pieces_step (c ∷ s) (omega arith))
  where
    go : (t : Bool) → pieces (c ∷ s) ≡ take (to_lf (c ∷ s)) (c ∷ s) ∷ pieces (drop (suc (to_lf (c ∷ s))) (c ∷ s))
        → cond t ([] ∷ pieces (c ∷ s)) (start_with b (pieces (c ∷ s)))
        ≡ take (cond t 0 (suc (to_lf (c ∷ s)))) (b ∷ c ∷ s) ∷ pieces (drop (suc (cond t 0 (suc (to_lf (c ∷ s))))) (b ∷ c ∷ s))
    go true e = refl
    go false e = ap (start_with b) e

-- no more pieces than bytes
start-le : (b : ℕ) (ps : List (List ℕ)) (n : ℕ) → length ps ≤ n → length (start_with b ps) ≤ suc n
unfolding start_with
start-le b [] n h = omega arith
start-le b (p ∷ ps) n h = omega arith

pub pieces-le : (s : List ℕ) → length (pieces s) ≤ length s
unfolding pieces
pieces-le [] = omega arith
pieces-le (b ∷ s) = go (eqb b 10) (pieces-le s)
  where
    go : (t : Bool) → length (pieces s) ≤ length s → length (cond t ([] ∷ pieces s) (start_with b (pieces s))) ≤ suc (length s)
    go true h = omega arith
    go false h = start-le b (pieces s) (length s) h

-- ---- the CR

-- a piece without its CR is a beginning of it
pub no_cr-take : (p : List ℕ) → (no_cr p ≡ take (length (no_cr p)) p) × (length (no_cr p) ≤ length p)
unfolding no_cr
no_cr-take p = go (eqb (get_or p (length p - 1) 0) 13)
  where
    go : (t : Bool) → (cond t (take (length p - 1) p) p ≡ take (length (cond t (take (length p - 1) p) p)) p) × (length (cond t (take (length p - 1) p) p) ≤ length p)
    go true = let e : length (take (length p - 1) p) ≡ length p - 1 = length-take-le (length p - 1) p (omega arith) in (rw e refl, omega arith)
    go false = (sym (take_all (length p) p (omega arith)), omega arith)

-- ---- the needs of `past_blocks`, `past_half` and `no_lf`, for `search blocks`

module _ (f : List ℕ) (at : ℕ) where
  pub none_first : true ≡ leb 0 (to_lf (drop at f))
  none_first = sym (le-leb 0 (to_lf (drop at f)) (omega arith))

  -- the byte after i bytes is read
  pub none-again : (i n : ℕ) (none : Bool) → at + n ≤ length f → i < n → none ≡ leb i (to_lf (drop at f)) → (none && not (eqb (get_or f (at + i) 0) 10)) ≡ leb (i + 1) (to_lf (drop at f))
  none-again i n none h l v =
      by_eqb (λ t. (none && not t) ≡ leb (i + 1) (to_lf (drop at f))) b 10
      (λ t. and-none none ∙ sym (lt-leb (i + 1) (to_lf (drop at f)) (omega (arith, to_lf-before (drop at f) i inside (here ∙ t)))))
      (λ t. and-all none ∙ v ∙ by-leb (λ x. x ≡ leb (i + 1) (to_lf (drop at f))) i (to_lf (drop at f))
      (λ k. sym (le-leb (i + 1) (to_lf (drop at f)) (further t k)))
      (λ k. sym (lt-leb (i + 1) (to_lf (drop at f)) (omega arith))))
    where
      b : ℕ
      b = get_or f (at + i) 0

      and-none : (x : Bool) → (x && false) ≡ false
      and-none true = refl
      and-none false = refl

      and-all : (x : Bool) → (x && true) ≡ x
      and-all true = refl
      and-all false = refl

      inside : i < length (drop at f)
      inside = simp length-drop (omega arith)

      here : get_or (drop at f) i 0 ≡ b
      here = get_or-drop at f i 0

      further : (b ≡ 10 → ⊥) → i ≤ to_lf (drop at f) → i + 1 ≤ to_lf (drop at f)
      further t k = elim (dec_lt i (to_lf (drop at f))) [
        | yes x ↦ omega arith
        | no x ↦ let same : to_lf (drop at f) ≡ i = omega arith in
            absurd (t (sym here ∙ ap (λ (k : ℕ). get_or (drop at f) k 0) (sym same) ∙ to_lf-is (drop at f) (omega (arith, inside))))
      ]

  -- i is where the loop stands
  pub none_done : (i n : ℕ) (none : Bool) → n ≤ i → i ≤ n → none ≡ leb i (to_lf (drop at f)) → none ≡ leb n (to_lf (drop at f))
  none_done i n none h l v = let e : i ≡ n = omega arith in rw e at v

  pub past-block : (n : ℕ) (t : Bool) → t ≡ leb n (to_lf (drop at f)) → t ≡ true → at + n + to_lf (drop (at + n) f) ≡ at + to_lf (drop at f)
  past-block n t e v =
      let w : n + to_lf (drop n (drop at f)) ≡ to_lf (drop at f) = to_lf-past (drop at f) n (leb-true n (to_lf (drop at f)) (sym e ∙ v)) in
      omega (arith, rw (drop-drop n at f) at w)

  -- m is the place that is sought
  pub block-again : (n m : ℕ) (t : Bool) → t ≡ leb n (to_lf (drop at f)) → t ≡ true → at + to_lf (drop at f) ≡ m → at + n + to_lf (drop (at + n) f) ≡ m
  block-again n m t e v w = past-block n t e v ∙ w

  -- of a usual line: its whole blocks, the bytes behind them, and the LF
  pub usual-end : (t u : Bool) (b : ℕ) → 59 < length f - at → b ≡ get_or f (at + 59) 0 → b ≡ 10 → t ≡ leb 48 (to_lf (drop at f)) → t ≡ true
      → u ≡ leb 11 (to_lf (drop (at + 48) f)) → u ≡ true → at + 59 ≡ at + to_lf (drop at f)
  usual-end t u b h e k d v d' v' =
      omega (arith, past-block 48 t d v, leb-true 11 (to_lf (drop (at + 48) f)) (sym d' ∙ v'), to_lf-before (drop at f) 59 (simp length-drop (omega arith)) (get_or-drop at f 59 0 ∙ sym e ∙ k))

pub ruleset blocks = (tests, none_first, none-again, none_done, past-block, block-again, usual-end)

-- ---- the needs of `first_lf`, `before_cr` and `line_at`, for `search cuts`

module _ (f : List ℕ) (i n : ℕ) where
  pub end-again : i < length f → (get_or f i 0 ≡ 10 → ⊥) → i + to_lf (drop i f) ≡ n → i + 1 + to_lf (drop (i + 1) f) ≡ n
  end-again h t v = omega (arith, to_lf-next f i h t)

  pub end-out : i < length f → get_or f i 0 ≡ 10 → i + to_lf (drop i f) ≡ n → i ≡ n
  end-out h t v = omega (arith, to_lf-here f i h t)

  pub end-done : length f ≤ i → i + to_lf (drop i f) ≡ n → i ≡ n
  end-done h v = omega (arith, to_lf-end f i h)

module _ (f : List ℕ) (at end : ℕ) where
  -- the piece from `at` to `end`, and its last byte
  piece-length : end ≤ length f → length (take (end - at) (drop at f)) ≡ end - at
  piece-length h = length-take-le (end - at) (drop at f) (simp length-drop (omega arith))

  piece-last : at < end → end ≤ length f → get_or (take (end - at) (drop at f)) (length (take (end - at) (drop at f)) - 1) 0 ≡ get_or f (end - 1) 0
  piece-last l h =
      let e : at + (end - at - 1) ≡ end - 1 = omega arith in
      rw (piece-length h, get_or-take (end - at) (drop at f) (end - at - 1) 0 (omega arith), get_or-drop at f (end - at - 1) 0, e)

  pub cr-dropped : at < end → end ≤ length f → get_or f (end - 1) 0 ≡ 13 → end - 1 ≡ at + length (no_cr (take (end - at) (drop at f)))
  unfolding no_cr
  cr-dropped l h e =
      let p : List ℕ = take (end - at) (drop at f) in
      rw (eq-eqb _ 13 (piece-last l h ∙ e), length-take-le (length p - 1) p (omega arith), piece-length h) (omega arith)

  pub cr-none : at < end → end ≤ length f → (get_or f (end - 1) 0 ≡ 13 → ⊥) → end ≡ at + length (no_cr (take (end - at) (drop at f)))
  unfolding no_cr
  cr-none l h n = rw (piece-last l h, ne_eqb _ 13 n, piece-length h) (omega arith)

  pub cr-empty : at ≤ end → end ≤ at → end ≡ at + length (no_cr (take (end - at) (drop at f)))
  unfolding no_cr
  cr-empty l h = let e : end - at ≡ 0 = omega arith in rw e (omega arith)

module _ (f : List ℕ) (at end : ℕ) (e : end ≡ at + to_lf (drop at f)) where
  pub end_low : at ≤ end
  end_low = omega arith

  pub end-high : at ≤ length f → end ≤ length f
  end-high h = omega (arith, to_lf-le (drop at f), length-drop at f)

  pub cut-is : (stop next n : ℕ) → stop ≡ at + length (no_cr (take (end - at) (drop at f))) → next ≡ past_lf f end
      → ◌≡◌ {A = Cut} (record { stop = stop; next = next; no = n + 1 }) (cut_at f at n)
  unfolding cut_at
  cut-is stop next n s x =
      let d : end - at ≡ to_lf (drop at f) = omega arith in
      rw (s, x, d, e)

-- ---- of a line that reaches so far: its LF is at `end` if one is seen there, and there is one byte at least where the first is none

module _ (f : List ℕ) (at width : ℕ) (w : width ≤ to_lf (drop at f)) where
  pub beyond-inside : at ≤ length f → at + width ≤ length f
  beyond-inside h = omega (arith, to_lf-le (drop at f), length-drop at f)

  pub beyond-end : at + width < length f → get_or f (at + width) 0 ≡ 10 → at + width ≡ at + to_lf (drop at f)
  beyond-end h b = omega (arith, to_lf-before (drop at f) width (simp length-drop (omega arith)) (get_or-drop at f width 0 ∙ b))

pub one-beyond : (f : List ℕ) (at : ℕ) → at < length f → (get_or f at 0 ≡ 10 → ⊥) → 1 ≤ to_lf (drop at f)
one-beyond f at h n = omega (arith, to_lf-next f at h n)

-- an empty line
pub cut-empty : (f : List ℕ) (at n : ℕ) → at < length f → get_or f at 0 ≡ 10 → ◌≡◌ {A = Cut} (record { stop = at; next = at + 1; no = n + 1 }) (cut_at f at n)
cut-empty f at n h b = cut-is f at at (omega (arith, to_lf-here f at h b)) at (at + 1) n (cr-empty f at at (omega arith) (omega arith)) (rw (lt-ltb at (length f) h) refl)

pub ruleset cuts = (tests, end-again, end-out, end-done, cr-dropped, cr-none, cr-empty, end_low, end-high, cut-is)

-- ---- the needs of `skips`, for `search skipping`: b is column 1

module _ (line : List ℕ) (b : ℕ) (e : b ≡ column 1 line) where
  pub skip-percent : b ≡ 37 → true ≡ skipped line
  unfolding skipped
  skip-percent t = rw (← e, eq-eqb b 37 t)

  pub skip-blank : (r : Bool) → (b ≡ 37 → ⊥) → r ≡ every (is_of (Byte 32)) (pad_to (length line) line) → r ≡ skipped line
  unfolding skipped
  skip-blank r t d = rw (← e, ne_eqb b 37 t) (d ∙ ap (every (is_of (Byte 32))) (pad-length line))

pub ruleset skipping = (tests, skip-percent, skip-blank)
