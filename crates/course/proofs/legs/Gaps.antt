-- The operated legs below a leg, and below a later one: where the legs between are all operated, or all not, the first stretch and the next follow by comparing ends.
-- Assumes nothing.
use mathlib.Core.Path.{◌≡◌, refl, sym, ap, ◌∙◌}
use mathlib.Core.List.{map}
use mathlib.Core.Bool.{Bool, true, false, cond, not}
use mathlib.Core.Logic.{⊎_elim}
use Prim.Native.Nat.{ℕ, zero, suc, ◌+◌, ◌-◌, ◌≤◌, ◌<◌}
use native.Mathlib.Nat.{zero-add, add-zero, suc-add, eq-or-lt_of_le}
use native.Mathlib.Omega.{arith}
use lib.Dec.{eqb}
use Rattle.base.specs.Lists.{upto}
use Rattle.base.proofs.Laws.{by_eqb}
use Rattle.course.specs.declared.legs.DayLegs.{DayLegs}
use Rattle.course.specs.Inner.Run.{gap}
use Rattle.course.specs.Inner.Turn.{no_legs, with_operated, with_idle, with_range}

is-on : (on : Bool) → cond on on (not on) ≡ true
is-on true = refl
is-on false = refl

is-off : (on : Bool) → cond on (not on) (not (not on)) ≡ false
is-off true = refl
is-off false = refl

module _ (f : ℕ → Bool) (on : Bool) where
  -- ---- a legs from i on, and b more

  within : (a i : ℕ) → gap on (map f (upto a i)) ≤ a
  unfolding gap upto
  within zero i = omega arith
  within (suc a) i = go (cond on (f i) (not (f i))) (within a (i + 1))
    where
      go : (t : Bool) → gap on (map f (upto a (i + 1))) ≤ a → cond t 0 (1 + gap on (map f (upto a (i + 1)))) ≤ suc a
      go true ih = omega arith
      go false ih = omega arith

  kept : (a b i : ℕ) → gap on (map f (upto a i)) < a → gap on (map f (upto (a + b) i)) ≡ gap on (map f (upto a i))
  unfolding gap upto
  kept zero b i h = absurd (omega arith)
  kept (suc a) b i h = rw (suc-add a b) (go (cond on (f i) (not (f i))) (kept a b (i + 1)) h)
    where
      go : (t : Bool) → (gap on (map f (upto a (i + 1))) < a → gap on (map f (upto (a + b) (i + 1))) ≡ gap on (map f (upto a (i + 1)))) →
          cond t 0 (1 + gap on (map f (upto a (i + 1)))) < suc a → cond t 0 (1 + gap on (map f (upto (a + b) (i + 1)))) ≡ cond t 0 (1 + gap on (map f (upto a (i + 1))))
      go true ih g = refl
      go false ih g = ap (λ (m : ℕ). 1 + m) (ih (omega arith))

  passed : (a b i : ℕ) → gap on (map f (upto a i)) ≡ a → gap on (map f (upto (a + b) i)) ≡ a + gap on (map f (upto b (i + a)))
  unfolding gap upto
  passed zero b i h = rw (zero-add b, add-zero i) (sym (zero-add (gap on (map f (upto b i)))))
  passed (suc a) b i h =
      let e : i + suc a ≡ i + 1 + a = omega arith in
      rw (suc-add a b, e) (go (cond on (f i) (not (f i))) (passed a b (i + 1)) h)
    where
      go : (t : Bool) → (gap on (map f (upto a (i + 1))) ≡ a → gap on (map f (upto (a + b) (i + 1))) ≡ a + gap on (map f (upto b (i + 1 + a)))) →
          cond t 0 (1 + gap on (map f (upto a (i + 1)))) ≡ suc a → cond t 0 (1 + gap on (map f (upto (a + b) (i + 1)))) ≡ suc a + gap on (map f (upto b (i + 1 + a)))
      go true ih g = absurd (omega arith)
      go false ih g = omega (arith, ih (omega arith))

  all-off : (b i : ℕ) → ((k : ℕ) → i ≤ k → k < i + b → f k ≡ not on) → gap on (map f (upto b i)) ≡ b
  unfolding gap upto
  all-off zero i h = refl
  all-off (suc b) i h = rw (h i (omega arith) (omega arith), is-off on, all-off b (i + 1) (λ k p q. h k (omega arith) (omega arith))) (omega arith)

  first_on : (b i : ℕ) → f i ≡ on → gap on (map f (upto b i)) ≡ 0
  unfolding gap upto
  first_on zero i h = refl
  first_on (suc b) i h = rw (h, is-on on)

  -- ---- the next leg from i on, of those below n and of those below m

  abbrev pub next : ℕ → ℕ → ℕ
  next n i = i + gap on (map f (upto (n - i) i))

  pub next-within : (n i : ℕ) → i ≤ n → next n i ≤ n
  next-within n i h = omega (arith, within (n - i) i)

  module _ (n m i : ℕ) (h : i ≤ n) (g : n ≤ m) where
    both : m - i ≡ n - i + (m - n)
    both = omega arith

    next-kept : next n i < n → next m i ≡ next n i
    next-kept l = rw (both, kept (n - i) (m - n) i (omega arith))

    beyond : next n i ≡ n → next m i ≡ n + gap on (map f (upto (m - n) n))
    beyond e =
        let p : i + (n - i) ≡ n = omega arith in
        let q : gap on (map f (upto (n - i) i)) ≡ n - i = omega arith in
        ap (λ (j : ℕ). i + gap on (map f (upto j i))) both ∙ ap (λ (j : ℕ). i + j) (passed (n - i) (m - n) i q) ∙ rw p (omega (arith, p))

    next_past : next n i ≡ n → ((k : ℕ) → n ≤ k → k < m → f k ≡ not on) → next m i ≡ m
    next_past e u = beyond e ∙ rw (all-off (m - n) n (λ k p q. u k p (omega arith))) (omega arith)

    next-same : f n ≡ on → next m i ≡ next n i
    next-same u = ⊎_elim (λ (e : next n i ≡ n). beyond e ∙ rw (first_on (m - n) n u) (omega (arith, e))) (λ (l : next n i < n). next-kept l) (eq-or-lt_of_le (next-within n i h))

-- ---- what is said of the legs below n

pub record Told (f : ℕ → Bool) (n : ℕ) (l : DayLegs) : Type 0 where
  pub starts : l.start ≡ 0 + gap true (map f (upto (n - 0) 0))
  pub ends : l.end ≡ l.start + gap false (map f (upto (n - l.start) l.start))
  pub begins-again : l.again ≡ l.end + gap true (map f (upto (n - l.end) l.end))

module _ (f : ℕ → Bool) where
  at-end : (on : Bool) (n : ℕ) → n ≡ next f on n n
  unfolding gap upto
  at-end on n =
      let e : n - n ≡ 0 = omega arith in
      rw e (sym (add-zero n))

  pub told_none : Told f 0 no_legs
  told_none = record { starts = at-end true 0; ends = at-end false 0; begins-again = at-end true 0 }

  module _ (n m : ℕ) (l : DayLegs) (g : n < m) (t : Told f n l) where
    start-within : l.start ≤ n
    start-within = omega (arith, t.starts, next-within f true n 0 (omega arith))

    end-within : l.end ≤ n
    end-within = omega (arith, t.ends, next-within f false n l.start start-within)

    again-within : l.again ≤ n
    again-within = omega (arith, t.begins-again, next-within f true n l.end end-within)

    -- n ≤ m
    past : n ≤ m
    past = omega arith

    told-operated : ((k : ℕ) → n ≤ k → k < m → f k ≡ true) → Told f m (with_operated n m l)
    unfolding with_operated
    told-operated u =
        let here : f n ≡ true = u n (omega arith) g in
        let s : l.start ≡ next f true m 0 = t.starts ∙ sym (next-same f true n m 0 (omega arith) past here) in
        by_eqb (λ (b : Bool). Told f m (cond b (record { start = l.start; end = m; again = m }) l)) l.end n
        (λ (e : l.end ≡ n). record {
          starts = s;
          ends = sym (next_past f false n m l.start start-within past (sym t.ends ∙ e) u);
          begins-again = at-end true m;
        })
        (λ (e : l.end ≡ n → ⊥). record {
          starts = s;
          ends = t.ends ∙ sym (next-kept f false n m l.start start-within past (omega (arith, t.ends, end-within)));
          begins-again = t.begins-again ∙ sym (next-same f true n m l.end end-within past here);
        })

    told-idle : ((k : ℕ) → n ≤ k → k < m → f k ≡ false) → Told f m (with_idle n m l)
    unfolding with_idle
    told-idle u =
        let here : f n ≡ false = u n (omega arith) g in
        by_eqb (λ (b : Bool). Told f m (cond b (record { start = m; end = m; again = m }) (cond (eqb l.again n) (record { start = l.start; end = l.end; again = m }) l))) l.start n
        (λ (e : l.start ≡ n). record {
          starts = sym (next_past f true n m 0 (omega arith) past (sym t.starts ∙ e) u);
          ends = at-end false m;
          begins-again = at-end true m;
        })
        (λ (e : l.start ≡ n → ⊥).
        let s : l.start ≡ next f true m 0 = t.starts ∙ sym (next-kept f true n m 0 (omega arith) past (omega (arith, t.starts, start-within))) in
        by_eqb (λ (b : Bool). Told f m (cond b (record { start = l.start; end = l.end; again = m }) l)) l.again n
        (λ (c : l.again ≡ n). record {
          starts = s;
          ends = t.ends ∙ sym (next-same f false n m l.start start-within past here);
          begins-again = sym (next_past f true n m l.end end-within past (sym t.begins-again ∙ c) u);
        })
        (λ (c : l.again ≡ n → ⊥). record {
          starts = s;
          ends = t.ends ∙ sym (next-same f false n m l.start start-within past here);
          begins-again = t.begins-again ∙ sym (next-kept f true n m l.end end-within past (omega (arith, t.begins-again, again-within)));
        }))

    -- with a range whose legs are all operated, or all not
    pub told-range : (b : Bool) → ((k : ℕ) → n ≤ k → k < m → f k ≡ b) → Told f m (with_range b n m l)
    told-range true u = told-operated u
    told-range false u = told-idle u
