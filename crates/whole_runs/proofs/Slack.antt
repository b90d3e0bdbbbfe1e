-- No slack: demand 3 leaves a walk one answer and one content of the rows, without a word of how it is computed. (That the contracts of the exported
-- functions leave none: estelunya/proofs/Slack.) Assumes nothing.
use mathlib.Core.Path.{◌≡◌, refl, sym, ap, subst, ◌∙◌}
use mathlib.Core.List.{List, [], ◌∷◌}
use mathlib.Core.Bool.{Bool, true, false, cond}
use mathlib.Core.Option.{some}
use Prim.Native.Nat.{ℕ, zero, suc, ◌+◌, ◌*◌, ◌/◌, ◌%◌, ◌<◌, ◌≤◌}
use native.Mathlib.Omega.{arith}
use lib.ListN.{length, get_or}
use lib.Seq.{ext_get_or}
use lib.Dec.{eqb}
use borrow.Author.Tests.{eqb-true}
use Rattle.std.specs.Prelude.{Some, Result, Ok, Err}
use Rattle.base.specs.Lists.{All, nil, cons, every, count_if, upto, below}
use Rattle.base.proofs.Laws.{clash, by-ltb, by_eqb}
use Rattle.timetable.specs.Runs.{lateness}
use Rattle.timetable.specs.Layout.{row_size, all_flags}
use Rattle.timetable.specs.Delivery.{Files, Interchange, CategoryRange, Service, Delivery}
use Rattle.timetable.specs.Legs.{covers}
use Rattle.timetable.specs.Load.{onto, loaded, written, helped}
use Rattle.timetable.specs.Questions.{day_asked, interchange_asked, between_asked, Walked, walk_refusal, walked, walk_rows}
use Rattle.timetable.specs.declared.Call.{Call}
use Rattle.timetable.specs.declared.refusal.Refusal.{Refusal}
use Rattle.timetable.specs.declared.Loaded.{Loaded}
use Rattle.timetable.specs.declared.refusal.Refusal.TheVariants.{TooFewWords}
use Rattle.whole_runs.specs.Rows.{RunsNowhere, Unbroken, row_word, flag, Row, call_no, Stretched}
use Rattle.whole_runs.specs.Promise.{Walk, not_running, short, runs}
use Rattle.whole_runs.proofs.Lists.{every-below}

level : (a b : ℕ) → (a < b → ⊥) → (b < a → ⊥) → a ≡ b
level a b f g = by-ltb (λ t. a ≡ b) a b (λ h. absurd (f h)) (λ h. by-ltb (λ t. a ≡ b) b a (λ k. absurd (g k)) (λ k. omega arith))

-- two stretches of one day are one
module _ (d : Delivery) (s : Service) (k : ℕ) where
  not-sooner : {a b m n : ℕ} → Unbroken d s k a m → Unbroken d s k b n → a < b → ⊥
  not-sooner {a} x y l = let n = x.some_leg in clash (sym (y.not_before a l) ∙ x.operates a (omega arith) (omega arith))

  not-longer : {a b m n : ℕ} → Unbroken d s k a m → Unbroken d s k b n → a ≡ b → m < n → ⊥
  not-longer {a} {m = m} x y e l =
      let i = y.inside in
      clash (sym (x.not_after (a + m) (omega arith) (omega arith)) ∙ y.operates (a + m) (omega arith) (omega arith))

  same_start : {a b m n : ℕ} → Unbroken d s k a m → Unbroken d s k b n → a ≡ b
  same_start {a} {b} x y = level a b (not-sooner x y) (not-sooner y x)

  same-legs : {a b m n : ℕ} → Unbroken d s k a m → Unbroken d s k b n → m ≡ n
  same-legs {m = m} {n = n} x y = level m n (not-longer x y (same_start x y)) (not-longer y x (sym (same_start x y)))

  pub never_both : {a n : ℕ} → RunsNowhere d s k → Unbroken d s k a n → ⊥
  never_both {a} w x = let l = x.some_leg in let i = x.inside in clash (sym (w a (omega arith)) ∙ x.operates a (omega arith) (omega arith))

-- ---- a row has one content

-- the one that passes a test says what both say
one-says : {X : Type 0} (p : X → Bool) (f : X → ℕ) (u v : ℕ) (xs : List X) → count_if p xs ≡ 1 → All (λ x. p x ≡ true → u ≡ f x) xs → All (λ x. p x ≡ true → v ≡ f x) xs → u ≡ v
unfolding count_if
one-says p f u v [] e g h = absurd (omega arith)
one-says p f u v (x ∷ xs) e (cons a g) (cons b h) = go (p x) refl e (λ e. one-says p f u v xs e g h)
  where
    go : (t : Bool) → p x ≡ t → cond t 1 0 + count_if p xs ≡ 1 → (count_if p xs ≡ 1 → u ≡ v) → u ≡ v
    go true q e more = a q ∙ sym (b q)
    go false q e more = more (omega (arith, e))

-- two times: those of the record with number n, or of the first
module _ (n : ℕ) (u v : ℕ → ℕ) where
  abbrev Says : (ℕ → ℕ) → Interchange → Type 0
  Says w x = (w 8 ≡ x.first_time) × (w 9 ≡ x.second_time)

  record-says : (xs : List Interchange) → All (λ (x : Interchange). x.number ≡ n → Says u x) xs → All (λ (x : Interchange). x.number ≡ n → Says v x) xs
      → (All (λ (x : Interchange). x.number ≡ n → ⊥) xs → (u 8 ≡ v 8) × (u 9 ≡ v 9)) → (u 8 ≡ v 8) × (u 9 ≡ v 9)
  record-says [] g h other = other nil
  record-says (x ∷ xs) (cons a g) (cons b h) other =
      by_eqb (λ t. (u 8 ≡ v 8) × (u 9 ≡ v 9)) x.number n
      (λ e. ((a e).0 ∙ sym (b e).0, (a e).1 ∙ sym (b e).1))
      (λ e. record-says xs g h (λ o. other (cons e o)))

-- four flags are their sum
abbrev flag_sum : ℕ → ℕ
flag_sum f = flag 1 f + 2 * flag 2 f + 4 * flag 4 f + 8 * flag 8 f

each-sum : every (λ (f : ℕ). eqb f (flag_sum f)) (below 16) ≡ true
unfolding every upto
each-sum = refl

flag-sum : (f : ℕ) → f ≤ all_flags → f ≡ flag_sum f
flag-sum f l = eqb-true f (flag_sum f) (every-below (λ (f : ℕ). eqb f (flag_sum f)) 16 f each-sum (omega arith))

same_flags : (a b : ℕ) → a ≤ all_flags → b ≤ all_flags → flag 1 a ≡ flag 1 b → flag 2 a ≡ flag 2 b → flag 4 a ≡ flag 4 b → flag 8 a ≡ flag 8 b → a ≡ b
same_flags a b h i e1 e2 e4 e8 = flag-sum a h ∙ (rw (e1, e2, e4, e8) refl ∙ sym (flag-sum b i))

module _ (d : Delivery) (s : Service) (delay n q leg : ℕ) (c : Call) (u v : ℕ → ℕ) (x : Row d s delay n q leg c u) (y : Row d s delay n q leg c v) (l : q ≤ n) where
  -- first or later, last or earlier
  first-or : {P : Type 0} → (q ≡ 0 → P) → (1 ≤ q → P) → P
  first-or {P} f g = by_eqb (λ t. P) q 0 f (λ e. g (omega (arith, e)))

  last_or : {P : Type 0} → (q ≡ n → P) → (q < n → P) → P
  last_or {P} f g = by_eqb (λ t. P) q n f (λ e. g (omega (arith, e)))

  same-times : (u 8 ≡ v 8) × (u 9 ≡ v 9)
  same-times =
      record-says c.stop u v d.interchanges x.own_times y.own_times
      (λ o. let a = x.first_times o in let b = y.first_times o in let e : a.0 ≡ b.0 = some_one (sym a.1 ∙ b.1) in
      (a.2 ∙ (ap (λ (z : Interchange). z.first_time) e ∙ sym b.2), a.3 ∙ (ap (λ (z : Interchange). z.second_time) e ∙ sym b.3)))
    where
      some_one : {a b : Interchange} → some a ≡ some b → a ≡ b
      some_one e = cc

  same-words : (j : ℕ) → j < row_size → u j ≡ v j
  same-words zero h = x.stop ∙ sym y.stop
  same-words (suc zero) h = first-or (λ e. (x.first_row e).0 ∙ sym (y.first_row e).0) (λ e. x.arrival e ∙ sym (y.arrival e))
  same-words (suc (suc zero)) h = last_or (λ e. (x.last_row e).0 ∙ sym (y.last_row e).0) (λ e. x.departure e ∙ sym (y.departure e))
  same-words (suc (suc (suc zero))) h =
      same_flags (u 3) (v 3) x.four_flags y.four_flags
      (first-or (λ e. (x.first_row e).1 ∙ sym (y.first_row e).1) (λ e. (x.arriving e).0 ∙ sym (y.arriving e).0))
      (last_or (λ e. (x.last_row e).1 ∙ sym (y.last_row e).1) (λ e. (x.departing e).0 ∙ sym (y.departing e).0))
      (first-or (λ e. (x.first_row e).2 ∙ sym (y.first_row e).2) (λ e. (x.arriving e).1 ∙ sym (y.arriving e).1))
      (last_or (λ e. (x.last_row e).2 ∙ sym (y.last_row e).2) (λ e. (x.departing e).1 ∙ sym (y.departing e).1))
  same-words (suc (suc (suc (suc zero)))) h = x.number ∙ sym y.number
  same-words (suc (suc (suc (suc (suc zero))))) h = x.administration.0 ∙ sym y.administration.0
  same-words (suc (suc (suc (suc (suc (suc zero)))))) h = x.administration.1 ∙ sym y.administration.1
  same-words (suc (suc (suc (suc (suc (suc (suc zero))))))) h =
      last_or (λ e. (x.last_row e).3 ∙ sym (y.last_row e).3)
      (λ e. one-says (λ (g : CategoryRange). covers leg g.legs) (λ (g : CategoryRange). g.name) (u 7) (v 7) s.categories (x.one_category e) (x.category e) (y.category e))
  same-words (suc (suc (suc (suc (suc (suc (suc (suc zero)))))))) h = same-times.0
  same-words (suc (suc (suc (suc (suc (suc (suc (suc (suc zero))))))))) h = same-times.1
  same-words (suc (suc (suc (suc (suc (suc (suc (suc (suc (suc j)))))))))) h = absurd (omega arith)

module _ (d : Delivery) (s : Service) (r k : ℕ) where
  pub same_rows : {v w : List ℕ} (x : Stretched d s r k v) (y : Stretched d s r k w) → v ≡ w
  same_rows {v} {w} x y = ext_get_or 0 v w (omega (arith, x.size, y.size, legs)) each
    where
      start : x.start ≡ y.start
      start = same_start d s k x.unbroken y.unbroken

      legs : x.legs ≡ y.legs
      legs = same-legs d s k x.unbroken y.unbroken

      other : (q : ℕ) → q ≤ x.legs → Row d s (lateness s.opening r) x.legs q (x.start + q) (call_no s (x.start + q)) (row_word w q)
      other q l =
          subst (λ (a : ℕ). Row d s (lateness s.opening r) x.legs q (a + q) (call_no s (a + q)) (row_word w q)) (sym start)
          (subst (λ (n : ℕ). Row d s (lateness s.opening r) n q (y.start + q) (call_no s (y.start + q)) (row_word w q)) (sym legs) (y.row q (omega (arith, legs))))

      each : (p : ℕ) → p < length v → get_or v p 0 ≡ get_or w p 0
      each p l =
          let z : row_size * (p / row_size) + p % row_size ≡ p = omega arith in
          let h = x.size in
          let e = same-words d s (lateness s.opening r) x.legs (p / row_size) (x.start + p / row_size) (call_no s (x.start + p / row_size)) (row_word v (p / row_size)) (row_word w (p / row_size)) (x.row (p / row_size) (omega arith)) (other (p / row_size) (omega arith)) (omega arith) (p % row_size) (omega arith) in
          ap (λ (i : ℕ). get_or v i 0) (sym z) ∙ (e ∙ ap (λ (i : ℕ). get_or w i 0) z)

  pub no-slack : (lent : List ℕ) {a b : Walked} {v w : List ℕ} → Walk d s r k lent a v → Walk d s r k lent b w → (a ≡ b) × (v ≡ w)
  no-slack lent (not_running p) (not_running q) = (refl, refl)
  no-slack lent (not_running p) (short y l) = absurd (never_both d s k p y.unbroken)
  no-slack lent (not_running p) (runs y l) = absurd (never_both d s k p y.unbroken)
  no-slack lent (short x h) (not_running q) = absurd (never_both d s k q x.unbroken)
  no-slack lent (short x h) (short y l) = (ap (λ (n : ℕ). Err (walk_refusal TooFewWords (row_size * (n + 1)))) (same-legs d s k x.unbroken y.unbroken), refl)
  no-slack lent (short x h) (runs y l) = let e = same-legs d s k x.unbroken y.unbroken in absurd (omega arith)
  no-slack lent (runs x h) (not_running q) = absurd (never_both d s k q x.unbroken)
  no-slack lent (runs x h) (short y l) = let e = same-legs d s k x.unbroken y.unbroken in absurd (omega arith)
  no-slack lent (runs x h) (runs y l) = (ap (λ (n : ℕ). Ok (Some (n + 1))) (same-legs d s k x.unbroken y.unbroken), ap (λ (u : List ℕ). onto u lent) (same_rows x y))
