-- A line of BITFELD or FPLAN with another bit field number says the same, but for that number. Assumes nothing.
use mathlib.Core.Path.{◌≡◌, refl, sym, ap, ◌∙◌}
use mathlib.Core.List.{List, [], ◌∷◌, ◌++◌, append_assoc, append-nil}
use mathlib.Core.Bool.{Bool, true, false, cond}
use Prim.Native.Nat.{ℕ, ◌+◌, ◌-◌, ◌%◌, ◌/◌, ◌≤◌, ◌<◌}
use native.Mathlib.Omega.{arith}
use lib.ListN.{length, get_or, take, drop, length-append, length-drop, take-append-drop}
use lib.Seq.{drop-drop, length-take-le, get_or-append-add}
use lib.Dec.{eqb}
use borrow.Author.Tests.{ne_eqb}
use Rattle.base.specs.Lists.{every}
use Rattle.base.proofs.Loops.{and-true}
use Rattle.columns.specs.Columns.{columns, is_digit, digits, number}
use Rattle.columns.proofs.Laws.{columns-lt, every-long}
use Rattle.forms.specs.Kinds.{kind_of}
use Rattle.line_text.specs.Text.{decimal}
use Rattle.line_text.specs.Laid.{not_lf}
use Rattle.line_text.proofs.Numbers.{every_append, length-decimal, every-decimal, digits_decimal, number-decimal}
use Rattle.isolation.specs.Rename.{renumbered, is_attribute, field_line, plan_line}
use Rattle.isolation.proofs.Columns.{SameBut, same_length, columns-there}

-- ---- six digits in place of six digits

module _ (σ : ℕ → ℕ) (c : ℕ) (from : 1 ≤ c) (t : List ℕ) (d : digits (columns c (c + 5) t) ≡ true) where
  long : c + 5 ≤ length t
  long = every-long is_digit refl c (c + 5) t from (omega arith) d

  abbrev now : ℕ
  now = σ (number (columns c (c + 5) t))

  changed-is : renumbered σ c t ≡ take (c - 1) t ++ (decimal 6 now ++ drop (c + 5) t)
  unfolding renumbered
  changed-is = rw d

  pub digits-changed : SameBut (c - 1) 6 t (renumbered σ c t)
  digits-changed =
      let l = long in
      let e : c - 1 + 6 ≡ c + 5 = omega (arith, from) in
      record {
        front = take (c - 1) t;
        here = take 6 (drop (c - 1) t);
        there = decimal 6 now;
        behind = drop (c + 5) t;
        front_length = length-take-le (c - 1) t (omega (arith, l));
        here-length = let z = length-drop (c - 1) t in length-take-le 6 (drop (c - 1) t) (omega (arith, l, z));
        there-length = length-decimal 6 now;
        first = sym (ap (λ (r : List ℕ). take (c - 1) t ++ r) (ap (λ (r : List ℕ). take 6 (drop (c - 1) t) ++ r) (ap (λ (k : ℕ). drop k t) (sym e) ∙ sym (drop-drop 6 (c - 1) t)) ∙ take-append-drop 6 (drop (c - 1) t)) ∙ take-append-drop (c - 1) t);
        second = changed-is;
      }

  pub now-there : columns c (c + 5) (renumbered σ c t) ≡ decimal 6 now
  unfolding digits-changed
  now-there = columns-there (c - 1) 6 t (renumbered σ c t) digits-changed c (c + 5) (omega (arith, from)) (omega (arith, from))

  pub now-digits : digits (columns c (c + 5) (renumbered σ c t)) ≡ true
  now-digits = rw now-there (digits_decimal 6 now)

  pub now-number : ((n : ℕ) → n < 1000000 → σ n < 1000000) → number (columns c (c + 5) (renumbered σ c t)) ≡ now
  now-number six =
      let e : c + 5 - (c - 1) ≡ 6 = omega (arith, from) in
      let z = rw e at (columns-lt c (c + 5) t) in
      rw now-there (number-decimal 6 now (six (number (columns c (c + 5) t)) z))

pub same_line : (σ : ℕ → ℕ) (c : ℕ) (t : List ℕ) → digits (columns c (c + 5) t) ≡ false → renumbered σ c t ≡ t
unfolding renumbered
same_line σ c t e = rw e

-- ---- the line stays a line: as long, without an LF, and without a CR at its end

abbrev pub last_byte : List ℕ → ℕ
last_byte l = get_or l (length l - 1) 0

pub record Safe (change : List ℕ → List ℕ) : Type 0 where
  pub length-kept : (t : List ℕ) → length (change t) ≡ length t
  pub no_lf : (t : List ℕ) → every not_lf t ≡ true → every not_lf (change t) ≡ true
  pub no-CR : (t : List ℕ) → eqb (last_byte t) 13 ≡ false → eqb (last_byte (change t)) 13 ≡ false

pub last-append : (x y : List ℕ) (b : ℕ) → last_byte (x ++ (b ∷ y)) ≡ last_byte (b ∷ y)
last-append x y b =
    let e : length (x ++ (b ∷ y)) - 1 ≡ length x + (length (b ∷ y) - 1) = let z = length-append x (b ∷ y) in omega (arith, z) in
    ap (λ (k : ℕ). get_or (x ++ (b ∷ y)) k 0) e ∙ get_or-append-add x (b ∷ y) (length (b ∷ y) - 1) 0

digit-byte : (n : ℕ) → eqb (48 + n % 10) 13 ≡ false
digit-byte n = ne_eqb (48 + n % 10) 13 (λ e. omega (arith, e))

digit-not-LF : (n : ℕ) → not_lf (48 + n % 10) ≡ true
digit-not-LF n = rw (ne_eqb (48 + n % 10) 10 (λ e. omega (arith, e)))

last-digit : (a : List ℕ) (n : ℕ) → eqb (last_byte (a ++ decimal 6 n)) 13 ≡ false
unfolding decimal
last-digit a n = ap (λ (b : ℕ). eqb b 13) (ap last_byte (sym (append_assoc a (decimal 5 (n / 10)) ((48 + n % 10) ∷ []))) ∙ last-append (a ++ decimal 5 (n / 10)) [] (48 + n % 10)) ∙ digit-byte n

-- of the two lines, the first's last byte is no CR
kept-end : (a x y r : List ℕ) → eqb (last_byte (a ++ y)) 13 ≡ false → eqb (last_byte (a ++ (x ++ r))) 13 ≡ false → eqb (last_byte (a ++ (y ++ r))) 13 ≡ false
kept-end a x y [] h e = rw (append-nil y) h
kept-end a x y (b ∷ r) h e =
    let last_of : (z : List ℕ) → last_byte (a ++ (z ++ (b ∷ r))) ≡ last_byte (b ∷ r) = λ z. ap last_byte (sym (append_assoc a z (b ∷ r))) ∙ last-append (a ++ z) r b in
    ap (λ (k : ℕ). eqb k 13) (last_of y ∙ sym (last_of x)) ∙ e

kept-LF : (a x y r : List ℕ) → every not_lf y ≡ true → every not_lf (a ++ (x ++ r)) ≡ true → every not_lf (a ++ (y ++ r)) ≡ true
kept-LF a x y r h e =
    let p = and-true (every not_lf a) (every not_lf (x ++ r)) (sym (every_append not_lf a (x ++ r)) ∙ e) in
    let q = and-true (every not_lf x) (every not_lf r) (sym (every_append not_lf x r) ∙ p.1) in
    every_append not_lf a (y ++ r) ∙ rw (p.0, every_append not_lf y r, h, q.1)

module _ (σ : ℕ → ℕ) (c : ℕ) (from : 1 ≤ c) where
  pub renumbered-safe : Safe (renumbered σ c)
  unfolding digits-changed
  renumbered-safe = record { length-kept = λ t. long-by t (digits (columns c (c + 5) t)) refl; no_lf = λ t. LF-by t (digits (columns c (c + 5) t)) refl; no-CR = λ t. CR-by t (digits (columns c (c + 5) t)) refl }
    where
      long-by : (t : List ℕ) (b : Bool) → digits (columns c (c + 5) t) ≡ b → length (renumbered σ c t) ≡ length t
      long-by t true d = sym (same_length (c - 1) 6 t (renumbered σ c t) (digits-changed σ c from t d))
      long-by t false d = ap length (same_line σ c t d)

      LF-by : (t : List ℕ) (b : Bool) → digits (columns c (c + 5) t) ≡ b → every not_lf t ≡ true → every not_lf (renumbered σ c t) ≡ true
      LF-by t true d e =
          let h = digits-changed σ c from t d in
          rw h.second (kept-LF h.front h.here h.there h.behind (every-decimal not_lf digit-not-LF 6 _) (ap (every not_lf) (sym h.first) ∙ e))
      LF-by t false d e = rw (same_line σ c t d) e

      CR-by : (t : List ℕ) (b : Bool) → digits (columns c (c + 5) t) ≡ b → eqb (last_byte t) 13 ≡ false → eqb (last_byte (renumbered σ c t)) 13 ≡ false
      CR-by t true d e =
          let h = digits-changed σ c from t d in
          ap (λ (l : List ℕ). eqb (last_byte l) 13) h.second
          ∙ kept-end h.front h.here h.there h.behind (last-digit h.front _) (ap (λ (l : List ℕ). eqb (last_byte l) 13) (sym h.first) ∙ e)
      CR-by t false d e = rw (same_line σ c t d) e

-- one change or none
either-safe : (test : List ℕ → Bool) (change : List ℕ → List ℕ) → Safe change → Safe (λ (t : List ℕ). cond (test t) (change t) t)
either-safe test change h = record { length-kept = λ t. long-by t (test t); no_lf = λ t. LF-by t (test t); no-CR = λ t. CR-by t (test t) }
  where
    long-by : (t : List ℕ) (b : Bool) → length (cond b (change t) t) ≡ length t
    long-by t true = h.length-kept t
    long-by t false = refl

    LF-by : (t : List ℕ) (b : Bool) → every not_lf t ≡ true → every not_lf (cond b (change t) t) ≡ true
    LF-by t true e = h.no_lf t e
    LF-by t false e = e

    CR-by : (t : List ℕ) (b : Bool) → eqb (last_byte t) 13 ≡ false → eqb (last_byte (cond b (change t) t)) 13 ≡ false
    CR-by t true e = h.no-CR t e
    CR-by t false e = e

pub field-safe : (σ : ℕ → ℕ) → Safe (field_line σ)
field-safe σ = renumbered-safe σ 1 (omega arith)

pub plan-safe : (σ : ℕ → ℕ) → Safe (plan_line σ)
unfolding plan_line
plan-safe σ = either-safe (λ (t : List ℕ). is_attribute (kind_of t)) (renumbered σ 23) (renumbered-safe σ 23 (omega arith))
