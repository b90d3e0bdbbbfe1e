-- The form of a line tells the leftmost of all that breaks it, for every kind of line. Assumes nothing.
use Prim.Native.Nat.{ℕ, zero, suc, ◌+◌, ◌-◌, ◌<◌, ◌≤◌}
use native.Mathlib.Omega.{arith}
use mathlib.Core.Path.{◌≡◌, refl, ap, sym, subst, ◌∙◌}
use mathlib.Core.List.{List, [], ◌∷◌}
use mathlib.Core.Bool.{Bool, true, false, cond, ◌&&◌}
use mathlib.Core.Logic.{◌⊎◌, inl, inr}
use lib.ListN.{length, get_or, drop, get_or-eq_default}
use lib.Seq.{get_or-drop}
use lib.Dec.{ltb, leb}
use borrow.Author.Tests.{ltb-true, leb-true}
use Rattle.base.specs.Lists.{All, nil, cons}
use Rattle.base.proofs.Laws.{clash, apart, by-ltb}
use Rattle.base.proofs.Loops.{and-true}
use Rattle.columns.specs.Columns as C
use Rattle.forms.specs.Form.{Form, Fits, Broken, FieldRule, before, stray_from, unnamed, broken_unless, row_form, form_from, form_of}
use Rattle.forms.specs.declared.LineKind.{LineKind}
use Rattle.forms.specs.declared.LineKind.TheVariants.{Date, BitField, Stop, Interchange, CategoryClass, Opening, Frequency, Category, Attribute, Schedule}
use Rattle.forms.specs.Columns.{columns_of}
use Rattle.forms.specs.Leftmost.{FieldBreaks, here, there, Stray, Breaks, field, stray, Leftmost}

-- ---- unnamed columns

-- w columns from column c on, where l is what the line has from there: all are blank, or those before the answer are, and it is not
abbrev Run : ℕ → ℕ → List ℕ → Form → Type 0
Run c w l Fits = (i : ℕ) → i < w → C.is_blank (get_or l i 32) ≡ true
Run c w l (Broken k) = (c ≤ k) × (k < c + w) × (C.is_blank (get_or l (k - c) 32) ≡ false) × ((i : ℕ) → c + i < k → C.is_blank (get_or l i 32) ≡ true)

module _ (c w b : ℕ) (l : List ℕ) where
  one_more : C.is_blank b ≡ true → (f : Form) → Run (c + 1) w l f → Run c (suc w) (b ∷ l) f
  one_more e Fits h = all
    where
      all : (i : ℕ) → i < suc w → C.is_blank (get_or (b ∷ l) i 32) ≡ true
      all zero k = e
      all (suc i) k = h i (omega arith)
  one_more e (Broken k) h = (omega (arith, h.0), omega (arith, h.1), subst (λ (i : ℕ). C.is_blank (get_or (b ∷ l) i 32) ≡ false) place h.2, before-it)
    where
      place : suc (k - (c + 1)) ≡ k - c
      place = omega (arith, h.0)

      before-it : (i : ℕ) → c + i < k → C.is_blank (get_or (b ∷ l) i 32) ≡ true
      before-it zero q = e
      before-it (suc i) q = h.3 i (omega arith)

run : (c w : ℕ) (l : List ℕ) → Run c w l (stray_from c w l)
unfolding stray_from
run c zero l = λ i h. absurd (omega arith)
run c (suc w) [] = λ i h. refl
run c (suc w) (b ∷ l) = go (C.is_blank b) refl (run (c + 1) w l)
  where
    go : (t : Bool) → C.is_blank b ≡ t → Run (c + 1) w l (stray_from (c + 1) w l) → Run c (suc w) (b ∷ l) (cond t (stray_from (c + 1) w l) (Broken c))
    go true e h = one_more c w b l e (stray_from (c + 1) w l) h
    go false e h = let z : 0 ≡ c - c = omega arith in (omega arith, omega arith, subst (λ (i : ℕ). C.is_blank (get_or (b ∷ l) i 32) ≡ false) z e, λ i h. absurd (omega arith))

-- the same of the columns past `done` up to column e of a line
abbrev Gap : List ℕ → ℕ → ℕ → Form → Type 0
Gap line done e Fits = (d : ℕ) → done < d → d ≤ e → C.is_blank (C.column d line) ≡ true
Gap line done e (Broken c) = (done < c) × (c ≤ e) × (C.is_blank (C.column c line) ≡ false) × ((d : ℕ) → done < d → d < c → C.is_blank (C.column d line) ≡ true)

module _ (line : List ℕ) (done e : ℕ) where
  -- column d of the line, among the columns past `done`
  behind : (d : ℕ) → done < d → get_or (drop done line) (d - (done + 1)) 32 ≡ C.column d line
  behind d h = get_or-drop done line (d - (done + 1)) 32 ∙ ap (λ (i : ℕ). get_or line i 32) place
    where
      place : done + (d - (done + 1)) ≡ d - 1
      place = omega arith

  is : (d : ℕ) (t : Bool) → done < d → C.is_blank (get_or (drop done line) (d - (done + 1)) 32) ≡ t → C.is_blank (C.column d line) ≡ t
  is d t h e = sym (ap C.is_blank (behind d h)) ∙ e

  gap : Gap line done e (unnamed done e line)
  unfolding unnamed
  gap = go (stray_from (done + 1) (e - done) (drop done line)) (run (done + 1) (e - done) (drop done line))
    where
      go : (f : Form) → Run (done + 1) (e - done) (drop done line) f → Gap line done e f
      go Fits h = λ d p q. is d true p (h (d - (done + 1)) (omega arith))
      go (Broken c) h =
          (omega (arith, h.0), omega (arith, h.0, h.1), is c false (omega (arith, h.0)) h.2, λ d p q. is d true p (h.3 (d - (done + 1)) (omega arith)))

-- ---- rows

-- each row starts past the one before it, and ends where it starts or later
unfoldable in_order : ℕ → List FieldRule → Bool
in_order done [] = true
in_order done (x ∷ xs) = ltb done x.from && (leb x.from x.to && in_order x.to xs)

module _ (line : List ℕ) where
  ordered : (done : ℕ) (x : FieldRule) (xs : List FieldRule) → in_order done (x ∷ xs) ≡ true → (done < x.from) × (x.from ≤ x.to) × (in_order x.to xs ≡ true)
  unfolding in_order
  ordered done x xs o =
      let p = and-true (ltb done x.from) (leb x.from x.to && in_order x.to xs) o in
      let q = and-true (leb x.from x.to) (in_order x.to xs) p.1 in
      (ltb-true done x.from p.0, leb-true x.from x.to q.0, q.1)

  -- a field that breaks the form starts past what is done
  fields-past : {rows : List FieldRule} {c : ℕ} → (done : ℕ) → in_order done rows ≡ true → FieldBreaks line rows c → done < c
  fields-past done o (here {x} {xs} e) = (ordered done x xs o).0
  fields-past done o (there {x} {xs} {c} b) =
      let p = ordered done x xs o in
      let r = fields-past x.to p.2 b in
      omega (arith, p.0, p.1, r)

  -- an unnamed column that is left of every row is named by none
  left-of-all : (c done : ℕ) (rows : List FieldRule) → in_order done rows ≡ true → c ≤ done → All (λ (x : FieldRule). (c < x.from) ⊎ (x.to < c)) rows
  left-of-all c done [] o h = nil
  left-of-all c done (x ∷ xs) o h =
      let p = ordered done x xs o in
      let l : c < x.from = omega (arith, p.0) in
      cons (inl l) (left-of-all c x.to xs p.2 (omega (arith, p.0, p.1)))

  -- a field that breaks the form starts at the first row or past it
  fields-from : {d : ℕ} (done : ℕ) (x : FieldRule) (xs : List FieldRule) → in_order done (x ∷ xs) ≡ true → FieldBreaks line (x ∷ xs) d → x.from ≤ d
  fields-from done x xs o (here e) = omega arith
  fields-from done x xs o (there b) = let p = ordered done x xs o in omega (arith, p.1, fields-past x.to p.2 b)

  -- a stray column stands at the first that is not blank or past it
  strays-from : {rows : List FieldRule} (done e c d : ℕ) → Gap line done e (Broken c) → Stray line done rows d → c ≤ d
  strays-from done e c d g s = by-ltb (λ t. c ≤ d) d c (λ h. clash (sym s.filled ∙ g.3 d s.past h)) (λ h. h)

  -- ---- one row, after the columns up to `done`

  module _ (done : ℕ) (x : FieldRule) (xs : List FieldRule) (o : in_order done (x ∷ xs) ≡ true) where
    -- where the columns left of it are blank, what breaks the form starts with the row or past it
    from_row : (d : ℕ) → Gap line done (x.from - 1) Fits → Breaks line done (x ∷ xs) d → x.from ≤ d
    from_row d g (field b) = fields-from done x xs o b
    from_row d g (stray s) = go s.unnamed
      where
        go : All (λ (y : FieldRule). (d < y.from) ⊎ (y.to < d)) (x ∷ xs) → x.from ≤ d
        go (cons (inl l) us) = clash (sym s.filled ∙ g d s.past (omega arith))
        go (cons (inr l) us) = let p = ordered done x xs o in omega (arith, p.1)

    -- and past its end where the row is as asked
    past_row : (d : ℕ) → Gap line done (x.from - 1) Fits → x.rule line (C.columns x.from x.to line) ≡ true → Breaks line done (x ∷ xs) d → Breaks line x.to xs d
    past_row d g t (field (here e)) = clash (sym e ∙ t)
    past_row d g t (field (there b)) = field b
    past_row d g t (stray s) = go s.unnamed
      where
        go : All (λ (y : FieldRule). (d < y.from) ⊎ (y.to < d)) (x ∷ xs) → Breaks line x.to xs d
        go (cons (inl l) us) = clash (sym s.filled ∙ g d s.past (omega arith))
        go (cons (inr l) us) = stray (record { past = l; unnamed = us; filled = s.filled })

    -- what breaks the form past the row does so after it
    wider : (d : ℕ) → Breaks line x.to xs d → Breaks line done (x ∷ xs) d
    wider d (field b) = field (there b)
    wider d (stray s) = let p = ordered done x xs o in let q = s.past in stray (record { past = omega (arith, p.0, p.1, q); unnamed = cons (inr q) s.unnamed; filled = s.filled })

    after-row : (f : Form) → Gap line done (x.from - 1) Fits → x.rule line (C.columns x.from x.to line) ≡ true → Leftmost line x.to xs f → Leftmost line done (x ∷ xs) f
    after-row Fits g t h = λ d b. h d (past_row d g t b)
    after-row (Broken c) g t h = (wider c h.0, λ d b. h.1 d (past_row d g t b))

    at_row : Gap line done (x.from - 1) Fits → x.rule line (C.columns x.from x.to line) ≡ false → Leftmost line done (x ∷ xs) (Broken x.from)
    at_row g t = (field (here t), λ d b. from_row d g b)

    before-row : (c : ℕ) → Gap line done (x.from - 1) (Broken c) → Leftmost line done (x ∷ xs) (Broken c)
    before-row c g = (stray (record { past = g.0; unnamed = cons (inl left) (left-of-all c x.to xs (ordered done x xs o).2 right); filled = g.2 }), least)
      where
        left : c < x.from
        left = let p = ordered done x xs o in omega (arith, g.1, p.0)

        right : c ≤ x.to
        right = let p = ordered done x xs o in omega (arith, left, p.1)

        least : (d : ℕ) → Breaks line done (x ∷ xs) d → c ≤ d
        least d (field b) = let q = fields-from done x xs o b in omega (arith, left, q)
        least d (stray s) = strays-from done (x.from - 1) c d g s

    row : (f : Form) → Leftmost line x.to xs f → Leftmost line done (x ∷ xs) (before (row_form done x line) f)
    unfolding row_form
    row f h = go (unnamed done (x.from - 1) line) (x.rule line (C.columns x.from x.to line)) refl (gap line done (x.from - 1))
      where
        go : (u : Form) (t : Bool) → x.rule line (C.columns x.from x.to line) ≡ t → Gap line done (x.from - 1) u → Leftmost line done (x ∷ xs) (before (before u (broken_unless x.from t)) f)
        go (Broken c) t e g = before-row c g
        go Fits true e g = after-row f g e h
        go Fits false e g = at_row g e

  -- ---- past the last row

  past_end : (d : ℕ) → length line < d → C.is_blank (C.column d line) ≡ true
  past_end d h = ap C.is_blank (get_or-eq_default line 32 {n = d - 1} (omega arith))

  last-columns : (done : ℕ) → Leftmost line done [] (unnamed done (length line) line)
  last-columns done = go (unnamed done (length line) line) (gap line done (length line))
    where
      none : (d : ℕ) → Gap line done (length line) Fits → Breaks line done [] d → ⊥
      none d g (field b) = elim b [ ]
      none d g (stray s) = by-ltb (λ t. ⊥) (length line) d (λ h. clash (sym s.filled ∙ past_end d h)) (λ h. clash (sym s.filled ∙ g d s.past h))

      least : (c d : ℕ) → Gap line done (length line) (Broken c) → Breaks line done [] d → c ≤ d
      least c d g (field b) = elim b [ ]
      least c d g (stray s) = strays-from done (length line) c d g s

      go : (f : Form) → Gap line done (length line) f → Leftmost line done [] f
      go Fits g = λ d b. none d g b
      go (Broken c) g = (stray (record { past = g.0; unnamed = nil; filled = g.2 }), λ d b. least c d g b)

  form-leftmost : (done : ℕ) (rows : List FieldRule) → in_order done rows ≡ true → Leftmost line done rows (form_from done rows line)
  unfolding form_from
  form-leftmost done [] o = last-columns done
  form-leftmost done (x ∷ xs) o = row done x xs o (form_from x.to xs line) (form-leftmost x.to xs (ordered done x xs o).2)

-- ---- every kind of line

in-order : (kind : LineKind) → in_order 0 (columns_of kind) ≡ true
unfolding in_order
in-order Date = refl
in-order BitField = refl
in-order Stop = refl
in-order Interchange = refl
in-order CategoryClass = refl
in-order Opening = refl
in-order Frequency = refl
in-order Category = refl
in-order Attribute = refl
in-order Schedule = refl

-- "the column where the leftmost field or unnamed column that breaks the form starts"
pub leftmost : (kind : LineKind) (line : List ℕ) → Leftmost line 0 (columns_of kind) (form_of (columns_of kind) line)
leftmost kind line = form-leftmost line 0 (columns_of kind) (in-order kind)

-- columns count from 1
pub broken-from-1 : (kind : LineKind) (line : List ℕ) (c : ℕ) → form_of (columns_of kind) line ≡ Broken c → 1 ≤ c
broken-from-1 kind line c e = go (form_of (columns_of kind) line) (leftmost kind line) e
  where
    past : (d : ℕ) → Breaks line 0 (columns_of kind) d → 1 ≤ d
    past d (field b) = fields-past line 0 (in-order kind) b
    past d (stray s) = s.past

    go : (f : Form) → Leftmost line 0 (columns_of kind) f → f ≡ Broken c → 1 ≤ c
    go Fits h e = apart (cc)
    go (Broken d) h e = let z : d ≡ c = cc in let p = past d h.0 in omega (arith, z, p)
