-- A schedule line that was checked has its mark in column 59: the needs of `cut_again`, for `search cuts-again`, and what `read_again` knows for it.
-- Assumes nothing.
use mathlib.Core.Path.{◌≡◌, refl, sym, ap, ◌∙◌}
use mathlib.Core.List.{List, [], ◌∷◌}
use mathlib.Core.Bool.{Bool, true, false, cond}
use Prim.Native.Nat.{ℕ, zero, suc, ◌+◌, ◌-◌, ◌≤◌, ◌<◌}
use native.Mathlib.Nat.{add-sub_cancel_left}
use native.Mathlib.Omega.{arith}
use lib.ListN.{length, get_or, take, drop, length-take}
use lib.Seq.{length-take-le}
use lib.Dec.{eqb}
use borrow.Author.Tests.{ne_eqb, leb-true}
use borrow.Author.Rules.{rules}
use Rattle.base.proofs.Laws.{clash, drop-next, tests}
use Rattle.base.proofs.Loops.{and-true}
use Rattle.columns.specs.Columns.{column, is_digit}
use Rattle.columns.proofs.Laws.{every-long}
use Rattle.lines.specs.Lines.{to_lf, no_cr, cut_at}
use Rattle.lines.proofs.Pieces.{to_lf-le, no_cr-take, one-beyond}
use Rattle.forms.specs.Form.{form_of, Form, Fits, Broken as BrokenForm}
use Rattle.forms.specs.Columns.{call_columns}
use Rattle.forms.specs.Kinds.{kind_of}
use Rattle.forms.specs.declared.Kind.TheVariants.{Schedule}
use Rattle.forms.proofs.Laws.{row-holds}
use Rattle.told.proofs.Laws.{told-own}
use Rattle.timetable.specs.Plan.{call_in, formed, told_in, is_opening}
use Rattle.timetable.specs.declared.Opening.{Opening}
use Rattle.timetable.specs.declared.Told.{Told}
use Rattle.timetable.specs.declared.Told.TheVariants.{Calls}
use Rattle.draft.specs.declared.Counts.{Counts}
use Rattle.reading.specs.Inner.Reading.{service_lines_at, Sound, Reaching, is_formed}
use Rattle.reading.proofs.Passing.{Passed, again-formed}

-- ---- the text of a line that begins with a digit

-- no more of the piece than its CR is dropped
some_left : (b : ℕ) (q : List ℕ) → (b ≡ 13 → ⊥) → 1 ≤ length (no_cr (b ∷ q))
unfolding no_cr
some_left b [] n = rw (ne_eqb b 13 n) (omega arith)
some_left b (c ∷ q) n = go (eqb (get_or (b ∷ c ∷ q) (length (b ∷ c ∷ q) - 1) 0) 13)
  where
    go : (t : Bool) → 1 ≤ length (cond t (take (length (b ∷ c ∷ q) - 1) (b ∷ c ∷ q)) (b ∷ c ∷ q))
    go true = omega (arith, length-take-le (length (b ∷ c ∷ q) - 1) (b ∷ c ∷ q) (omega arith))
    go false = omega arith

first_byte : (b : ℕ) (s : List ℕ) (k : ℕ) → 1 ≤ k → column 1 (take k (b ∷ s)) ≡ b
first_byte b s zero h = absurd (omega arith)
first_byte b s (suc k) h = refl

digit_low : (b : ℕ) → is_digit b ≡ true → 48 ≤ b
digit_low b d = leb-true 48 b (and-true _ _ d).0

module _ (f : List ℕ) (at n : ℕ) (h : at < length f) (d : is_digit (get_or f at 0) ≡ true) where
  abbrev rest : List ℕ
  rest = drop at f

  -- how long the text is
  abbrev width : ℕ
  width = length (no_cr (take (to_lf (drop at f)) (drop at f)))

  rest-is : drop at f ≡ get_or f at 0 ∷ drop (at + 1) f
  rest-is = drop-next f at (get_or f at 0) h refl

  width_some : 1 ≤ width
  width_some = go (to_lf (drop at f)) (one-beyond f at h (λ z. omega (arith, digit_low (get_or f at 0) d))) (drop at f) rest-is
    where
      go : (k : ℕ) → 1 ≤ k → (s : List ℕ) → s ≡ get_or f at 0 ∷ drop (at + 1) f → 1 ≤ length (no_cr (take k s))
      go zero l s e = absurd (omega arith)
      go (suc k) l s e = rw e (some_left (get_or f at 0) (take k (drop (at + 1) f)) (λ z. omega (arith, digit_low (get_or f at 0) d)))

  width-most : width ≤ to_lf (drop at f)
  width-most = omega (arith, (no_cr-take (take (to_lf (drop at f)) (drop at f))).1, length-take-le (to_lf (drop at f)) (drop at f) (to_lf-le (drop at f)))

  text-is : take ((cut_at f at n).stop - at) (drop at f) ≡ take width (drop at f)
  unfolding cut_at
  text-is = rw (add-sub_cancel_left at width) refl

  digit-first : column 1 (take ((cut_at f at n).stop - at) (drop at f)) ≡ get_or f at 0
  digit-first = rw (text-is, rest-is) (first_byte (get_or f at 0) (drop (at + 1) f) _ (rw rest-is at width_some))

  text-reaches : 59 ≤ length (take ((cut_at f at n).stop - at) (drop at f)) → 59 ≤ to_lf (drop at f)
  text-reaches l =
      let k : 59 ≤ length (take width (drop at f)) = rw text-is at l in
      omega (arith, width-most, length-take width (drop at f))

-- ---- its form

digit-kind : (text : List ℕ) (b : ℕ) → column 1 text ≡ b → is_digit b ≡ true → kind_of text ≡ Schedule
unfolding kind_of
digit-kind text b e d = rw (e, ne_eqb b 42 (λ z. omega (arith, digit_low b d)), d) refl

formed-fits : (g : Form) (t : Told) → is_formed (formed g t) ≡ true → g ≡ Fits
formed-fits Fits t e = refl
formed-fits (BrokenForm c) t e = clash e

pub again-reaching : (f : List ℕ) (at n : ℕ) (opening : Opening) (e m : ℕ) (k : Counts) (calls ranges : List ℕ) → Passed f at n opening e m k calls ranges
    → e < length f → Sound (service_lines_at f at n) → Reaching f e
again-reaching f at n opening e m k calls ranges p h s = record {
  long = λ d.
      let text : List ℕ = take ((cut_at f e m).stop - e) (drop e f) in
      let q : kind_of text ≡ Schedule = digit-kind text (get_or f e 0) (digit-first f e m h d) d in
      let g : is_formed (told_in text) ≡ true = again-formed f at n opening e m k calls ranges p (cut_at f e m) (kind_of text) (is_opening (kind_of text)) h refl refl refl (ap is_opening q) s in
      let z : told_in text ≡ formed (form_of call_columns text) (Calls (call_in text)) = told-own text Schedule (sym q) refl in
      text-reaches f e m h d (every-long (λ (b : ℕ). eqb b 37) refl 59 59 text (omega arith) (omega arith) (row-holds call_columns text 7 (formed-fits (form_of call_columns text) (Calls (call_in text)) (ap is_formed (sym z) ∙ g))));
}

-- ---- t is whether the line begins with a digit

pub digit-reaches : (f : List ℕ) (at : ℕ) (t : Bool) → Reaching f at → t ≡ is_digit (get_or f at 0) → t ≡ true → 59 ≤ to_lf (drop at f)
digit-reaches f at t w e y = w.long (sym e ∙ y)

pub at-inside : (f : List ℕ) (at : ℕ) → at < length f → at ≤ length f
at-inside f at h = omega arith

pub ruleset cuts-again = (tests, digit-reaches, at-inside)

pub ruleset reaching = (rules, again-reaching)
