-- Laws for those who walk a file by `line_at`: what a cut says of the lines from a place on, and how many lines there are.
-- What holds of a part of a file is in Parts.antt (`lines-parts`, `part-lines`, `LineStart`). Assumes nothing.
use mathlib.Core.Path.{◌≡◌, refl, ap, ◌∙◌}
use mathlib.Core.List.{List, [], ◌∷◌, ◌++◌}
use Prim.Native.Nat.{ℕ, suc, ◌+◌, ◌-◌, ◌≤◌, ◌<◌}
use native.Mathlib.Nat.{add-sub_cancel_left}
use native.Mathlib.Omega.{arith}
use native.Mathlib.Decide.{dec_lt}
use lib.ListN.{length, take, drop, drop_of_length-le, length-drop}
use lib.Seq.{drop-drop, length-take-le, take-take}
use borrow.Author.Tests.{lt-ltb, le-ltb}
use Rattle.base.specs.Lists.{gathered}
use Rattle.lines.specs.Lines.{Line, to_lf, pieces, no_cr, numbered, lines_from, cut_at}
use Rattle.lines.specs.declared.Cut.{Cut}
use Rattle.lines.proofs.Pieces.{to_lf-le, pieces_step, pieces-le, no_cr-take}

-- ---- the lines of a text, one after the other

pub lines-nil : (n at : ℕ) → lines_from n at [] ≡ []
unfolding lines_from numbered pieces
lines-nil n at = refl

lines_step : (n at : ℕ) (s : List ℕ) → 0 < length s
    → lines_from n at s ≡ record { no = n; start = at; text = no_cr (take (to_lf s) s) } ∷ lines_from (n + 1) (at + to_lf s + 1) (drop (suc (to_lf s)) s)
unfolding lines_from numbered
lines_step n at s h = rw (pieces_step s h, length-take-le (to_lf s) s (to_lf-le s))

-- ---- what `line_at` answers at a place inside the file: a line that is a part of the file, and the lines after it

pub record Cutting (f : List ℕ) (at n : ℕ) (r : Cut) : Type 0 where
  pub low : at ≤ r.stop
  pub high : r.stop ≤ length f
  pub past : at < r.next
  pub inside : r.next ≤ length f
  pub count : r.no ≡ n + 1
  pub step : lines_from n at (drop at f) ≡ record { no = n; start = at; text = take (r.stop - at) (drop at f) } ∷ lines_from r.no r.next (drop r.next f)

module _ (f : List ℕ) (at n : ℕ) (h : at < length f) where
  abbrev rest : List ℕ
  rest = drop at f

  abbrev end : ℕ
  end = at + to_lf rest

  abbrev text : List ℕ
  text = no_cr (take (to_lf rest) rest)

  end-inside : end ≤ length f
  end-inside = omega (arith, to_lf-le rest, length-drop at f)

  text-le : length text ≤ to_lf rest
  text-le = rw (length-take-le (to_lf rest) rest (to_lf-le rest)) at (no_cr-take (take (to_lf rest) rest)).1

  -- the text is a part of the file
  text-is : text ≡ take (at + length text - at) rest
  text-is = (no_cr-take (take (to_lf rest) rest)).0 ∙ take-take (length text) (to_lf rest) rest text-le ∙ rw add-sub_cancel_left refl

  first : lines_from n at rest ≡ record { no = n; start = at; text = take (at + length text - at) rest } ∷ lines_from (n + 1) (end + 1) (drop (suc (to_lf rest)) rest)
  first = lines_step n at rest (simp length-drop (omega arith)) ∙ rw (← text-is) refl

  with-LF : end < length f → Cutting f at n (cut_at f at n)
  unfolding cut_at
  with-LF k =
      let e : at + suc (to_lf rest) ≡ end + 1 = omega arith in
      rw (lt-ltb end (length f) k) (record {
        low = omega arith;
        high = omega (arith, text-le, end-inside);
        past = omega arith;
        inside = omega arith;
        count = refl;
        step = first ∙ rw (drop-drop (suc (to_lf rest)) at f, e) refl;
      })

  without-LF : length f ≤ end → Cutting f at n (cut_at f at n)
  unfolding cut_at
  without-LF k = rw (le-ltb end (length f) k) (record {
    low = omega arith;
    high = omega (arith, text-le, end-inside);
    past = omega arith;
    inside = end-inside;
    count = refl;
    step = first ∙ rw (drop-drop (suc (to_lf rest)) at f, drop_of_length-le f k, drop_of_length-le f {i = at + suc (to_lf rest)} (omega arith), lines-nil (n + 1) (end + 1), lines-nil (n + 1) end) refl;
  })

  cut-here : Cutting f at n (cut_at f at n)
  cut-here = elim (dec_lt end (length f)) [ yes k ↦ with-LF k | no k ↦ without-LF (omega arith) ]

pub cutting : (f : List ℕ) (at n : ℕ) (r : Cut) → at < length f → r ≡ cut_at f at n → Cutting f at n r
cutting f at n r h e = rw e (cut-here f at n h)

-- each fact by itself, for `search`
module _ (f : List ℕ) (at n : ℕ) (r : Cut) (h : at < length f) (e : r ≡ cut_at f at n) where
  pub cut_low : at ≤ r.stop
  cut_low = (cutting f at n r h e).low

  pub cut_high : r.stop ≤ length f
  cut_high = (cutting f at n r h e).high

  pub cut-past : at < r.next
  cut-past = (cutting f at n r h e).past

  pub cut_inside : r.next ≤ length f
  cut_inside = (cutting f at n r h e).inside

  -- the measure of a walk falls
  pub cut-less : length f - r.next < length f - at
  cut-less = omega (arith, cutting f at n r h e)

  -- a line takes at least one byte: the number never runs ahead of the place
  pub cut-number : n ≤ at + 1 → r.no ≤ r.next + 1
  cut-number v = omega (arith, cutting f at n r h e)

  -- so with a count of lines, with this one or without it
  pub cut-grows : (k : ℕ) → k ≤ at → k + 1 ≤ r.next
  cut-grows k v = omega (arith, cutting f at n r h e)

  pub cut_keeps : (k : ℕ) → k ≤ at → k ≤ r.next
  cut_keeps k v = omega (arith, cutting f at n r h e)

-- for a loop's `search`, beside `tests` and the laws of its own, which cite `cutting`
pub ruleset walk = (cut_low, cut_high, cut-past, cut_inside, cut-less, cut-number, cut-grows, cut_keeps)

-- past the end there are no lines
pub lines_none : (f : List ℕ) (at n : ℕ) → length f ≤ at → lines_from n at (drop at f) ≡ []
lines_none f at n h = rw (drop_of_length-le f h) (lines-nil n at)

-- ---- how many lines

length-numbered : (n at : ℕ) (ps : List (List ℕ)) → length (numbered n at ps) ≡ length ps
unfolding numbered
length-numbered n at [] = refl
length-numbered n at (p ∷ ps) = ap suc (length-numbered (n + 1) (at + length p + 1) ps)

-- the count of lines depends on the text alone
pub length-lines : (n at : ℕ) (s : List ℕ) → length (lines_from n at s) ≡ length (pieces s)
unfolding lines_from
length-lines n at s = length-numbered n at (pieces s)

-- no more lines than bytes
pub lines-le : (n at : ℕ) (s : List ℕ) → length (lines_from n at s) ≤ length s
lines-le n at s = rw (length-lines n at s) (pieces-le s)

-- ---- what lines give by their texts does not depend on the number of the first

pub gathered-any : {Y : Type 0} (f : List ℕ → List Y) (n m at : ℕ) (s : List ℕ) → gathered (λ (l : Line). f l.text) (lines_from n at s) ≡ gathered (λ (l : Line). f l.text) (lines_from m at s)
unfolding lines_from numbered gathered
gathered-any f n m at s = go n m at (pieces s)
  where
    go : (n m at : ℕ) (ps : List (List ℕ)) → gathered (λ (l : Line). f l.text) (numbered n at ps) ≡ gathered (λ (l : Line). f l.text) (numbered m at ps)
    go n m at [] = refl
    go n m at (p ∷ ps) = ap (λ r. f (no_cr p) ++ r) (go (n + 1) (m + 1) (at + length p + 1) ps)
