-- A walk of a file that looks back at the lines before its place, which are those of the part before it. Assumes nothing.
use mathlib.Core.Path.{◌≡◌, refl, ap, ◌∙◌}
use mathlib.Core.List.{List, [], ◌∷◌, ◌++◌, append_assoc}
use Prim.Native.Nat.{ℕ, ◌+◌, ◌-◌, ◌≤◌, ◌<◌}
use native.Mathlib.Omega.{arith}
use lib.ListN.{length, take, drop, length-append, length-take}
use Rattle.lines.specs.Lines.{lines_from, lines_of, cut_at}
use Rattle.lines.specs.declared.Cut.{Cut}
use Rattle.lines.proofs.Laws.{cutting, lines-nil, lines-le}
use Rattle.timetable.specs.Layout.{most_file_bytes}
use Rattle.lines.proofs.Parts.{LineStart, start_first, start-next, lines-parts, part-lines}

-- line number no starts at the place `at`
pub record Walked (f : List ℕ) (at no : ℕ) : Type 0 where
  pub start : LineStart f at
  pub number : no ≡ length (lines_of (take at f)) + 1

pub walked-first : (f : List ℕ) → Walked f 0 1
walked-first f = record { start = start_first f; number = rw lines-nil refl }

-- a line's number is small, and there is one more
pub number_small : (f : List ℕ) (at n : ℕ) → n ≤ at + 1 → at < length f → length f ≤ most_file_bytes → n < 4294967295
number_small f at n v h l = omega arith

module _ (f : List ℕ) (at no : ℕ) (w : Walked f at no) where
  -- the lines before and the lines from there on
  pub walked_lines : lines_of f ≡ lines_of (take at f) ++ lines_from no at (drop at f)
  walked_lines =
      let k : 1 + length (lines_of (take at f)) ≡ no = omega (arith, w.number) in
      lines-parts f 1 0 at w.start (omega arith) ∙ rw k refl

  -- no more lines than bytes
  pub walked-number : no ≤ at + 1
  walked-number = omega (arith, w.number, lines-le 1 0 (take at f), length-take at f)

  -- there is a line more
  pub walked_more : at < length f → length (lines_of (take at f)) + 1 ≤ length (lines_of f)
  walked_more h = omega (arith, ap length walked_lines, length-append (lines_of (take at f)) (lines_from no at (drop at f)), ap length (cutting f at no (cut_at f at no) h refl).step)

  module _ (r : Cut) (h : at < length f) (e : r ≡ cut_at f at no) where
    -- the lines before the next place: this one is the last of them
    pub walked-before : lines_of (take r.next f) ≡ lines_of (take at f) ++ (record { no = no; start = at; text = take (r.stop - at) (drop at f) } ∷ [])
    walked-before = part-lines f 1 0 r.next (start-next f at no r h e) (omega arith) _ r.no (walked_lines ∙ rw ((cutting f at no r h e).step, append_assoc) refl)

    pub walked_next : Walked f r.next r.no
    walked_next = record {
      start = start-next f at no r h e;
      number = (cutting f at no r h e).count ∙ rw walked-before (simp length-append (omega (arith, w.number)));
    }
