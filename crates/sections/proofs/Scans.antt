-- The needs of the walk that checks every line of a file, for `search scans`: what the lines that are left answer, after the lines before
-- them, is what all lines answer. Assumes nothing.
use Rattle.std.specs.Prelude.{Result, Ok, Err}
use mathlib.Core.Path.{◌≡◌, refl, ap, sym, ◌∙◌}
use mathlib.Core.List.{List, [], ◌∷◌, ◌++◌, append-nil}
use mathlib.Core.Option.{Option, none}
use Prim.Native.Nat.{ℕ, suc, ◌+◌, ◌-◌, ◌≤◌, ◌<◌, ◌^◌}
use native.Mathlib.Nat.{zero-add, add-zero, sub-zero}
use native.Mathlib.Omega.{arith}
use lib.ListN.{length, get_or, take, drop, length-append}
use borrow.Author.Rules.{rules}
use Rattle.base.specs.Lists.{gathered}
use Rattle.base.proofs.Laws.{tests}
use Rattle.base.proofs.Lists.{gathered-append}
use Rattle.lines.specs.Lines.{Line, lines_from, lines_of, cut_at}
use Rattle.lines.specs.declared.Cut.{Cut}
use Rattle.lines.proofs.Laws.{cutting, lines_none, lines-nil, cut_low, cut_high, cut-less}
use Rattle.lines.specs.Inner.Skips.{past_skipped}
use Rattle.lines.proofs.Pieces.{cut-empty}
use Rattle.lines.proofs.reader.Skipping.{passed-text, passed-next}
use Rattle.timetable.specs.Layout.{most_file_bytes}
use Rattle.timetable.specs.Delivery.{StopRecord}
use Rattle.timetable.specs.Offences.{◌<|>◌, first, verdict_by, checked_by}
use Rattle.timetable.specs.declared.Offence.{Offence}
use Rattle.timetable.proofs.Offences.{verdict-fine, verdict-offends}
use Rattle.sections.specs.Inner.Sections.{number_on, as_number, numbers, record_offence, numbered_offence, line_offence}
use Rattle.sections.specs.declared.Section.{Section}
use Rattle.sections.specs.declared.Numbered.{Numbered}
use Rattle.sections.specs.declared.Numbered.TheVariants.{Number, Skipped, Broken}
use Rattle.sections.proofs.Held.{skipped-number, empty-skipped}
use Rattle.sections.proofs.Walk.{Walked, number_small, walked-first, walked-number, walked-before, walked_next}

-- ---- how many records lines have

one-le : (n : Numbered) → length (as_number n) ≤ 1
one-le Skipped = omega arith
one-le (Broken c) = omega arith
one-le (Number k) = omega arith

-- no more records than lines
pub numbers-le : (s : Section) (ls : List Line) → length (numbers s ls) ≤ length ls
unfolding numbers gathered
numbers-le s [] = omega arith
numbers-le s (l ∷ ls) = omega (arith, length-append (as_number (number_on s l.text)) (numbers s ls), one-le (number_on s l.text), numbers-le s ls)

pub numbers_more : (s : Section) (ls : List Line) (l : Line) → numbers s (ls ++ (l ∷ [])) ≡ numbers s ls ++ as_number (number_on s l.text)
unfolding numbers gathered
numbers_more s ls l = gathered-append (λ (l : Line). as_number (number_on s l.text)) ls (l ∷ []) ∙ rw append-nil refl

-- ---- what the lines that are left answer, after lines with so many records, from line no on

abbrev pub scan_from : (List Line → Line → Option Offence) → Section → List Line → ℕ → ℕ → List Line → Result (ℕ × ℕ) Offence
scan_from off s before count n ls = checked_by (first off before ls) (length (numbers s ls) + count) (length ls + n)

-- a line without an offence; there are c' records with it
scan-turn : (off : List Line → Line → Option Offence) (s : Section) (before : List Line) (count n c' : ℕ) (l : Line) (ls : List Line) → off before l ≡ none → c' ≡ count + length (as_number (number_on s l.text))
    → scan_from off s before count n (l ∷ ls) ≡ scan_from off s (before ++ (l ∷ [])) c' (n + 1) ls
unfolding first numbers gathered ◌<|>◌
scan-turn off s before count n c' l ls z d =
    let a : length (as_number (number_on s l.text) ++ numbers s ls) + count ≡ length (numbers s ls) + c' = omega (arith, length-append (as_number (number_on s l.text)) (numbers s ls), d) in
    let b : suc (length ls) + n ≡ length ls + (n + 1) = omega arith in
    rw (z, a, b) refl

pub scan-first : (f : List ℕ) (off : List Line → Line → Option Offence) (s : Section)
    → scan_from off s (lines_of (take 0 f)) 0 1 (lines_from 1 0 (drop 0 f)) ≡ checked_by (first off [] (lines_of f)) (length (numbers s (lines_of f))) (length (lines_of f) + 1)
scan-first f off s = rw (lines-nil, add-zero) refl

pub count-first : (f : List ℕ) (s : Section) → 0 ≡ length (numbers s (lines_of (take 0 f)))
unfolding numbers gathered
count-first f s = rw lines-nil refl

pub place_inside : (f : List ℕ) (at : ℕ) → at < length f → at ≤ length f
place_inside f at h = omega arith

pub walked-small : (f : List ℕ) (at n : ℕ) → Walked f at n → at < length f → length f ≤ most_file_bytes → n < 4294967295
walked-small f at n w h l = number_small f at n (walked-number f at n w) h l

-- the part before, as it is handed on
pub part_count : (f : List ℕ) (at count : ℕ) (s : Section) → count ≡ length (numbers s (lines_of (take at f))) → count ≡ length (numbers s (lines_of (take (at - 0) (drop 0 f))))
part_count f at count s e = rw sub-zero e

pub scan-done : (f : List ℕ) (at n count : ℕ) (off : List Line → Line → Option Offence) (s : Section) (before : List Line) (q : Result (ℕ × ℕ) Offence) → length f ≤ at → scan_from off s before count n (lines_from n at (drop at f)) ≡ q → Ok (count, n) ≡ q
unfolding first numbers gathered
scan-done f at n count off s before q h v = rw (zero-add count, zero-add n) at (rw (lines_none f at n h) at v)

-- r is the line cut at `at`, n what it has for a number, c' how many records there are with it, own what its own checks say
module _ (f : List ℕ) (at no count : ℕ) (r : Cut) (h : at < length f) (e : r ≡ cut_at f at no) (w : Walked f at no) (s : Section) (n : Numbered) where
  abbrev text : List ℕ
  text = take (r.stop - at) (drop at f)

  pub count_next : (c' : ℕ) → count ≡ length (numbers s (lines_of (take at f))) → n ≡ number_on s text → c' ≡ count + length (as_number n) → c' ≡ length (numbers s (lines_of (take r.next f)))
  count_next c' c y d = rw (walked-before f at no w r h e, numbers_more, length-append, ← y, ← c) d

  module _ (y : n ≡ number_on s text) (days : ℕ) (stops : List StopRecord) (q : Result (ℕ × ℕ) Offence) (own : Result (Unit {0}) Offence)
      (x : own ≡ verdict_by (numbered_offence (record_offence s days stops (lines_of (take (at - 0) (drop 0 f))) no text) no n))
      (v : scan_from (line_offence s days stops) s (lines_of (take at f)) count no (lines_from no at (drop at f)) ≡ q) where
    -- this line
    abbrev here : Line
    here = record { no = no; start = at; text = text }

    own_is : own ≡ verdict_by (line_offence s days stops (lines_of (take at f)) here)
    unfolding line_offence
    own_is = x ∙ rw (sub-zero, y) refl

    turn : scan_from (line_offence s days stops) s (lines_of (take at f)) count no (here ∷ lines_from r.no r.next (drop r.next f)) ≡ q
    turn = sym (ap (scan_from (line_offence s days stops) s (lines_of (take at f)) count no) (cutting f at no r h e).step) ∙ v

    pub scan-out : (o : Offence) → own ≡ Err o → Err o ≡ q
    unfolding first ◌<|>◌
    scan-out o z = rw (verdict-offends (line_offence s days stops (lines_of (take at f)) here) own own_is o z) at turn

    pub scan-again : (c' : ℕ) → own ≡ Ok tt → c' ≡ count + length (as_number n) → scan_from (line_offence s days stops) s (lines_of (take r.next f)) c' r.no (lines_from r.no r.next (drop r.next f)) ≡ q
    scan-again c' z d = rw (walked-before f at no w r h e, (cutting f at no r h e).count) (sym (scan-turn (line_offence s days stops) s (lines_of (take at f)) count no c' here _ (verdict-fine _ own own_is z) (rw y at d)) ∙ rw (cutting f at no r h e).count at turn)

-- an empty line, passed at once
module _ (f : List ℕ) (at no : ℕ) (h : at < length f) (b : get_or f at 0 ≡ 10) (w : Walked f at no) where
  pub empty_walked : Walked f (at + 1) (no + 1)
  empty_walked = walked_next f at no w _ h (cut-empty f at no h b)

  pub empty-count : (s : Section) (count : ℕ) → count ≡ length (numbers s (lines_of (take at f))) → count ≡ length (numbers s (lines_of (take (at + 1) f)))
  empty-count s count c = count_next f at no count _ h (cut-empty f at no h b) w s Skipped count c (empty-skipped s f at) (omega arith)

  pub empty-scan : (s : Section) (count days : ℕ) (stops : List StopRecord) (q : Result (ℕ × ℕ) Offence)
      → scan_from (line_offence s days stops) s (lines_of (take at f)) count no (lines_from no at (drop at f)) ≡ q
      → scan_from (line_offence s days stops) s (lines_of (take (at + 1) f)) count (no + 1) (lines_from (no + 1) (at + 1) (drop (at + 1) f)) ≡ q
  empty-scan s count days stops q v = scan-again f at no count _ h (cut-empty f at no h b) w s Skipped (empty-skipped s f at) days stops q (Ok tt) refl v count refl (omega arith)

-- another line that is skipped, passed at once: the next starts at p
module _ (f : List ℕ) (at no p : ℕ) (h : at < length f) (e : p ≡ past_skipped f at) (l : at < p) (w : Walked f at no) where
  passed-held : (s : Section) → Skipped ≡ number_on s (take ((cut_at f at no).stop - at) (drop at f))
  passed-held s = skipped-number s (take ((cut_at f at no).stop - at) (drop at f)) (passed-text f at no p e l)

  passed-number : (cut_at f at no).no ≡ no + 1
  passed-number = (cutting f at no (cut_at f at no) h refl).count

  pub passed-walked : Walked f p (no + 1)
  passed-walked = rw (passed-next f at no p e l, passed-number) at (walked_next f at no w (cut_at f at no) h refl)

  pub passed-count : (s : Section) (count : ℕ) → count ≡ length (numbers s (lines_of (take at f))) → count ≡ length (numbers s (lines_of (take p f)))
  passed-count s count c = rw (passed-next f at no p e l) at (count_next f at no count (cut_at f at no) h refl w s Skipped count c (passed-held s) (omega arith))

  pub passed-scan : (s : Section) (count days : ℕ) (stops : List StopRecord) (q : Result (ℕ × ℕ) Offence)
      → scan_from (line_offence s days stops) s (lines_of (take at f)) count no (lines_from no at (drop at f)) ≡ q
      → scan_from (line_offence s days stops) s (lines_of (take p f)) count (no + 1) (lines_from (no + 1) p (drop p f)) ≡ q
  passed-scan s count days stops q v = rw (passed-next f at no p e l, passed-number) at (scan-again f at no count (cut_at f at no) h refl w s Skipped (passed-held s) days stops q (Ok tt) refl v count refl (omega arith))

pub passed-less : (f : List ℕ) (at p : ℕ) → at < length f → at < p → length f - p < length f - at
passed-less f at p h l = omega arith

pub number-next : (f : List ℕ) (at n : ℕ) → Walked f at n → at < length f → length f ≤ most_file_bytes → n + 1 < 2 ^ 32
number-next f at n w h l = omega (arith, walked-number f at n w)

pub ruleset scans = (tests, empty_walked, empty-count, empty-scan, passed-walked, passed-count, passed-scan, passed-less, number-next, cut_low, cut_high, cut-less, walked-first, walked_next, scan-first, count-first, place_inside, walked-small, part_count, count_next, scan-out, scan-again, scan-done)

-- for a measure after so many calls
pub ruleset walked = (rules, cut-less)
