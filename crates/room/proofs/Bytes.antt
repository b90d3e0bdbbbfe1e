-- The bytes of a file's lines, and how many a line has at least whose form fits. Assumes nothing.
use mathlib.Core.Path.{◌≡◌, refl, sym, ap, ◌∙◌}
use mathlib.Core.List.{List, [], ◌∷◌, ◌++◌}
use mathlib.Core.Bool.{Bool, true, false, cond, not}
use Prim.Native.Nat.{ℕ, zero, suc, ◌+◌, ◌-◌, ◌*◌, ◌≤◌}
use native.Mathlib.Nat.{mul-add, mul-zero, mul-one}
use native.Mathlib.Omega.{arith}
use lib.ListN.{length, drop, length-append, length-drop}
use lib.Dec.{eqb}
use Rattle.base.specs.Lists.{every}
use Rattle.base.proofs.Laws.{clash}
use Rattle.base.proofs.Loops.{and-true}
use Rattle.columns.specs.Columns.{pad_to, columns, is_blank, is_digit, blank, digits, count, count_to}
use Rattle.columns.proofs.Laws.{blank-past, every-reaches}
use Rattle.forms.specs.Form.{FieldRule, form_of, Form, Fits, Broken}
use Rattle.lines.specs.Lines.{start_with, pieces, Line, numbered, lines_from, lines_of, skipped}
use Rattle.lines.proofs.Pieces.{no_cr-take}
use Rattle.lines.proofs.Laws.{length-lines}
use Rattle.timetable.specs.Files.{skip, listed, held_in, held_by, held_line}

-- ---- the lines of a file have no more bytes than the file

unfoldable pub bytes_of : List Line → ℕ
bytes_of [] = 0
bytes_of (l ∷ ls) = length l.text + bytes_of ls

unfoldable total : List (List ℕ) → ℕ
total [] = 0
total (p ∷ ps) = length p + total ps

start-total : (b n : ℕ) (ps : List (List ℕ)) → total ps + length ps ≤ n + 1 → total (start_with b ps) + length (start_with b ps) ≤ n + 2
unfolding start_with total
start-total b n [] h = omega arith
start-total b n (p ∷ ps) h = omega arith

pieces-total : (s : List ℕ) → total (pieces s) + length (pieces s) ≤ length s + 1
unfolding pieces total
pieces-total [] = omega arith
pieces-total (b ∷ s) = go (eqb b 10) (pieces-total s)
  where
    go : (t : Bool) → total (pieces s) + length (pieces s) ≤ length s + 1
        → total (cond t ([] ∷ pieces s) (start_with b (pieces s))) + length (cond t ([] ∷ pieces s) (start_with b (pieces s))) ≤ suc (length s) + 1
    go true h = omega (arith, h)
    go false h = let e = start-total b (length s) (pieces s) h in omega (arith, e)

numbered-bytes : (n at : ℕ) (ps : List (List ℕ)) → bytes_of (numbered n at ps) ≤ total ps
unfolding numbered bytes_of total
numbered-bytes n at [] = omega arith
numbered-bytes n at (p ∷ ps) = let h = (no_cr-take p).1 in let t = numbered-bytes (n + 1) (at + length p + 1) ps in omega (arith, h, t)

-- each line but the last with its LF
pub lines-size : (f : List ℕ) → bytes_of (lines_of f) + length (lines_of f) ≤ length f + 1
unfolding lines_from
lines-size f = omega (arith, numbered-bytes 1 0 (pieces f), pieces-total f, length-lines 1 0 f)

pub lines-bytes : (f : List ℕ) → bytes_of (lines_of f) ≤ length f
unfolding bytes_of
lines-bytes f = go (lines_of f) (lines-size f)
  where
    go : (ls : List Line) → bytes_of ls + length ls ≤ length f + 1 → bytes_of ls ≤ length f
    go [] h = omega arith
    go (l ∷ ls) h = omega arith

pub bytes-append : (a b : List Line) → bytes_of (a ++ b) ≡ bytes_of a + bytes_of b
unfolding bytes_of
bytes-append [] b = omega arith
bytes-append (l ∷ a) b = let h = bytes-append a b in omega (arith, h)

-- ---- fields that reach so far

count-reaches : (w : ℕ) (l : List ℕ) → count (pad_to w l) ≡ true → w ≤ length l
unfolding pad_to count every
count-reaches zero l e = omega arith
count-reaches (suc w) [] e = let h = count-reaches w [] e in let z : w ≡ 0 = omega (arith, h) in clash (sym (rw z) ∙ e)
count-reaches (suc w) (b ∷ l) e = go (is_blank b) e (count-reaches w l)
  where
    go : (t : Bool) → cond t (count (pad_to w l)) (digits (b ∷ pad_to w l)) ≡ true → (count (pad_to w l) ≡ true → w ≤ length l) → suc w ≤ suc (length l)
    go true h more = let k = more h in omega (arith, k)
    go false h more = let k = every-reaches is_digit refl w l (and-true (is_digit b) (every is_digit (pad_to w l)) h).1 in omega (arith, k)

-- ---- a form that asks for it

-- the rules of a line's form that reach so far
pub count_long : (m a b : ℕ) (line : List ℕ) → 1 ≤ a → a ≤ b → count_to m (columns a b line) ≡ true → b ≤ length line
unfolding columns
count_long m a b line h1 h2 e =
    let k = count-reaches (b - (a - 1)) (drop (a - 1) line) (and-true _ _ e).0 in
    let d = length-drop (a - 1) line in omega (arith, k, d, h1, h2)

-- not all blank: the first of the columns is there
pub filled-long : (a b : ℕ) (line : List ℕ) → 1 ≤ a → not (blank (columns a b line)) ≡ true → a ≤ length line
unfolding columns
filled-long a b line h1 e = go (drop (a - 1) line) refl e
  where
    go : (l : List ℕ) → drop (a - 1) line ≡ l → not (blank (pad_to (b - (a - 1)) l)) ≡ true → a ≤ length line
    go [] q e = clash (sym (ap not (blank-past (b - (a - 1)))) ∙ e)
    go (x ∷ l) q e = let d = length-drop (a - 1) line in let z : length (drop (a - 1) line) ≡ suc (length l) = ap length q in omega (arith, d, z, h1)

-- ---- records of a file

module _ {X : Type 0} (rows : List FieldRule) (read : Line → X) (least : ℕ) (long : (line : List ℕ) → form_of rows line ≡ Fits → least ≤ length line) where
  held_one : (l : Line) → least * length (listed (held_line rows read l)) ≤ length l.text
  held_one l = go (skipped l.text) (form_of rows l.text) refl
    where
      go : (t : Bool) (f : Form) → form_of rows l.text ≡ f → least * length (listed (cond t skip (held_by f (read l)))) ≤ length l.text
      go true f e = rw (mul-zero least) (omega arith)
      go false Fits e = rw (mul-one least) (long l.text e)
      go false (Broken c) e = rw (mul-zero least) (omega arith)

  held_bytes : (ls : List Line) → least * length (held_in (held_line rows read) ls) ≤ bytes_of ls
  unfolding held_in bytes_of
  held_bytes [] = rw (mul-zero least) (omega arith)
  held_bytes (l ∷ ls) =
      let a = held_one l in let b = held_bytes ls in
      let e = length-append (listed (held_line rows read l)) (held_in (held_line rows read) ls) in
      let m = mul-add least (length (listed (held_line rows read l))) (length (held_in (held_line rows read) ls)) in
      rw e (omega (arith, a, b, m))

  -- what a file gives
  pub file-bytes : (f : List ℕ) → least * length (held_in (held_line rows read) (lines_of f)) ≤ length f
  file-bytes f = let a = held_bytes (lines_of f) in let b = lines-bytes f in omega (arith, a, b)
