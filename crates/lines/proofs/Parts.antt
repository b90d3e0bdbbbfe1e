-- The lines of a part of a file: where a line starts, the lines before and the lines after are those of the whole. Assumes nothing.
use mathlib.Core.Path.{◌≡◌, refl, ap, sym, ◌∙◌}
use mathlib.Core.List.{List, [], ◌∷◌, ◌++◌, append-nil}
use mathlib.Core.Bool.{Bool, true, false, cond}
use Prim.Native.Nat.{ℕ, suc, ◌+◌, ◌-◌, ◌≤◌, ◌<◌}
use native.Mathlib.Nat.{add-zero}
use native.Mathlib.Omega.{arith}
use native.Mathlib.Decide.{dec_lt}
use lib.ListN.{length, get_or, take, drop, drop_of_length-le, length-drop, length-append, length-take, take-append-drop}
use lib.Seq.{get_or-drop, get_or-take, length-take-le, take_all, take_at, drop-append-le}
use lib.Dec.{eqb}
use borrow.Author.Tests.{eq-eqb}
use Rattle.base.proofs.Laws.{by-ltb}
use Rattle.lines.specs.Lines.{to_lf, start_with, pieces, no_cr, Line, numbered, lines_from, cut_at}
use Rattle.lines.specs.declared.Cut.{Cut}
use Rattle.lines.proofs.Pieces.{to_lf-is, pieces_step}
use Rattle.lines.proofs.Laws.{lines-nil, length-lines}

-- ---- a text that is empty or ends with an LF, and the text after it

abbrev Ended : List ℕ → Type 0
Ended [] = Unit {0}
Ended (b ∷ s) = get_or (b ∷ s) (length s) 0 ≡ 10

-- a byte goes to the first piece
start-append : (b : ℕ) (ps qs : List (List ℕ)) (p : List ℕ) (rs : List (List ℕ)) → ps ≡ p ∷ rs → start_with b (ps ++ qs) ≡ start_with b ps ++ qs
unfolding start_with
start-append b ps qs p rs e = rw e refl

pieces-append : (a b : List ℕ) → Ended a → pieces (a ++ b) ≡ pieces a ++ pieces b
unfolding pieces
pieces-append [] b h = refl
pieces-append (x ∷ []) b h = rw (eq-eqb x 10 h) refl
pieces-append (x ∷ c ∷ s) b h = go (eqb x 10) (pieces-append (c ∷ s) b h)
  where
    go : (t : Bool) → pieces ((c ∷ s) ++ b) ≡ pieces (c ∷ s) ++ pieces b
        → cond t ([] ∷ pieces ((c ∷ s) ++ b)) (start_with x (pieces ((c ∷ s) ++ b))) ≡ cond t ([] ∷ pieces (c ∷ s)) (start_with x (pieces (c ∷ s))) ++ pieces b
    go true ih = ap (λ (ps : List (List ℕ)). [] ∷ ps) ih
    go false ih = ap (start_with x) ih ∙ start-append x (pieces (c ∷ s)) (pieces b) _ _ (pieces_step (c ∷ s) (omega arith))

-- the bytes of pieces that each end with an LF
abbrev extent : List (List ℕ) → ℕ
extent [] = 0
extent (p ∷ ps) = length p + 1 + extent ps

start-extent : (b : ℕ) (ps : List (List ℕ)) (p : List ℕ) (rs : List (List ℕ)) → ps ≡ p ∷ rs → extent (start_with b ps) ≡ suc (extent ps)
unfolding start_with
start-extent b ps p rs e = rw e (omega arith)

pieces-extent : (a : List ℕ) → Ended a → extent (pieces a) ≡ length a
unfolding pieces
pieces-extent [] h = refl
pieces-extent (x ∷ []) h = rw (eq-eqb x 10 h) refl
pieces-extent (x ∷ c ∷ s) h = go (eqb x 10) (pieces-extent (c ∷ s) h)
  where
    go : (t : Bool) → extent (pieces (c ∷ s)) ≡ length (c ∷ s) → extent (cond t ([] ∷ pieces (c ∷ s)) (start_with x (pieces (c ∷ s)))) ≡ suc (length (c ∷ s))
    go true ih = omega arith
    go false ih = start-extent x (pieces (c ∷ s)) _ _ (pieces_step (c ∷ s) (omega arith)) ∙ ap suc ih

numbered-append : (n at : ℕ) (ps qs : List (List ℕ)) → numbered n at (ps ++ qs) ≡ numbered n at ps ++ numbered (n + length ps) (at + extent ps) qs
unfolding numbered
numbered-append n at [] qs = rw (add-zero n, add-zero at) refl
numbered-append n at (p ∷ ps) qs =
    let e : n + 1 + length ps ≡ n + suc (length ps) = omega arith in
    let d : at + length p + 1 + extent ps ≡ at + (length p + 1 + extent ps) = omega arith in
    ap (λ (ls : List Line). record { no = n; start = at; text = no_cr p } ∷ ls) (numbered-append (n + 1) (at + length p + 1) ps qs ∙ rw (e, d) refl)

lines-append : (n at : ℕ) (a b : List ℕ) → Ended a → lines_from n at (a ++ b) ≡ lines_from n at a ++ lines_from (n + length (lines_from n at a)) (at + length a) b
unfolding lines_from
lines-append n at a b h = rw (length-lines n at a, ← pieces-extent a h, pieces-append a b h) (numbered-append n at (pieces a) (pieces b))

-- ---- places where a line starts

-- the file's start, its end, or the place after an LF
pub record LineStart (f : List ℕ) (e : ℕ) : Type 0 where
  pub after : 0 < e → e < length f → get_or f (e - 1) 0 ≡ 10

pub start_first : (f : List ℕ) → LineStart f 0
start_first f = record { after = λ l k. absurd (omega arith) }

pub start-last : (f : List ℕ) (e : ℕ) → length f ≤ e → LineStart f e
start-last f e h = record { after = λ l k. absurd (omega arith) }

pub start-after : (f : List ℕ) (e : ℕ) → get_or f (e - 1) 0 ≡ 10 → LineStart f e
start-after f e h = record { after = λ l k. h }

-- a walk goes from one to the next
pub start-next : (f : List ℕ) (at n : ℕ) (r : Cut) → at < length f → r ≡ cut_at f at n → LineStart f r.next
unfolding cut_at
start-next f at n r h e = rw e (by-ltb (λ t. LineStart f (cond t (end + 1) end)) end (length f) with-LF (start-last f end))
  where
    end : ℕ
    end = at + to_lf (drop at f)

    with-LF : end < length f → LineStart f (end + 1)
    with-LF k =
        let d : end + 1 - 1 ≡ end = omega arith in
        start-after f (end + 1) (rw d (sym (get_or-drop at f (to_lf (drop at f)) 0) ∙ to_lf-is (drop at f) (simp length-drop (omega arith))))

-- ---- the part before such a place, and the part after it

ended-last : (a : List ℕ) (k : ℕ) → length a ≡ suc k → get_or a k 0 ≡ 10 → Ended a
ended-last [] k e h = tt
ended-last (b ∷ s) k e h = let q : length s ≡ k = omega arith in rw q h

module _ (f : List ℕ) (n at e : ℕ) (s : LineStart f e) (h : at ≤ e) where
  -- the bytes of the part before, and its lines
  abbrev front : List ℕ
  front = drop at (take e f)

  abbrev before : List Line
  before = lines_from n at front

  inner : at < e → e < length f → lines_from n at (drop at f) ≡ before ++ lines_from (n + length before) e (drop e f)
  inner l k =
      let w : length (take e f) ≡ e = length-take-le e f (omega arith) in
      let c : length front ≡ e - at = length-drop at (take e f) ∙ rw w refl in
      let d : at + (e - at - 1) ≡ e - 1 = omega arith in
      let x : Ended front = ended-last front (e - at - 1) (omega arith) (get_or-drop at (take e f) (e - at - 1) 0 ∙ rw d (get_or-take e f (e - 1) 0 (omega arith) ∙ s.after (omega arith) k)) in
      let j : drop at f ≡ front ++ drop e f = ap (drop at) (sym (take-append-drop e f)) ∙ drop-append-le at (take e f) (drop e f) (omega arith) in
      let m : at + length front ≡ e = omega arith in
      ap (lines_from n at) j ∙ lines-append n at front (drop e f) x ∙ rw m refl

  pub lines-parts : lines_from n at (drop at f) ≡ lines_from n at (drop at (take e f)) ++ lines_from (n + length (lines_from n at (drop at (take e f)))) e (drop e f)
  lines-parts = elim (dec_lt e (length f)) [ yes k ↦ elim (dec_lt at e) [ yes l ↦ inner l k | no l ↦ none (omega arith) ] | no k ↦ all (omega arith) ]
    where
      none : at ≡ e → lines_from n at (drop at f) ≡ before ++ lines_from (n + length before) e (drop e f)
      none q =
          let z : before ≡ [] = rw (drop_of_length-le (take e f) {i = at} (omega (arith, length-take e f))) (lines-nil n at) in
          rw (z, add-zero n, q) refl

      all : length f ≤ e → lines_from n at (drop at f) ≡ before ++ lines_from (n + length before) e (drop e f)
      all k = rw (take_all e f k, drop_of_length-le f k, lines-nil) (sym (append-nil _))

  -- so the lines that a walk met on its way to such a place are those of the part before
  pub part-lines : (ls : List Line) (m : ℕ) → lines_from n at (drop at f) ≡ ls ++ lines_from m e (drop e f) → lines_from n at (drop at (take e f)) ≡ ls
  part-lines ls m w =
      let q = n + length before in
      let v : before ++ lines_from q e (drop e f) ≡ ls ++ lines_from m e (drop e f) = sym lines-parts ∙ w in
      let c : length before ≡ length ls = omega (arith, ap length v, length-append before (lines_from q e (drop e f)), length-append ls (lines_from m e (drop e f)), length-lines q e (drop e f), length-lines m e (drop e f)) in
      sym (take_at before (lines_from q e (drop e f)) (length ls) c) ∙ ap (take (length ls)) v ∙ take_at ls (lines_from m e (drop e f)) (length ls) refl

pub ruleset starts = (start_first, start-last, start-next)
