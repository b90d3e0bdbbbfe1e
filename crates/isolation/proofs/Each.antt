-- A file whose lines are changed in place: its lines are those of the file, each with its text changed, and it is as long. Assumes nothing.
use mathlib.Core.Path.{◌≡◌, refl, sym, ap, ◌∙◌}
use mathlib.Core.List.{List, [], ◌∷◌, ◌++◌, map, append_assoc, append-nil}
use mathlib.Core.Bool.{Bool, true, false, cond, not}
use Prim.Native.Nat.{ℕ, suc, ◌+◌, ◌-◌, ◌≤◌, ◌<◌}
use native.Mathlib.Nat.{add-zero}
use native.Mathlib.Omega.{arith}
use lib.ListN.{length, take, drop, length-append, drop_of_length-le, take-append-drop}
use lib.Seq.{drop-cons, length-take-le, take_at}
use lib.Dec.{eqb}
use borrow.Author.Tests.{eqb-true}
use Rattle.base.specs.Lists.{every}
use Rattle.base.proofs.Laws.{clash}
use Rattle.base.proofs.Loops.{and-true}
use Rattle.lines.specs.Lines.{Line, start_with, pieces, no_cr, numbered, lines_from}
use Rattle.lines.proofs.Pieces.{no_cr-take}
use Rattle.line_text.specs.Laid.{not_lf}
use Rattle.line_text.proofs.Numbers.{every_append}
use Rattle.line_text.proofs.Lines.{pieces-line}
use Rattle.isolation.specs.Rename.{in_line, each_line}
use Rattle.isolation.proofs.Texts.{last_byte, Safe, last-append}

abbrev pub on_text : (List ℕ → List ℕ) → Line → Line
on_text change l = record { no = l.no; start = l.start; text = change l.text }

-- ---- one line, with its CR

pieces-last : (q : List ℕ) → every not_lf q ≡ true → 0 < length q → pieces q ≡ q ∷ []
unfolding pieces start_with every
pieces-last [] e h = absurd (omega (arith, h))
pieces-last (b ∷ []) e h = let x = and-true (not_lf b) true e in not-LF b x.0
  where
    not-LF : (b : ℕ) → not_lf b ≡ true → cond (eqb b 10) ([] ∷ []) ((b ∷ []) ∷ []) ≡ (b ∷ []) ∷ []
    not-LF b x = go (eqb b 10) x
      where
        go : (t : Bool) → not t ≡ true → cond t ([] ∷ []) ((b ∷ []) ∷ []) ≡ (b ∷ []) ∷ []
        go true x = clash x
        go false x = refl
pieces-last (b ∷ c ∷ q) e h = go (eqb b 10) (and-true (not_lf b) (every not_lf (c ∷ q)) e).0 (pieces-last (c ∷ q) (and-true (not_lf b) (every not_lf (c ∷ q)) e).1 (omega arith))
  where
    go : (t : Bool) → not t ≡ true → pieces (c ∷ q) ≡ (c ∷ q) ∷ [] → cond t ([] ∷ pieces (c ∷ q)) (start_with b (pieces (c ∷ q))) ≡ (b ∷ c ∷ q) ∷ []
    go true x ih = clash x
    go false x ih = rw ih

without-CR : (x : List ℕ) → no_cr (x ++ (13 ∷ [])) ≡ x
unfolding no_cr
without-CR x =
    let e : length (x ++ (13 ∷ [])) - 1 ≡ length x = let z = length-append x (13 ∷ []) in omega (arith, z) in
    ap (λ (k : ℕ). cond (eqb k 13) (take (length (x ++ (13 ∷ [])) - 1) (x ++ (13 ∷ []))) (x ++ (13 ∷ []))) (last-append x [] 13)
    ∙ (ap (λ (k : ℕ). take k (x ++ (13 ∷ []))) e ∙ take_at x (13 ∷ []) (length x) refl)

module _ (change : List ℕ → List ℕ) (safe : Safe change) where
  abbrev rest : List ℕ → List ℕ
  rest p = drop (length (no_cr p)) p

  parts : (p : List ℕ) → no_cr p ++ rest p ≡ p
  parts p = ap (λ (r : List ℕ). r ++ rest p) (no_cr-take p).0 ∙ take-append-drop (length (no_cr p)) p

  in-length : (p : List ℕ) → length (in_line change p) ≡ length p
  in-length p = length-append (change (no_cr p)) (rest p) ∙ (ap (λ (n : ℕ). n + length (rest p)) (safe.length-kept (no_cr p)) ∙ (sym (length-append (no_cr p) (rest p)) ∙ ap length (parts p)))

  in-LF : (p : List ℕ) → every not_lf p ≡ true → every not_lf (in_line change p) ≡ true
  in-LF p e =
      let q = and-true (every not_lf (no_cr p)) (every not_lf (rest p)) (sym (every_append not_lf (no_cr p) (rest p)) ∙ (ap (every not_lf) (parts p) ∙ e)) in
      every_append not_lf (change (no_cr p)) (rest p) ∙ rw (safe.no_lf (no_cr p) q.0, q.1)

  in-text : (p : List ℕ) → no_cr (in_line change p) ≡ change (no_cr p)
  unfolding no_cr
  in-text p = go (eqb (last_byte p) 13) refl
    where
      some_byte : (p : List ℕ) → eqb (last_byte p) 13 ≡ true → 1 ≤ length p
      some_byte [] e = clash e
      some_byte (b ∷ p) e = omega arith

      go : (t : Bool) → eqb (last_byte p) 13 ≡ t → no_cr (in_line change p) ≡ change (no_cr p)
      go true e =
          let l = some_byte p e in
          let x : no_cr p ≡ take (length p - 1) p = ap (λ (t : Bool). cond t (take (length p - 1) p) p) e in
          let n : length (no_cr p) ≡ length p - 1 = ap length x ∙ length-take-le (length p - 1) p (omega (arith, l)) in
          let z : rest p ≡ 13 ∷ [] = ap (λ (k : ℕ). drop k p) n ∙ (drop-cons p (length p - 1) 0 (omega (arith, l)) ∙ ap (λ (r : List ℕ). last_byte p ∷ r) (drop_of_length-le p {i = suc (length p - 1)} (omega (arith, l))) ∙ ap (λ (b : ℕ). b ∷ []) (eqb-true (last_byte p) 13 e)) in
          ap (λ (r : List ℕ). no_cr (change (no_cr p) ++ r)) z ∙ without-CR (change (no_cr p))
      go false e =
          let x : no_cr p ≡ p = ap (λ (t : Bool). cond t (take (length p - 1) p) p) e in
          let z : in_line change p ≡ change p = ap (λ (q : List ℕ). change q ++ drop (length q) p) x ∙ (ap (λ (r : List ℕ). change p ++ r) (drop_of_length-le p {i = length p} (omega arith)) ∙ append-nil (change p)) in
          ap no_cr z ∙ (ap (λ (t : Bool). cond t (take (length (change p) - 1) (change p)) (change p)) (safe.no-CR p e) ∙ ap change (sym x))

  -- ---- all of them

  -- a line without an LF behind it
  last_line : (p : List ℕ) → every not_lf p ≡ true → pieces (in_line change p) ≡ map (in_line change) (pieces p)
  unfolding pieces
  last_line [] e = ap pieces (none_of (in_line change []) (in-length []))
    where
      none_of : (q : List ℕ) → length q ≡ 0 → q ≡ []
      none_of [] z = refl
      none_of (x ∷ q) z = absurd (omega (arith, z))
  last_line (b ∷ p) e =
      let n = in-length (b ∷ p) in
      pieces-last (in_line change (b ∷ p)) (in-LF (b ∷ p) e) (omega (arith, n)) ∙ sym (ap (map (in_line change)) (pieces-last (b ∷ p) e (omega arith)))

  pieces-each : (p s : List ℕ) → every not_lf p ≡ true → pieces (each_line change p s) ≡ map (in_line change) (pieces (p ++ s))
  unfolding each_line every
  pieces-each p [] e = last_line p e ∙ ap (λ (r : List ℕ). map (in_line change) (pieces r)) (sym (append-nil p))
  pieces-each p (b ∷ s) e = go (eqb b 10) refl (pieces-each [] s refl) (pieces-each (p ++ (b ∷ [])) s)
    where
      go : (t : Bool) → eqb b 10 ≡ t → pieces (each_line change [] s) ≡ map (in_line change) (pieces s)
          → (every not_lf (p ++ (b ∷ [])) ≡ true → pieces (each_line change (p ++ (b ∷ [])) s) ≡ map (in_line change) (pieces ((p ++ (b ∷ [])) ++ s)))
          → pieces (cond t (in_line change p ++ (10 ∷ each_line change [] s)) (each_line change (p ++ (b ∷ [])) s)) ≡ map (in_line change) (pieces (p ++ (b ∷ s)))
      go true q ih more =
          pieces-line (in_line change p) (each_line change [] s) (in-LF p e)
          ∙ (ap (λ (ps : List (List ℕ)). in_line change p ∷ ps) ih
          ∙ sym (ap (map (in_line change)) (ap (λ (x : ℕ). pieces (p ++ (x ∷ s))) (eqb-true b 10 q) ∙ pieces-line p s e)))
      go false q ih more = more (every_append not_lf p (b ∷ []) ∙ rw (e, q)) ∙ ap (λ (r : List ℕ). map (in_line change) (pieces r)) (append_assoc p (b ∷ []) s)

  length_from : (p s : List ℕ) → length (each_line change p s) ≡ length p + length s
  unfolding each_line
  length_from p [] = in-length p ∙ sym (add-zero (length p))
  length_from p (b ∷ s) = go (eqb b 10) (length_from [] s) (length_from (p ++ (b ∷ [])) s)
    where
      go : (t : Bool) → length (each_line change [] s) ≡ 0 + length s → length (each_line change (p ++ (b ∷ [])) s) ≡ length (p ++ (b ∷ [])) + length s
          → length (cond t (in_line change p ++ (10 ∷ each_line change [] s)) (each_line change (p ++ (b ∷ [])) s)) ≡ length p + length (b ∷ s)
      go true x y = let m = in-length p in let z = length-append (in_line change p) (10 ∷ each_line change [] s) in omega (arith, m, z, x)
      go false x y = let z = length-append p (b ∷ []) in omega (arith, z, y)

  numbered-each : (n at : ℕ) (ps : List (List ℕ)) → numbered n at (map (in_line change) ps) ≡ map (on_text change) (numbered n at ps)
  unfolding numbered
  numbered-each n at [] = refl
  numbered-each n at (p ∷ ps) = rw (in-text p, in-length p, numbered-each (n + 1) (at + length p + 1) ps)

  -- the lines of the changed file
  pub lines-each : (n at : ℕ) (s : List ℕ) → lines_from n at (each_line change [] s) ≡ map (on_text change) (lines_from n at s)
  unfolding lines_from every
  lines-each n at s = ap (numbered n at) (pieces-each [] s refl) ∙ numbered-each n at (pieces s)

  pub length-each : (s : List ℕ) → length (each_line change [] s) ≡ length s
  length-each s = let z = length_from [] s in omega (arith, z)

-- the same change said in two ways
pub each-by : (c d : List ℕ → List ℕ) → ((t : List ℕ) → c t ≡ d t) → (p s : List ℕ) → each_line c p s ≡ each_line d p s
unfolding each_line
each-by c d e p [] = ap (λ (r : List ℕ). r ++ drop (length (no_cr p)) p) (e (no_cr p))
each-by c d e p (b ∷ s) = rw (e (no_cr p), each-by c d e [] s, each-by c d e (p ++ (b ∷ [])) s)
