-- Lines before a service, and the lines of one: what `head_end` and `next_line` pass. In each law r is the line cut at a place, kind its kind, and t says
-- whether it opens a service. Assumes nothing.
use mathlib.Core.Path.{◌≡◌, refl, ap, sym, ◌∙◌}
use mathlib.Core.List.{List, [], ◌∷◌, ◌++◌}
use mathlib.Core.Bool.{Bool, true, false, cond, not, true≢false}
use mathlib.Core.Option.{some}
use Rattle.std.specs.Prelude.{Result, Ok, Err}
use Prim.Native.Nat.{ℕ, ◌+◌, ◌-◌, ◌≤◌, ◌<◌}
use native.Mathlib.Omega.{arith}
use lib.ListN.{length, take, drop}
use Rattle.base.proofs.Laws.{tests}
use Rattle.lines.specs.Lines.{Line, lines_of, skipped, cut_at, lines_at}
use Rattle.lines.specs.declared.Cut.{Cut}
use Rattle.lines.proofs.Laws.{walk, Cutting, cutting, lines_none}
use Rattle.forms.specs.Kinds.{kind_of}
use Rattle.forms.specs.declared.Kind.{Kind}
use Rattle.timetable.specs.Layout.{most_file_bytes}
use Rattle.timetable.specs.Offences.{offence_at, given, ◌<|>◌, first}
use Rattle.timetable.specs.Plan.{told_in, is_opening, opens_service}
use Rattle.timetable.specs.Service.{head_lines, blocks}
use Rattle.timetable.specs.Checks.{head_first}
use Rattle.timetable.specs.declared.Offence.{Offence}
use Rattle.timetable.specs.declared.Told.{Told}
use Rattle.reading.specs.Inner.Reading.{service_lines_at, Boundary, HeadClear, HeadAs, ends_head, head_by, NextLine}

-- ---- the first of some lines

module _ (l : Line) (ls : List Line) where
  pub head-open : opens_service l ≡ true → head_lines (l ∷ ls) ≡ []
  unfolding head_lines
  head-open e = rw e

  head-shut : opens_service l ≡ false → head_lines (l ∷ ls) ≡ l ∷ head_lines ls
  unfolding head_lines
  head-shut e = rw e

  pub blocks-open : opens_service l ≡ true → blocks (l ∷ ls) ≡ (l ∷ head_lines ls) ∷ blocks ls
  unfolding blocks
  blocks-open e = rw e

  blocks-shut : opens_service l ≡ false → blocks (l ∷ ls) ≡ blocks ls
  unfolding blocks
  blocks-shut e = rw e

  -- lines before which none stands begin with one that opens a service
  pub opens-first : head_lines (l ∷ ls) ≡ [] → opens_service l ≡ true
  unfolding head_lines
  opens-first e = go (opens_service l) e
    where
      go : (t : Bool) → cond t [] (l ∷ head_lines ls) ≡ [] → t ≡ true
      go true e = refl
      go false e = absurd (omega (arith, ap length e))

-- past the end nothing starts
pub nothing-opens : (f : List ℕ) (at n : ℕ) → length f ≤ at → head_lines (lines_at f at n) ≡ []
unfolding head_lines
nothing-opens f at n h = rw (lines_none f at n h) refl

-- the line that is cut at a place, and the lines after it
abbrev pub cut_line : List ℕ → ℕ → ℕ → Cut → Line
cut_line f at n r = record { no = n; start = at; text = take (r.stop - at) (drop at f) }

abbrev pub after : List ℕ → Cut → List Line
after f r = lines_at f r.next r.no

opens_by : (l : Line) (kind : Kind) (t : Bool) → kind ≡ kind_of l.text → t ≡ is_opening kind → opens_service l ≡ t
unfolding opens_service
opens_by l kind t w o = sym (o ∙ ap is_opening w)

-- what begins where a service may begin opens one
pub first-opens : (f : List ℕ) (at n : ℕ) (r : Cut) → Boundary f at n → at < length f → r ≡ cut_at f at n → is_opening (kind_of (take (r.stop - at) (drop at f))) ≡ true
unfolding opens_service
first-opens f at n r b h e = opens-first (cut_line f at n r) (after f r) (ap head_lines (sym (cutting f at n r h e).step) ∙ b.opening)

-- ---- the next line of a service, for `search next`

module _ (f : List ℕ) (at n : ℕ) (r : Cut) (kind : Kind) (t : Bool) (h : at < length f) (d : r ≡ cut_at f at n) (w : kind ≡ kind_of (take (r.stop - at) (drop at f))) (o : t ≡ is_opening kind) where
  pub next-opens : t ≡ true → head_lines (lines_at f at n) ≡ []
  next-opens k = rw (cutting f at n r h d).step (head-open (cut_line f at n r) (after f r) (opens_by (cut_line f at n r) kind t w o ∙ k))

  pub next-told : (said : Told) → t ≡ false → n ≤ at + 1 → said ≡ told_in (take (r.stop - at) (drop at f)) → NextLine f at n said r.next r.no
  next-told said k v e =
      let c : Cutting f at n r = cutting f at n r h d in
      let l : Line = cut_line f at n r in
      let q : opens_service l ≡ false = opens_by l kind t w o ∙ k in
      record {
        line = l;
        own_number = refl;
        told = e;
        head = rw c.step (head-shut l (after f r) q);
        others = rw c.step (blocks-shut l (after f r) q);
        past = c.past;
        inside = c.inside;
        number = omega (arith, c);
      }

pub ruleset next = (tests, walk, nothing-opens, next-opens, next-told)

-- ---- the lines before the first service that were passed, up to line n at place `at`

pub record Headed (f : List ℕ) (at n : ℕ) : Type 0 where
  pub clean : head_first (lines_of f) ≡ head_first (lines_at f at n)
  pub services : blocks (lines_of f) ≡ blocks (lines_at f at n)
  pub inside : at ≤ length f
  pub number : n ≤ at + 1

pub head-start : (f : List ℕ) → Headed f 0 1
head-start f = record { clean = refl; services = refl; inside = omega arith; number = omega arith }

-- what stands before plays no part in refusal 12
first-before : (a b ls : List Line) → first (λ before l. given (not (skipped l.text)) 12 l.no) a ls ≡ first (λ before l. given (not (skipped l.text)) 12 l.no) b ls
unfolding first
first-before a b [] = refl
first-before a b (l ∷ ls) = rw (first-before (a ++ (l ∷ [])) (b ++ (l ∷ [])) ls) refl

module _ (l : Line) (ls : List Line) (q : opens_service l ≡ false) where
  offence-skip : skipped l.text ≡ true → head_first (l ∷ ls) ≡ head_first ls
  unfolding first ◌<|>◌
  offence-skip s = rw (head-shut l ls q, s) (first-before (l ∷ []) [] (head_lines ls))

  offence-stray : skipped l.text ≡ false → head_first (l ∷ ls) ≡ some (offence_at 12 l.no)
  unfolding first ◌<|>◌
  offence-stray s = rw (head-shut l ls q, s) refl

module _ (f : List ℕ) (at n : ℕ) (p : Headed f at n) where
  cleared : length f ≤ most_file_bytes → head_lines (lines_at f at n) ≡ [] → HeadClear f at n
  unfolding first
  cleared s z = record {
    clean = p.clean ∙ rw z refl;
    services = p.services;
    next = record { short = s; inside = p.inside; number = p.number; opening = z };
  }

  pub head-none : length f ≤ most_file_bytes → length f ≤ at → HeadClear f at n
  head-none s h = cleared s (nothing-opens f at n h)

  module _ (r : Cut) (kind : Kind) (t : Bool) (h : at < length f) (d : r ≡ cut_at f at n) (w : kind ≡ kind_of (take (r.stop - at) (drop at f))) (o : t ≡ is_opening kind) where
    head_clear : length f ≤ most_file_bytes → t ≡ true → HeadClear f at n
    head_clear s k = cleared s (next-opens f at n r kind t h d w o k)

    -- s says whether the line is skipped
    module _ (s : Bool) (k : t ≡ false) (i : s ≡ skipped (take (r.stop - at) (drop at f))) where
      head_more : s ≡ true → Headed f r.next r.no
      head_more j =
          let c : Cutting f at n r = cutting f at n r h d in
          let l : Line = cut_line f at n r in
          let ls : List Line = after f r in
          let q : opens_service l ≡ false = opens_by l kind t w o ∙ k in
          record {
            clean = p.clean ∙ rw c.step (offence-skip l ls q (sym i ∙ j));
            services = p.services ∙ rw c.step (blocks-shut l ls q);
            inside = c.inside;
            number = omega (arith, p.number, c);
          }

      head-stray : (e : Offence) → s ≡ false → e ≡ offence_at 12 n → head_first (lines_of f) ≡ some e
      head-stray e j z = p.clean ∙ rw ((cutting f at n r h d).step, z) (offence-stray (cut_line f at n r) (after f r) (opens_by (cut_line f at n r) kind t w o ∙ k) (sym i ∙ j))

  -- the line that is cut there, by its text alone
  module _ (r : Cut) (h : at < length f) (d : r ≡ cut_at f at n) where
    abbrev text : List ℕ
    text = take (r.stop - at) (drop at f)

    pub head_passed : false ≡ ends_head text → Headed f r.next r.no
    head_passed e = go (is_opening (kind_of text)) (skipped text) refl refl e
      where
        go : (t s : Bool) → t ≡ is_opening (kind_of text) → s ≡ skipped text → false ≡ cond t true (not s) → Headed f r.next r.no
        go false true o i e = head_more r (kind_of text) false h d refl o true refl i refl
        go false false o i e = absurd (true≢false (sym e))
        go true s o i e = absurd (true≢false (sym e))

    pub head-answer : (z : Result (ℕ × ℕ) Offence) → length f ≤ most_file_bytes → true ≡ ends_head text → z ≡ head_by (is_opening (kind_of text)) at n → HeadAs f z
    head-answer z m e v = go (is_opening (kind_of text)) (skipped text) refl refl e v
      where
        go : (t s : Bool) → t ≡ is_opening (kind_of text) → s ≡ skipped text → true ≡ cond t true (not s) → z ≡ head_by t at n → HeadAs f z
        go true s o i e v = rw v (head_clear r (kind_of text) true h d refl o m refl)
        go false false o i e v = rw v (head-stray r (kind_of text) false h d refl o false refl i (offence_at 12 n) refl refl)
        go false true o i e v = absurd (true≢false e)

-- ---- a line that ends them, for `search heading`: t says whether it opens a service

module _ (l : List ℕ) (kind : Kind) (t : Bool) (w : kind ≡ kind_of l) (o : t ≡ is_opening kind) where
  opens : is_opening (kind_of l) ≡ t
  opens = sym (o ∙ ap is_opening w)

  pub ends_open : t ≡ true → true ≡ ends_head l
  ends_open k = rw (opens ∙ k) refl

  pub ends-shut : (s : Bool) → t ≡ false → s ≡ skipped l → not s ≡ ends_head l
  ends-shut s k i = rw (opens ∙ k, i) refl

  pub at_open : (at n : ℕ) → t ≡ true → Ok (at, n) ≡ head_by (is_opening (kind_of l)) at n
  at_open at n k = rw (opens ∙ k) refl

  pub at-shut : (at n : ℕ) (e : Offence) → t ≡ false → e ≡ offence_at 12 n → Err e ≡ head_by (is_opening (kind_of l)) at n
  at-shut at n e k z = rw (opens ∙ k, z) refl

pub ruleset heading = (tests, walk, ends_open, ends-shut, at_open, at-shut)

-- ---- the service that begins at a place, for callers

pub service-here : (f : List ℕ) (at n : ℕ) → Boundary f at n → at < length f → blocks (lines_at f at n) ≡ service_lines_at f at n ∷ blocks (after f (cut_at f at n))
service-here f at n b h =
    let r : Cut = cut_at f at n in
    let c : Cutting f at n r = cutting f at n r h refl in
    rw c.step (blocks-open (cut_line f at n r) (after f r) (opens-first (cut_line f at n r) (after f r) (ap head_lines (sym c.step) ∙ b.opening)))

-- past the end there are no services
pub services-none : (f : List ℕ) (at n : ℕ) → length f ≤ at → blocks (lines_at f at n) ≡ []
unfolding blocks
services-none f at n h = rw (lines_none f at n h) refl
