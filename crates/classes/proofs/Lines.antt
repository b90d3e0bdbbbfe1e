-- ZUGART's lines: what a line that is skipped or has its form holds, the lines and codes before a place, and the needs of the functions that read one line
-- (`search line_reads_lem`) and of every walk (`search walking`). Assumes nothing.
use mathlib.Core.Path.{◌≡◌, refl, ap, sym, ◌∙◌}
use mathlib.Core.List.{List, [], ◌∷◌, ◌++◌, append-nil}
use mathlib.Core.Bool.{Bool, true, false, cond, not, ◌&&◌, ◌||◌}
use Prim.Native.Nat.{ℕ, ◌+◌, ◌-◌, ◌≤◌, ◌<◌}
use native.Mathlib.Nat.{add-zero}
use native.Mathlib.Omega.{arith}
use lib.ListN.{length, take, drop, length-take, length-append}
use lib.Seq.{take_all, take-take}
use borrow.Author.Tests.{eq-eqb, ne_eqb}
use Rattle.base.specs.Lists.{every, some_of, gathered}
use Rattle.base.proofs.Laws.{tests, apart, clash}
use Rattle.base.proofs.Loops.{and-true}
use Rattle.columns.specs.Columns.{column}
use Rattle.lines.specs.Lines.{Line, lines_from, lines_of, skipped, cut_at}
use Rattle.lines.specs.declared.Cut.{Cut}
use Rattle.lines.proofs.Laws.{cutting, lines-nil, lines-le, walk}
use Rattle.forms.specs.Form.{form_of}
use Rattle.forms.specs.Columns.{class_columns}
use Rattle.timetable.specs.Plan.{three_bytes}
use Rattle.sections.specs.Inner.Sections.{is_sound, numbered_by, number_on, as_number, numbers, sound_section}
use Rattle.sections.specs.declared.Section.TheVariants.{Classes}
use Rattle.sections.specs.declared.Numbered.{Numbered}
use Rattle.sections.specs.declared.Numbered.TheVariants.{Number, Skipped, Broken}
use Rattle.sections.proofs.Walk.{Walked, walked-first, walked_lines, walked-before, walked_next}
use Rattle.sections.proofs.Held.{skipped-number}
use Rattle.sections.proofs.Sound.{sound-number as record-number}
use Rattle.sections.proofs.Scans.{numbers-le, numbers_more, place_inside, walked-small}
use Rattle.classes.specs.Inner.Passes.{before, codes, Upto, Next, broken_column, sound, no_code, LineCode, group_on}
use Rattle.classes.specs.Inner.Index.{holds_code}

-- ---- lists

pub every_append : {X : Type 0} (t : X → Bool) (a b : List X) → every t (a ++ b) ≡ (every t a && every t b)
unfolding every
every_append t [] b = refl
every_append t (x ∷ a) b = go (t x) (every_append t a b)
  where
    go : (u : Bool) → every t (a ++ b) ≡ (every t a && every t b) → (u && every t (a ++ b)) ≡ ((u && every t a) && every t b)
    go true e = e
    go false e = refl

pub some-append : {X : Type 0} (t : X → Bool) (a b : List X) → some_of t (a ++ b) ≡ (some_of t a || some_of t b)
unfolding some_of
some-append t [] b = refl
some-append t (x ∷ a) b = go (t x) (some-append t a b)
  where
    go : (u : Bool) → some_of t (a ++ b) ≡ (some_of t a || some_of t b) → (u || some_of t (a ++ b)) ≡ ((u || some_of t a) || some_of t b)
    go true e = refl
    go false e = e

-- ---- a line that is skipped or has its form

pub sound-held : (text : List ℕ) → is_sound (number_on Classes text) ≡ true → skipped text ≡ false → number_on Classes text ≡ Number (three_bytes 1 text)
sound-held text z e = sym (record-number Classes text z e)

pub number-skips : (text : List ℕ) → skipped text ≡ true → number_on Classes text ≡ Skipped
number-skips text e = sym (skipped-number Classes text e)

-- what is a record is not skipped
pub held-stands : (text : List ℕ) (k : ℕ) → number_on Classes text ≡ Number k → skipped text ≡ false
unfolding number_on
held-stands text k e = go (skipped text) refl e
  where
    go : (t : Bool) → skipped text ≡ t → cond t Skipped (numbered_by (form_of class_columns text) (three_bytes 1 text)) ≡ Number k → t ≡ false
    go true s e = apart cc
    go false s e = refl

pub sound-split : (a b : List Line) → sound (a ++ b) ≡ true → (sound a ≡ true) × (sound b ≡ true)
unfolding sound sound_section
sound-split a b s = and-true (sound a) (sound b) (sym (every_append _ a b) ∙ s)

pub sound-first : (l : Line) (ls : List Line) → sound (l ∷ ls) ≡ true → (is_sound (number_on Classes l.text) ≡ true) × (sound ls ≡ true)
unfolding sound sound_section every
sound-first l ls s = and-true (is_sound (number_on Classes l.text)) (sound ls) s

sound-one : (l : Line) → is_sound (number_on Classes l.text) ≡ true → sound (l ∷ []) ≡ true
unfolding sound sound_section every
sound-one l z = rw z refl

pub sound_more : (a : List Line) (l : Line) → sound a ≡ true → is_sound (number_on Classes l.text) ≡ true → sound (a ++ (l ∷ [])) ≡ true
unfolding sound sound_section
sound_more a l s z = every_append _ a (l ∷ []) ∙ rw (s, sound-one l z) refl

-- ---- the walk: r is the line cut at `at`

pub before-first : (f : List ℕ) → before f 0 ≡ []
unfolding before
before-first f = lines-nil 1 0

pub codes-first : (f : List ℕ) → codes f 0 ≡ []
unfolding codes numbers gathered
codes-first f = ap (numbers Classes) (before-first f)

pub before-all : (f : List ℕ) → before f (length f) ≡ lines_of f
unfolding before
before-all f = ap (λ (s : List ℕ). lines_of s) (take_all (length f) f (omega arith))

pub upto-end : (f : List ℕ) → Upto f (length f)
upto-end f = record { inside = omega arith; rest = []; split = sym (append-nil (before f (length f)) ∙ before-all f) }

-- the lines before a place of a part
pub before-part : (f : List ℕ) (at to : ℕ) → at ≤ to → before (take to f) at ≡ before f at
unfolding before
before-part f at to h = ap (λ (s : List ℕ). lines_of s) (take-take at to f h)

pub codes-part : (f : List ℕ) (at to : ℕ) → at ≤ to → codes (take to f) at ≡ codes f at
unfolding codes
codes-part f at to h = ap (numbers Classes) (before-part f at to h)

pub codes-le : (f : List ℕ) (at : ℕ) → length (codes f at) ≤ at
unfolding codes before
codes-le f at = omega (arith, numbers-le Classes (lines_of (take at f)), lines-le 1 0 (take at f), length-take at f)

module _ (f : List ℕ) (at n : ℕ) (w : Walked f at n) where
  pub walked-no : n ≡ length (before f at) + 1
  unfolding before
  walked-no = w.number

  pub walked-upto : at ≤ length f → Upto f at
  unfolding before
  walked-upto h = record { inside = h; rest = lines_from n at (drop at f); split = walked_lines f at n w }

  module _ (r : Cut) (h : at < length f) (e : r ≡ cut_at f at n) where
    abbrev text : List ℕ
    text = take (r.stop - at) (drop at f)

    abbrev here : Line
    here = record { no = n; start = at; text = text }

    abbrev after : List Line
    after = lines_from r.no r.next (drop r.next f)

    pub here-split : lines_of f ≡ before f at ++ (here ∷ after)
    unfolding before
    here-split = walked_lines f at n w ∙ ap (λ (ls : List Line). lines_of (take at f) ++ ls) (cutting f at n r h e).step

    pub before-next : before f r.next ≡ before f at ++ (here ∷ [])
    unfolding before
    before-next = walked-before f at n w r h e

    codes-next : codes f r.next ≡ codes f at ++ as_number (number_on Classes text)
    unfolding codes
    codes-next = ap (numbers Classes) before-next ∙ numbers_more Classes (before f at) here

    pub codes-skip : skipped text ≡ true → codes f r.next ≡ codes f at
    codes-skip s = codes-next ∙ rw (number-skips text s, append-nil) refl

    pub here-sound : sound (lines_of f) ≡ true → is_sound (number_on Classes text) ≡ true
    here-sound s = (sound-first here after (sound-split (before f at) (here ∷ after) (sym (ap sound here-split) ∙ s)).1).0

    pub codes-held : sound (lines_of f) ≡ true → skipped text ≡ false → codes f r.next ≡ codes f at ++ (three_bytes 1 text ∷ [])
    codes-held s z = codes-next ∙ rw (sound-held text (here-sound s) z) refl

    pub codes-count : (c' : ℕ) → c' ≡ length (codes f at) + length (as_number (number_on Classes text)) → c' ≡ length (codes f r.next)
    codes-count c' d = d ∙ sym (ap length codes-next ∙ length-append (codes f at) (as_number (number_on Classes text)))

    pub next-at : (P : Line → Type 0) → P here → Next f at P
    next-at P p = record { line = here; rest = after; split = here-split; number = walked-no; says = p }

pub walked-past : (f : List ℕ) (at n : ℕ) (r : Cut) → at < length f → r ≡ cut_at f at n → r.next ≤ length f
walked-past f at n r h e = (cutting f at n r h e).inside

pub start-inside : (f : List ℕ) → 0 ≤ length f
start-inside f = omega arith

pub ruleset walking = (tests, walk, walked-first, walked_next, walked-past, start-inside, place_inside, walked-small)

-- ---- what is read on a line, for `search line_reads_lem`: t is whether it is skipped, c its code

module _ (text : List ℕ) (t : Bool) (e : t ≡ skipped text) where
  pub code-none : t ≡ true → LineCode text 16777216
  code-none y = record { most = omega arith; skip = λ _. refl; held = λ z. clash (sym z ∙ sym e ∙ y); small = λ z. clash (sym z ∙ sym e ∙ y) }

  pub code-held : (c : ℕ) → t ≡ false → c ≡ three_bytes 1 text → c < no_code → LineCode text c
  code-held c y d l = record { most = omega arith; skip = λ z. clash (sym y ∙ e ∙ z); held = λ _. d; small = λ _. l }

  pub group-skip : t ≡ true → 0 ≡ group_on text
  unfolding group_on
  group-skip y = rw (sym e ∙ y) refl

  module _ (y : t ≡ false) (x : ℕ) (d : x ≡ column 8 text) where
    pub group-none : x ≡ 32 → 1 ≡ group_on text
    unfolding group_on
    group-none z = rw (sym e ∙ y, ← d, eq-eqb x 32 z) refl

    pub group-one : (x ≡ 32 → ⊥) → 2 ≡ group_on text
    unfolding group_on
    group-one z = rw (sym e ∙ y, ← d, ne_eqb x 32 z) refl

  module _ (code c : ℕ) (d : c ≡ three_bytes 1 text) where
    pub code_same : c ≡ code → not t ≡ holds_code code text
    code_same y = rw (← d, eq-eqb c code y, e) refl

module _ (text : List ℕ) (code c : ℕ) (d : c ≡ three_bytes 1 text) where
  pub code_other : (c ≡ code → ⊥) → false ≡ holds_code code text
  code_other y = rw (← d, ne_eqb c code y) refl

pub ruleset line_reads_lem = (tests, code-none, code-held, group-skip, group-none, group-one, code_same, code_other)

-- a line's number: whether it is broken and where, and how many records there are with it

module _ (n : Numbered) where
  pub sound-skipped : n ≡ Skipped → false ≡ not (is_sound n)
  sound-skipped e = rw e refl

  pub sound-broken : (c : ℕ) → n ≡ Broken c → true ≡ not (is_sound n)
  sound-broken c e = rw e refl

  pub sound-number : (k : ℕ) → n ≡ Number k → false ≡ not (is_sound n)
  sound-number k e = rw e refl

  pub column-skipped : n ≡ Skipped → 0 ≡ broken_column n
  column-skipped e = rw e refl

  pub column-broken : (c : ℕ) → n ≡ Broken c → c ≡ broken_column n
  column-broken c e = rw e refl

  pub column-number : (k : ℕ) → n ≡ Number k → 0 ≡ broken_column n
  column-number k e = rw e refl

  module _ (count : ℕ) where
    pub count-skipped : n ≡ Skipped → count ≡ count + length (as_number n)
    count-skipped e = rw e (sym (add-zero count))

    pub count-broken : (c : ℕ) → n ≡ Broken c → count ≡ count + length (as_number n)
    count-broken c e = rw e (sym (add-zero count))

    pub count-one : (k : ℕ) → n ≡ Number k → count + 1 ≡ count + length (as_number n)
    count-one k e = rw e refl

pub ruleset number-reads = (tests, sound-skipped, sound-broken, sound-number, column-skipped, column-broken, column-number, count-skipped, count-broken, count-one)
