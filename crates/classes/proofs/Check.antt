-- The check of ZUGART: the needs of the passes for forms (`search forming`) and for tariff groups (`search tariffs`), and what the passes say together
-- (`search checks`). Assumes nothing.
use Rattle.std.specs.Prelude.{Ok, Err}
use mathlib.Core.Path.{◌≡◌, refl, ap, sym, ◌∙◌}
use mathlib.Core.List.{List, [], ◌∷◌, ◌++◌, append-nil, append_assoc}
use mathlib.Core.Bool.{Bool, true, false, cond, not}
use mathlib.Core.Option.{Option, none, some}
use Prim.Native.Nat.{ℕ, ◌+◌, ◌-◌, ◌≤◌, ◌<◌}
use native.Mathlib.Nat.{sub-zero}
use native.Mathlib.Omega.{arith}
use lib.ListN.{length, take, drop, length-take}
use lib.Seq.{length-take-le}
use borrow.Author.Tests.{not-true, not-false}
use Rattle.base.specs.Lists.{every, gathered}
use Rattle.base.proofs.Laws.{tests, apart, clash}
use Rattle.base.proofs.Loops.{and-true}
use Rattle.base.proofs.Lists.{gathered-append}
use Rattle.columns.specs.Columns.{column, is_blank}
use Rattle.lines.specs.Lines.{Line, lines_of, skipped, cut_at}
use Rattle.lines.specs.declared.Cut.{Cut}
use Rattle.forms.specs.Form.{form_of, Form, Fits, Broken as BrokenForm}
use Rattle.forms.specs.Columns.{class_columns}
use Rattle.timetable.specs.Layout.{most_file_bytes}
use Rattle.timetable.specs.Offences.{offence_at, given, ◌<|>◌, first, checked_by}
use Rattle.timetable.specs.Files.{listed, held_in, held_by, class_of, has_tariff, tariff_of, tariff_offence, classes_first}
use Rattle.timetable.specs.Plan.{three_bytes}
use Rattle.timetable.specs.declared.Offence.{Offence}
use Rattle.timetable.proofs.Offences.{first-none}
use Rattle.sections.specs.Inner.Sections.{is_sound, numbered_by, number_on, as_number, numbers, has_number, record_offence, line_offence, sound_section}
use Rattle.sections.specs.declared.Section.TheVariants.{Classes}
use Rattle.sections.specs.declared.Numbered.{Numbered}
use Rattle.sections.specs.declared.Numbered.TheVariants.{Number, Skipped, Broken}
use Rattle.sections.proofs.Held.{held-gathered}
use Rattle.sections.proofs.Lookups.{has-class}
use Rattle.sections.proofs.Walk.{Walked}
use Rattle.sections.proofs.Scans.{numbers_more}
use Rattle.sections.proofs.Files.{classes-checked}
use Rattle.classes.specs.Inner.Passes.{before, codes, broken_column, sound, BreaksAt, FormedAs, once, any, code_on, Repeats, RepeatAs, differs, group_of, group_on, other_group, group_with, tariff_offence_on, Differs, TariffAs}
use Rattle.classes.specs.Inner.Index.{IndexOf, ClassesAfter}
use Rattle.classes.specs.declared.Formed.{Formed}
use Rattle.classes.specs.declared.Stand.{Stand}
use Rattle.classes.proofs.Lines.{sound-held, number-skips, held-stands, sound-split, sound-first, sound_more, before-first, before-all, before-part, codes-first, codes-le, walked-no, walked-upto, before-next, codes-count, here-sound, next-at}
use Rattle.classes.proofs.Once.{once-append, once-front, numbers-append}

-- ---- forms: n is what the line cut at `at` has for a number, t whether it is broken

pub sound_none : (f : List ℕ) → sound (before f 0) ≡ true
unfolding sound sound_section every
sound_none f = ap sound (before-first f)

pub count_none : (f : List ℕ) → 0 ≡ length (codes f 0)
count_none f = sym (ap length (codes-first f))

pub count_small : (f : List ℕ) (at count : ℕ) → count ≡ length (codes f at) → at ≤ length f → length f ≤ most_file_bytes → count ≤ most_file_bytes
count_small f at count c l h = omega (arith, c, codes-le f at)

module _ (f : List ℕ) (at no' : ℕ) (r : Cut) (n : Numbered) (t : Bool) (count : ℕ) (h : at < length f) (e : r ≡ cut_at f at no') (w : Walked f at no')
    (y : n ≡ number_on Classes (take (r.stop - at) (drop at f))) where
  pub count_next : (c' : ℕ) → count ≡ length (codes f at) → c' ≡ count + length (as_number n) → c' ≡ length (codes f r.next)
  count_next c' c d = codes-count f at no' w r h e c' (rw (← c, ← y) d)

  pub sound-next : t ≡ not (is_sound n) → t ≡ false → sound (before f at) ≡ true → sound (before f r.next) ≡ true
  sound-next d z s = rw (before-next f at no' w r h e) (sound_more (before f at) _ s (rw (← y) (not-false _ (sym d ∙ z))))

  pub formed-out : (c : ℕ) → t ≡ not (is_sound n) → t ≡ true → c ≡ broken_column n → at ≤ length f → sound (before f at) ≡ true → count ≡ length (codes f at)
      → FormedAs f (record { at = at; no = no'; count = count; column = c })
  unfolding BreaksAt
  formed-out c d z k l s q = record {
    upto = walked-upto f at no' w l;
    lines_sound = s;
    counted = q;
    number = walked-no f at no' w;
    broken = λ _. next-at f at no' w r h e (BreaksAt c) (sym y ∙ go n (not-true _ (sym d ∙ z)) ∙ ap Broken (sym k));
  }
    where
      go : (x : Numbered) → is_sound x ≡ false → x ≡ Broken (broken_column x)
      go Skipped i = clash (sym i)
      go (Number j) i = clash (sym i)
      go (Broken j) i = refl

pub formed-done : (f : List ℕ) (at no' count : ℕ) → length f ≤ at → at ≤ length f → Walked f at no' → sound (before f at) ≡ true → count ≡ length (codes f at)
    → FormedAs f (record { at = at; no = no'; count = count; column = 0 })
formed-done f at no' count h l w s q = record {
  upto = walked-upto f at no' w l;
  lines_sound = s;
  counted = q;
  number = walked-no f at no' w;
  broken = λ k. absurd (omega arith);
}

pub ruleset forming = (tests, sound_none, count_none, count_small, count_next, sound-next, formed-out, formed-done)

-- ---- tariff groups

first-append : (off : List Line → Line → Option Offence) (a xs ys : List Line) → first off a (xs ++ ys) ≡ (first off a xs <|> first off (a ++ xs) ys)
unfolding first ◌<|>◌
first-append off a [] ys = rw append-nil refl
first-append off a (x ∷ xs) ys = rw (first-append off (a ++ (x ∷ [])) xs ys, append_assoc) (go (off a x))
  where
    go : (o : Option Offence) → (o <|> (first off (a ++ (x ∷ [])) xs <|> first off (a ++ (x ∷ xs)) ys)) ≡ ((o <|> first off (a ++ (x ∷ [])) xs) <|> first off (a ++ (x ∷ xs)) ys)
    go none = refl
    go (some o) = refl

first_more : (off : List Line → Line → Option Offence) (xs : List Line) (l : Line) → first off [] xs ≡ none → off xs l ≡ none → first off [] (xs ++ (l ∷ [])) ≡ none
unfolding first ◌<|>◌
first_more off xs l e d = first-append off [] xs (l ∷ []) ∙ rw (e, d) refl

tariffs-more : (xs : List Line) (l : Line) → held_in tariff_of (xs ++ (l ∷ [])) ≡ held_in tariff_of xs ++ listed (tariff_of l)
unfolding gathered
tariffs-more xs l = held-gathered tariff_of (xs ++ (l ∷ [])) ∙ gathered-append (λ (k : Line). listed (tariff_of k)) xs (l ∷ []) ∙ rw (← held-gathered tariff_of xs, append-nil) refl

tariff-skipped : (l : Line) → skipped l.text ≡ true → listed (tariff_of l) ≡ []
tariff-skipped l e = rw e refl

tariff-held : (l : Line) → skipped l.text ≡ false → is_sound (number_on Classes l.text) ≡ true → listed (tariff_of l) ≡ has_tariff l.text ∷ []
unfolding number_on
tariff-held l e z = rw e (go (form_of class_columns l.text) (rw e at z))
  where
    go : (g : Form) → is_sound (numbered_by g (three_bytes 1 l.text)) ≡ true → listed (held_by g (has_tariff l.text)) ≡ has_tariff l.text ∷ []
    go Fits z = refl
    go (BrokenForm c) z = apart cc

-- as numbers
other-is : (ts : List Bool) (blank : Bool) → other_group (group_of ts) (cond blank 1 2) ≡ differs ts (not blank)
other-is [] blank = refl
other-is (true ∷ ts) true = refl
other-is (true ∷ ts) false = refl
other-is (false ∷ ts) true = refl
other-is (false ∷ ts) false = refl

other-skip : (ts : List Bool) → other_group (group_of ts) 0 ≡ false
other-skip [] = refl
other-skip (true ∷ ts) = refl
other-skip (false ∷ ts) = refl

with-is : (ts : List Bool) (blank : Bool) → group_with (group_of ts) (cond blank 1 2) ≡ group_of (ts ++ (not blank ∷ []))
with-is [] true = refl
with-is [] false = refl
with-is (true ∷ ts) blank = refl
with-is (false ∷ ts) blank = refl

with-skip : (ts : List Bool) → group_with (group_of ts) 0 ≡ group_of ts
with-skip [] = refl
with-skip (true ∷ ts) = refl
with-skip (false ∷ ts) = refl

abbrev groups_of : List ℕ → ℕ → List Bool
groups_of f at = held_in tariff_of (before f at)

pub group-first : (f : List ℕ) → 0 ≡ group_of (held_in tariff_of (before f 0))
unfolding held_in
group-first f = rw (before-first f) refl

pub alike-first : (f : List ℕ) → first tariff_offence_on [] (before f 0) ≡ none
unfolding first
alike-first f = rw (before-first f) refl

-- r is the line cut at `at`, own its group, t whether it differs
module _ (f : List ℕ) (at n : ℕ) (r : Cut) (group own : ℕ) (t : Bool) (h : at < length f) (e : r ≡ cut_at f at n) (w : Walked f at n) (g : group ≡ group_of (held_in tariff_of (before f at)))
    (o : own ≡ group_on (take (r.stop - at) (drop at f))) (d : t ≡ other_group group own) where
  abbrev text : List ℕ
  text = take (r.stop - at) (drop at f)

  abbrev here : Line
  here = record { no = n; start = at; text = text }

  own-skip : skipped text ≡ true → own ≡ 0
  unfolding group_on
  own-skip k = o ∙ rw k refl

  own_held : skipped text ≡ false → own ≡ cond (is_blank (column 8 text)) 1 2
  unfolding group_on
  own_held k = o ∙ rw k refl

  told-held : skipped text ≡ false → t ≡ differs (held_in tariff_of (before f at)) (has_tariff text)
  told-held k = d ∙ rw (g, own_held k) (other-is (groups_of f at) (is_blank (column 8 text)))

  pub group-next : (x : ℕ) → sound (lines_of f) ≡ true → x ≡ group_with group own → x ≡ group_of (held_in tariff_of (before f r.next))
  group-next x s y = y ∙ rw (before-next f at n w r h e, tariffs-more, g) (go (skipped text) refl)
    where
      go : (u : Bool) → skipped text ≡ u → group_with (group_of (groups_of f at)) own ≡ group_of (groups_of f at ++ listed (tariff_of here))
      go true k = rw (own-skip k, tariff-skipped here k, append-nil) (with-skip (groups_of f at))
      go false k = rw (own_held k, tariff-held here k (here-sound f at n w r h e s)) (with-is (groups_of f at) (is_blank (column 8 text)))

  pub alike_next : t ≡ false → first tariff_offence_on [] (before f at) ≡ none → first tariff_offence_on [] (before f r.next) ≡ none
  unfolding tariff_offence_on
  alike_next z a = rw (before-next f at n w r h e) (first_more tariff_offence_on (before f at) here a (go (skipped text) refl))
    where
      go : (u : Bool) → skipped text ≡ u → cond u none (given (differs (groups_of f at) (has_tariff text)) 37 n) ≡ none
      go true k = refl
      go false k = rw (sym (told-held k) ∙ z) refl

  pub tariff-out : t ≡ true → at ≤ length f → first tariff_offence_on [] (before f at) ≡ none → TariffAs f (record { at = at; no = n })
  tariff-out z l a = record {
    upto = walked-upto f at n w l;
    alike = a;
    number = λ _. walked-no f at n w;
    differing = λ _. next-at f at n w r h e (Differs (before f at)) (go (skipped text) refl);
  }
    where
      go : (u : Bool) → skipped text ≡ u → Differs (before f at) here
      go true k = clash (sym (d ∙ rw (g, own-skip k) (other-skip (groups_of f at))) ∙ z)
      go false k = record { held = k; other = sym (told-held k) ∙ z }

pub tariff-done : (f : List ℕ) (at n : ℕ) → length f ≤ at → at ≤ length f → Walked f at n → first tariff_offence_on [] (before f at) ≡ none → TariffAs f (record { at = at; no = n })
tariff-done f at n h l w a = record { upto = walked-upto f at n w l; alike = a; number = λ k. absurd (omega arith); differing = λ k. absurd (omega arith) }

pub ruleset tariffs = (tests, group-first, alike-first, group-next, alike_next, tariff-out, tariff-done)

-- ---- the offence of one line

abbrev offence : List Line → Line → Option Offence
offence = line_offence Classes 0 []

by-differs : (es : List Bool) (line : ℕ) (has : Bool) → tariff_offence es line has ≡ given (differs es has) 37 line
by-differs [] line has = refl
by-differs (e ∷ es) line has = refl

module _ (xs : List Line) (l : Line) where
  offence-skip : skipped l.text ≡ true → offence xs l ≡ none
  unfolding line_offence
  offence-skip s = rw (number-skips l.text s) refl

  offence-broken : (c : ℕ) → number_on Classes l.text ≡ Broken c → offence xs l ≡ some (record { number = 4; line = l.no; column = c })
  unfolding line_offence
  offence-broken c e = rw e refl

  module _ (k : ℕ) (e : number_on Classes l.text ≡ Number k) where
    offence-held : offence xs l ≡ (given (has_number k (numbers Classes xs)) 6 l.no <|> given (differs (held_in tariff_of xs) (has_tariff l.text)) 37 l.no)
    unfolding line_offence record_offence
    offence-held = rw (e, ← has-class (has_number k (numbers Classes xs)) k xs refl, by-differs) refl

    offence-repeat : has_number k (numbers Classes xs) ≡ true → offence xs l ≡ some (offence_at 6 l.no)
    unfolding ◌<|>◌
    offence-repeat s = offence-held ∙ rw s refl

    offence-tariff : has_number k (numbers Classes xs) ≡ false → differs (held_in tariff_of xs) (has_tariff l.text) ≡ true → offence xs l ≡ some (offence_at 37 l.no)
    unfolding ◌<|>◌
    offence-tariff s d = offence-held ∙ rw (s, d) refl

    offence-none : has_number k (numbers Classes xs) ≡ false → tariff_offence_on xs l ≡ none → offence xs l ≡ none
    unfolding ◌<|>◌ tariff_offence_on
    offence-none s d = offence-held ∙ rw s (rw (held-stands l.text k e) at d)

-- ---- codes that stand once

numbers-first : (l : Line) (ls : List Line) → numbers Classes (l ∷ ls) ≡ as_number (number_on Classes l.text) ++ numbers Classes ls
unfolding numbers gathered
numbers-first l ls = refl

once-first : (c : ℕ) (a cs : List ℕ) → once any a (c ∷ cs) ≡ true → (has_number c a ≡ false) × (once any (a ++ (c ∷ [])) cs ≡ true)
unfolding once
once-first c a cs e = let (x, y) = and-true (not (has_number c a)) (once any (a ++ (c ∷ [])) cs) e in (not-true _ x, y)

-- ---- lines without an offence: they have their form, their codes stand once, and their tariff groups are alike

-- the line l, and then the lines after it, of which `later` speaks
fine-step : (xs ls : List Line) (l : Line) → sound (l ∷ ls) ≡ true → once any (numbers Classes xs) (numbers Classes (l ∷ ls)) ≡ true → tariff_offence_on xs l ≡ none
    → (once any (numbers Classes (xs ++ (l ∷ []))) (numbers Classes ls) ≡ true → first offence (xs ++ (l ∷ [])) ls ≡ none) → (offence xs l <|> first offence (xs ++ (l ∷ [])) ls) ≡ none
unfolding ◌<|>◌
fine-step xs ls l s o b later = go (skipped l.text) refl
  where
    go : (u : Bool) → skipped l.text ≡ u → (offence xs l <|> first offence (xs ++ (l ∷ [])) ls) ≡ none
    go true k =
        let n = number-skips l.text k in
        rw (offence-skip xs l k) (later (rw (numbers_more, n, append-nil) (rw (numbers-first l ls, n) at o)))
    go false k =
        let n = sound-held l.text (sound-first l ls s).0 k in
        let (x, y) = once-first (three_bytes 1 l.text) (numbers Classes xs) (numbers Classes ls) (rw (numbers-first l ls, n) at o) in
        rw (offence-none xs l (three_bytes 1 l.text) n x b) (later (rw (numbers_more, n) y))

all-fine : (xs ls : List Line) → sound ls ≡ true → once any (numbers Classes xs) (numbers Classes ls) ≡ true → first tariff_offence_on xs ls ≡ none → first offence xs ls ≡ none
unfolding first
all-fine xs [] s o a = refl
all-fine xs (l ∷ ls) s o a =
    let (b, a') = first-none tariff_offence_on xs l ls a in
    fine-step xs ls l s o b (λ o'. all-fine (xs ++ (l ∷ [])) ls (sound-first l ls s).1 o' a')

-- the first offence is that of a line after lines without one
first-at : (xs : List Line) (l : Line) (ys : List Line) (o : Offence) → first offence [] xs ≡ none → offence xs l ≡ some o → first offence [] (xs ++ (l ∷ ys)) ≡ some o
unfolding first ◌<|>◌
first-at xs l ys o e d = first-append offence [] xs (l ∷ ys) ∙ rw (e, d) refl

refused-is : (f : List ℕ) (o : Offence) → first offence [] (lines_of f) ≡ some o → Err o ≡ checked_by (classes_first (lines_of f)) (length (held_in class_of (lines_of f))) (length (lines_of f) + 1)
refused-is f o e = classes-checked (lines_of f) 0 [] (Err o) (rw e refl)

-- the codes of lines stand once, and one of them is a record
once-there : (xs : List Line) (l : Line) (ls : List Line) → number_on Classes l.text ≡ Number (three_bytes 1 l.text) → once any [] (numbers Classes (xs ++ (l ∷ ls))) ≡ true
    → once any (numbers Classes xs) (three_bytes 1 l.text ∷ numbers Classes ls) ≡ true
once-there xs l ls n o =
    let d : numbers Classes (xs ++ (l ∷ ls)) ≡ numbers Classes xs ++ (three_bytes 1 l.text ∷ numbers Classes ls) =
    numbers-append xs (l ∷ ls) ∙ ap (λ (ns : List ℕ). numbers Classes xs ++ ns) (numbers-first l ls ∙ rw n refl) in
    (and-true (once any [] (numbers Classes xs)) (once any (numbers Classes xs) (three_bytes 1 l.text ∷ numbers Classes ls)) (sym (once-append any [] (numbers Classes xs) (three_bytes 1 l.text ∷ numbers Classes ls)) ∙ sym (ap (once any []) d) ∙ o)).1

-- ---- the passes together: a, b and c are the places that they found, each among the lines before the one that was found before it

module _ (f : List ℕ) (formed : Formed) (F : FormedAs f formed) where
  abbrev g : List ℕ
  g = take formed.at f

  pub end-inside : formed.at ≤ length f
  end-inside = F.upto.inside

  pub end_short : length f ≤ most_file_bytes → length (take (formed.at - 0) f) ≤ most_file_bytes
  end_short h = omega (arith, length-take (formed.at - 0) f)

  pub end-sound : sound (lines_of (take (formed.at - 0) f)) ≡ true
  unfolding before
  end-sound = rw sub-zero F.lines_sound

  whole-lines : length f ≤ formed.at → before f formed.at ≡ lines_of f
  whole-lines u = let e : formed.at ≡ length f = omega (arith, end-inside) in ap (before f) e ∙ before-all f

  pub whole-sound : length f ≤ formed.at → sound (lines_of f) ≡ true
  whole-sound u = rw (whole-lines u) at F.lines_sound

  module _ (repeat : Stand) (R₀ : RepeatAs (take (formed.at - 0) f) repeat) where
    R : RepeatAs g repeat
    R = rw sub-zero at R₀

    stop-low : repeat.at ≤ formed.at
    stop-low = omega (arith, R.upto.inside, length-take formed.at f)

    pub stop-inside : repeat.at ≤ length f
    stop-inside = let x = stop-low in let y = end-inside in omega arith

    pub stop-short : length f ≤ most_file_bytes → length (take (repeat.at - 0) f) ≤ most_file_bytes
    stop-short h = omega (arith, length-take (repeat.at - 0) f)

    same₂ : before g repeat.at ≡ before f repeat.at
    same₂ = before-part f repeat.at formed.at stop-low

    g_split : lines_of g ≡ before f repeat.at ++ R.upto.rest
    g_split = R.upto.split ∙ ap (λ (ls : List Line). ls ++ R.upto.rest) same₂

    g-sound : sound (lines_of g) ≡ true
    unfolding before
    g-sound = F.lines_sound

    sound₂ : sound (before f repeat.at) ≡ true
    sound₂ = (sound-split (before f repeat.at) R.upto.rest (sym (ap sound g_split) ∙ g-sound)).0

    pub stop-sound : sound (lines_of (take (repeat.at - 0) f)) ≡ true
    unfolding before
    stop-sound = rw sub-zero sound₂

    once₂ : once any [] (numbers Classes (before f repeat.at)) ≡ true
    unfolding codes
    once₂ = rw same₂ at R.apart

    F-split : (ls : List Line) → lines_of g ≡ ls → lines_of f ≡ ls ++ F.upto.rest
    unfolding before
    F-split ls e = F.upto.split ∙ ap (λ (xs : List Line). xs ++ F.upto.rest) e

    f-split : lines_of f ≡ before f repeat.at ++ (R.upto.rest ++ F.upto.rest)
    f-split = F-split (before f repeat.at ++ R.upto.rest) g_split ∙ append_assoc (before f repeat.at) R.upto.rest F.upto.rest

    earlier-there : (l : Line) → Repeats (codes g repeat.at) l → has_number (code_on l) (numbers Classes (before f repeat.at)) ≡ true
    unfolding codes
    earlier-there l x = rw same₂ at x.earlier

    module _ (other : Stand) (T₀ : TariffAs (take (repeat.at - 0) f) other) where
      abbrev k : List ℕ
      k = take repeat.at f

      T : TariffAs k other
      T = rw sub-zero at T₀

      place-low : other.at ≤ repeat.at
      place-low = omega (arith, T.upto.inside, length-take repeat.at f)

      same₃ : before k other.at ≡ before f other.at
      same₃ = before-part f other.at repeat.at place-low

      -- the lines before the last place, and the rest of those that were before
      k_split : (ls : List Line) → lines_of k ≡ before k other.at ++ ls → before f repeat.at ≡ before f other.at ++ ls
      unfolding before
      k_split ls e = e ∙ ap (λ (xs : List Line). xs ++ ls) same₃

      own : before f repeat.at ≡ before f other.at ++ T.upto.rest
      own = k_split T.upto.rest T.upto.split

      fine : first offence [] (before f other.at) ≡ none
      unfolding numbers gathered
      fine = all-fine [] (before f other.at)
          (sound-split (before f other.at) T.upto.rest (sym (ap sound own) ∙ sound₂)).0
          (once-front any (numbers Classes (before f other.at)) (numbers Classes T.upto.rest) (sym (ap (λ (ls : List Line). once any [] (numbers Classes ls)) own ∙ ap (once any []) (numbers-append (before f other.at) T.upto.rest)) ∙ once₂))
          (rw same₃ at T.alike)

      -- all lines, from those of the parts
      all_lines : (ls : List Line) → before f repeat.at ≡ before f other.at ++ ls → lines_of f ≡ before f other.at ++ (ls ++ (R.upto.rest ++ F.upto.rest))
      all_lines ls e = f-split ∙ ap (λ (xs : List Line). xs ++ (R.upto.rest ++ F.upto.rest)) e ∙ append_assoc (before f other.at) ls (R.upto.rest ++ F.upto.rest)

      -- 37
      found-tariff : other.at < repeat.at → first offence [] (lines_of f) ≡ some (offence_at 37 other.no)
      found-tariff h =
          let i : other.at < length k = omega (arith, length-take-le repeat.at f stop-inside) in
          let x = T.differing i in
          let y = k_split (x.line ∷ x.rest) x.split in
          let z = (sound-first x.line x.rest (sound-split (before f other.at) (x.line ∷ x.rest) (sym (ap sound y) ∙ sound₂)).1).0 in
          let n = sound-held x.line.text z x.says.held in
          let o = (once-first (three_bytes 1 x.line.text) (numbers Classes (before f other.at)) (numbers Classes x.rest) (once-there (before f other.at) x.line x.rest n (rw y at once₂))).0 in
          let d : x.line.no ≡ other.no = x.number ∙ sym (T.number i) in
          ap (first offence []) (all_lines (x.line ∷ x.rest) y)
          ∙ first-at (before f other.at) x.line (x.rest ++ (R.upto.rest ++ F.upto.rest)) (offence_at 37 other.no) fine
          (offence-tariff (before f other.at) x.line (three_bytes 1 x.line.text) n o (rw same₃ at x.says.other) ∙ ap (λ (j : ℕ). some (offence_at 37 j)) d)

      module _ (q : repeat.at ≤ other.at) where
        fine₂ : first offence [] (before f repeat.at) ≡ none
        fine₂ = let d : other.at ≡ repeat.at = omega (arith, place-low) in rw d at fine

        -- 6
        found-repeat : repeat.at < formed.at → first offence [] (lines_of f) ≡ some (offence_at 6 repeat.no)
        found-repeat h =
            let i : repeat.at < length g = omega (arith, length-take-le formed.at f end-inside) in
            let x = R.repeat i in
            let y : lines_of g ≡ before f repeat.at ++ (x.line ∷ x.rest) = x.split ∙ ap (λ (xs : List Line). xs ++ (x.line ∷ x.rest)) same₂ in
            let d : x.line.no ≡ repeat.no = x.number ∙ sym (R.number i) in
            ap (first offence []) (F-split (before f repeat.at ++ (x.line ∷ x.rest)) y ∙ append_assoc (before f repeat.at) (x.line ∷ x.rest) F.upto.rest)
            ∙ first-at (before f repeat.at) x.line (x.rest ++ F.upto.rest) (offence_at 6 repeat.no) fine₂
            (offence-repeat (before f repeat.at) x.line (code_on x.line) x.says.held (earlier-there x.line x.says) ∙ ap (λ (j : ℕ). some (offence_at 6 j)) d)

        module _ (v : formed.at ≤ repeat.at) where
          fine₁ : first offence [] (before f formed.at) ≡ none
          fine₁ = let d : repeat.at ≡ formed.at = omega (arith, stop-low) in rw d at fine₂

          -- 4
          found-broken : formed.at < length f → first offence [] (lines_of f) ≡ some (record { number = 4; line = formed.no; column = formed.column })
          unfolding BreaksAt
          found-broken h =
              let x = F.broken h in
              let d : x.line.no ≡ formed.no = x.number ∙ sym F.number in
              ap (first offence []) x.split
              ∙ first-at (before f formed.at) x.line x.rest _ fine₁ (offence-broken (before f formed.at) x.line formed.column x.says ∙ ap (λ (j : ℕ). some (record { number = 4; line = j; column = formed.column })) d)

          module _ (u : length f ≤ formed.at) where
            whole : before f formed.at ≡ lines_of f
            whole = whole-lines u

            found_none : first offence [] (lines_of f) ≡ none
            found_none = rw whole at fine₁

            counted-all : formed.count ≡ length (numbers Classes (lines_of f))
            unfolding codes
            counted-all = F.counted ∙ ap (λ (ls : List Line). length (numbers Classes ls)) whole

            pub check-holds : Ok (formed.count, formed.no) ≡ checked_by (classes_first (lines_of f)) (length (held_in class_of (lines_of f))) (length (lines_of f) + 1)
            check-holds = classes-checked (lines_of f) 0 [] (Ok (formed.count, formed.no))
                (rw (found_none, counted-all, F.number ∙ ap (λ (ls : List Line). length ls + 1) whole) refl)

            pub check-index : (m : List ℕ) → IndexOf f m → ClassesAfter f (Ok (formed.count, formed.no)) m
            check-index m i = record { held = λ _ _ _. i }

          pub check-broken : formed.at < length f → Err (record { number = 4; line = formed.no; column = formed.column }) ≡ checked_by (classes_first (lines_of f)) (length (held_in class_of (lines_of f))) (length (lines_of f) + 1)
          check-broken h = refused-is f _ (found-broken h)

        pub check-repeat : (o : Offence) → repeat.at < formed.at → o ≡ offence_at 6 repeat.no → Err o ≡ checked_by (classes_first (lines_of f)) (length (held_in class_of (lines_of f))) (length (lines_of f) + 1)
        check-repeat o h e = refused-is f o (found-repeat h ∙ ap some (sym e))

      pub check-tariff : (o : Offence) → other.at < repeat.at → o ≡ offence_at 37 other.no → Err o ≡ checked_by (classes_first (lines_of f)) (length (held_in class_of (lines_of f))) (length (lines_of f) + 1)
      check-tariff o h e = refused-is f o (found-tariff h ∙ ap some (sym e))

-- a refusal leaves no index
pub check-none : (f : List ℕ) (o : Offence) (m : List ℕ) → ClassesAfter f (Err o) m
check-none f o m = record { held = λ c n e. apart cc }

pub ruleset checks = (tests, end-inside, end_short, end-sound, stop-inside, stop-short, stop-sound, whole-sound, check-tariff, check-repeat, check-broken, check-holds, check-index, check-none)
