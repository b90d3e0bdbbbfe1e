-- ECKDATEN line by line, and the needs of reading it. Assumes nothing.
use Rattle.std.specs.Prelude.{Result, Ok, Err, Option, Some, None}
use mathlib.Core.Path.{◌≡◌, refl, ap, sym, ◌∙◌}
use mathlib.Core.List.{List, [], ◌∷◌}
use mathlib.Core.Option.{none, some}
use Prim.Native.Nat.{ℕ, ◌+◌, ◌-◌, ◌^◌, ◌≤◌, ◌<◌}
use native.Mathlib.Omega.{arith}
use native.Mathlib.Decide.{dec_lt}
use lib.ListN.{length, take, drop}
use Rattle.base.proofs.Laws.{apart, tests}
use Rattle.lines.specs.Lines.{Line, lines_at, lines_of, cut_at}
use Rattle.lines.specs.declared.Cut.{Cut}
use Rattle.lines.proofs.Laws.{cutting, lines_none, walk}
use Rattle.calendar.specs.Calendar.{date_in, period_of}
use Rattle.calendar.proofs.Bounds.{days-le}
use Rattle.forms.specs.Form.{form_of, Form, Fits, Broken}
use Rattle.forms.specs.Columns.{date_columns}
use Rattle.timetable.specs.Layout.{most_file_bytes, most_period_days}
use Rattle.timetable.specs.Offences.{offence_at, ◌<|>◌, first, checked_by}
use Rattle.timetable.specs.Files.{day_number, days_in, date_line_offence, period_first, period_in}
use Rattle.timetable.specs.declared.Offence.{Offence}
use Rattle.timetable.proofs.Offences.{checked-holds, checked_refused}
use Rattle.period.specs.Inner.Dates.{date_of, date_at}

-- "A period of n days has 1 to 380": no file gives more
pub period-short : (ls : List Line) → (period_in ls).n ≤ most_period_days
period-short [] = omega arith
period-short (s ∷ []) = omega arith
period-short (s ∷ e ∷ ls) = go (period_of a b) refl
  where
    a : ℕ
    a = day_number (date_in s.text)

    b : ℕ
    b = day_number (date_in e.text)

    go : (p : Option ℕ) → period_of a b ≡ p → days_in p ≤ most_period_days
    go (Some n) k = days-le a b n k
    go None k = omega arith

-- ---- a line that has to be a date, for `search dates`

pub no-date : (f : List ℕ) (at n : ℕ) (x : Offence) → length f ≤ at → x ≡ offence_at 2 n → Err x ≡ date_at f at n
unfolding date_at
no-date f at n x h z = rw (lines_none f at n h) (ap Err z)

-- r is the line cut there, g its form, d its date
module _ (f : List ℕ) (at n : ℕ) (r : Cut) (h : at < length f) (e : r ≡ cut_at f at n) where
  abbrev text : List ℕ
  text = take (r.stop - at) (drop at f)

  pub place-fits : length f ≤ most_file_bytes → r.next < 2 ^ 32
  place-fits l = omega (arith, (cutting f at n r h e).inside)

  module _ (g : Form) (q : g ≡ form_of date_columns text) where
    pub date-broken : (c : ℕ) → g ≡ Broken c → Err (record { number = 4; line = n; column = c }) ≡ date_at f at n
    unfolding date_at ◌<|>◌
    date-broken c k = rw ((cutting f at n r h e).step, sym q ∙ k) refl

    module _ (k : g ≡ Fits) (d : Option ℕ) (y : d ≡ date_in text) where
      pub date-none : (x : Offence) → d ≡ None → x ≡ offence_at 5 n → Err x ≡ date_at f at n
      unfolding date_at ◌<|>◌
      date-none x z v = rw ((cutting f at n r h e).step, sym q ∙ k, sym y ∙ z) (ap Err v)

      pub date-day : (m : ℕ) → d ≡ Some m → Ok (m, r.next) ≡ date_at f at n
      unfolding date_at ◌<|>◌
      date-day m z = rw ((cutting f at n r h e).step, sym q ∙ k, sym y ∙ z, ← e) refl

pub ruleset dates = (tests, walk, no-date, place-fits, date-broken, date-none, date-day)

-- ---- the lines, one after the other: what the file answers

abbrev answered : List Line → Result (ℕ × ℕ) Offence
answered ls = checked_by (period_first ls) (period_in ls).start (period_in ls).n

answered-none : answered [] ≡ Err (offence_at 2 1)
unfolding period_first first ◌<|>◌
answered-none = refl

module _ (s : Line) where
  answered-start : (ls : List Line) (x : Offence) → date_line_offence s ≡ some x → answered (s ∷ ls) ≡ Err x
  unfolding period_first first ◌<|>◌
  answered-start ls x o = rw o refl

  module _ (o : date_line_offence s ≡ none) where
    answered-one : answered (s ∷ []) ≡ Err (offence_at 2 2)
    unfolding period_first first ◌<|>◌
    answered-one = rw o refl

    module _ (e : Line) where
      answered-end : (ls : List Line) (x : Offence) → date_line_offence e ≡ some x → answered (s ∷ e ∷ ls) ≡ Err x
      unfolding period_first first ◌<|>◌
      answered-end ls x k = rw (o, k) refl

      module _ (k : date_line_offence e ≡ none) where
        abbrev period : Option ℕ
        period = period_of (day_number (date_in s.text)) (day_number (date_in e.text))

        answered-no : (ls : List Line) → period ≡ None → answered (s ∷ e ∷ ls) ≡ Err (offence_at 5 e.no)
        unfolding period_first first ◌<|>◌
        answered-no ls p = rw (o, k, p) refl

        module _ (n : ℕ) (p : period ≡ Some n) where
          answered-two : answered (s ∷ e ∷ []) ≡ Err (offence_at 2 3)
          unfolding period_first first ◌<|>◌
          answered-two = rw (o, k, p) refl

          answered-three : (t : Line) → answered (s ∷ e ∷ t ∷ []) ≡ Ok (day_number (date_in s.text), n)
          unfolding period_first first ◌<|>◌
          answered-three t = rw (o, k, p) refl

          answered-four : (t l : Line) (ls : List Line) → answered (s ∷ e ∷ t ∷ l ∷ ls) ≡ Err (offence_at 3 l.no)
          unfolding period_first first ◌<|>◌
          answered-four t l ls = rw (o, k, p) refl

-- ---- the needs of `check_period`, for `search periods`

-- line n, which starts at a place, is a date, and the lines after it start at the next
record Dated (f : List ℕ) (at n day next : ℕ) : Type 0 where
  line : Line
  right : date_line_offence line ≡ none
  is-day : day_number (date_in line.text) ≡ day
  lines : lines_at f at n ≡ line ∷ lines_at f next (n + 1)
  number : line.no ≡ n

module _ (f : List ℕ) (at n : ℕ) (r : Result (ℕ × ℕ) Offence) (e : r ≡ date_at f at n) where
  -- what is answered where that line is none, or not a date
  refused : (x : Offence) → r ≡ Err x → date_of (lines_at f at n) n (cut_at f at n).next ≡ Err x
  unfolding date_at
  refused x y = sym e ∙ y

  dated : (day next : ℕ) → r ≡ Ok (day, next) → Dated f at n day next
  unfolding date_at
  dated day next y = elim (dec_lt at (length f)) [ yes h ↦ inside h | no h ↦ apart (outside (omega arith)) ]
    where
      outside : length f ≤ at → ◌≡◌ {A = ℕ} 0 1
      outside h = let k : ◌≡◌ {A = Result (ℕ × ℕ) Offence} (Ok (day, next)) (Err (offence_at 2 n)) = sym y ∙ e ∙ rw (lines_none f at n h) refl in cc

      inside : at < length f → Dated f at n day next
      inside h =
          let c = cutting f at n (cut_at f at n) h refl in
          let l : Line = record { no = n; start = at; text = take ((cut_at f at n).stop - at) (drop at f) } in
          let k : r ≡ checked_by (date_line_offence l) (day_number (date_in l.text)) (cut_at f at n).next = e ∙ rw c.step refl in
          let q = checked-holds (date_line_offence l) _ _ r k day next y in
          record { line = l; right = q.0; is-day = q.1; lines = c.step ∙ rw (c.count, q.2) refl; number = refl }

module _ (f : List ℕ) (r : Result (ℕ × ℕ) Offence) (e : r ≡ date_at f 0 1) where
  pub first_out : (x : Offence) → r ≡ Err x → r ≡ answered (lines_of f)
  first_out x y = y ∙ go (lines_of f) (refused f 0 1 r e x y)
    where
      go : (ls : List Line) → date_of ls 1 (cut_at f 0 1).next ≡ Err x → Err x ≡ answered ls
      go [] k = sym k ∙ sym answered-none
      go (s ∷ ls) k = sym (answered-start s ls x (checked_refused (date_line_offence s) _ _ _ refl x k))

  -- the second line starts at a place
  module _ (start at : ℕ) (y : r ≡ Ok (start, at)) where
    one : Dated f 0 1 start at
    one = dated f 0 1 r e start at y

    module _ (r₂ : Result (ℕ × ℕ) Offence) (e₂ : r₂ ≡ date_at f at 2) where
      pub second-out : (x : Offence) → r₂ ≡ Err x → r₂ ≡ answered (lines_of f)
      second-out x k = k ∙ rw one.lines (go (lines_at f at 2) (refused f at 2 r₂ e₂ x k))
        where
          go : (ls : List Line) → date_of ls 2 (cut_at f at 2).next ≡ Err x → Err x ≡ answered (one.line ∷ ls)
          go [] v = sym v ∙ sym (answered-one one.line one.right)
          go (s ∷ ls) v = sym (answered-end one.line one.right s ls x (checked_refused (date_line_offence s) _ _ _ refl x v))

      -- the third line starts at a place, and p is the period
      module _ (end next : ℕ) (y₂ : r₂ ≡ Ok (end, next)) (p : Option ℕ) (q : p ≡ period_of start end) where
        two : Dated f at 2 end next
        two = dated f at 2 r₂ e₂ end next y₂

        lines_are : lines_of f ≡ one.line ∷ two.line ∷ lines_at f next 3
        lines_are = one.lines ∙ rw two.lines refl

        period-is : period_of (day_number (date_in one.line.text)) (day_number (date_in two.line.text)) ≡ p
        period-is = sym (q ∙ rw (one.is-day, two.is-day) refl)

        pub days-none : (x : Offence) → p ≡ None → x ≡ offence_at 5 2 → Err x ≡ answered (lines_of f)
        days-none x k z = ap Err z ∙ rw lines_are (sym (answered-no one.line one.right two.line two.right _ (period-is ∙ k) ∙ rw two.number refl))

        module _ (n : ℕ) (k : p ≡ Some n) where
          pub no_third : (x : Offence) → length f ≤ next → x ≡ offence_at 2 3 → Err x ≡ answered (lines_of f)
          no_third x l z = ap Err z ∙ rw (lines_are, lines_none f next 3 l) (sym (answered-two one.line one.right two.line two.right n (period-is ∙ k)))

          -- line 3 is cut
          module _ (c : Cut) (h : next < length f) (g : c ≡ cut_at f next 3) where
            third-is : lines_at f next 3 ≡ record { no = 3; start = next; text = take (c.stop - next) (drop next f) } ∷ lines_at f c.next 4
            third-is = (cutting f next 3 c h g).step ∙ rw (cutting f next 3 c h g).count refl

            pub fourth : (x : Offence) → c.next < length f → x ≡ offence_at 3 4 → Err x ≡ answered (lines_of f)
            fourth x l z = ap Err z ∙ rw (lines_are, third-is, (cutting f c.next 4 (cut_at f c.next 4) l refl).step) (sym (answered-four one.line one.right two.line two.right n (period-is ∙ k) _ _ _))

            pub third : length f ≤ c.next → Ok (start, n) ≡ answered (lines_of f)
            third l = rw (lines_are, third-is, lines_none f c.next 4 l) (sym (answered-three one.line one.right two.line two.right n (period-is ∙ k) _ ∙ rw one.is-day refl))

pub ruleset periods = (tests, walk, first_out, second-out, days-none, no_third, fourth, third)
