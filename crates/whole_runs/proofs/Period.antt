-- The period of a delivery without an offence: the dates of its two lines, 1 to 380 days, the last of them no later than 31.12.2199.
-- Assumes nothing.
use mathlib.Core.Path.{◌≡◌, refl, sym, ap, subst, ◌∙◌}
use mathlib.Core.List.{List, [], ◌∷◌}
use mathlib.Core.Bool.{true, false}
use mathlib.Core.Option.{Option, none}
use Prim.Native.Nat.{ℕ, ◌+◌, ◌-◌, ◌≤◌}
use native.Mathlib.Omega.{arith}
use Rattle.base.proofs.Laws.{apart, clash, by-ltb}
use Rattle.calendar.specs.Calendar.{last_day, date_in, period_of}
use Rattle.std.specs.Prelude.{Option as Optional, Some, None}
use Rattle.calendar.proofs.Bounds.{date-le-last}
use Rattle.calendar.proofs.Laws.{none_before, days-in, days-over}
use Rattle.forms.specs.Form.{form_of, is_fit, has_form}
use Rattle.forms.specs.Columns.{date_columns}
use Rattle.lines.specs.Lines.{Line}
use Rattle.timetable.specs.Layout.{most_period_days}
use Rattle.timetable.specs.Delivery.{Period}
use Rattle.timetable.specs.declared.Offence.{Offence}
use Rattle.timetable.specs.Offences.{◌<|>◌, given, first}
use Rattle.timetable.specs.Files.{day_number, no_date, no_period, date_line_offence, period_line_offence, period_first, days_in, period_in}
use Rattle.timetable.proofs.Offences.{then-none, given-none, form-none, first-none}
use Rattle.whole_runs.specs.Text.{ThreeLines}

-- ---- no date is after the last day

date-le : (text : List ℕ) → day_number (date_in text) ≤ last_day
date-le text = go (date_in text) refl
  where
    go : (o : Optional ℕ) → date_in text ≡ o → day_number o ≤ last_day
    go (Some k) e = date-le-last text k e
    go None e = omega arith

-- ---- the period

pub record PeriodSound (p : Period) : Type 0 where
  pub one : 1 ≤ p.n
  pub most : p.n ≤ most_period_days
  pub last : p.start + p.n ≤ last_day + 1

-- from the first day to the last, where there is a period
record DaysOf (s e n : ℕ) : Type 0 where
  order : s ≤ e
  count : n ≡ e - s + 1
  most : n ≤ most_period_days

days-of : (s e : ℕ) → no_period (period_of s e) ≡ false → DaysOf s e (days_in (period_of s e))
days-of s e h =
    by-ltb (λ t. DaysOf s e (days_in (period_of s e))) e s (λ l. no-period (none_before s e l))
    (λ l. by-ltb (λ t. DaysOf s e (days_in (period_of s e))) (e - s) most_period_days
    (λ m. subst (λ (p : Optional ℕ). DaysOf s e (days_in p)) (days-in s e l m) (record { order = l; count = refl; most = omega arith }))
    (λ m. no-period (days-over s e l m)))
  where
    no-period : None ≡ period_of s e → DaysOf s e (days_in (period_of s e))
    no-period q = clash (sym h ∙ sym (ap no_period q))

too_few : (o : Option Offence) (line : ℕ) → (o <|> given true 2 line) ≡ none → ⊥
too_few o line e = let n = then-none o (given true 2 line) e in apart (cc n.1)

pub period-sound : (ls : List Line) → period_first ls ≡ none → PeriodSound (period_in ls)
unfolding period_first
period-sound [] e = absurd (too_few (first period_line_offence [] []) 1 e)
period-sound (s ∷ []) e = absurd (too_few (first period_line_offence [] (s ∷ [])) 2 e)
period-sound (s ∷ t ∷ ls) e =
    let o = then-none (first period_line_offence [] (s ∷ t ∷ ls)) _ e in
    let a = first-none period_line_offence [] s (t ∷ ls) o.0 in
    let b = first-none period_line_offence (s ∷ []) t ls a.1 in
    let d = days-of (day_number (date_in s.text)) (day_number (date_in t.text)) (given-none _ 5 t.no (then-none _ _ b.0).1) in
    let l = d.order in let n = d.count in
    record { one = omega arith; most = d.most; last = omega (arith, date-le t.text) }

-- ---- the three lines

date-is : (o : Optional ℕ) → no_date o ≡ false → o ≡ Some (day_number o)
date-is (Some k) e = refl
date-is None e = clash (sym e)

-- 4 and "no such date" do not stand at this line
date-line : (l : Line) → date_line_offence l ≡ none → (has_form date_columns l.text ≡ true) × (date_in l.text ≡ Some (day_number (date_in l.text)))
date-line l e =
    let o = then-none _ _ e in
    (ap is_fit (form-none (form_of date_columns l.text) l.no o.0), date-is (date_in l.text) (given-none _ 5 l.no o.1))

pub three-lines : (ls : List Line) → period_first ls ≡ none → ThreeLines ls (period_in ls)
unfolding period_first
three-lines [] e = absurd (too_few (first period_line_offence [] []) 1 e)
three-lines (s ∷ []) e = absurd (too_few (first period_line_offence [] (s ∷ [])) 2 e)
three-lines (s ∷ t ∷ []) e = absurd (too_few (first period_line_offence [] (s ∷ t ∷ [])) 3 e)
three-lines (s ∷ t ∷ u ∷ []) e =
    let a = first-none period_line_offence [] s (t ∷ u ∷ []) (then-none _ _ e).0 in
    let b = first-none period_line_offence (s ∷ []) t (u ∷ []) a.1 in
    let c = then-none _ _ b.0 in
    let p = date-line s a.0 in
    let q = date-line t c.0 in
    let d = days-of (day_number (date_in s.text)) (day_number (date_in t.text)) (given-none _ 5 t.no c.1) in
    let l = d.order in let n = d.count in
    let last : day_number (date_in t.text) ≡ (period_in (s ∷ t ∷ u ∷ [])).start + (period_in (s ∷ t ∷ u ∷ [])).n - 1 = omega arith in
    record {
      first = s;
      second = t;
      third = u;
      exactly = refl;
      forms = (p.0, q.0);
      start = p.1;
      end = q.1 ∙ ap Some last;
    }
three-lines (s ∷ t ∷ u ∷ v ∷ ls) e =
    let a = first-none period_line_offence [] s (t ∷ u ∷ v ∷ ls) (then-none _ _ e).0 in
    let b = first-none period_line_offence (s ∷ []) t (u ∷ v ∷ ls) a.1 in
    let c = first-none period_line_offence (s ∷ t ∷ []) u (v ∷ ls) b.1 in
    let d = first-none period_line_offence (s ∷ t ∷ u ∷ []) v ls c.1 in
    apart (cc d.0)
