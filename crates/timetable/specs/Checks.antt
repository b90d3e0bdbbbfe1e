-- FPLAN, "service by service: every line's own checks, then the service's checks". Assumes nothing.
use Rattle.std.specs.Prelude.{ℕ, zero, suc, ◌+◌, List, [], ◌∷◌, Bool, true, false, cond, not, ◌&&◌, ◌||◌, length, ltb, leb, eqb}
use Rattle.std.proofs.Math.Option.{Option, none, some}
use Rattle.base.specs.Lists.{every, some_of, below}
use Rattle.forms.specs.Form.{Broken as BrokenForm}
use Rattle.lines.specs.Lines.{Line, skipped}
use Rattle.timetable.specs.Layout.{most_calls, most_categories, most_days, most_extras}
use Rattle.timetable.specs.Delivery.{BitField, StopRecord, CategoryClass, Legs, CategoryRange, DayRange, Service}
use Rattle.timetable.specs.Offences.{offence_at, given, form_offence, ◌<|>◌, first}
use Rattle.timetable.specs.Files.{has_stop, has_class}
use Rattle.timetable.specs.Plan.{told_in, as_range, part_lines, said_on}
use Rattle.timetable.specs.Ranges.{has_arrival, has_departure}
use Rattle.timetable.specs.Service.{head_lines, blocks, first_line, called_on, calls_of, service_of, legs_on}
use Rattle.timetable.specs.Legs.{covering, field_known, stretches, leg_count, operated_legs}
use Rattle.timetable.specs.declared.Call.{Call}
use Rattle.timetable.specs.declared.CallLine.{CallLine}
use Rattle.timetable.specs.declared.Offence.{Offence}
use Rattle.timetable.specs.declared.RangeKind.{RangeKind}
use Rattle.timetable.specs.declared.RangeKind.TheVariants.{Category, Days, Extra}
use Rattle.timetable.specs.declared.RangeLine.{RangeLine}
use Rattle.timetable.specs.declared.Told.{Told}
use Rattle.timetable.specs.declared.Told.TheVariants.{Skip, Other, Broken, Opens, Ranges, Calls}

-- ---- a line's own offences, after the lines of its service before it: "Within a line by the order 12, 11, 4, 13, .., 9, 10" (12: `head_first`, below;
-- document 02, No. 1: 38 "last in its line")

-- "50 *G, 50 *A VE or 100 other *A"
abbrev pub most : RangeKind → ℕ
most Category = most_categories
most Days = most_days
most Extra = most_extras

-- document 02, No. 1: 38 is "for a *G category not listed"; this is its negation. A range of another kind has no category.
abbrev pub category_listed : RangeKind → ℕ → List CategoryClass → Bool
category_listed Category name classes = has_class name classes
category_listed Days name classes = true
category_listed Extra name classes = true

module _ (fields : List BitField) (stops : List StopRecord) (classes : List CategoryClass) where
  -- "13 in one service over .. 50 *G, 50 *A VE or 100 other *A", at the first over; "10 bit field neither 000000 nor in BITFELD" (a *G line
  -- has none, which is 000000); No. 1: "38 for a *G category not listed, last in its line"
  abbrev pub range_offence : List Line → ℕ → RangeLine → Option Offence
  range_offence before line r =
      given (leb (most r.part) (length (part_lines r.part before))) 13 line
      <|> given (not (field_known r.field fields)) 10 line
      <|> given (not (category_listed r.part r.name classes)) 38 line

  -- "13 in one service over 200 calls"; "9 .. schedule stop not in BAHNHOF"
  abbrev pub call_offence : List Line → ℕ → CallLine → Option Offence
  call_offence before line c = given (leb most_calls (length (calls_of before))) 13 line <|> given (not (has_stop c.stop stops)) 9 line

  -- "11 other line kind"; "4 a field or unnamed column breaks the form"; then those
  abbrev pub told_offence : List Line → ℕ → Told → Option Offence
  told_offence before line Skip = none
  told_offence before line Other = some (offence_at 11 line)
  told_offence before line (Broken c) = form_offence (BrokenForm c) line
  told_offence before line (Opens o) = none
  told_offence before line (Ranges r) = range_offence before line r
  told_offence before line (Calls c) = call_offence before line c

  -- of a line, after the lines of its service before it
  abbrev pub own_offence : List Line → Line → Option Offence
  own_offence before l = told_offence before l.no (told_in l.text)

-- ---- 15, by line: each call of the service in order

-- "no departure at the first call, no arrival at the last, either missing between": the i-th call of n
abbrev pub times_stated : ℕ → ℕ → Call → Bool
times_stated n i c = (eqb i 0 || has_arrival c) && (eqb (i + 1) n || has_departure c)

-- the time stated last, after one that was stated before
abbrev pub later : Bool → ℕ → ℕ → ℕ
later stated t before = cond stated t before

abbrev pub not_below : Bool → ℕ → ℕ → Bool
not_below stated t before = not stated || leb before t

-- "or a stated time below the one stated before": arrival, then departure
abbrev pub times_rise : ℕ → Call → Bool
times_rise before c = not_below (has_arrival c) c.arrival before && not_below (has_departure c) c.departure (later (has_arrival c) c.arrival before)

abbrev pub last_stated : ℕ → Call → ℕ
last_stated before c = later (has_departure c) c.departure (later (has_arrival c) c.arrival before)

-- calls from the i-th of n on, each with its line's number, after a stated time (0 where none was)
unfoldable pub times_first : ℕ → ℕ → ℕ → List (ℕ × Call) → Option Offence
times_first n i before [] = none
times_first n i before (c ∷ cs) =
    given (not (times_stated n i c.1 && times_rise before c.1)) 15 c.0 <|> times_first n (i + 1) (last_stated before c.1) cs

-- ---- 16, by line: "range end not found, or from and to in wrong order"

abbrev pub is_none : {X : Type 0} → Option X → Bool
is_none none = true
is_none (some x) = false

-- ranges on a route, each with its line's number
unfoldable pub ends_first : List Call → List (ℕ × RangeLine) → Option Offence
ends_first cs [] = none
ends_first cs (r ∷ rs) = given (is_none (legs_on cs r.1)) 16 r.0 <|> ends_first cs rs

-- ---- 17, 18: "a leg not covered by exactly one *G / *A VE"

abbrev pub each_once : {X : Type 0} → (X → Legs) → ℕ → List X → Bool
each_once legs n rs = every (λ (k : ℕ). eqb (covering legs rs k) 1) (below n)

-- ---- 19: "on some day the operated legs form two or more separate stretches"

-- on some day of the n days of the period
abbrev pub torn : List BitField → ℕ → Service → Bool
torn fields n s = some_of (λ (d : ℕ). leb 2 (stretches false (operated_legs fields s d))) (below n)

-- ---- "For a service 14, 15, 16 (each by line), 17, 18, 19."
-- "14 under two calls". 14 and 17 to 19 stand at the *Z line (document 02, No. 8: it "may be a *T's"), 15 at the call's, 16 at the range's.

-- 17, 18 and 19 of a service whose opening line has that number
abbrev pub legs_first : List BitField → ℕ → ℕ → Service → Option Offence
legs_first fields n line s =
    given (not (each_once (λ (r : CategoryRange). r.legs) (leg_count s) s.categories)) 17 line
    <|> given (not (each_once (λ (r : DayRange). r.legs) (leg_count s) s.days)) 18 line
    <|> given (torn fields n s) 19 line

unfoldable pub service_checks : List BitField → ℕ → List Line → Option Offence
service_checks fields n ls =
    given (ltb (length (calls_of ls)) 2) 14 (first_line ls).no
    <|> times_first (length (calls_of ls)) 0 0 (called_on ls)
    <|> ends_first (calls_of ls) (said_on as_range ls)
    <|> legs_first fields n (first_line ls).no (service_of ls)

-- document 02, No. 8: "12 now reads "neither *Z nor *T, and neither yet"". It replaces document 01's "12 not *Z, and no *Z yet".
abbrev pub head_first : List Line → Option Offence
head_first ls = first (λ before l. given (not (skipped l.text)) 12 l.no) [] (head_lines ls)

module _ (fields : List BitField) (stops : List StopRecord) (classes : List CategoryClass) (n : ℕ) where
  -- "every line's own checks, then the service's checks"
  unfoldable pub service_first : List Line → Option Offence
  service_first ls = first (own_offence fields stops classes) [] ls <|> service_checks fields n ls

  -- "service by service"
  unfoldable pub services_first : List (List Line) → Option Offence
  services_first [] = none
  services_first (b ∷ bs) = service_first b <|> services_first bs

  -- 12, then those
  unfoldable pub plan_first : List Line → Option Offence
  plan_first ls = head_first ls <|> services_first (blocks ls)
