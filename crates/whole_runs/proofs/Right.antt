-- A service of a delivery without an offence: what 9, 10 and 13 to 19 leave true of it, in the words of the paper, and that it is its lines' own.
-- Assumes nothing.
use mathlib.Core.Path.{◌≡◌, refl, subst}
use mathlib.Core.List.{List, [], ◌∷◌, map}
use mathlib.Core.Bool.{true, false}
use mathlib.Core.Option.{none, some}
use Prim.Native.Nat.{ℕ, zero, suc, ◌+◌, ◌<◌, ◌≤◌}
use native.Mathlib.Omega.{arith}
use lib.ListN.{length, get_elem?}
use lib.Dec.{leb, eqb}
use borrow.Author.Tests.{ltb-false, eqb-true, not-false}
use Rattle.base.specs.Lists.{All, nil, cons}
use Rattle.base.proofs.Laws.{apart}
use Rattle.base.proofs.Loops.{and-true}
use Rattle.lines.specs.Lines.{Line, lines_of}
use Rattle.timetable.specs.Layout.{most_calls, most_categories, most_days, most_extras}
use Rattle.timetable.specs.Delivery.{Files, Legs, CategoryRange, DayRange, ExtraRange, Service, Delivery}
use Rattle.timetable.specs.Service.{blocks, opening_of, called_on, calls_of, service_of}
use Rattle.timetable.specs.Plan.{part_lines}
use Rattle.timetable.specs.Checks.{times_stated, times_rise, last_stated, times_first, each_once}
use Rattle.timetable.specs.Legs.{covering, stretches, leg_count, operated_legs}
use Rattle.timetable.specs.Load.{delivered}
use Rattle.timetable.specs.declared.Call.{Call}
use Rattle.timetable.specs.declared.RangeKind.TheVariants.{Category, Days, Extra}
use Rattle.timetable.proofs.Offences.{then-none, given-none}
use Rattle.whole_runs.specs.OldTable.{old_call_sound, old_service_sound}
use Rattle.whole_runs.specs.Text.{Opened, FromText}
use Rattle.whole_runs.proofs.Lists.{every-below, none_below}
use Rattle.whole_runs.proofs.Sound.{calls-sound, service-sound}
use Rattle.whole_runs.proofs.Clear.{Fair, Clear}
use Rattle.whole_runs.proofs.Blocks.{block-opened, calls-say, each_last}
use Rattle.whole_runs.proofs.Lines.{limits, StopKnown, FieldKnown, lines_read, part-found, stops-known, fields_known, nothing-dropped}

-- ---- 15: the times, call by call, from the i-th of n on

unfoldable pub Timely : ℕ → ℕ → ℕ → List Call → Type 0
Timely n i before [] = Unit {0}
Timely n i before (c ∷ cs) = (times_stated n i c ≡ true) × (times_rise before c ≡ true) × Timely n (i + 1) (last_stated before c) cs

timely : (n i before : ℕ) (cs : List (ℕ × Call)) → times_first n i before cs ≡ none → Timely n i before (map (λ (c : ℕ × Call). c.1) cs)
unfolding times_first Timely
timely n i before [] e = tt
timely n i before (c ∷ cs) e =
    let o = then-none _ _ e in
    let a = and-true (times_stated n i c.1) (times_rise before c.1) (not-false _ (given-none _ 15 c.0 o.0)) in
    (a.0, a.1, timely n (i + 1) (last_stated before c.1) cs o.1)

-- ---- a service without an offence

pub record Right (d : Delivery) (s : Service) : Type 0 where
  pub sound : old_service_sound s ≡ true
  pub calls : All (λ (c : Call). old_call_sound c ≡ true) s.calls
  pub two : 2 ≤ length s.calls
  pub most-calls : length s.calls ≤ most_calls
  pub most-categories : length s.categories ≤ most_categories
  pub most-days : length s.days ≤ most_days
  pub most-extras : length s.extras ≤ most_extras
  pub stops : All (StopKnown d) s.calls
  pub fields : All (λ (r : DayRange). FieldKnown d r.field) s.days
  pub times : Timely (length s.calls) 0 0 s.calls
  pub categories : (k : ℕ) → k < leg_count s → covering (λ (r : CategoryRange). r.legs) s.categories k ≡ 1
  pub days : (k : ℕ) → k < leg_count s → covering (λ (r : DayRange). r.legs) s.days k ≡ 1
  pub whole : (k : ℕ) → k < d.period.n → leb 2 (stretches false (operated_legs d.fields s k)) ≡ false

once-at : {X : Type 0} (legs : X → Legs) (n : ℕ) (rs : List X) (k : ℕ) → each_once legs n rs ≡ true → k < n → covering legs rs k ≡ 1
once-at legs n rs k e h = eqb-true (covering legs rs k) 1 (every-below (λ (k : ℕ). eqb (covering legs rs k) 1) n k e h)

pub right : (d : Delivery) (ls : List Line) → Fair d ls → Right d (service_of ls)
unfolding service_of
right d ls h =
    let m = limits d ls h in
    let n = nothing-dropped d ls h in
    record {
      sound = service-sound ls;
      calls = calls-sound ls;
      two = ltb-false (length (calls_of ls)) 2 h.two;
      most-calls = m.calls;
      most-categories = omega (arith, n.categories, m.ranges Category);
      most-days = omega (arith, n.days, m.ranges Days);
      most-extras = omega (arith, n.extras, m.ranges Extra);
      stops = stops-known d ls h;
      fields = fields_known d ls h;
      times = timely (length (calls_of ls)) 0 0 (called_on ls) h.times;
      categories = λ k l. once-at (λ (r : CategoryRange). r.legs) (leg_count (service_of ls)) (service_of ls).categories k h.categories l;
      days = λ k l. once-at (λ (r : DayRange). r.legs) (leg_count (service_of ls)) (service_of ls).days k h.days l;
      whole = λ k l. none_below (λ (k : ℕ). leb 2 (stretches false (operated_legs d.fields (service_of ls) k))) d.period.n k h.whole l;
    }

all_right : (d : Delivery) {bs : List (List Line)} → All (Fair d) bs → All (Right d) (map service_of bs)
all_right d nil = nil
all_right d (cons {x = b} h t) = cons (right d b h) (all_right d t)

-- every service of a delivery without an offence
pub services-right : (f : Files) → Clear f → All (Right (delivered f)) (delivered f).services
unfolding delivered
services-right f h = all_right (delivered f) h.services

-- ---- the i-th service is what the lines of FPLAN's i-th block say

text_of : (d : Delivery) (ls : List Line) (bs : List (List Line)) (i : ℕ) → Fair d ls → get_elem? bs i ≡ some ls → Opened ls (opening_of ls).kind → FromText bs i (service_of ls)
unfolding service_of
text_of d ls bs i h e o =
    let n = nothing-dropped d ls h in
    let cs = calls_of ls in
    record {
      lines = ls;
      block = e;
      read = refl;
      categories = n.categories;
      days = n.days;
      extras = n.extras;
      opened = o;
      calls = calls-say ls;
      category_ends = each_last (λ (x : CategoryRange). x.legs) (λ r g. record { name = r.name; legs = g }) (λ r g. refl) cs (part_lines Category ls) (part-found d ls h Category);
      day_ends = each_last (λ (x : DayRange). x.legs) (λ r g. record { field = r.field; legs = g }) (λ r g. refl) cs (part_lines Days ls) (part-found d ls h Days);
      extra_ends = each_last (λ (x : ExtraRange). x.legs) (λ r g. record { code = r.name; field = r.field; legs = g }) (λ r g. refl) cs (part_lines Extra ls) (part-found d ls h Extra);
      lines_read = lines_read d ls h;
    }

-- the block that a service is read from
pub record FairBlock (d : Delivery) (bs : List (List Line)) (i : ℕ) (s : Service) : Type 0 where
  pub lines : List Line
  pub block : get_elem? bs i ≡ some lines
  pub fair : Fair d lines
  pub read : service_of lines ≡ s

block_in : (d : Delivery) (bs : List (List Line)) (i : ℕ) (s : Service) → All (Fair d) bs → get_elem? (map service_of bs) i ≡ some s → FairBlock d bs i s
block_in d [] i s h e = apart (cc)
block_in d (b ∷ bs) zero s (cons p q) e = let z : service_of b ≡ s = cc in record { lines = b; block = refl; fair = p; read = z }
block_in d (b ∷ bs) (suc i) s (cons p q) e = let t = block_in d bs i s q e in record { lines = t.lines; block = t.block; fair = t.fair; read = t.read }

pub from-text : (f : Files) → Clear f → (i : ℕ) (s : Service) → get_elem? (delivered f).services i ≡ some s → FromText (blocks (lines_of f.fplan)) i s
unfolding delivered
from-text f h i s e =
    let d = delivered f in
    let bs = blocks (lines_of f.fplan) in
    let b = block_in d bs i s h.services e in
    subst (FromText bs i) b.read (text_of d b.lines bs i b.fair b.block (block-opened (lines_of f.fplan) i b.lines b.block (lines_read d b.lines b.fair)))
