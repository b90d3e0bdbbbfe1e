-- The course of a service whose operating-day ranges follow each other, for `search turn`: v are the words from its first such range on, t says that they follow each
-- other, l what they say of day k. Assumes nothing.
use mathlib.Core.Path.{◌≡◌, refl, sym, ap, ◌∙◌}
use mathlib.Core.List.{List, map}
use mathlib.Core.Bool.{Bool, true, false, not}
use Prim.Native.Nat.{ℕ, ◌-◌, ◌≤◌}
use lib.ListN.{drop}
use Rattle.std.specs.Prelude.{Result, Ok, Err}
use borrow.Author.Tests.{not-false}
use Rattle.base.proofs.Laws.{tests}
use Rattle.timetable.specs.Layout.{day_size}
use Rattle.timetable.specs.Legs.{operated_by}
use Rattle.timetable.specs.View.{View}
use Rattle.timetable.specs.Table.{rows_in, day_at, calls#, days#, day_place, service_at}
use Rattle.timetable.specs.Run.{Course, course_on}
use Rattle.timetable.specs.declared.refusal.Refusal.{Refusal}
use Rattle.table.proofs.Says.{head-word}
use Rattle.cover.specs.Inner.Cover.{legs_in, in_turn}
use Rattle.cover.proofs.Turn.{legs-rows}
use Rattle.course.specs.declared.legs.DayLegs.{DayLegs}
use Rattle.course.specs.Inner.Turn.{no_legs, ranges_say}
use Rattle.course.proofs.legs.Legs.{head-words, legs-fit, days-room}
use Rattle.course.proofs.legs.Gaps.{Told}
use Rattle.course.proofs.legs.Days.{of_day, days-known, days-unknown, days-told, say-known, say-unknown}
use Rattle.course.specs.Inner.Course.{stretches_course}
use Rattle.course.proofs.Laws.{legs-count, day-order, day-within, day-by}

module _ (d : View) (s v : List ℕ) (k : ℕ) (t : Bool) (o : Result DayLegs Refusal) (q : v ≡ drop (day_place s) s) (e : t ≡ in_turn 0 (calls# s - 1) (legs_in day_size (days# s) v)) (h : not t ≡ false) (f : o ≡ ranges_say d k no_legs (rows_in day_at day_size (days# s) v)) where
  days-are : rows_in day_at day_size (days# s) v ≡ (service_at s).days
  unfolding service_at
  days-are = rw q

  follow : in_turn 0 (calls# s - 1) (map of_day (service_at s).days) ≡ true
  follow = ap (λ rs. in_turn 0 (calls# s - 1) (map of_day rs)) (sym days-are) ∙ ap (in_turn 0 (calls# s - 1)) (sym (legs-rows of_day day_at day_size (λ u. refl) (days# s) v)) ∙ sym e ∙ not-false t h

  say : o ≡ ranges_say d k no_legs (service_at s).days
  say = f ∙ ap (ranges_say d k no_legs) days-are

  pub turn-31 : (x : Refusal) → o ≡ Err x → Err x ≡ course_on d (service_at s) k
  unfolding course_on
  turn-31 x n =
      let p = say-unknown d k no_legs x (service_at s).days (sym say ∙ n) in
      sym (rw (legs-count s, days-unknown d (service_at s) (calls# s - 1) follow p.0, p.1))

  module _ (l : DayLegs) (n : o ≡ Ok l) where
    told : Told (operated_by d.runs (service_at s).days k) (calls# s - 1) l
    told = days-told d k (calls# s - 1) l (service_at s).days follow (sym say ∙ n)

    pub turn-order : l.start ≤ l.end
    turn-order = day-order d s k l.start told.starts l.end told.ends

    pub turn-within : l.end ≤ calls# s - 1
    turn-within = day-within d s k l.start told.starts l.end told.ends

    pub turn-day : (x : Course) → x ≡ stretches_course (service_at s) (calls# s - 1) l.start l.end l.again → x ≡ course_on d (service_at s) k
    unfolding course_on
    turn-day x g =
        day-by d s k l.start told.starts l.end told.ends l.again told.begins-again x g
        ∙ sym (rw (legs-count s, days-known d (service_at s) (calls# s - 1) follow (say-known d k no_legs l (service_at s).days (sym say ∙ n))))

pub ruleset turn = (tests, head-words, head-word, legs-fit, days-room, turn-31, turn-order, turn-within, turn-day)
