use mathlib.Core.Path.{◌≡◌}
use lib.ListN.{get_elem?}
use Rattle.timetable.specs.Ranges.{places, calls_at}
use Rattle.draft.specs.Inner.Draft.{calls_in}
use Rattle.route.proofs.Laws.{places_from}
use Rattle.route.proofs.nth_place.Given as goal

-- The call sought is the one behind `before` others from here on. Assumes nothing.
abbrev pub invariant-loop-i : goal.invariant-loop-i
invariant-loop-i l = get_elem? (places_from (calls_at l.n) l.w l.c l.i) l.before.0 ≡ get_elem? (places (calls_at l.n) 0 (calls_in l.c l.w)) l.initial.before.0
