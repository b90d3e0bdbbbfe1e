use mathlib.Core.Path.{◌≡◌}
use Rattle.timetable.specs.Ranges.{places}
use Rattle.draft.specs.Inner.Draft.{draft_call, calls_in}
use Rattle.route.specs.Inner.Route.{meets}
use Rattle.route.proofs.Laws.{places_from}
use Rattle.route.proofs.first_place.Given as goal

-- No call passed is sought. Assumes nothing.
abbrev pub invariant-loop-i : goal.invariant-loop-i
invariant-loop-i l = places_from (meets l.s) l.w l.c l.i ≡ places (meets l.s) 0 (calls_in l.c l.w)
