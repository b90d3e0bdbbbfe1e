use mathlib.Core.Path.{◌≡◌}
use Rattle.timetable.specs.Ranges.{places, last_place}
use Rattle.draft.specs.Inner.Draft.{calls_in}
use Rattle.route.specs.Inner.Route.{meets}
use Rattle.route.proofs.last_place.Given as goal

-- The last call sought is among those before call i. Assumes nothing.
abbrev pub invariant-loop-i : goal.invariant-loop-i
invariant-loop-i l = last_place (places (meets l.s) 0 (calls_in l.i l.w)) ≡ last_place (places (meets l.s) 0 (calls_in l.c l.w))
