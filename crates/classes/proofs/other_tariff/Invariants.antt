use mathlib.Core.Path.{◌≡◌}
use mathlib.Core.List.{[]}
use mathlib.Core.Option.{none}
use Prim.Native.Nat.{◌-◌, ◌≤◌}
use lib.ListN.{length}
use Rattle.timetable.specs.Offences.{first}
use Rattle.timetable.specs.Files.{held_in, tariff_of}
use Rattle.sections.proofs.Walk.{Walked}
use Rattle.classes.specs.Inner.Passes.{before, group_of, tariff_offence_on}
use Rattle.classes.proofs.other_tariff.Given as goal

-- `classes::other_tariff` meets its contract: the tariff groups before the loop's place are alike. Assumes nothing.
abbrev pub invariant-loop-at : goal.invariant-loop-at
invariant-loop-at l = Walked l.f l.at l.no × (l.at ≤ length l.f)
    × (l.group ≡ group_of (held_in tariff_of (before l.f l.at))) × (first tariff_offence_on [] (before l.f l.at) ≡ none)

abbrev pub decreases-loop-at : goal.decreases-loop-at
decreases-loop-at l = length l.f - l.at
