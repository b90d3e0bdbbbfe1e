use mathlib.Core.Path.{◌≡◌}
use mathlib.Core.List.{[]}
use Prim.Native.Nat.{◌+◌, ◌-◌}
use lib.ListN.{length, take, drop}
use Rattle.lines.specs.Lines.{lines_from, lines_of}
use Rattle.timetable.specs.Offences.{first, checked_by}
use Rattle.timetable.specs.Files.{held_in, stop_of}
use Rattle.sections.specs.Inner.Sections.{numbers, line_offence}
use Rattle.sections.proofs.Walk.{Walked}
use Rattle.sections.proofs.Scans.{scan_from}
use Rattle.sections.proofs.Fills.{Filling}
use Rattle.sections.proofs.check_section.Given as goal

-- `sections::check_section` meets its contract: what the lines from the loop's place on answer, after those before it, is what all answer,
-- and those before it are in the map. Assumes nothing.
abbrev pub invariant-loop-at : goal.invariant-loop-at
invariant-loop-at l =
    Walked l.f l.at l.no × (l.count ≡ length (numbers l.section (lines_of (take l.at l.f))))
    × (scan_from (line_offence l.section l.days (held_in stop_of (lines_of l.bahnhof))) l.section (lines_of (take l.at l.f)) l.count l.no (lines_from l.no l.at (drop l.at l.f))
    ≡ checked_by (first (line_offence l.section l.days (held_in stop_of (lines_of l.bahnhof))) [] (lines_of l.f)) (length (numbers l.section (lines_of l.f))) (length (lines_of l.f) + 1))
    × Filling l.section l.f l.initial.m l.split l.at l.count l.m

abbrev pub decreases-loop-at : goal.decreases-loop-at
decreases-loop-at l = length l.f - l.at
