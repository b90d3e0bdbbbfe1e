use mathlib.Core.Path.{◌≡◌}
use mathlib.Core.Bool.{true}
use Prim.Native.Nat.{◌+◌, ◌-◌, ◌≤◌}
use lib.ListN.{length, drop}
use Rattle.lines.specs.Lines.{lines_from, lines_of}
use Rattle.words.specs.Words.{write}
use Rattle.sections.specs.Inner.Sections.{sound_section}
use Rattle.table_words.specs.Inner.SectionWords.{section_words}
use Rattle.table_words.proofs.section_words.put_section.Given as goal

-- `section_words::put_section` meets its contract: to write the words of the lines from the loop's place on gives what is to be written in all.
-- Assumes nothing.
abbrev pub invariant-loop-at : goal.invariant-loop-at
invariant-loop-at l =
    (l.no ≤ l.at + 1) × (length l.t ≡ length l.initial.t) × (sound_section l.section (lines_from l.no l.at (drop l.at l.f)) ≡ true)
    × (l.q + length (section_words l.section (lines_from l.no l.at (drop l.at l.f))) ≡ l.p + length (section_words l.section (lines_of l.f)))
    × (write l.t l.q (section_words l.section (lines_from l.no l.at (drop l.at l.f))) ≡ write l.initial.t l.p (section_words l.section (lines_of l.f)))

abbrev pub decreases-loop-at : goal.decreases-loop-at
decreases-loop-at l = length l.f - l.at
