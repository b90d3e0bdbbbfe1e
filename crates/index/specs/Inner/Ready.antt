-- Words and an index that can be read, for the contracts of inner functions: nobody has to believe this file. Assumes nothing.
use Rattle.std.specs.Prelude.{ℕ, ◌+◌, ◌*◌, ◌≤◌, ◌≡◌, List, true, length}
use Rattle.timetable.specs.Table.{used_words}
use Rattle.table.specs.JustTable.{header_sound}
use Rattle.index.specs.declared.Section.{Section}
use Rattle.index.specs.Index.{index_size, section_end}

-- such words, and no later ones, with an index of the size that they ask for, or none
pub record Ready (w x : List ℕ) : Type 0 where
  pub head : header_sound w ≡ true
  pub ends : used_words w ≡ length w
  pub sized : (length x ≡ 0 → ⊥) → length x ≡ index_size w

-- the records of a section lie within the words
pub record Fits (w : List ℕ) (s : Section) : Type 0 where
  pub some : 1 ≤ s.size
  pub room : section_end s ≤ length w

-- its chains lie within the index, if there is one
pub record Chained (x : List ℕ) (s : Section) : Type 0 where
  pub within : (length x ≡ 0 → ⊥) → s.from + 2 * s.n ≤ length x
