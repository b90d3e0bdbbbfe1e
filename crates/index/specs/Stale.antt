-- What a look-up by an index that is not this table's can find. Assumes nothing.
use Rattle.std.specs.Prelude.{ℕ, ◌+◌, ◌*◌, ◌<◌, ◌≡◌, List}
use Rattle.timetable.specs.Table.{word}
use Rattle.index.specs.declared.Section.{Section}

-- at p stands one of the section's records in these words, and it begins with the number
pub record Numbered (w : List ℕ) (s : Section) (number p : ℕ) : Type 0 where
  pub place : ℕ
  pub low : place < s.n
  pub at : p ≡ s.at + s.size * place
  pub says : word w p ≡ number

-- the section lists no number twice (6 refuses a file that does)
pub record Once (w : List ℕ) (s : Section) : Type 0 where
  pub once : (i j : ℕ) → i < s.n → j < s.n → word w (s.at + s.size * i) ≡ word w (s.at + s.size * j) → i ≡ j
