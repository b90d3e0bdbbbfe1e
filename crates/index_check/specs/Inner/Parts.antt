-- For contracts of inner functions: nobody has to believe this file. Assumes nothing.
use Rattle.std.specs.Prelude.{List, Bool, ℕ, ◌*◌, take, drop}
use Rattle.chain_check.specs.Tally.{same}
use Rattle.index.specs.Index.{chains_of}
use Rattle.index.specs.declared.Section.{Section}

-- the chains of a section stand at their place of the words
unfoldable pub chains_right : List ℕ → List ℕ → Section → Bool
chains_right w x s = same (take (2 * s.n) (drop s.from x)) (chains_of w s)
