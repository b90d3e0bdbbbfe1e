-- Whether words are a table's index. Assumes nothing.
use Rattle.std.specs.Prelude.{List, cond, ℕ}
use Rattle.timetable.specs.Table.{used, is_table}
use Rattle.chain_check.specs.Tally.{same}
use Rattle.whole_index.specs.Whole.{whole_index_of}
use Rattle.index_check.specs.declared.IndexCheck.{IndexCheck}
use Rattle.index_check.specs.declared.IndexCheck.TheVariants.{Right, Refused}

-- "An index is valid only if it equals the one this table would get"; "43 words that are not this table's index"
unfoldable pub checked_of : List ℕ → List ℕ → IndexCheck
checked_of w x = cond (is_table w) (cond (same x (whole_index_of (used w))) Right (Refused 43)) (Refused 21)
