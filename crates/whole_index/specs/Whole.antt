-- The index of a table, one format for all that asks by it: the words of the look-ups, then those of the calls at each stop, and last a mark whether the table's calls are
-- steady: then a board need not look at them. It has no header: where each part begins follows from the table's own. Assumes nothing.
use Rattle.std.specs.Prelude.{ℕ, ◌+◌, List, [], ◌∷◌, ◌++◌, cond, length, ltb}
use Rattle.timetable.specs.Load.{onto}
use Rattle.timetable.specs.Table.{used, is_table}
use Rattle.table.specs.Steady.{steady}
use Rattle.index.specs.Index.{index_size, index_of}
use Rattle.calls.specs.Calls.{call_index_size, call_index_of}
use Rattle.whole_index.specs.declared.Made.{Made}
use Rattle.whole_index.specs.declared.Made.TheVariants.{Index, Refused}

-- the mark: 1 where the table's calls are steady, else 0
abbrev pub steady_mark : List ℕ → ℕ
steady_mark w = cond (steady w) 1 0

-- the calls at each stop, and the mark
unfoldable pub marked_calls : List ℕ → List ℕ
marked_calls w = call_index_of w ++ (steady_mark w ∷ [])

abbrev pub marked_size : List ℕ → ℕ
marked_size w = call_index_size w + 1

-- "Keep beside the table an index, per stop, of the calls there": and the look-ups in front of them
unfoldable pub whole_index_of : List ℕ → List ℕ
whole_index_of w = index_of w ++ marked_calls w

abbrev pub whole_index_size : List ℕ → ℕ
whole_index_size w = index_size w + marked_size w

-- "making one answers 21, or 29 with the words needed, and the lent words then stay"
unfoldable pub made_of : List ℕ → ℕ → Made
made_of w room = cond (is_table w) (cond (ltb room (whole_index_size (used w))) (Refused 29 (whole_index_size (used w))) (Index (whole_index_size (used w)))) (Refused 21 0)

unfoldable pub index_into : List ℕ → List ℕ → List ℕ
index_into w t = cond (is_table w) (cond (ltb (length t) (whole_index_size (used w))) t (onto (whole_index_of (used w)) t)) t
