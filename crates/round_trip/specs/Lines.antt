-- "the same table except the opening line numbers" (document 02, No. 11). Assumes nothing.
use Rattle.std.specs.Prelude.{ℕ, zero, suc, List, ◌++◌, take, drop, set}
use Rattle.timetable.specs.Table.{word_count_in, services#, services_place}

-- so many service records, each with 0 for its opening line's number ("*Z line", word 10), and the words behind them
unfoldable pub unlined : ℕ → List ℕ → List ℕ
unlined zero w = w
unlined (suc v) w = set (take (word_count_in w) w) 10 0 ++ unlined v (drop (word_count_in w) w)

-- a table with 0 for each opening line number; all other words are as they are
unfoldable pub except_lines : List ℕ → List ℕ
except_lines w = take (services_place w) w ++ unlined (services# w) (drop (services_place w) w)
