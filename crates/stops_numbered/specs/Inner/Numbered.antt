-- The places of the stop section that have a number. Assumes nothing.
use Rattle.std.specs.Prelude.{ℕ, zero, suc, ◌+◌, ◌-◌, ◌*◌, List, [], ◌∷◌, cond, eqb}
use Rattle.timetable.specs.Layout.{stop_size}
use Rattle.timetable.specs.Table.{word, stops#}
use Rattle.table.specs.JustTable.{stops_place, interchanges_place}
use Rattle.chains.specs.Chains.{first_by, next_by}
use Rattle.index.specs.Index.{stops_from}

-- the number of the stop at a place, counted from 0
abbrev pub number_at : List ℕ → ℕ → ℕ
number_at w p = word w (stops_place w + stop_size * p)

-- of the k places from p on, those that have the number; the first of them, or the place after all k where none has it
unfoldable pub stops_with : List ℕ → ℕ → ℕ → ℕ → List ℕ
stops_with w number p zero = []
stops_with w number p (suc k) = cond (eqb (number_at w p) number) (p ∷ stops_with w number (p + 1) k) (stops_with w number (p + 1) k)

unfoldable pub stop_from : List ℕ → ℕ → ℕ → ℕ → ℕ
stop_from w number p zero = p
stop_from w number p (suc k) = cond (eqb (number_at w p) number) p (stop_from w number (p + 1) k)

-- as any index finds them: the chains count the records from the end, so that none (0) is the place after the last
unfoldable pub first_stop : List ℕ → List ℕ → ℕ → ℕ
first_stop w x number = stops# w - first_by w x (interchanges_place w) stop_size (stops# w) (stops_from w) number

unfoldable pub next_stop : List ℕ → List ℕ → ℕ → ℕ → ℕ
next_stop w x number place = stops# w - next_by w x (interchanges_place w) stop_size (stops_from w) number (stops# w - place)
