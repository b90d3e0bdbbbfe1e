-- A board as any words and any index show it: `x` the words of the look-ups, `y` those of the calls. For a table and its own index this is the board (`own-board`,
-- board_agrees/proofs/Own): nobody has to believe this file for that. Assumes nothing.
use Rattle.std.specs.Prelude.{ℕ, ◌+◌, ◌-◌, ◌*◌, ◌≤◌, ◌<◌, ◌≡◌, List, [], ◌++◌, Bool, true, cond, ◌&&◌, length, get_or, take, drop, eqb, ltb}
use Rattle.base.specs.Lists.{gathered}
use Rattle.timetable.specs.Table.{word, used_words, stops#}
use Rattle.index.specs.Index.{stops_from, stop_section, section_end, index_size}
use Rattle.index.specs.Inner.Ready.{Ready}
use Rattle.words.specs.Words.{write}
use Rattle.sort.specs.Rows.{board_row_size, board_row_words, sorted_rows}
use Rattle.board.specs.Board.{Departure}
use Rattle.board_runs.specs.Batch.{departures_in}
use Rattle.stop_calls.specs.StopCalls.{entries#, entry_word, calls_by, Lent, left_at, On}
use Rattle.stop_calls.specs.declared.Cursor.{Cursor}

-- the words of the calls, beside n stops, mark the table as steady: their last word is 1
unfoldable pub steady_in : ℕ → List ℕ → Bool
steady_in n y = ltb n (length y) && eqb (word y (length y - 1)) 1

-- what call e gives, beside n stops: its entry says service and place in the route
unfoldable pub entry_departures : List ℕ → List ℕ → ℕ → List ℕ → ℕ → ℕ → ℕ → ℕ → ℕ → List Departure
entry_departures w x n y stop k t u e = departures_in (steady_in n y) w x stop k t u (entry_word n y 1 e) (entry_word n y 3 e)

-- what the calls at the stops of a number give: no more calls are looked at than the table has words
unfoldable pub departures_by : List ℕ → List ℕ → List ℕ → ℕ → ℕ → ℕ → ℕ → List Departure
departures_by w x y stop k t u =
    gathered (entry_departures w x (stops# w) y stop k t u) (take (used_words w) (calls_by w x y (section_end (stop_section w)) (stops# w) (stops_from w) stop))

unfoldable pub board_by : List ℕ → List ℕ → List ℕ → ℕ → ℕ → ℕ → ℕ → List Departure
board_by w x y stop k t u = sorted_rows (departures_by w x y stop k t u)

-- ---- for contracts

-- the look-ups are of the size that the words ask for, and the calls have a word for each stop
pub record Lends (w x y : List ℕ) : Type 0 where
  pub ready : Ready w x
  pub long : length x ≡ index_size w
  pub heads : stops# w ≤ length y

-- the stop section and its chains
pub record Along (w x y : List ℕ) (end n from : ℕ) : Type 0 where
  pub ready : Ready w x
  pub lent : Lent w x y end n from

-- what is left from a cursor on
unfoldable pub left_departures : List ℕ → List ℕ → List ℕ → ℕ → ℕ → ℕ → ℕ → ℕ → ℕ → ℕ → Cursor → List Departure
left_departures w x y end n from stop k t u c = gathered (entry_departures w x n y stop k t u) (left_at w x y end n from stop c)

-- on the way, with rows written up to `to`: what is left is still to be written, and there is room for it
pub record Putting (w x y : List ℕ) (end n from stop k t u : ℕ) (l₀ : List ℕ) (c₀ : Cursor) (l : List ℕ) (c : Cursor) (to : ℕ) : Type 0 where
  pub on : On y n c
  pub long : length l ≡ length l₀
  pub count : to + board_row_size * length (left_departures w x y end n from stop k t u c) ≡ board_row_size * length (left_departures w x y end n from stop k t u c₀)
  pub room : board_row_size * length (left_departures w x y end n from stop k t u c₀) ≤ length l₀
  pub words : write l to (gathered board_row_words (left_departures w x y end n from stop k t u c)) ≡ write l₀ 0 (gathered board_row_words (left_departures w x y end n from stop k t u c₀))

-- where the answer is yes, call e gives no departure, whatever stop and day
pub record Calm (w x : List ℕ) (n : ℕ) (y : List ℕ) (t u e : ℕ) (r : Bool) : Type 0 where
  pub none : r ≡ true → (stop k : ℕ) → entry_departures w x n y stop k t u e ≡ []

-- at most r
pub record Few (w x : List ℕ) (n : ℕ) (y : List ℕ) (t u e r : ℕ) : Type 0 where
  pub few : (stop k : ℕ) → length (entry_departures w x n y stop k t u e) ≤ r

-- a call is counted where it may give rows
abbrev pub one_if : ℕ → ℕ
one_if m = cond (eqb m 0) 0 1

-- what is left from cursor c on is what its call gives and what is left from r on, which stands behind it
pub record Behind (w x y : List ℕ) (end n from stop t u : ℕ) (c r : Cursor) : Type 0 where
  pub on : On y n r
  pub rest : (k : ℕ) → left_departures w x y end n from stop k t u c ≡ entry_departures w x n y stop k t u c.call ++ left_departures w x y end n from stop k t u r
  pub less : length (left_at w x y end n from stop r) < length (left_at w x y end n from stop c)

-- a number of a call
abbrev pub Entry : ℕ → List ℕ → ℕ → Type 0
Entry n y e = (0 < e) × (e ≤ entries# n y)

-- where r words are there: the first r calls kept give all that is left from a cursor on, whatever day, and so many rows are enough for it
pub record KeptFrom (w x y : List ℕ) (end n from stop t u : ℕ) (c : Cursor) (rows : ℕ) (kept : List ℕ) (r : ℕ) : Type 0 where
  pub calls : r ≤ length kept → (k : ℕ) → gathered (entry_departures w x n y stop k t u) (take r kept) ≡ left_departures w x y end n from stop k t u c
  pub room : r ≤ length kept → (k : ℕ) → length (left_departures w x y end n from stop k t u c) ≤ rows
  pub each : r ≤ length kept → (j : ℕ) → j < r → Entry n y (get_or kept j 0)

-- all of it
pub record Kept (w x y : List ℕ) (stop t u rows : ℕ) (kept : List ℕ) (r : ℕ) : Type 0 where
  pub calls : r ≤ length kept → (k : ℕ) → gathered (entry_departures w x (stops# w) y stop k t u) (take r kept) ≡ departures_by w x y stop k t u
  pub room : r ≤ length kept → (k : ℕ) → length (departures_by w x y stop k t u) ≤ rows
  pub each : r ≤ length kept → (j : ℕ) → j < r → Entry (stops# w) y (get_or kept j 0)

-- on day k
pub record Told (w x y : List ℕ) (stop k t u : ℕ) (kept : List ℕ) (m : ℕ) : Type 0 where
  pub within : m ≤ length kept
  pub calls : gathered (entry_departures w x (stops# w) y stop k t u) (take m kept) ≡ departures_by w x y stop k t u
  pub each : (j : ℕ) → j < m → Entry (stops# w) y (get_or kept j 0)

-- on the way, with m calls kept and room for `left` rows of what is still to come
pub record Keeping (w x y : List ℕ) (end n from stop t u : ℕ) (c₀ : Cursor) (rows : ℕ) (kept : List ℕ) (c : Cursor) (left m : ℕ) : Type 0 where
  pub on : On y n c
  pub within : m ≤ length kept
  pub all : (k : ℕ) → gathered (entry_departures w x n y stop k t u) (take m kept) ++ left_departures w x y end n from stop k t u c ≡ left_departures w x y end n from stop k t u c₀
  pub room : (k : ℕ) → length (left_departures w x y end n from stop k t u c₀) + left ≤ length (left_departures w x y end n from stop k t u c) + rows
  pub each : (j : ℕ) → j < m → Entry n y (get_or kept j 0)

-- on the way, with the rows of the first j calls kept written up to `to`
pub record PuttingKept (w x y : List ℕ) (stop k t u : ℕ) (kept : List ℕ) (m : ℕ) (l₀ l : List ℕ) (j to : ℕ) : Type 0 where
  pub long : length l ≡ length l₀
  pub few : j ≤ m
  pub count : to + board_row_size * length (gathered (entry_departures w x (stops# w) y stop k t u) (drop j (take m kept))) ≡ board_row_size * length (departures_by w x y stop k t u)
  pub words : write l to (gathered board_row_words (gathered (entry_departures w x (stops# w) y stop k t u) (drop j (take m kept)))) ≡ write l₀ 0 (gathered board_row_words (departures_by w x y stop k t u))

-- `most_runs` for each of 2^32 calls
abbrev pub most : ℕ
most = 2576726974529536
