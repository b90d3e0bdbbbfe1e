-- The calls at a stop, by its number, as any words beside a table say: `x` with the chains of the stops, `y` with those of the calls. A link that does not go down
-- ends its chain, so that any words come to an end. What this is where the words are the table's own is said in board_agrees/proofs/Own.
-- Assumes nothing.
use Rattle.std.specs.Prelude.{ℕ, zero, suc, ◌+◌, ◌-◌, ◌*◌, ◌/◌, ◌≤◌, ◌<◌, ◌≡◌, List, [], ◌∷◌, ◌++◌, cond, length, take, eqb, leb, ltb}
use Rattle.base.specs.Lists.{gathered}
use Rattle.timetable.specs.Layout.{stop_size}
use Rattle.timetable.specs.Table.{word}
use Rattle.chains.specs.Chains.{Records, first_by, next_by}
use Rattle.calls.specs.Calls.{entry_size}
use Rattle.stop_calls.specs.declared.Cursor.{Cursor}

-- the numbers along a chain from e on, downward from f
unfoldable pub chained : (ℕ → ℕ) → ℕ → ℕ → List ℕ
chained link zero e = []
chained link (suc f) e = cond (eqb e (suc f)) (suc f ∷ chained link f (link (suc f))) (chained link f e)

-- ---- the calls, beside n stops: a word for each stop, then entries of four words

unfoldable pub entries# : ℕ → List ℕ → ℕ
entries# n y = (length y - n) / entry_size

-- word k of entry e, counted from 1: the call before it at its stop, its service, the place of that service's record, its place in the route
unfoldable pub entry_word : ℕ → List ℕ → ℕ → ℕ → ℕ
entry_word n y k e = word y (n + entry_size * (e - 1) + k)

-- the calls at stop s, counted from the end of the stop section, from the last on
unfoldable pub calls_on : ℕ → List ℕ → ℕ → List ℕ
calls_on n y s = chained (entry_word n y 0) (entries# n y) (word y (n - s))

-- ---- the stops with a number: n records of the stop section, which ends at a place; their chains begin at a place of x

unfoldable pub stops_by : List ℕ → List ℕ → ℕ → ℕ → ℕ → ℕ → List ℕ
stops_by w x end n from key = chained (next_by w x end stop_size from key) n (first_by w x end stop_size n from key)

-- the calls at all of them: a stop's number may stand twice in words from elsewhere
unfoldable pub calls_by : List ℕ → List ℕ → List ℕ → ℕ → ℕ → ℕ → ℕ → List ℕ
calls_by w x y end n from key = gathered (calls_on n y) (stops_by w x end n from key)

-- ---- for contracts: a cursor stands on a call, and so many more may come, with it

pub record Lent (w x y : List ℕ) (end n from : ℕ) : Type 0 where
  pub records : Records w end stop_size n
  pub chains : from + 2 * n ≤ length x
  pub heads : n ≤ length y

-- those after a call at its stop, and at the stops after that one
abbrev pub calls_after : List ℕ → List ℕ → List ℕ → ℕ → ℕ → ℕ → ℕ → ℕ → ℕ → List ℕ
calls_after w x y end n from key call stop =
    chained (entry_word n y 0) (call - 1) (entry_word n y 0 call)
    ++ gathered (calls_on n y) (chained (next_by w x end stop_size from key) (stop - 1) (next_by w x end stop_size from key stop))

-- what is left: the call that the cursor stands on, and those after it; 0 is none
unfoldable pub left_at : List ℕ → List ℕ → List ℕ → ℕ → ℕ → ℕ → ℕ → Cursor → List ℕ
left_at w x y end n from key c = cond (eqb c.call 0) [] (take c.left (c.call ∷ calls_after w x y end n from key c.call c.stop))

pub record On (y : List ℕ) (n : ℕ) (c : Cursor) : Type 0 where
  pub call : c.call ≤ entries# n y
  pub stop : c.stop ≤ n
  pub some : (c.call ≡ 0 → ⊥) → 0 < c.stop
  pub more : (c.call ≡ 0 → ⊥) → 0 < c.left

-- the last call at stop s, and the call before call e: 0 where the word does not lead on
abbrev pub last_on : ℕ → List ℕ → ℕ → ℕ
last_on n y s = cond (leb (word y (n - s)) (entries# n y)) (word y (n - s)) 0

abbrev pub before_on : ℕ → List ℕ → ℕ → ℕ
before_on n y e = cond (ltb (entry_word n y 0 e) e) (entry_word n y 0 e) 0
