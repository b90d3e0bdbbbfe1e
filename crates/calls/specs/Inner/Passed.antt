-- The calls passed so far, for the contracts of inner functions: nobody has to believe this file. Assumes nothing.
use Rattle.std.specs.Prelude.{ℕ, ◌+◌, ◌-◌, ◌*◌, ◌≤◌, ◌<◌, ◌≡◌, List, true, length, get_or, take, drop}
use Rattle.timetable.specs.Layout.{service_head, call_size}
use Rattle.timetable.specs.Table.{word, stops#, services#, records_sound}
use Rattle.table.specs.JustTable.{JustTable}
use Rattle.calls.specs.Calls.{stand_at, calls_from, stands_in, all_calls, entry_size, last_at, entry_of, call_index_size}

-- just a table, whose length a word holds; the k calls before service i, whose record stands at a place, are passed
pub record Here (w : List ℕ) (i at k : ℕ) : Type 0 where
  pub table : JustTable w
  pub small : length w < 4294967296
  pub sound : records_sound (stops# w) (services# w - i) (drop at w) ≡ true
  pub rest : calls_from w i at (services# w - i) ≡ drop k (stands_in w)

-- call k + 1 is this one, and its words are there
pub record Standing (w : List ℕ) (i at p k : ℕ) : Type 0 where
  pub table : JustTable w
  pub small : k + 1 < 4294967296
  pub here : get_or (stands_in w) k (stand_at 0 0 0) ≡ stand_at i at p
  pub some : k < all_calls w
  pub inside : at + service_head + call_size * p < length w
  pub stop : word w (at + service_head + call_size * p) < stops# w

-- calls k + 1 to k + c are those of service i
pub record Serving (w : List ℕ) (i at c k : ℕ) : Type 0 where
  pub each : (p : ℕ) → p < c → Standing w i at p (k + p)

-- the words with the calls up to k entered
pub record Held (w : List ℕ) (k : ℕ) (x : List ℕ) : Type 0 where
  pub long : length x ≡ call_index_size w
  pub upto : k ≤ all_calls w
  pub heads : (b : ℕ) → b < stops# w → get_or x b 0 ≡ last_at w b k
  pub entries : (j : ℕ) → j < k → take entry_size (drop (stops# w + entry_size * j) x) ≡ entry_of w (j + 1)
