-- "one unbroken stretch of calls, none missing, whose stated times never fall, and one category for each leg": the rows of a run, word by word.
-- Nothing here goes by the definitions that the walk lists its rows with (`row_of`, `row_flags`, `category_on`, `interchange_at_stop`); what covers a leg, and
-- which stop is listed, is said by the same definitions. Assumes nothing.
use Rattle.std.specs.Prelude.{◌≡◌, List, true, false, ℕ, ◌+◌, ◌*◌, ◌/◌, ◌%◌, ◌<◌, ◌≤◌, length, get_or}
use Rattle.std.proofs.Math.Option.{some}
use Rattle.std.proofs.Math.ListN.{get_elem?}
use Rattle.base.specs.Lists.{All}
use Rattle.timetable.specs.Runs.{lateness}
use Rattle.timetable.specs.Layout.{row_size, all_flags}
use Rattle.timetable.specs.Delivery.{Interchange, CategoryRange, Service, Delivery}
use Rattle.timetable.specs.Files.{has_stop}
use Rattle.timetable.specs.Legs.{covers, covering, operated, leg_count}
use Rattle.timetable.specs.Table.{word}
use Rattle.timetable.specs.declared.Call.{Call}

-- "does not run" by the text: on day k of the period no leg has an operating-day range that runs
abbrev pub RunsNowhere : Delivery → Service → ℕ → Type 0
RunsNowhere d s k = (j : ℕ) → j < leg_count s → operated d.fields s.days k j ≡ false

-- one unbroken stretch: on day k the legs from `start` on, `legs` of them, operate, and no others
pub record Unbroken (d : Delivery) (s : Service) (k start legs : ℕ) : Type 0 where
  pub some_leg : 1 ≤ legs
  pub inside : start + legs ≤ leg_count s
  pub operates : (j : ℕ) → start ≤ j → j < start + legs → operated d.fields s.days k j ≡ true
  pub not_before : (j : ℕ) → j < start → operated d.fields s.days k j ≡ false
  pub not_after : (j : ℕ) → start + legs ≤ j → j < leg_count s → operated d.fields s.days k j ≡ false

-- ---- a row's words

-- word j of row q
abbrev pub row_word : List ℕ → ℕ → ℕ → ℕ
row_word ws q j = word ws (row_size * q + j)

-- "flags: 1 arrival, 2 departure, 4 no alighting, 8 no boarding"
abbrev pub flag : ℕ → ℕ → ℕ
flag b flags = flags / b % 2

-- the words w of row q, for call c of a run with n legs; `leg` is the leg that leaves it, `delay` is how late the run is
pub record Row (d : Delivery) (s : Service) (delay n q leg : ℕ) (c : Call) (w : ℕ → ℕ) : Type 0 where
  -- "stop, arrival, departure (each plus repeat times offset)": the run's `lateness`; the stop is in BAHNHOF
  pub stop : w 0 ≡ c.stop
  pub known : has_stop c.stop d.stops ≡ true
  pub arrival : 1 ≤ q → w 1 ≡ c.arrival + delay
  pub departure : q < n → w 2 ≡ c.departure + delay
  -- "flags"
  pub arriving : 1 ≤ q → (flag 1 (w 3) ≡ flag 1 c.flags) × (flag 4 (w 3) ≡ flag 4 c.flags)
  pub departing : q < n → (flag 2 (w 3) ≡ flag 2 c.flags) × (flag 8 (w 3) ≡ flag 8 c.flags)
  pub four_flags : w 3 ≤ all_flags
  -- document 02, No. 5: "number and the two administration words follow the flags", in a row "in the same way"
  pub number : w 4 ≡ c.number
  pub administration : (w 5 ≡ c.high) × (w 6 ≡ c.low)
  -- "category of the leaving leg": exactly one *G covers it
  pub one_category : q < n → covering (λ (g : CategoryRange). g.legs) s.categories leg ≡ 1
  pub category : q < n → All (λ (g : CategoryRange). covers leg g.legs ≡ true → w 7 ≡ g.name) s.categories
  -- "the stop's two interchange times": its record's, else the first record's
  pub own_times : All (λ (x : Interchange). x.number ≡ c.stop → (w 8 ≡ x.first_time) × (w 9 ≡ x.second_time)) d.interchanges
  pub first_times : All (λ (x : Interchange). x.number ≡ c.stop → ⊥) d.interchanges
      → (x : Interchange) × (get_elem? d.interchanges 0 ≡ some x) × (w 8 ≡ x.first_time) × (w 9 ≡ x.second_time)
  -- "First row: arrival 0, flags 1 and 4 cleared."
  pub first_row : q ≡ 0 → (w 1 ≡ 0) × (flag 1 (w 3) ≡ 0) × (flag 4 (w 3) ≡ 0)
  -- "Last: departure 0, flags 2 and 8 cleared, category 0."
  pub last_row : q ≡ n → (w 2 ≡ 0) × (flag 2 (w 3) ≡ 0) × (flag 8 (w 3) ≡ 0) × (w 7 ≡ 0)

-- ---- the rows of a run

-- the times of a listing, in the order of its rows and arrival before departure: time p stands in row p / 2, an arrival (word 1, flag 1) where p is even
-- and a departure (word 2, flag 2) where it is odd; whether it is stated
abbrev pub time_at : List ℕ → ℕ → ℕ
time_at ws p = row_word ws (p / 2) (1 + p % 2)

abbrev pub Stated : List ℕ → ℕ → Type 0
Stated ws p = flag (1 + p % 2) (row_word ws (p / 2) 3) ≡ 1

-- what stands for a call past the last
abbrev pub no_call : Call
no_call = record { stop = 0; arrival = 0; departure = 0; flags = 0; number = 0; high = 0; low = 0 }

-- the p-th call of a service
abbrev pub call_no : Service → ℕ → Call
call_no s p = get_or s.calls p no_call

-- the rows of run r on day k of the period
pub record Stretched (d : Delivery) (s : Service) (r k : ℕ) (ws : List ℕ) : Type 0 where
  pub start : ℕ
  pub legs : ℕ
  pub unbroken : Unbroken d s k start legs
  -- its calls, none missing, each as its row
  pub size : length ws ≡ row_size * (legs + 1)
  pub row : (q : ℕ) → q ≤ legs → Row d s (lateness s.opening r) legs q (start + q) (call_no s (start + q)) (row_word ws q)
  -- the times that a run needs are stated, and over any two stated times they never fall
  pub arrives : (q : ℕ) → 1 ≤ q → q ≤ legs → flag 1 (row_word ws q 3) ≡ 1
  pub departs : (q : ℕ) → q < legs → flag 2 (row_word ws q 3) ≡ 1
  pub never_fall : (p m : ℕ) → p ≤ m → m < 2 * (legs + 1) → Stated ws p → Stated ws m → time_at ws p ≤ time_at ws m
