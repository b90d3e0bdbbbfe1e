-- Demand 3. "Take a delivery that was accepted and its table unaltered. For any service in it, any repeat the service has and any date in the
-- period, a walk of that run, given enough room, either says it does not run that day or lists one unbroken stretch of calls, none missing,
-- whose stated times never fall, and one category for each leg. It never meets a number it cannot resolve. The days, calls and categories are
-- those of that same delivery's text, and 'does not run' is said exactly when its text says so."
-- Proved in proofs/Demand3.antt: `demand3` (what the walk is), `demand3-rows` (its answer and the rows afterwards, with any room); in
-- proofs/Slack.antt: `no-slack`; of any words, in proofs/Any.antt: `any-walk`, `two-rows`. Assumes nothing.
use Rattle.std.specs.Prelude.{◌≡◌, List, [], ◌∷◌, Bool, true, ℕ, ◌+◌, ◌*◌, ◌/◌, ◌<◌, ◌≤◌, length, eqb, Some, None, Result, Ok, Err}
use Rattle.std.proofs.Math.Option.{some}
use Rattle.std.proofs.Math.ListN.{get_elem?}
use Rattle.base.specs.Lists.{All, some_of}
use Rattle.calendar.specs.Calendar.{day_of}
use Rattle.lines.specs.Lines.{lines_of}
use Rattle.timetable.specs.Runs.{has_run, lateness}
use Rattle.timetable.specs.Layout.{kind_z, kind_t, row_size}
use Rattle.timetable.specs.Delivery.{Files, DayRange, Service, Delivery}
use Rattle.timetable.specs.Service.{blocks}
use Rattle.timetable.specs.Legs.{field_known, covers, covering, operated, field_runs, leg_count}
use Rattle.timetable.specs.Load.{delivered, onto}
use Rattle.timetable.specs.Questions.{Journey, refused, idle, rows, Walked, walk_refusal, walked_by}
use Rattle.timetable.specs.declared.Opening.{Opening}
use Rattle.timetable.specs.declared.refusal.Refusal.{Refusal}
use Rattle.timetable.specs.declared.refusal.Refusal.TheVariants.{TooFewWords}
use Rattle.timetable.specs.Refusals.{number_of}
use Rattle.whole_runs.specs.Text.{FromText, Announces, OwnText}
use Rattle.whole_runs.specs.Classes.{OwnClass}
use Rattle.whole_runs.specs.Rows.{RunsNowhere, Unbroken, row_word, Stretched}

-- what is asked: a service of the delivery, a repeat that it has, and a date in the period
pub record Asked (f : Files) (i r d m y : ℕ) (s : Service) (day : ℕ) : Type 0 where
  pub service : get_elem? (delivered f).services i ≡ some s
  pub repeat : has_run s.opening r ≡ true
  pub date : day_of d m y ≡ Some day
  pub from : (delivered f).period.start ≤ day
  pub until : day < (delivered f).period.start + (delivered f).period.n

-- "any repeat the service has", and how late it is, by the paper's words for each kind: of a *Z "repeat number over repeats" is refused, and a row's times
-- are "plus repeat times offset"; No. 8, of a *T: "The runs are j = 0, 1, 2.. while j times density is at most sixty times the running time, and run j is
-- late by j times density over sixty, rounded up" (the repeats word holds the running time, the offset word the density)
pub record RunsBy (o : Opening) : Type 0 where
  pub z_runs : o.kind ≡ kind_z → (j : ℕ) → (has_run o j ≡ true → j ≤ o.repeats) × (j ≤ o.repeats → has_run o j ≡ true)
  pub z_late : o.kind ≡ kind_z → (j : ℕ) → lateness o j ≡ j * o.offset
  pub t_runs : o.kind ≡ kind_t → (j : ℕ) → (has_run o j ≡ true → j * o.offset ≤ 60 * o.repeats) × (j * o.offset ≤ 60 * o.repeats → has_run o j ≡ true)
  pub t_late : o.kind ≡ kind_t → (j : ℕ) → (j * o.offset ≤ 60 * lateness o j) × (60 * lateness o j < j * o.offset + 60)

-- "The days, calls and categories are those of that same delivery's text": of the i-th service on day k of the period
pub record OwnRun (f : Files) (i : ℕ) (s : Service) (k : ℕ) : Type 0 where
  pub delivery : OwnText f
  pub service : FromText (blocks (lines_of f.fplan)) i s
  -- each leg has exactly one operating-day range, and each such range a bit field that is 000000 or in BITFELD
  pub one_range : (leg : ℕ) → leg < leg_count s → covering (λ (g : DayRange). g.legs) s.days leg ≡ 1
  pub fields_known : All (λ (g : DayRange). field_known g.field (delivered f).fields ≡ true) s.days
  -- a leg operates exactly when the bit field of its range runs
  pub leg_days : (leg : ℕ) → leg < leg_count s
      → All (λ (g : DayRange). covers leg g.legs ≡ true
      → operated (delivered f).fields s.days k leg ≡ field_runs (delivered f).fields g.field k) s.days
  -- document 02, No. 8: its runs are those of its kind
  pub runs_by : RunsBy s.opening
  -- document 02, No. 5: the number and administration that a row states are those that the text says hold at its call, wherever the stretch begins
  pub announced : {r : ℕ} {ws : List ℕ} (x : Stretched (delivered f) s r k ws) (q : ℕ) → q ≤ x.legs
      → Announces service.lines (x.start + q) (row_word ws q 4) (row_word ws q 5) (row_word ws q 6)
  -- document 02, No. 1: "Demand 3 adds that every category a walk lists has a class": exactly one, from its own line of ZUGART (the last row has no category)
  pub classed : {r : ℕ} {ws : List ℕ} (x : Stretched (delivered f) s r k ws) (q : ℕ) → q < x.legs → OwnClass f (row_word ws q 7)

-- ---- what the walk is, before the room is looked at

-- it says "not running", or lists a stretch
pub data Outcome (d : Delivery) (s : Service) (r k : ℕ) : Journey → Type 0 where
  not_running : RunsNowhere d s k → Outcome d s r k idle
  runs : {ws : List ℕ} → Stretched d s r k ws → Outcome d s r k (rows ws)

pub record Demand3 (f : Files) (i : ℕ) (s : Service) (r k : ℕ) (j : Journey) : Type 0 where
  pub outcome : Outcome (delivered f) s r k j
  -- "It never meets a number it cannot resolve."
  pub never_refused : (refusal : Refusal) → j ≡ refused refusal → ⊥
  -- "'does not run' is said exactly when its text says so"
  pub idle_only : j ≡ idle → RunsNowhere (delivered f) s k
  pub idle_always : RunsNowhere (delivered f) s k → j ≡ idle
  pub own : OwnRun f i s k

-- ---- its answer and the rows afterwards, from the rows as lent: "Then 29 row slice too short." exactly if fewer words are lent than one row for
-- each call of the stretch takes, and it names these

pub data Walk (d : Delivery) (s : Service) (r k : ℕ) (lent : List ℕ) : Walked → List ℕ → Type 0 where
  not_running : RunsNowhere d s k → Walk d s r k lent (Ok None) lent
  short : {ws : List ℕ} (x : Stretched d s r k ws) → length lent < row_size * (x.legs + 1) → Walk d s r k lent (Err (walk_refusal TooFewWords (row_size * (x.legs + 1)))) lent
  runs : {ws : List ℕ} (x : Stretched d s r k ws) → row_size * (x.legs + 1) ≤ length lent → Walk d s r k lent (Ok (Some (x.legs + 1))) (onto ws lent)

-- a walk refused for want of room: only by 29, and with the words that it names it lists its rows
pub record Short (s : Service) (j : Journey) (room : ℕ) (refusal : Refusal) (needed : ℕ) : Type 0 where
  pub only : refusal ≡ TooFewWords
  pub lacking : room < needed
  pub enough : walked_by j needed ≡ Ok (Some (needed / row_size))
  pub most : needed ≤ row_size * length s.calls

-- ---- of any words: what a walk of service i on a date may answer, d being what the words hold

-- the numbers that it may be refused by, before 29 is looked at; document 02, No. 10: "show that 32 can no longer occur, and retire it": it is not among them
abbrev pub walk_refusals : List ℕ
walk_refusals = 21 ∷ 22 ∷ 23 ∷ 24 ∷ 25 ∷ 31 ∷ 33 ∷ 34 ∷ 35 ∷ 36 ∷ []

unfoldable pub is_walk_refusal : ℕ → Bool
is_walk_refusal number = some_of (eqb number) walk_refusals

pub data AnyWalk (d : Delivery) (i : ℕ) (on : Result ℕ Refusal) (room : ℕ) : Walked → Type 0 where
  lists : {s : Service} {k start legs : ℕ} → get_elem? d.services i ≡ some s → on ≡ Ok k → Unbroken d s k start legs
      → row_size * (legs + 1) ≤ room → AnyWalk d i on room (Ok (Some (legs + 1)))
  short : {s : Service} {k start legs : ℕ} → get_elem? d.services i ≡ some s → on ≡ Ok k → Unbroken d s k start legs
      → room < row_size * (legs + 1) → AnyWalk d i on room (Err (walk_refusal TooFewWords (row_size * (legs + 1))))
  nowhere : {s : Service} {k : ℕ} → get_elem? d.services i ≡ some s → on ≡ Ok k → RunsNowhere d s k → AnyWalk d i on room (Ok None)
  refuses : (refusal : Refusal) → is_walk_refusal (number_of refusal) ≡ true → AnyWalk d i on room (Err (walk_refusal refusal 0))

-- "A walk that lists rows returns how many": at least two, so that 0 rows say "not running"
abbrev pub TwoRows : Walked → Type 0
TwoRows (Ok (Some n)) = 2 ≤ n
TwoRows (Ok None) = Unit {0}
TwoRows (Err w) = Unit {0}
