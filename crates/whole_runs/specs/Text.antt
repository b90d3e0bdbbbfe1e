-- "The days, calls and categories are those of that same delivery's text": what an accepted delivery holds is what the lines of its six files say.
-- Every line of every file was read, so no record is dropped unseen, and what is looked up by a line's number is that line's own.
-- Proved in proofs/Text.antt: `own-text`. Assumes nothing.
use Rattle.std.specs.Prelude.{◌≡◌, ◌⊎◌, List, [], ◌∷◌, ◌++◌, map, true, false, cond, ℕ, ◌+◌, ◌-◌, ◌<◌, ◌≤◌, length, eqb, Option as RustOption, Some, None}
use Rattle.std.proofs.Math.Option.{Option, none, some}
use Rattle.std.proofs.Math.ListN.{get_elem?}
use Rattle.base.specs.Lists.{All, find, gathered}
use Rattle.bitfield.specs.BitField.{runs_on}
use Rattle.calendar.specs.Calendar.{date_in}
use Rattle.fields.specs.declared.StopNumber.{StopNumber}
use Rattle.fields.specs.declared.RangeEnd.TheVariants.{Stop}
use Rattle.fields.specs.declared.Detail.TheVariants.{Plain}
use Rattle.forms.specs.Kinds.{kind_of}
use Rattle.forms.specs.declared.Kind.TheVariants.{Opening as OpeningKind, Frequency}
use Rattle.forms.specs.Form.{has_form}
use Rattle.forms.specs.Columns.{date_columns}
use Rattle.lines.specs.Lines.{Line, lines_of, skipped}
use Rattle.timetable.specs.Layout.{kind_z, kind_t}
use Rattle.timetable.specs.Delivery.{Files, Period, BitField, StopRecord, Interchange, CategoryClass, Legs, CategoryRange, DayRange, ExtraRange, Service}
use Rattle.timetable.specs.Files.{Held, held, bit_field_of, stop_of, interchange_of, class_of}
use Rattle.timetable.specs.Plan.{opens_service, tolds, as_call, part_lines}
use Rattle.timetable.specs.Service.{head_lines, blocks, opening_of, service_of}
use Rattle.timetable.specs.Legs.{field_runs}
use Rattle.timetable.specs.Load.{delivered}
use Rattle.timetable.specs.declared.Administration.{Administration}
use Rattle.timetable.specs.declared.Call.{Call}
use Rattle.timetable.specs.declared.CallLine.{CallLine}
use Rattle.timetable.specs.declared.RangeLine.{RangeLine}
use Rattle.timetable.specs.declared.RangeKind.TheVariants.{Category, Days, Extra}
use Rattle.timetable.specs.declared.Told.{Told}
use Rattle.timetable.specs.declared.Told.TheVariants.{Other, Broken}

-- ECKDATEN: "lines 1, 2: 1-10 DD.MM.YYYY, rest free; line 3 free; exactly three lines"
pub record ThreeLines (ls : List Line) (p : Period) : Type 0 where
  pub first : Line
  pub second : Line
  pub third : Line
  pub exactly : ls ≡ first ∷ second ∷ third ∷ []
  pub forms : (has_form date_columns first.text ≡ true) × (has_form date_columns second.text ≡ true)
  -- the first day of the period, and the last
  pub start : date_in first.text ≡ Some p.start
  pub end : date_in second.text ≡ Some (p.start + p.n - 1)

-- BITFELD, BAHNHOF, UMSTEIGB, ZUGART: each line is skipped, or gives the next record
pub data Records {X : Type 0} (of : Line → Held X) : List Line → List X → Type 0 where
  no_line : Records of [] []
  skips : {l : Line} {ls : List Line} {xs : List X} → skipped l.text ≡ true → Records of ls xs → Records of (l ∷ ls) xs
  gives : {l : Line} {ls : List Line} {x : X} {xs : List X} → skipped l.text ≡ false → of l ≡ held x → Records of ls xs → Records of (l ∷ ls) (x ∷ xs)

-- FPLAN, the block of a service: its first line opens a service and no other line of it does; "its kind (0 for *Z, 1 for *T ..)" is that line's
pub record Opened (lines : List Line) (kind : ℕ) : Type 0 where
  pub first : Line
  pub others : List Line
  pub are : lines ≡ first ∷ others
  pub no_other : All (λ (l : Line). opens_service l ≡ false) others
  pub of_kind : ((kind_of first.text ≡ OpeningKind) × (kind ≡ kind_z)) ⊎ ((kind_of first.text ≡ Frequency) × (kind ≡ kind_t))

-- what a call holds of its own schedule line: stop, times and flags (the number and the administration that hold there: `Announces`)
abbrev pub call_says : Call → List ℕ
call_says c = c.stop ∷ c.arrival ∷ c.departure ∷ c.flags ∷ []

abbrev pub line_says : CallLine → List ℕ
line_says l = l.stop ∷ l.arrival ∷ l.departure ∷ l.flags ∷ []

-- 01's first slip, "Searching a *to* stop from the front": a *to* that names a stop, its detail blank, is "the last" appearance: the call has that
-- stop, and no later call has
pub record LastThere (cs : List Call) (stop to : ℕ) : Type 0 where
  pub call : Call
  pub there : get_elem? cs to ≡ some call
  pub at_stop : call.stop ≡ stop
  pub none_later : (q : ℕ) (c : Call) → to < q → get_elem? cs q ≡ some c → c.stop ≡ stop → ⊥

-- the q-th line of a range and the legs that it gave
abbrev pub EndsLast : List Call → List RangeLine → List Legs → Type 0
EndsLast cs rs gs =
    (q : ℕ) (r : RangeLine) (g : Legs) → get_elem? rs q ≡ some r → get_elem? gs q ≡ some g
    → (stop : StopNumber) → r.ends.to.place ≡ Stop stop → r.ends.to.detail ≡ Plain → LastThere cs stop.0 g.to

-- the i-th service is what the lines of the i-th block say; every line was read, and each line of a range gives one range
pub record FromText (bs : List (List Line)) (i : ℕ) (s : Service) : Type 0 where
  pub lines : List Line
  pub block : get_elem? bs i ≡ some lines
  pub read : service_of lines ≡ s
  pub categories : length s.categories ≡ length (part_lines Category lines)
  pub days : length s.days ≡ length (part_lines Days lines)
  pub extras : length s.extras ≡ length (part_lines Extra lines)
  pub opened : Opened lines s.opening.kind
  pub calls : map call_says s.calls ≡ map line_says (gathered as_call (tolds lines))
  pub category_ends : EndsLast s.calls (part_lines Category lines) (map (λ (r : CategoryRange). r.legs) s.categories)
  pub day_ends : EndsLast s.calls (part_lines Days lines) (map (λ (r : DayRange). r.legs) s.days)
  pub extra_ends : EndsLast s.calls (part_lines Extra lines) (map (λ (r : ExtraRange). r.legs) s.extras)
  pub lines_read : All (λ (t : Told). (t ≡ Other → ⊥) × ((c : ℕ) → t ≡ Broken c → ⊥)) (tolds lines)

-- ---- document 02, No. 5: "Conductors announce the number that holds from a call on." "A blank field repeats the call before; the first call's
-- blanks take the *Z values." (No. 8: these "may be a *T's".) Said here by the lines themselves, without the definition that the table's calls are made with (`holding`).

-- what a schedule line says in columns 44-48 and in columns 50-55, if they are not blank
abbrev pub number_by : RustOption ℕ → Option ℕ
number_by None = none
number_by (Some n) = some n

abbrev pub administration_by : RustOption Administration → Option (ℕ × ℕ)
administration_by None = none
administration_by (Some a) = some (a.high, a.low)

abbrev pub number_said : CallLine → Option ℕ
number_said l = number_by l.number

abbrev pub administration_said : CallLine → Option (ℕ × ℕ)
administration_said l = administration_by l.administration

-- what holds at call p of a service, whose schedule lines are ls and whose opening line says z: what the line of some call up to p says, no line after it
-- up to p saying anything; or what the opening line says, no line up to p saying anything
pub data HoldsAt {X : Type 0} (say : CallLine → Option X) (ls : List CallLine) (z : X) (p : ℕ) : X → Type 0 where
  since : (i : ℕ) {l : CallLine} {x : X} → i ≤ p → get_elem? ls i ≡ some l → say l ≡ some x
      → ((j : ℕ) (m : CallLine) → i < j → j ≤ p → get_elem? ls j ≡ some m → say m ≡ none) → HoldsAt say ls z p x
  from_start : ((j : ℕ) (m : CallLine) → j ≤ p → get_elem? ls j ≡ some m → say m ≡ none) → HoldsAt say ls z p z

-- number and administration, each by itself
pub record Announces (lines : List Line) (p number high low : ℕ) : Type 0 where
  pub number_holds : HoldsAt number_said (gathered as_call (tolds lines)) (opening_of lines).number p number
  pub administration_holds : HoldsAt administration_said (gathered as_call (tolds lines)) ((opening_of lines).high, (opening_of lines).low) p (high, low)

-- every line of every file
pub record EveryLine (f : Files) : Type 0 where
  pub eckdaten : ThreeLines (lines_of f.eckdaten) (delivered f).period
  pub bitfeld : Records bit_field_of (lines_of f.bitfeld) (delivered f).fields
  pub bahnhof : Records stop_of (lines_of f.bahnhof) (delivered f).stops
  pub umsteigb : Records interchange_of (lines_of f.umsteigb) (delivered f).interchanges
  pub zugart : Records class_of (lines_of f.zugart) (delivered f).classes
  -- a line of FPLAN stands before the first *Z or *T line, and then it is skipped, or in one block; each block is a service
  pub fplan : head_lines (lines_of f.fplan) ++ gathered (λ (b : List Line). b) (blocks (lines_of f.fplan)) ≡ lines_of f.fplan
  pub before : All (λ (l : Line). skipped l.text ≡ true) (head_lines (lines_of f.fplan))
  pub blocks_read : length (delivered f).services ≡ length (blocks (lines_of f.fplan))
  pub services : (i : ℕ) (s : Service) → get_elem? (delivered f).services i ≡ some s → FromText (blocks (lines_of f.fplan)) i s

-- the delivery is its own text's
pub record OwnText (f : Files) : Type 0 where
  pub every_line : EveryLine f
  -- a bit field runs on the days of its own line's bits; "A blank bit field means 000000, daily."
  pub field_days : (k : ℕ) → All (λ (b : BitField). field_runs (delivered f).fields b.number k ≡ runs_on b.words k) (delivered f).fields
  pub daily : (k : ℕ) → field_runs (delivered f).fields 0 k ≡ true
  -- what is found in BAHNHOF and UMSTEIGB by a line's number is that line's own
  pub own_stop : All (λ (x : StopRecord). find (λ (y : StopRecord). eqb y.number x.number) (delivered f).stops ≡ some x) (delivered f).stops
  pub own_interchange : All (λ (x : Interchange). find (λ (y : Interchange). eqb y.number x.number) (delivered f).interchanges ≡ some x) (delivered f).interchanges
  -- document 02, No. 1: what is found in ZUGART by a line's code is that line's own
  pub own_class : All (λ (x : CategoryClass). find (λ (y : CategoryClass). eqb y.code x.code) (delivered f).classes ≡ some x) (delivered f).classes
