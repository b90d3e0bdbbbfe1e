-- What a delivery holds: what the lines of its six files say. Of an accepted delivery this is everything that its table and its walks go by.
-- Assumes nothing.
use Rattle.std.specs.Prelude.{ℕ, List}
use Rattle.timetable.specs.declared.Opening.{Opening}
use Rattle.timetable.specs.declared.Call.{Call}

-- the six files, as bytes. Document 02, No. 1: "ZUGART is file 6"
pub record Files : Type 0 where
  pub eckdaten : List ℕ
  pub bitfeld : List ℕ
  pub bahnhof : List ℕ
  pub umsteigb : List ℕ
  pub fplan : List ℕ
  pub zugart : List ℕ

abbrev pub files_of : List ℕ → List ℕ → List ℕ → List ℕ → List ℕ → List ℕ → Files
files_of e b s u p z = record { eckdaten = e; bitfeld = b; bahnhof = s; umsteigb = u; fplan = p; zugart = z }

-- the first day and the number of days n
pub record Period : Type 0 where
  pub start : ℕ
  pub n : ℕ

-- a bit field: its number and its twelve words
pub record BitField : Type 0 where
  pub number : ℕ
  pub words : List ℕ

-- a stop: its number, "byte offset of column 13 in BAHNHOF from 0, name length without trailing blanks"
pub record StopRecord : Type 0 where
  pub number : ℕ
  pub offset : ℕ
  pub size : ℕ

-- an interchange record: its stop and its two times
pub record Interchange : Type 0 where
  pub number : ℕ
  pub first_time : ℕ
  pub second_time : ℕ

-- No. 1: a category that ZUGART lists: its code, three bytes as one number, and its class
pub record CategoryClass : Type 0 where
  pub code : ℕ
  pub class : ℕ

-- a range's first and last call: "*G and operating-day ranges .. cover the legs between" (other *A are ranges of calls)
pub record Legs : Type 0 where
  pub from : ℕ
  pub to : ℕ

-- "*G of 3 (category as three bytes, from, to)"
pub record CategoryRange : Type 0 where
  pub name : ℕ
  pub legs : Legs

-- "*A VE of 3 (bit field, from, to)"
pub record DayRange : Type 0 where
  pub field : ℕ
  pub legs : Legs

-- "other of 4 (code as two bytes, bit field, from, to)"
pub record ExtraRange : Type 0 where
  pub code : ℕ
  pub field : ℕ
  pub legs : Legs

-- a service: its opening line's number and content, its calls, and its ranges, each kind in line order
pub record Service : Type 0 where
  pub line : ℕ
  pub opening : Opening
  pub calls : List Call
  pub categories : List CategoryRange
  pub days : List DayRange
  pub extras : List ExtraRange

pub record Delivery : Type 0 where
  pub period : Period
  pub fields : List BitField
  pub stops : List StopRecord
  pub interchanges : List Interchange
  pub classes : List CategoryClass
  pub services : List Service
