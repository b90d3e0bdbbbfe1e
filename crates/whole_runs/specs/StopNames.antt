-- Request No. 3: what the question for a stop's name answers. Of any words and any bytes the answer is a name inside the bytes given (`InBytes`); of an
-- accepted delivery, its own table and its own BAHNHOF, it is the name that the stop's own line has in columns 13-62 (`OwnName`), and so it is never
-- refused by 41 or 39. Proved in proofs/StopNames.antt: `name-in-bytes`, `own_name`, `name-refusals`. Assumes nothing.
use Rattle.std.specs.Prelude.{◌≡◌, List, true, false, ℕ, ◌+◌, ◌≤◌, length, take, drop, Result, Ok, Err}
use Rattle.std.proofs.Math.Option.{some}
use Rattle.std.proofs.Math.ListN.{get_elem?}
use Rattle.columns.specs.LineFields.{field_in, stop_names}
use Rattle.lines.specs.Lines.{Line, lines_of}
use Rattle.names.specs.Grammar.{IsName}
use Rattle.names.specs.Names.{askable, wanted_by, name_for}
use Rattle.names.specs.declared.Name.{Name}
use Rattle.timetable.specs.Delivery.{StopRecord}
use Rattle.timetable.specs.Files.{held, has_stop, stop_of}
use Rattle.names.specs.NameField.{name_length, name_field}
use Rattle.timetable.specs.declared.NamePart.{NamePart}
use Rattle.timetable.specs.declared.refusal.Refusal.{Refusal}
use Rattle.timetable.specs.declared.refusal.Refusal.TheVariants.{StopUnknown, NotAskable}

-- a refusal, or a name that is a part of the bytes given
abbrev pub InBytes : List ℕ → Result NamePart Refusal → Type 0
InBytes bahnhof (Ok part) = (part.start + part.size ≤ length bahnhof) × IsName (take part.size (drop part.start bahnhof))
InBytes bahnhof (Err refusal) = Unit {0}

-- the answer a, for a stop, a language and a type, is the name that the stop's own line of BAHNHOF gives
pub record OwnName (bahnhof : List ℕ) (stop language type : ℕ) (a : Result NamePart Refusal) : Type 0 where
  -- the stop's line
  pub index : ℕ
  pub line : Line
  pub there : get_elem? (lines_of bahnhof) index ≡ some line
  pub holds : stop_of line ≡ held (record { number = stop; offset = line.start + 12; size = name_length (field_in stop_names line.text) })
  -- the name asked for in its columns 13-62, without trailing blanks
  pub name : Name
  pub asked : name_for (wanted_by language type) (name_field line.text) ≡ some name
  pub answer : a ≡ Ok (record { start = line.start + 12 + name.place; size = name.size })
  -- it stands in columns 13-62 of that line, and its bytes are the line's
  pub in_columns : 12 + name.place + name.size ≤ stop_names.to
  pub in_line : 12 + name.place + name.size ≤ length line.text
  pub bytes : take name.size (drop (line.start + 12 + name.place) bahnhof) ≡ take name.size (drop (12 + name.place) line.text)

-- what it is refused by, of an accepted delivery with these stops: "in order, 21, 40 .., 27, 41 .., 39", of which two are left
pub data NameRefused (stops : List StopRecord) (stop language type : ℕ) : Refusal → Type 0 where
  outside_list : askable language type ≡ false → NameRefused stops stop language type NotAskable
  unknown_stop : askable language type ≡ true → has_stop stop stops ≡ false → NameRefused stops stop language type StopUnknown
