-- Where the order of two offences, of one line or of two files, is a rule of its own. Assumes nothing.
use mathlib.Core.Path.{◌≡◌, refl}
use mathlib.Core.List.{List}
use mathlib.Core.Bool.{false}
use mathlib.Core.Option.{none, some}
use Prim.Native.Nat.{ℕ}
use Rattle.lines.specs.Lines.{lines_of}
use Rattle.names.specs.Names.{is_name_list}
use Rattle.timetable.specs.Delivery.{StopRecord, Files}
use Rattle.timetable.specs.Files.{named_stop_offence, period_first, bit_fields_first, stops_first, interchanges_first, classes_first}
use Rattle.names.specs.NameField.{name_field}
use Rattle.timetable.specs.Offences.{offence_at, ◌<|>◌}
use Rattle.timetable.specs.Load.{Where, delivered, length_offence, content_offence, loaded}
use Rattle.timetable.specs.declared.Offence.{Offence}
use Rattle.timetable.specs.declared.Loaded.TheVariants.{Refused}

-- document 02, No. 3: "39 after 4": whatever the stop's number
pub named-first : (earlier : List StopRecord) (line : ℕ) (text : List ℕ) (s : StopRecord) → is_name_list (name_field text) ≡ false → named_stop_offence earlier line text s ≡ some (offence_at 39 line)
unfolding ◌<|>◌
named-first earlier line text s e = rw e refl

-- document 02, No. 1: "ZUGART is file 6, its lengths and lines checked after UMSTEIGB's": where the files before hold, its first offence is told whatever FPLAN has
pub zugart-first : (f : Files) (o : Offence)
    → period_first (lines_of f.eckdaten) ≡ none → bit_fields_first (delivered f).period.n (lines_of f.bitfeld) ≡ none
    → stops_first (lines_of f.bahnhof) ≡ none → interchanges_first (delivered f).stops (lines_of f.umsteigb) ≡ none
    → classes_first (lines_of f.zugart) ≡ some o → content_offence f ≡ some (record { file = 6; offence = o })
unfolding content_offence ◌<|>◌
zugart-first f o e₁ e₂ e₃ e₄ e₅ = rw (e₁, e₂, e₃, e₄, e₅) refl

-- document 02, No. 13: "51, directly after 1": a file that is too long is told whatever helper words are lent
pub long-first : (f : Files) (room helper : ℕ) (w : Where) → length_offence f ≡ some w → loaded f room helper ≡ Refused w.offence.number w.file w.offence.line w.offence.column 0
unfolding loaded
long-first f room helper w e = rw e refl
