-- The question for a stop's name (document 02, No. 3): "Asked for a stop, a language and a type (0 for any), answer the first name with a fitting
-- pattern .., else the first name, as the part of BAHNHOF that holds it." What a name list is, and which name of it is asked for: crate names.
-- Assumes nothing.
use Rattle.std.specs.Prelude.{ℕ, ◌+◌, List, Bool, cond, length, take, drop, leb, Result, Ok, Err}
use Rattle.std.proofs.Math.Option.{Option, none, some}
use Rattle.names.specs.Names.{askable, wanted_by, name_for}
use Rattle.names.specs.declared.Name.{Name}
use Rattle.names.specs.declared.Wanted.{Wanted}
use Rattle.timetable.specs.Delivery.{StopRecord}
use Rattle.timetable.specs.View.{View}
use Rattle.timetable.specs.Questions.{asked}
use Rattle.timetable.specs.declared.NamePart.{NamePart}
use Rattle.timetable.specs.declared.refusal.Refusal.{Refusal}
use Rattle.timetable.specs.declared.refusal.Refusal.TheVariants.{StopUnknown, NoNameList, NotAskable, NameOutside}

-- "inside the bytes given": place and length are exact numbers
abbrev pub name_inside : List ℕ → StopRecord → Bool
name_inside bahnhof s = leb (s.offset + s.size) (length bahnhof)

-- the bytes that a stop's record says are its name list
abbrev pub name_bytes : List ℕ → StopRecord → List ℕ
name_bytes bahnhof s = take s.size (drop s.offset bahnhof)

-- "as the part of BAHNHOF that holds it"; "39" where the bytes are no name list
abbrev pub part_from : ℕ → Option Name → Result NamePart Refusal
part_from offset none = Err NoNameList
part_from offset (some n) = Ok (record { start = offset + n.place; size = n.size })

-- "41 name not inside the bytes given, 39"
abbrev pub name_within : List ℕ → Wanted → StopRecord → Result NamePart Refusal
name_within bahnhof wanted s = cond (name_inside bahnhof s) (part_from s.offset (name_for wanted (name_bytes bahnhof s))) (Err NameOutside)

-- "27"
abbrev pub stop_name : List ℕ → Wanted → Option StopRecord → Result NamePart Refusal
stop_name bahnhof wanted none = Err StopUnknown
stop_name bahnhof wanted (some s) = name_within bahnhof wanted s

-- "in the question, in order, 21, 40 language or type outside the standard's list, 27, 41 name not inside the bytes given, 39"
unfoldable pub stop_name_in : View → List ℕ → ℕ → ℕ → ℕ → Result NamePart Refusal
stop_name_in v bahnhof stop language type =
    cond (askable language type) (stop_name bahnhof (wanted_by language type) (v.named stop)) (Err NotAskable)

unfoldable pub stop_name_asked : List ℕ → List ℕ → ℕ → ℕ → ℕ → Result NamePart Refusal
stop_name_asked w bahnhof stop language type = asked Err (λ (v : View). stop_name_in v bahnhof stop language type) w
