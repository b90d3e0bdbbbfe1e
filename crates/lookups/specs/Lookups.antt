-- Places in words, and what the look-ups answer of what stands there. Assumes nothing.
use Rattle.std.specs.Prelude.{ℕ, zero, suc, ◌+◌, List, cond, drop, eqb, Option, Some, None}
use Rattle.std.proofs.Math.Option.{none, some}
use Rattle.std.proofs.Math.Option as maybe
use Rattle.timetable.specs.Delivery.{StopRecord, Interchange}
use Rattle.timetable.specs.Table.{word, services_place}
use Rattle.lookups.specs.declared.NamePlace.{NamePlace}
use Rattle.lookups.specs.declared.Times.{Times}

-- "Lookups take the first match": the first of n records of a size from place p on that begins with the key
unfoldable pub place_of : List ℕ → ℕ → ℕ → ℕ → ℕ → Option ℕ
place_of w key size p zero = None
place_of w key size p (suc n) = cond (eqb (word w p) key) (Some p) (place_of w key size (p + size) n)

-- what a reader f gives at a place that was found
abbrev pub read_at : {X : Type 0} → (List ℕ → X) → List ℕ → Option ℕ → maybe.Option X
read_at f w None = none
read_at f w (Some p) = some (f (drop p w))

-- the i-th record from place p on, each as long as its first word says
unfoldable pub record_place : List ℕ → ℕ → ℕ → ℕ
record_place w p zero = p
record_place w p (suc i) = record_place w (p + word w p) i

abbrev pub service_place : List ℕ → ℕ → ℕ
service_place w i = record_place w (services_place w) i

abbrev pub name_place : StopRecord → NamePlace
name_place s = record { offset = s.offset; size = s.size }

abbrev pub name_in : maybe.Option StopRecord → Option NamePlace
name_in none = None
name_in (some s) = Some (name_place s)

abbrev pub times_of : Interchange → Times
times_of c = record { first = c.first_time; second = c.second_time }
