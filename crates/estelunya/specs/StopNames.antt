-- No. 3 at the boundary, in the numbers that a caller holds. Proved in proofs/StopNames.antt: of any words and bytes `name-decoded`, of an accepted delivery
-- `own-name-exported`. Assumes nothing.
use Rattle.std.specs.Prelude.{◌≡◌, List, ℕ, ◌≤◌, Result, Ok, Err}
use Rattle.timetable.specs.declared.refusal.Refusal.{Refusal}
use Rattle.timetable.specs.declared.NamePart.{NamePart}
use Rattle.timetable.specs.Refusals.{number_of}
use Rattle.whole_runs.specs.StopNames.{InBytes, OwnName}
use Rattle.estelunya.specs.declared.NameResult.{NameResult}

-- what an answer a to a question on these bytes is, told from its numbers: 0 is a name inside the bytes given, every other number a refusal
pub record NameDecoded (bahnhof : List ℕ) (a : Result NamePart Refusal) (x : NameResult) : Type 0 where
  pub given : x.number ≡ 0 → a ≡ Ok (record { start = x.start; size = x.length })
  pub inside : InBytes bahnhof a
  pub refusal : 1 ≤ x.number → ((r : Refusal) × (a ≡ Err r) × (number_of r ≡ x.number)) × (x.start ≡ 0) × (x.length ≡ 0)

-- of an accepted delivery and a stop of it: no refusal, and the name is that of the stop's own line
pub record OwnNameGiven (bahnhof : List ℕ) (stop language type : ℕ) (x : NameResult) : Type 0 where
  pub answered : x.number ≡ 0
  pub own : OwnName bahnhof stop language type (Ok (record { start = x.start; size = x.length }))
