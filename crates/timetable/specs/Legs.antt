-- The legs of a service: which ranges cover one, whether it is operated on a day, and the stretches that the operated legs form.
-- Assumes nothing.
use Rattle.std.specs.Prelude.{ℕ, zero, suc, ◌+◌, ◌-◌, List, [], ◌∷◌, map, Bool, true, false, cond, not, ◌&&◌, ◌||◌, length, ltb, leb, eqb}
use Rattle.std.proofs.Math.Option.{Option, none, some}
use Rattle.base.specs.Lists.{some_of, count_if, find, below}
use Rattle.bitfield.specs.BitField.{runs_on}
use Rattle.timetable.specs.Delivery.{BitField, Legs, DayRange, Service}
use Rattle.timetable.specs.Files.{has_field}

-- a range covers "the legs between" its first and its last call; leg k lies between call k and the next
abbrev pub covers : ℕ → Legs → Bool
covers k g = leb g.from k && ltb k g.to

-- how many of some ranges cover a leg
abbrev pub covering : {X : Type 0} → (X → Legs) → List X → ℕ → ℕ
covering legs rs k = count_if (λ r. covers k (legs r)) rs

-- ---- bit fields by their numbers

-- 000000, or a number that BITFELD has
abbrev pub field_known : ℕ → List BitField → Bool
field_known b fields = eqb b 0 || has_field b fields

abbrev pub runs_by : Option BitField → ℕ → Bool
runs_by none d = false
runs_by (some f) d = runs_on f.words d

-- a bit field number runs on a day: 0 always, else as its bit field says; "Lookups take the first match."
unfoldable pub field_runs : List BitField → ℕ → ℕ → Bool
field_runs fields b d = eqb b 0 || runs_by (find (λ (f : BitField). eqb f.number b) fields) d

-- a leg is operated on a day where a range that covers it has a bit field that runs: by what says whether a number runs on a day
abbrev pub operated_by : (ℕ → ℕ → Bool) → List DayRange → ℕ → ℕ → Bool
operated_by runs rs d k = some_of (λ (r : DayRange). covers k r.legs && runs r.field d) rs

abbrev pub operated : List BitField → List DayRange → ℕ → ℕ → Bool
operated fields rs d k = operated_by (field_runs fields) rs d k

-- how many separate stretches: each begins with an operated leg at the start, or after one that is not operated
unfoldable pub stretches : Bool → List Bool → ℕ
stretches on [] = 0
stretches on (b ∷ bs) = cond (b && not on) 1 0 + stretches b bs

abbrev pub leg_count : Service → ℕ
leg_count s = length s.calls - 1

abbrev pub operated_legs_by : (ℕ → ℕ → Bool) → Service → ℕ → List Bool
operated_legs_by runs s d = map (operated_by runs s.days d) (below (leg_count s))

abbrev pub operated_legs : List BitField → Service → ℕ → List Bool
operated_legs fields s d = operated_legs_by (field_runs fields) s d
