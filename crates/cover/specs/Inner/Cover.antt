-- The ranges of a service as words hold them: which of them cover a leg (17, 18). Assumes nothing.
use Rattle.std.specs.Prelude.{ℕ, zero, suc, ◌+◌, ◌-◌, List, [], ◌∷◌, Bool, cond, ◌&&◌, drop, eqb, ltb}
use Rattle.base.specs.Lists.{count_if}
use Rattle.timetable.specs.Delivery.{Legs}
use Rattle.timetable.specs.Legs.{covers}
use Rattle.timetable.specs.Table.{rows_in, legs_at}
use Rattle.std.specs.Prelude.{Option, Some, None}

-- the legs of n ranges of `width` words each, whose last two words are from and to
abbrev pub legs_in : ℕ → ℕ → List ℕ → List Legs
legs_in width n w = rows_in (legs_at (width - 2)) width n w

-- exactly one of them covers a leg
abbrev pub once_in : ℕ → ℕ → List ℕ → ℕ → Bool
once_in width n w leg = eqb (count_if (covers leg) (legs_in width n w)) 1

-- the place of the first of n ranges that covers a leg, where the first of them stands at place `at`
unfoldable pub cover_place_from : ℕ → ℕ → ℕ → ℕ → List ℕ → Option ℕ
cover_place_from leg width at zero w = None
cover_place_from leg width at (suc n) w = cond (covers leg (legs_at (width - 2) w)) (Some at) (cover_place_from leg width (at + width) n (drop width w))

-- a range has legs, of which this is the first
abbrev pub begins : ℕ → Legs → Bool
begins leg g = eqb g.from leg && ltb leg g.to

-- ranges follow each other from a leg on: each begins where the one before ends, and the last ends at `end`
unfoldable pub in_turn : ℕ → ℕ → List Legs → Bool
in_turn leg end [] = eqb leg end
in_turn leg end (g ∷ gs) = begins leg g && in_turn g.to end gs
