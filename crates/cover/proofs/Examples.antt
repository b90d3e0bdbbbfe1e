-- Legs covered once, and not. Assumes nothing.
use mathlib.Core.Path.{◌≡◌, refl}
use mathlib.Core.List.{[], ◌∷◌}
use mathlib.Core.Bool.{true, false}
use Rattle.base.specs.Lists.{every, count_if, upto, below}
use Rattle.timetable.specs.Table.{rows_in}
use Rattle.cover.specs.Inner.Cover.{once_in}

-- these ranges cover each of the three legs once; a leg left out, or covered twice, is an offence
pub each-covered : every (once_in 3 2 (0 ∷ 0 ∷ 1 ∷ 1 ∷ 1 ∷ 3 ∷ [])) (below 3) ≡ true
unfolding every upto count_if rows_in
each-covered = refl

pub leg-bare : every (once_in 3 2 (0 ∷ 0 ∷ 1 ∷ 1 ∷ 2 ∷ 3 ∷ [])) (below 3) ≡ false
unfolding every upto count_if rows_in
leg-bare = refl

pub leg-twice : every (once_in 3 2 (0 ∷ 0 ∷ 2 ∷ 1 ∷ 1 ∷ 3 ∷ [])) (below 3) ≡ false
unfolding every upto count_if rows_in
leg-twice = refl
