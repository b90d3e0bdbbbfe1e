-- The words of a service's ranges of one kind: what each drafted range gives to them, by the definitions of the crate timetable. Nobody has to believe this
-- file. Assumes nothing.
use Rattle.std.specs.Prelude.{ℕ, List, [], ◌∷◌, cond}
use Rattle.std.proofs.Math.Option.{Option, none, some}
use Rattle.base.specs.Lists.{gathered}
use Rattle.timetable.specs.Delivery.{Legs}
use Rattle.timetable.specs.Plan.{is_part}
use Rattle.timetable.specs.Service.{legs_on}
use Rattle.timetable.specs.declared.Call.{Call}
use Rattle.timetable.specs.declared.RangeKind.{RangeKind}
use Rattle.timetable.specs.declared.RangeKind.TheVariants.{Category, Days, Extra}
use Rattle.timetable.specs.declared.RangeLine.{RangeLine}

-- the words of a range of a part, from one call to another
abbrev pub range_row_words : RangeKind → RangeLine → ℕ → ℕ → List ℕ
range_row_words Category r from to = r.name ∷ from ∷ to ∷ []
range_row_words Days r from to = r.field ∷ from ∷ to ∷ []
range_row_words Extra r from to = r.name ∷ r.field ∷ from ∷ to ∷ []

-- those that it gives to a part: none if it is of another
abbrev pub part_row : RangeKind → RangeLine → ℕ → ℕ → List ℕ
part_row p r from to = cond (is_part p r) (range_row_words p r from to) []

abbrev pub found_words : RangeKind → RangeLine → Option Legs → List ℕ
found_words p r none = []
found_words p r (some g) = range_row_words p r g.from g.to

-- the words that a range gives to a part, where cs are the service's calls
abbrev pub range_gives : RangeKind → List Call → RangeLine → List ℕ
range_gives p cs r = cond (is_part p r) (found_words p r (legs_on cs r)) []

-- the words of a part
abbrev pub part_words : RangeKind → List Call → List RangeLine → List ℕ
part_words p cs rs = gathered (range_gives p cs) rs
