-- The services of FPLAN as the table has them, and that none has more calls or ranges than it may, nor a line with a broken form. Nobody has to believe
-- this file. Assumes nothing.
use Rattle.std.specs.Prelude.{List, map, ℕ, Bool, ◌&&◌, leb}
use Rattle.base.specs.Lists.{every, gathered}
use Rattle.lines.specs.Lines.{Line}
use Rattle.timetable.specs.Layout.{most_calls, most_categories, most_days, most_extras}
use Rattle.timetable.specs.Delivery.{StopRecord}
use Rattle.timetable.specs.Service.{service_of}
use Rattle.timetable.specs.Table.{service_words, pointing}
use Rattle.draft.specs.Inner.Draft.{counts_of}
use Rattle.draft.specs.declared.Counts.{Counts}
use Rattle.reading.specs.Inner.Reading.{all_formed}

-- the words of services as the table has them, of which the lines of each are given: their calls point at the stops
unfoldable pub placed_words : List StopRecord → List (List Line) → List ℕ
placed_words stops bs = gathered service_words (map (pointing stops) (map service_of bs))

-- "13 in one service over 200 calls, 50 *G, 50 *A VE or 100 other *A": none is over
abbrev pub counts_within : Counts → Bool
counts_within k = leb k.calls most_calls && (leb k.categories most_categories && (leb k.days most_days && leb k.extras most_extras))

-- so in every service, and no line of it has a broken form
unfoldable pub all_sound : List (List Line) → Bool
all_sound bs = every (λ (b : List Line). counts_within (counts_of b) && all_formed b) bs
