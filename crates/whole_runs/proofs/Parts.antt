-- The lines of one kind of ranges among all lines of ranges. Assumes nothing.
use mathlib.Core.Path.{◌≡◌, refl}
use mathlib.Core.List.{List, [], ◌∷◌}
use mathlib.Core.Bool.{Bool, true, false, cond}
use lib.Dec.{eqb}
use Rattle.base.specs.Lists.{All, nil, cons, gathered}
use Rattle.base.proofs.Laws.{clash}
use Rattle.lines.specs.Lines.{Line}
use Rattle.timetable.specs.Plan.{ranges_of, part_number, is_part, of_part, part_lines}
use Rattle.timetable.specs.declared.RangeKind.{RangeKind}
use Rattle.timetable.specs.declared.RangeKind.TheVariants.{Category, Days, Extra}
use Rattle.timetable.specs.declared.RangeLine.{RangeLine}
use Rattle.timetable.proofs.Rows.{any, all_any}
use Rattle.whole_runs.proofs.Lists.{all_head, all_tail, all_append, all-to}

pub same-part : (p q : RangeKind) → eqb (part_number p) (part_number q) ≡ true → p ≡ q
same-part Category Category e = refl
same-part Category Days e = clash e
same-part Category Extra e = clash e
same-part Days Category e = clash e
same-part Days Days e = refl
same-part Days Extra e = clash e
same-part Extra Category e = clash e
same-part Extra Days e = clash e
same-part Extra Extra e = refl

-- what holds of all lines of ranges holds of those of one kind
all_of : (P : RangeLine → Type 0) (p : RangeKind) (rs : List RangeLine) → All P rs → All (λ (r : RangeLine). P r × (r.part ≡ p)) (gathered (of_part p) rs)
unfolding gathered
all_of P p [] h = nil
all_of P p (r ∷ rs) h = all_append (λ (r : RangeLine). P r × (r.part ≡ p)) (go (is_part p r) refl) (all_of P p rs (all_tail P h))
  where
    go : (t : Bool) → is_part p r ≡ t → All (λ (r : RangeLine). P r × (r.part ≡ p)) (cond t (r ∷ []) [])
    go true q = cons {x = r} (all_head P h, same-part r.part p q) nil
    go false q = nil

pub all-part : (P : RangeLine → Type 0) (p : RangeKind) (ls : List Line) → All P (ranges_of ls) → All (λ (r : RangeLine). P r × (r.part ≡ p)) (part_lines p ls)
all-part P p ls h = all_of P p (ranges_of ls) h

-- they are of that kind
pub part-lines : (p : RangeKind) (ls : List Line) → All (λ (r : RangeLine). r.part ≡ p) (part_lines p ls)
part-lines p ls = all-to (λ (r : RangeLine). any r × (r.part ≡ p)) (λ (r : RangeLine). r.part ≡ p) (λ r h. h.1) (part_lines p ls) (all-part any p ls (all_any (ranges_of ls)))
