-- What the lines of FPLAN say: with one line more, and how large a call's flags get. Assumes nothing.
use mathlib.Core.Path.{◌≡◌, refl, ap, ◌∙◌}
use mathlib.Core.List.{List, [], ◌∷◌, ◌++◌, map, append-nil}
use mathlib.Core.Bool.{true, false}
use Prim.Native.Nat.{ℕ, ◌*◌, ◌≤◌}
use native.Mathlib.Omega.{arith}
use Rattle.base.specs.Lists.{gathered}
use Rattle.base.proofs.Lists.{gathered-append}
use Rattle.fields.specs.declared.Time.{Time}
use Rattle.fields.specs.declared.Time.TheVariants.{Absent, Stated, NoTime}
use Rattle.lines.specs.Lines.{Line}
use Rattle.timetable.specs.Plan.{flags_of, told_in, tolds, as_range, ranges_of, of_part, part_lines, said_on}
use Rattle.timetable.specs.declared.RangeKind.{RangeKind}
use Rattle.timetable.specs.declared.Told.{Told}

pub tolds-more : (before : List Line) (l : Line) → tolds (before ++ (l ∷ [])) ≡ tolds before ++ (told_in l.text ∷ [])
unfolding tolds
tolds-more [] l = refl
tolds-more (k ∷ before) l = ap (λ (r : List Told). told_in k.text ∷ r) (tolds-more before l)

pub said_more : {X : Type 0} (say : Told → List X) (before : List Line) (l : Line) → gathered say (tolds (before ++ (l ∷ []))) ≡ gathered say (tolds before) ++ say (told_in l.text)
unfolding gathered
said_more say before l =
    ap (gathered say) (tolds-more before l)
    ∙ (gathered-append say (tolds before) (told_in l.text ∷ [])
    ∙ ap (λ (r : List _). gathered say (tolds before) ++ r) (append-nil (say (told_in l.text))))

-- the ranges of one kind
pub part-more : (p : RangeKind) (before : List Line) (l : Line) → part_lines p (before ++ (l ∷ [])) ≡ part_lines p before ++ gathered (of_part p) (as_range (told_in l.text))
part-more p before l = ap (gathered (of_part p)) (said_more as_range before l) ∙ gathered-append (of_part p) (ranges_of before) (as_range (told_in l.text))

-- ---- what is said, with the numbers of the lines

pub said-on-cons : {X : Type 0} (say : Told → List X) (l : Line) (ls : List Line) → said_on say (l ∷ ls) ≡ map (λ x. (l.no, x)) (say (told_in l.text)) ++ said_on say ls
unfolding said_on gathered
said-on-cons say l ls = refl

second : {X : Type 0} (n : ℕ) (xs : List X) → map (λ (p : ℕ × X). p.1) (map (λ x. (n, x)) xs) ≡ xs
second n [] = refl
second n (x ∷ xs) = ap (λ (r : List _). x ∷ r) (second n xs)

map-append : {X Y : Type 0} (f : X → Y) (a b : List X) → map f (a ++ b) ≡ map f a ++ map f b
map-append f [] b = refl
map-append f (x ∷ a) b = ap (λ (r : List _). f x ∷ r) (map-append f a b)

-- without the numbers it is what the lines say
pub said-on : {X : Type 0} (say : Told → List X) (ls : List Line) → map (λ (p : ℕ × X). p.1) (said_on say ls) ≡ gathered say (tolds ls)
unfolding said_on gathered tolds
said-on say [] = refl
said-on say (l ∷ ls) =
    map-append (λ (p : ℕ × _). p.1) (map (λ x. (l.no, x)) (say (told_in l.text))) (said_on say ls)
    ∙ (ap (λ (r : List _). r ++ map (λ (p : ℕ × _). p.1) (said_on say ls)) (second l.no (say (told_in l.text)))
    ∙ ap (λ (r : List _). say (told_in l.text) ++ r) (said-on say ls))

-- ---- a call's flags

pub flags-le : (f : ℕ) (t : Time) → flags_of f t ≤ 5 * f
flags-le f Absent = omega arith
flags-le f (Stated minutes true) = omega arith
flags-le f (Stated minutes false) = omega arith
flags-le f NoTime = omega arith
