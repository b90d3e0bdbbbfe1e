-- Every line is bytes, whatever its values: `text-bytes`. Assumes nothing.
use mathlib.Core.Path.{◌≡◌, refl}
use mathlib.Core.List.{List, [], ◌∷◌, ◌++◌, map}
use mathlib.Core.Bool.{Bool, true, false, cond}
use Prim.Native.Nat.{ℕ, ◌+◌, ◌-◌, ◌/◌, ◌%◌, ◌<◌}
use native.Mathlib.Omega.{arith}
use lib.Dec.{ltb, eqb}
use borrow.Author.Tests.{lt-ltb, ltb-true}
use Rattle.base.specs.Lists.{All, nil, cons, every}
use Rattle.base.proofs.Loops.{and-true}
use Rattle.columns.specs.Columns.{pad_to}
use Rattle.timetable.specs.Delivery.{Legs, CategoryRange, DayRange, ExtraRange, Service}
use Rattle.timetable.specs.Layout.{kind_z}
use Rattle.timetable.specs.Plan.{VE}
use Rattle.timetable.specs.Ranges.{has_arrival, has_departure}
use Rattle.timetable.specs.declared.Opening.{Opening}
use Rattle.timetable.specs.declared.Call.{Call}
use Rattle.whole_runs.proofs.Lists.{all_append}
use Rattle.line_text.specs.Text.{decimal, hash_text, clock_text, clock_number, two_of, three_of}
use Rattle.line_text.specs.Laid.{FieldText, field_text, laid, text_of}
use Rattle.line_text.proofs.Numbers.{every-blanks, every-decimal, length-decimal}
use Rattle.line_text.proofs.Fields.{pad-whole, length-hash, length-clock, every-hash}
use Rattle.line_text.proofs.Laid.{every_field, every-laid}
use Rattle.plan_text.specs.PlanText.{six_of, no_alighting, no_boarding, opening_fields, frequency_fields, category_fields, attribute_fields, call_fields, opening_text, frequency_text, category_text, day_text, extra_text, call_text}
use Rattle.plan_services.specs.Services.{opening_line, rest_lines, plan_lines, plan_text}

abbrev small : ℕ → Bool
small b = ltb b 256

-- ---- fields

digit-small : (n : ℕ) → small (48 + n % 10) ≡ true
digit-small n = lt-ltb (48 + n % 10) 256 (omega arith)

byte_small : (n : ℕ) → small (n % 256) ≡ true
byte_small n = lt-ltb (n % 256) 256 (omega arith)

decimal-small : (w n : ℕ) → every small (pad_to w (decimal w n)) ≡ true
decimal-small w n = rw (pad-whole w (decimal w n) (length-decimal w n)) (every-decimal small digit-small w n)

hash-small : (w k : ℕ) → every small (pad_to w (hash_text w k)) ≡ true
hash-small w k = rw (pad-whole w (hash_text w k) (length-hash w k)) (every-hash small refl refl digit-small w k)

clock-bytes : (stated barred : Bool) (t : ℕ) → every small (clock_text stated barred t) ≡ true
unfolding clock_text every
clock-bytes true true t = every-decimal small digit-small 5 (clock_number t)
clock-bytes true false t = every-decimal small digit-small 5 (clock_number t)
clock-bytes false barred t = every-blanks small 6 refl

clock-small : (stated barred : Bool) (t : ℕ) → every small (pad_to 6 (clock_text stated barred t)) ≡ true
clock-small stated barred t = rw (pad-whole 6 (clock_text stated barred t) (length-clock stated barred t)) (clock-bytes stated barred t)

two-small : (n : ℕ) → every small (two_of n) ≡ true
unfolding every
two-small n = rw (byte_small (n / 256), byte_small n)

three-small : (n : ℕ) → every small (three_of n) ≡ true
unfolding every
three-small n = rw (byte_small (n / 65536), byte_small (n / 256), byte_small n)

six-small : (h l : ℕ) → every small (six_of h l) ≡ true
unfolding every
six-small h l = rw (byte_small (h / 65536), byte_small (h / 256), byte_small h, byte_small (l / 65536), byte_small (l / 256), byte_small l)

more : (a b : ℕ) (p : List ℕ) (xs : List FieldText) → every small (pad_to (b - (a - 1)) p) ≡ true → every_field small xs ≡ true → every_field small (field_text a b p ∷ xs) ≡ true
unfolding every_field
more a b p xs e v = rw (e, v)

end : every_field small (field_text 59 59 (37 ∷ []) ∷ []) ≡ true
unfolding every_field every pad_to
end = refl

mark : (m : ℕ) → small m ≡ true → every small (42 ∷ m ∷ 32 ∷ []) ≡ true
unfolding every
mark m e = rw e

-- ---- lines

abbrev Small : List ℕ → Type 0
Small l = every small l ≡ true

opening-small : (o : Opening) → Small (opening_text o)
unfolding opening_text pad_to
opening-small o = every-laid small 1 (opening_fields o) refl (more _ _ _ _ (mark _ refl) (more _ _ _ _ (decimal-small 5 o.number) (more _ _ _ _ (six-small o.high o.low) (more _ _ _ _ (decimal-small 3 o.repeats) (more _ _ _ _ (decimal-small 3 o.offset) end)))))

frequency-small : (o : Opening) → Small (frequency_text o)
unfolding frequency_text pad_to
frequency-small o = every-laid small 1 (frequency_fields o) refl (more _ _ _ _ (mark _ refl) (more _ _ _ _ (decimal-small 5 o.number) (more _ _ _ _ (six-small o.high o.low) (more _ _ _ _ (decimal-small 4 o.repeats) (more _ _ _ _ (decimal-small 4 o.offset) end)))))

category-small : (r : CategoryRange) → Small (category_text r)
unfolding category_text pad_to
category-small r = every-laid small 1 (category_fields r.name r.legs) refl (more _ _ _ _ (mark _ refl) (more _ _ _ _ (three-small r.name) (more _ _ _ _ (hash-small 7 r.legs.from) (more _ _ _ _ (hash-small 7 r.legs.to) end))))

attribute-small : (code n : ℕ) (g : Legs) → Small (laid 1 (attribute_fields code n g))
unfolding pad_to
attribute-small code n g = every-laid small 1 (attribute_fields code n g) refl (more _ _ _ _ (mark _ refl) (more _ _ _ _ (two-small code) (more _ _ _ _ (hash-small 7 g.from) (more _ _ _ _ (hash-small 7 g.to) (more _ _ _ _ (decimal-small 6 n) end)))))

day-small : (r : DayRange) → Small (day_text r)
unfolding day_text
day-small r = attribute-small VE r.field r.legs

extra-small : (r : ExtraRange) → Small (extra_text r)
unfolding extra_text
extra-small r = attribute-small r.code r.field r.legs

call-small : (c : Call) → Small (call_text c)
unfolding call_text pad_to
call-small c = every-laid small 1 (call_fields c) refl (more _ _ _ _ (decimal-small 7 c.stop) (more _ _ _ _ (clock-small (has_arrival c) (no_alighting c) c.arrival) (more _ _ _ _ (clock-small (has_departure c) (no_boarding c) c.departure) (more _ _ _ _ (decimal-small 5 c.number) (more _ _ _ _ (six-small c.high c.low) end)))))

line_small : (o : Opening) → Small (opening_line o)
line_small o = go (eqb o.kind kind_z)
  where
    go : (t : Bool) → Small (cond t (opening_text o) (frequency_text o))
    go true = opening-small o
    go false = frequency-small o

-- ---- the text

each : {X : Type 0} (f : X → List ℕ) → ((x : X) → Small (f x)) → (xs : List X) → All Small (map f xs)
each f e [] = nil
each f e (x ∷ xs) = cons (e x) (each f e xs)

plan-small : (ss : List Service) → All Small (plan_lines ss)
unfolding plan_lines rest_lines
plan-small [] = nil
plan-small (s ∷ ss) =
    cons (line_small s.opening)
    (all_append Small
    (all_append Small (each category_text category-small s.categories) (all_append Small (each day_text day-small s.days) (all_append Small (each extra_text extra-small s.extras) (each call_text call-small s.calls))))
    (plan-small ss))

onto-bytes : (l r : List ℕ) → Small l → All (λ (b : ℕ). b < 256) r → All (λ (b : ℕ). b < 256) (l ++ r)
unfolding every
onto-bytes [] r e h = h
onto-bytes (b ∷ l) r e h =
    let q = and-true (small b) (every small l) e in
    cons (ltb-true b 256 q.0) (onto-bytes l r q.1 h)

lines-bytes : (ls : List (List ℕ)) → All Small ls → All (λ (b : ℕ). b < 256) (text_of ls)
unfolding text_of
lines-bytes [] nil = nil
lines-bytes (l ∷ ls) (cons h t) = onto-bytes l (10 ∷ text_of ls) h (cons (omega arith) (lines-bytes ls t))

pub text-bytes : (ss : List Service) → All (λ (b : ℕ). b < 256) (plan_text ss)
text-bytes ss = lines-bytes (plan_lines ss) (plan-small ss)
