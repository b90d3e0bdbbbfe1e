-- Document 01's bit fields with n = 7: FE6 runs on days 0 to 4, C1E on days 5 and 6; and each reason of 42. Assumes nothing.
use Rattle.std.specs.Prelude.{Ok, Err}
use Prim.Native.Nat.{ℕ}
use mathlib.Core.Path.{◌≡◌, refl}
use mathlib.Core.List.{List, [], ◌∷◌, ◌++◌}
use lib.ListN.{replicate}
use Rattle.base.specs.Lists.{every, count_if, upto}
use Rattle.bitfield.specs.BitField.{bit, framed}
use Rattle.timetable.specs.declared.refusal.Refusal.TheVariants.{NoProperField}
use Rattle.day_sets.specs.declared.Operation.TheVariants.{Union, Intersection, Difference}
use Rattle.day_sets.specs.DaySets.{bits_from, word_of, field_of, combined, complement, day_count, is_field, pair_taken, combine_asked, combine_written, one_taken, complement_asked, complement_written, count_asked}

-- three hex digits, and zeros
abbrev field : ℕ → List ℕ
field high = high ∷ replicate 11 0

abbrev fe6 : List ℕ
fe6 = field 0xFE600000

abbrev c1e : List ℕ
c1e = field 0xC1E00000

-- FFE is every day, C06 none
pub sets : (combined Union 7 fe6 c1e ≡ field 0xFFE00000)
    × (combined Intersection 7 fe6 c1e ≡ field 0xC0600000)
    × (combined Difference 7 fe6 c1e ≡ fe6)
    × (combined Difference 7 fe6 fe6 ≡ field 0xC0600000)
    × (complement 7 fe6 ≡ c1e)
    × (complement 7 c1e ≡ fe6)
unfolding combined complement field_of word_of bits_from upto bit
sets = (refl, refl, refl, refl, refl, refl)

pub day-counts : (count_asked 7 fe6 ≡ Ok 5) × (count_asked 7 c1e ≡ Ok 2) × (count_asked 1 (field 0xD8000000) ≡ Ok 0)
unfolding count_asked is_field day_count count_if framed every upto bit
day-counts = (refl, refl, refl)

-- a frame for another n, in either field; FE4, whose frame is wrong for every n; n of 0 and of 381; eleven and thirteen words
pub refusals : (combine_asked 7 fe6 c1e fe6 ≡ Ok tt)
    × (combine_asked 8 fe6 c1e fe6 ≡ Err NoProperField)
    × (combine_asked 7 (field 0xFF300000) fe6 fe6 ≡ Err NoProperField)
    × (combine_asked 7 fe6 (field 0xFF300000) fe6 ≡ Err NoProperField)
    × (combine_asked 7 fe6 (field 0xFE400000) fe6 ≡ Err NoProperField)
    × (combine_asked 7 fe6 c1e (fe6 ++ (0 ∷ [])) ≡ Err NoProperField)
    × (combine_written Union 7 fe6 (field 0xFE400000) c1e ≡ c1e)
    × (complement_asked 7 fe6 (replicate 11 0) ≡ Err NoProperField)
    × (complement_written 7 fe6 (replicate 11 0) ≡ replicate 11 0)
    × (count_asked 0 (field 0xF0000000) ≡ Err NoProperField)
    × (count_asked 381 (replicate 12 0xFFFFFFFF) ≡ Err NoProperField)
    × (count_asked 380 (replicate 12 0xFFFFFFFF) ≡ Ok 380)
    × (count_asked 7 (fe6 ++ (0 ∷ [])) ≡ Err NoProperField)
unfolding combine_asked combine_written pair_taken complement_asked complement_written one_taken count_asked is_field day_count count_if framed every upto bit
refusals = (refl, refl, refl, refl, refl, refl, refl, refl, refl, refl, refl, refl, refl)
