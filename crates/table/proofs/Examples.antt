-- The trial week's table is one; damaged copies of it are none. Assumes nothing.
use Prim.Native.Nat.{ℕ}
use mathlib.Core.Path.{◌≡◌, refl}
use mathlib.Core.List.{List, [], ◌∷◌, ◌++◌}
use mathlib.Core.Bool.{true, not}
use lib.ListN.{take, set}
use Rattle.base.specs.Lists.{every}
use Rattle.timetable.specs.Trial.{trial_words as words}
use Rattle.timetable.specs.Runs.{opening_sound}
use Rattle.timetable.specs.Table.{rows_in, service_at, table_of, record_sound, records_sound, head_sound, is_table}

-- the words, words lent after them, and the most that each bound lets pass (the last place of S too); a call's number and administration have none
abbrev tables : List (List ℕ)
tables =
    words
    ∷ (words ++ (7 ∷ 7 ∷ []))
    ∷ set words 2 380
    ∷ set words 35 13
    ∷ set (set words 1 109572) 2 1
    ∷ set (set words 40 999) 41 999
    ∷ set (set (set words 40 9999) 41 9999) 47 1
    ∷ set (set words 41 1) 47 1
    ∷ set words 48 2
    ∷ set (set (set words 49 59999) 50 59999) 51 15
    ∷ set (set (set words 52 4294967295) 53 4294967295) 54 4294967295
    ∷ []

-- one word changed in each, or two that go together
abbrev damaged : List (List ℕ)
damaged =
    []
    ∷ take 8 words
    ∷ take 81 words
    -- words used: 8, one more than lent, and one less than the record has
    ∷ set words 0 8
    ∷ set words 0 83
    ∷ set words 0 81
    -- a word after the last record
    ∷ (set words 0 83 ++ (7 ∷ []))
    -- n of 0 and of 381; a last day after 31.12.2199
    ∷ set words 2 0
    ∷ set words 2 381
    ∷ set (set words 1 109572) 2 2
    -- no interchange record, with word 7 to match; word 7 alone
    ∷ set (set words 5 0) 7 33
    ∷ set words 7 37
    -- No. 1: a category more than word 7 says, and a class over 13
    ∷ set words 8 2
    ∷ set words 35 14
    -- a service more, and none
    ∷ set words 6 2
    ∷ set words 6 0
    -- the record's word count, and 12 + 7c + 3g + 3v + 4a against it
    ∷ set words 36 45
    ∷ set words 45 1
    -- repeats, offset, a time, flags
    ∷ set words 40 1000
    ∷ set words 41 1000
    ∷ set words 49 60000
    ∷ set words 50 60000
    ∷ set words 51 16
    -- No. 10: a place not below S, which is 3; the stop's number in the place's stead, and a place that only more stops would have
    ∷ set words 48 3
    ∷ set words 48 1000011
    ∷ set words 69 3
    -- No. 8: a kind that is neither 0 nor 1; of a *T a running time and a density over 9,999, and density 0
    ∷ set words 47 2
    ∷ set (set (set words 40 10000) 41 1) 47 1
    ∷ set (set words 41 10000) 47 1
    ∷ set words 47 1
    -- a range end not below c; from not below to
    ∷ set words 78 4
    ∷ set words 81 4
    ∷ set words 80 3
    ∷ []

pub are-tables : every is_table tables ≡ true
unfolding every is_table table_of head_sound records_sound record_sound service_at rows_in opening_sound
are-tables = refl

pub are-none : every (λ (w : List ℕ). not (is_table w)) damaged ≡ true
unfolding every is_table table_of head_sound records_sound record_sound service_at rows_in opening_sound
are-none = refl
