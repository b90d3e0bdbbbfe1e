-- A quick question: of any words and any words lent as their index, what a question answers of what they show. Assumes nothing.
use Rattle.std.specs.Prelude.{ℕ, ◌+◌, ◌-◌, ◌%◌, List, Bool, cond, ◌&&◌, length, take, leb, eqb, Result, Ok, Err, ⊤}
use Rattle.timetable.specs.Table.{stops#, used}
use Rattle.timetable.specs.View.{View}
use Rattle.timetable.specs.declared.refusal.Refusal.{Refusal}
use Rattle.timetable.specs.declared.refusal.Refusal.TheVariants.{NoTable, NotItsIndex}
use Rattle.index.specs.Index.{index_size, headed, view_in}

-- ---- the words lent as an index: those of the look-ups (Index), then those of the calls, one for each stop and four for each call, and a mark

-- so many words can be an index of these: all that is asked of the index before a look-up
abbrev pub index_long : List ℕ → ℕ → Bool
index_long w n = leb (index_size w + stops# w) n && eqb ((n - (index_size w + stops# w)) % 4) 1

-- the words of the look-ups
abbrev pub lookups_of : List ℕ → List ℕ → List ℕ
lookups_of w x = take (index_size w) x

-- ---- 21 a header that is not sound, 43 not an index of these words by its length, then the question of what both show (the one record that is asked for is
-- checked, not all)

abbrev pub quickly : {X : Type 0} → (Refusal → X) → (View → X) → List ℕ → List ℕ → X
quickly refusal question w x =
    cond (headed w) (cond (index_long (used w) (length x)) (question (view_in (used w) (lookups_of (used w) x))) (refusal NotItsIndex)) (refusal NoTable)

-- the refusals that come before the question, of n words lent as an index
abbrev pub quick_refusal : List ℕ → ℕ → Result ⊤ Refusal
quick_refusal w n = cond (headed w) (cond (index_long (used w) n) (Ok tt) (Err NotItsIndex)) (Err NoTable)
