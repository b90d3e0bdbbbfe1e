-- The index of a small table, by computing: that of two stops and two services of `calls`. Assumes nothing.
use Prim.Native.Nat.{ℕ}
use mathlib.Core.Path.{◌≡◌, refl}
use mathlib.Core.List.{List, [], ◌∷◌, ◌++◌}
use Rattle.base.specs.Lists.{gathered, upto}
use Rattle.chains.specs.Chains.{key_of, bucket_of, in_bucket, greatest, head_for, link_for, chain_words}
use Rattle.table.specs.Steady.{later_steady, calls_steady, records_steady}
use Rattle.index.specs.Index.{places_from, chains_of, index_of}
use Rattle.calls.specs.Calls.{stands_from, calls_from, stands_in, call_of, at_stop, last_at, entry_by, entry_of, call_index_of}
use Rattle.calls.proofs.Examples.{two_stops}
use Rattle.whole_index.specs.Whole.{marked_calls, whole_index_of}

-- both stops, 100 and 200, fall into bucket 1: its head is record 2, which is the first of the section, and that goes on to record 1; then the one interchange
-- record, the places of the two services, the calls, and the mark: their calls have no times
index : whole_index_of two_stops ≡ (0 ∷ 0 ∷ 2 ∷ 1 ∷ 1 ∷ 0 ∷ 18 ∷ 44 ∷ []) ++ (4 ∷ 5 ∷ 0 ∷ 0 ∷ 18 ∷ 0 ∷ 0 ∷ 0 ∷ 18 ∷ 1 ∷ 2 ∷ 1 ∷ 44 ∷ 0 ∷ 1 ∷ 1 ∷ 44 ∷ 1 ∷ 3 ∷ 1 ∷ 44 ∷ 2 ∷ 0 ∷ [])
unfolding whole_index_of marked_calls records_steady calls_steady later_steady index_of chains_of chain_words head_for link_for in_bucket key_of bucket_of places_from call_index_of entry_of entry_by last_at greatest at_stop call_of stands_in calls_from stands_from gathered upto
index = refl
