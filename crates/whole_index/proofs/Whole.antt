-- The index as a whole: its length, that it is not longer than its table, and its two parts. Assumes nothing.
use mathlib.Core.Path.{◌≡◌, ap, ◌∙◌}
use mathlib.Core.List.{List, [], ◌∷◌}
use Prim.Native.Nat.{ℕ, ◌≤◌}
use native.Mathlib.Omega.{arith}
use lib.ListN.{length, take, drop, length-append}
use lib.Seq.{take_at, drop_at}
use Rattle.table.specs.JustTable.{JustTable}
use Rattle.table.proofs.JustTable.{just-says}
use Rattle.index.specs.Index.{index_size, index_of}
use Rattle.index.proofs.Long.{lookups-long}
use Rattle.calls.specs.Calls.{call_index_size, call_index_of}
use Rattle.calls.proofs.Calls.{all-few}
use Rattle.calls.proofs.Words.{index-long}
use Rattle.whole_index.specs.Whole.{steady_mark, marked_calls, marked_size, whole_index_size, whole_index_of}

pub marked-long : (w : List ℕ) → length (marked_calls w) ≡ marked_size w
unfolding marked_calls
marked-long w = omega (arith, length-append (call_index_of w) (steady_mark w ∷ []), index-long w)

pub whole_long : (w : List ℕ) → length (whole_index_of w) ≡ whole_index_size w
unfolding whole_index_of
whole_long w = omega (arith, length-append (index_of w) (marked_calls w), lookups-long w, marked-long w)

-- the index is never longer than the table: a bit field has 13 words there and 2 here, a stop 3 and 3, an interchange record 3 and 2, a category 2 and 2, a service 12 at least and 1, a call 7 and 4, the header 9 and the mark 1
pub whole-within : (w : List ℕ) → JustTable w → whole_index_size w ≤ length w
whole-within w h = omega (arith, (just-says w h).place, all-few w h)

-- ---- the two parts of an index: the first `index_size` words are asked by look-ups, the rest by boards

module _ (w x : List ℕ) (q : x ≡ whole_index_of w) where
  pub lookups-part : take (index_size w) x ≡ index_of w
  unfolding whole_index_of
  lookups-part = ap (take (index_size w)) q ∙ take_at (index_of w) (marked_calls w) (index_size w) (lookups-long w)

  pub calls-part : drop (index_size w) x ≡ marked_calls w
  unfolding whole_index_of
  calls-part = ap (drop (index_size w)) q ∙ drop_at (index_of w) (marked_calls w) (index_size w) (lookups-long w)
