-- What the mark of a steady table says of its records, one by one (`marked-steady`). Assumes nothing.
use mathlib.Core.Path.{◌≡◌, refl, ap, ◌∙◌}
use mathlib.Core.List.{List}
use mathlib.Core.Bool.{Bool, true, false, cond, ◌&&◌}
use Prim.Native.Nat.{ℕ, zero, suc, ◌+◌, ◌<◌}
use native.Mathlib.Omega.{arith}
use lib.ListN.{get_or, drop}
use lib.Seq.{drop-drop}
use Rattle.base.proofs.Loops.{and-true}
use Rattle.timetable.specs.Table.{word_count_in, stops#, services#, services_place}
use Rattle.table.proofs.Records.{first_word}
use Rattle.lookups.specs.Lookups.{record_place, service_place}
use Rattle.table.specs.JustTable.{JustTable}
use Rattle.table.specs.Steady.{calls_steady, records_steady, steady}
use Rattle.table.proofs.JustTable.{just-used}
use Rattle.whole_index.specs.Whole.{steady_mark}

-- ---- v records, one after the other, of which the calls are steady

each-steady : (stops : ℕ) (w : List ℕ) (v p i : ℕ) → i < v → records_steady stops v (drop p w) ≡ true → calls_steady stops (drop (record_place w p i) w) ≡ true
unfolding record_place records_steady
each-steady stops w zero p i h e = absurd (omega arith)
each-steady stops w (suc v) p zero h e = (and-true (calls_steady stops (drop p w)) _ e).0
each-steady stops w (suc v) p (suc i) h e =
    let r : records_steady stops v (drop (word_count_in (drop p w)) (drop p w)) ≡ true = (and-true (calls_steady stops (drop p w)) _ e).1 in
    let q : drop (word_count_in (drop p w)) (drop p w) ≡ drop (p + get_or w p 0) w = ap (λ (k : ℕ). drop k (drop p w)) (first_word w p) ∙ drop-drop (get_or w p 0) p w in
    each-steady stops w v (p + get_or w p 0) i (omega arith) (rw q at r)

pub marked-steady : (w : List ℕ) → JustTable w → steady_mark w ≡ 1 → (i : ℕ) → i < services# w → calls_steady (stops# w) (drop (service_place w i) w) ≡ true
marked-steady w j e i h = each-steady (stops# w) w (services# w) (services_place w) i h (rw (just-used w j) at (yes (steady w) e))
  where
    yes : (b : Bool) → ◌≡◌ {A = ℕ} (cond b 1 0) 1 → b ≡ true
    yes true q = refl
    yes false q = absurd (omega (arith, q))
