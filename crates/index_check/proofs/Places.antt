-- The places of the services, checked one by one: for `search places`. k records from p on are left. Assumes nothing.
use mathlib.Core.Path.{◌≡◌, refl, ap, ◌∙◌, sym}
use mathlib.Core.List.{List, [], ◌∷◌}
use mathlib.Core.Bool.{Bool, true, false}
use Prim.Native.Nat.{ℕ, zero, suc, ◌+◌, ◌-◌, ◌≤◌, ◌<◌}
use native.Mathlib.Nat.{sub-zero}
use native.Mathlib.Omega.{arith}
use lib.ListN.{length, get_or, drop, drop_of_length-le}
use borrow.Author.Tests.{eq-eqb, ne_eqb}
use Rattle.base.proofs.Laws.{tests, drop-next}
use Rattle.timetable.specs.Table.{services#, services_place}
use Rattle.table.specs.JustTable.{JustTable}
use Rattle.table.proofs.JustTable.{just-word}
use Rattle.chain_check.specs.Tally.{same}
use Rattle.index.specs.Index.{places_from, places_of}
use Rattle.indexing.specs.Inner.Onward.{Onward}
use Rattle.indexing.proofs.Places.{place_rest, places-start, one_place}

-- before the first, none is passed
pub places-here : (w : List ℕ) → JustTable w → Onward w (services_place w) (services# w)
places-here w h = rw sub-zero at (places-start w h)

module _ (w x : List ℕ) (p at k : ℕ) (r : Bool) (h : 0 < k) (l : at + k ≡ length x) (e : same (drop at x) (places_from w p k) ≡ r) where
  inside : at < length x
  inside = omega arith

  pub place-wrong : (get_or x at 0 ≡ p → ⊥) → false ≡ r
  unfolding same
  place-wrong n = rw (drop-next x at (get_or x at 0) inside refl, one_place w p k h, ne_eqb (get_or x at 0) p n) at e

  pub place-right : get_or x at 0 ≡ p → (y : ℕ) → y ≡ p + get_or w p 0 → same (drop (at + 1) x) (places_from w y (k - 1)) ≡ r
  unfolding same
  place-right q y d = rw d (rw (drop-next x at (get_or x at 0) inside refl, one_place w p k h, eq-eqb (get_or x at 0) p q) at e)

pub places-end : (w x : List ℕ) (p at k : ℕ) (r : Bool) → k ≤ 0 → at + k ≡ length x → same (drop at x) (places_from w p k) ≡ r → true ≡ r
unfolding same places_from
places-end w x p at zero r h l e = rw (drop_of_length-le x {i = at} (omega arith)) at e
places-end w x p at (suc k) r h l e = absurd (omega arith)

pub ruleset places = (tests, just-word, place_rest, places-here, place-wrong, place-right, places-end)
