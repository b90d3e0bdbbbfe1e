-- How long an index of look-ups is: two words for each record, and one for each service. Assumes nothing.
use mathlib.Core.Path.{◌≡◌, refl, ap}
use mathlib.Core.List.{List, ◌++◌}
use Prim.Native.Nat.{ℕ, zero, suc, ◌+◌}
use native.Mathlib.Omega.{arith}
use lib.ListN.{length, length-append}
use Rattle.timetable.specs.Table.{word, services#, services_place}
use Rattle.index.specs.Index.{field_section, stop_section, interchange_section, class_section, places_from, places_of, chains_of, index_size, index_of}
use Rattle.index.proofs.Agrees.{length-of}

places-long : (w : List ℕ) (n p : ℕ) → length (places_from w p n) ≡ n
unfolding places_from
places-long w zero p = refl
places-long w (suc n) p = ap suc (places-long w n (p + word w p))

pub lookups-long : (w : List ℕ) → length (index_of w) ≡ index_size w
unfolding index_of
lookups-long w =
    let a : List ℕ = chains_of w (field_section w) in
    let b : List ℕ = chains_of w (stop_section w) in
    let c : List ℕ = chains_of w (interchange_section w) in
    let d : List ℕ = chains_of w (class_section w) in
    omega (
      arith,
      length-append a (b ++ (c ++ (d ++ places_of w))),
      length-append b (c ++ (d ++ places_of w)),
      length-append c (d ++ places_of w),
      length-append d (places_of w),
      length-of w (field_section w),
      length-of w (stop_section w),
      length-of w (interchange_section w),
      length-of w (class_section w),
      places-long w (services# w) (services_place w),
    )
