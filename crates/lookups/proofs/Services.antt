-- The services of just a table: what stands at the place of the i-th (`service-is`, `service-none`, `service-sound`). Assumes nothing.
use mathlib.Core.Path.{◌≡◌, refl, ◌∙◌, sym}
use mathlib.Core.List.{List, map}
use mathlib.Core.Bool.{true}
use mathlib.Core.Option.{none, some}
use Prim.Native.Nat.{ℕ, zero, suc, ◌+◌, ◌-◌, ◌≤◌, ◌<◌}
use native.Mathlib.Omega.{arith}
use lib.ListN.{length, get_or, drop, length-drop, get_elem?}
use lib.Seq.{drop-drop}
use Rattle.base.proofs.Loops.{and-true}
use Rattle.timetable.specs.Delivery.{Service}
use Rattle.timetable.specs.Table.{word_count_in, service_at, services_in, stops#, services#, services_place, resolved, table_of, record_sound, records_sound}
use Rattle.table.specs.JustTable.{JustTable}
use Rattle.table.proofs.Says.{Sizes, record-says}
use Rattle.table.proofs.Records.{first_word, one-record}
use Rattle.table.proofs.JustTable.{services-are, services-sound}
use Rattle.lookups.specs.Lookups.{record_place, service_place}

-- a record at p, with v records from there on
step : (stops : ℕ) (w : List ℕ) (v p : ℕ) → 0 < v → records_sound stops v (drop p w) ≡ true → (p < length w) × (p + get_or w p 0 ≤ length w) × (record_sound stops (drop p w) ≡ true) × (records_sound stops (v - 1) (drop (p + get_or w p 0) w) ≡ true)
step stops w v p h e =
    let (r, rest) = and-true (record_sound stops (drop p w)) _ (sym (one-record stops v (drop p w) h) ∙ e) in
    let s : Sizes (drop p w) = (record-says stops (drop p w) r).0 in
    let i : p < length w = omega (arith, s.head, length-drop p w) in
    (i, omega (arith, s.said, s.inside, length-drop p w, first_word w p), r, rw (first_word w p, drop-drop (get_or w p 0) p w) at rest)

-- the i-th service read from p on is the record at its place; f says how it is shown
service-there : (f : Service → Service) (w : List ℕ) (v p i : ℕ) → i < v → get_elem? (map f (services_in v (drop p w))) i ≡ some (f (service_at (drop (record_place w p i) w)))
unfolding services_in record_place
service-there f w zero p i h = absurd (omega arith)
service-there f w (suc v) p zero h = refl
service-there f w (suc v) p (suc i) h =
    rw (drop-drop (word_count_in (drop p w)) p w, first_word w p) (service-there f w v (p + get_or w p 0) i (omega arith))

none-there : (f : Service → Service) (v i : ℕ) (u : List ℕ) → v ≤ i → get_elem? (map f (services_in v u)) i ≡ none
unfolding services_in
none-there f zero zero u h = refl
none-there f zero (suc i) u h = refl
none-there f (suc v) zero u h = absurd (omega arith)
none-there f (suc v) (suc i) u h = none-there f v i (drop (word_count_in u) u) (omega arith)

sound-there : (stops : ℕ) (w : List ℕ) (v p i : ℕ) → i < v → records_sound stops v (drop p w) ≡ true → (record_place w p i ≤ length w) × (record_sound stops (drop (record_place w p i) w) ≡ true)
unfolding record_place
sound-there stops w v p zero h e =
    let s = step stops w v p (omega arith) e in
    (omega (arith, s.0), s.2)
sound-there stops w v p (suc i) h e = sound-there stops w (v - 1) (p + get_or w p 0) i (omega arith) (step stops w v p (omega arith) e).3

module _ (w : List ℕ) (h : JustTable w) (i : ℕ) where
  pub service-none : services# w ≤ i → get_elem? (table_of w).services i ≡ none
  service-none b = rw (services-are w h) (none-there (resolved (table_of w).stops) (services# w) i (drop (services_place w) w) b)

  module _ (b : i < services# w) where
    pub service-is : get_elem? (table_of w).services i ≡ some (resolved (table_of w).stops (service_at (drop (service_place w i) w)))
    service-is = rw (services-are w h) (service-there (resolved (table_of w).stops) w (services# w) (services_place w) i b)

    pub service-within : service_place w i ≤ length w
    service-within = (sound-there (stops# w) w (services# w) (services_place w) i b (services-sound w h)).0

    pub service-sound : record_sound (stops# w) (drop (service_place w i) w) ≡ true
    service-sound = (sound-there (stops# w) w (services# w) (services_place w) i b (services-sound w h)).1
