-- The record of a service by its index, a ruleset for each function; and what it says of the view (`record-service`, `record-refused`, `record-within`,
-- `record-sound`). Assumes nothing.
use mathlib.Core.Path.{◌≡◌, refl, ap, ◌∙◌, sym}
use mathlib.Core.List.{List}
use mathlib.Core.Bool.{Bool, true, false, cond, not}
use Prim.Native.Nat.{ℕ, zero, suc, ◌+◌, ◌-◌, ◌*◌, ◌^◌, ◌≤◌, ◌<◌}
use native.Mathlib.Nat.{add-zero}
use native.Mathlib.Omega.{arith}
use lib.ListN.{length, get_or, take, drop, drop_of_length-le, length-drop, get_or-eq_default}
use lib.Dec.{ltb}
use borrow.Author.Tests.{eq-eqb, ne_eqb, lt-ltb, le-ltb, not-true, not-false}
use Rattle.std.specs.Prelude.{Result, Ok, Err}
use Rattle.base.proofs.Laws.{tests, apart}
use Rattle.timetable.specs.Table.{stops#, services#, services_place, service_at, with_stops, record_sound}
use Rattle.timetable.specs.declared.refusal.Refusal.{Refusal}
use Rattle.timetable.specs.declared.refusal.Refusal.TheVariants.{NoSuchService, NotItsIndex}
use Rattle.table.proofs.Says.{record-says, header-word}
use Rattle.table.proofs.Records.{rest_from}
use Rattle.lookups.specs.Lookups.{record_place, service_place}
use Rattle.index.specs.Index.{services_from, record_place_in, record_from, record_in, service_from, view_in}
use Rattle.index.specs.Inner.Ready.{Ready}
use Rattle.index.proofs.Sections.{sections-fit}
use Rattle.index.proofs.Shows.{ready-head, ready-word}

-- ---- the record from a place p on: s are the words from there on, t says whether they begin with a sound record

module _ (w : List ℕ) (p : ℕ) where
  pub from-far : length w < p → Err NotItsIndex ≡ record_from w p
  unfolding record_from record_sound
  from-far l = rw (drop_of_length-le w {i = p} (omega arith))

  module _ (s : List ℕ) (d : s ≡ drop p w) (t : Bool) (e : t ≡ record_sound (stops# w) s) where
    pub from-unsound : not t ≡ true → Err NotItsIndex ≡ record_from w p
    unfolding record_from
    from-unsound n = rw (sym d, sym e ∙ not-true t n)

    pub from-sound : not t ≡ false → Ok p ≡ record_from w p
    unfolding record_from
    from-sound n = rw (sym d, sym e ∙ not-false t n)

pub ruleset froms = (tests, header-word, from-far, from-unsound, from-sound)

-- ---- of the i-th service

module _ (w x : List ℕ) (i : ℕ) where
  pub record-past : services# w ≤ i → Err NoSuchService ≡ record_in w x i
  unfolding record_in
  record-past b = rw (le-ltb i (services# w) b)

  pub record_is : i < services# w → (p : ℕ) → p ≡ record_place_in w x i → (r : Result ℕ Refusal) → r ≡ record_from w p → r ≡ record_in w x i
  unfolding record_in
  record_is b p q r f = rw (lt-ltb i (services# w) b, sym q) f

pub ruleset records = (tests, ready-head, ready-word, record-past, record_is)

-- ---- its place: by the index, where y is where the places begin in it and j is i as a place; or after the records before it

module _ (w x : List ℕ) (i : ℕ) where
  pub place-front : length x ≡ 0 → (r : ℕ) → r ≡ service_place w i → r ≡ record_place_in w x i
  unfolding record_place_in
  place-front z r e = rw (eq-eqb (length x) 0 z) e

  module _ (y j : ℕ) (p : y ≡ services_from w) (q : j ≡ i) where
    pub place-index : (length x ≡ 0 → ⊥) → (v : ℕ) → v ≡ get_or x (y + j) 0 → v ≡ record_place_in w x i
    unfolding record_place_in
    place-index z v e = rw (ne_eqb (length x) 0 z) (e ∙ rw (p, q))

    pub place-fits : Ready w x → j < 4294967296 → length w * 4 < 2 ^ 63 → y + j < 2 ^ 64
    place-fits h b l = omega (arith, p, sections-fit w h.head)

    module _ (h : Ready w x) (z : length x ≡ 0 → ⊥) (b : i < services# w) where
      pub place_inside : y + j < length x
      place_inside = omega (arith, p, q, h.sized z)

      pub place-scaled : length x * 4 < 2 ^ 63 → (y + j) * 4 < 2 ^ 64
      place-scaled l = omega (arith, place_inside)

pub ruleset places = (tests, ready-head, place-front, place-index, place-fits, place_inside, place-scaled)

one_place : (w : List ℕ) (p k : ℕ) → 0 < k → record_place w p k ≡ record_place w (p + get_or w p 0) (k - 1)
unfolding record_place
one_place w p zero h = absurd (omega arith)
one_place w p (suc k) h =
    let e : suc k - 1 ≡ k = omega arith in
    rw e

-- i - c records are left to pass from p on
pub after-again : (w : List ℕ) (p i c r : ℕ) → c < i → record_place w p (i - c) ≡ r → record_place w (p + get_or w p 0) (i - (c + 1)) ≡ r
after-again w p i c r h v =
    let e : i - c - 1 ≡ i - (c + 1) = omega arith in
    rw e at (sym (one_place w p (i - c) (omega arith)) ∙ v)

-- past the words each record is empty
pub after-out : (w : List ℕ) (p k r : ℕ) → length w ≤ p → record_place w p k ≡ r → p ≡ r
unfolding record_place
after-out w p zero r h v = v
after-out w p (suc k) r h v =
    let z : p + get_or w p 0 ≡ p = ap (λ (m : ℕ). p + m) (get_or-eq_default w 0 {n = p} h) ∙ add-zero p in
    after-out w p k r h (rw z at v)

after-none : (w : List ℕ) (p k r : ℕ) → k ≤ 0 → record_place w p k ≡ r → p ≡ r
unfolding record_place
after-none w p zero r h v = v
after-none w p (suc k) r h v = absurd (omega arith)

pub after-done : (w : List ℕ) (p i c r : ℕ) → i ≤ c → record_place w p (i - c) ≡ r → p ≡ r
after-done w p i c r h v = after-none w p (i - c) r (omega arith) v

pub ruleset hops = (tests, header-word, after-again, after-out, after-done)

-- ---- what a record says; r is it

module _ (w x : List ℕ) (i : ℕ) (r : Result ℕ Refusal) (e : r ≡ record_in w x i) where
  pub record-refused : (refusal : Refusal) → r ≡ Err refusal → (view_in w x).service i ≡ Err refusal
  unfolding view_in
  record-refused refusal g = ap (service_from w) (sym e ∙ g)

  module _ (p : ℕ) (g : r ≡ Ok p) where
    pub record-service : (s : List ℕ) → s ≡ drop p w → (view_in w x).service i ≡ Ok (with_stops (view_in w x).shown (service_at s))
    unfolding view_in
    record-service s d = ap (service_from w) (sym e ∙ g) ∙ rw d

    sound-there : record_sound (stops# w) (drop p w) ≡ true
    unfolding record_in record_from
    sound-there = outer (ltb i (services# w)) (sym e ∙ g)
      where
        placed : Result ℕ Refusal → ℕ
        placed (Ok q) = q
        placed (Err refusal) = 0

        inner : (q : ℕ) (t : Bool) → record_sound (stops# w) (drop q w) ≡ t → cond t (Ok q) (Err NotItsIndex) ≡ Ok p → record_sound (stops# w) (drop p w) ≡ true
        inner q false h f = apart (cc)
        inner q true h f = ap (λ (k : ℕ). record_sound (stops# w) (drop k w)) (sym (ap placed f)) ∙ h

        outer : (t : Bool) → cond t (cond (record_sound (stops# w) (drop (record_place_in w x i) w)) (Ok (record_place_in w x i)) (Err NotItsIndex)) (Err NoSuchService) ≡ Ok p → record_sound (stops# w) (drop p w) ≡ true
        outer false f = apart (cc)
        outer true f = inner (record_place_in w x i) (record_sound (stops# w) (drop (record_place_in w x i) w)) refl f

    pub record-sound : (s : List ℕ) → s ≡ drop p w → record_sound (stops# w) s ≡ true
    record-sound s d = rw d sound-there

    pub record-within : p ≤ length w
    record-within = omega (arith, (record-says (stops# w) (drop p w) sound-there).0.head, length-drop p w)

-- for the `search` of a caller
pub ruleset found-records = (record-refused, record-service, record-sound, record-within)
