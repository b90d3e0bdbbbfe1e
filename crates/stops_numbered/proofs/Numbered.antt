-- What the places are: on any words and any index each has the number and the next is later; of a table with its own index they are the places that have the
-- number, one after the other, and no other. Assumes nothing.
use mathlib.Core.Path.{◌≡◌, refl, ap, ◌∙◌, sym}
use mathlib.Core.List.{List, [], ◌∷◌, ◌++◌, append_assoc}
use mathlib.Core.Bool.{Bool, true, false, cond}
use Prim.Native.Nat.{ℕ, zero, suc, ◌+◌, ◌-◌, ◌*◌, ◌≤◌, ◌<◌}
use native.Mathlib.Omega.{arith}
use lib.ListN.{length, get_or, drop}
use lib.Seq.{drop_at}
use lib.Dec.{eqb}
use borrow.Author.Tests.{eq-eqb, ne_eqb, eqb-true}
use Rattle.base.proofs.Laws.{by_eqb}
use Rattle.timetable.specs.Layout.{stop_size}
use Rattle.timetable.specs.Table.{stops#}
use Rattle.table.specs.JustTable.{stops_place, interchanges_place}
use Rattle.chains.specs.Chains.{key_of, has_key, greatest, first_by, next_by}
use Rattle.chains.proofs.Follow.{first-le, first_key, next_le, next-key}
use Rattle.chains.proofs.Agrees.{greatest-le, first-agrees, next-agrees}
use Rattle.index.specs.Index.{stops_from, field_section, stop_section, interchange_section, class_section, places_of, chains_of, index_of}
use Rattle.index.proofs.Agrees.{length-of}
use Rattle.whole_index.specs.Whole.{marked_calls, whole_index_of}
use Rattle.stops_numbered.specs.Inner.Numbered.{number_at, stops_with, stop_from, first_stop, next_stop}

-- the record e from the end is the stop at place S - e
key-number : (w : List ℕ) (e p : ℕ) → p + e ≡ stops# w → key_of w (interchanges_place w) stop_size e ≡ number_at w p
unfolding key_of
key-number w e p q =
    let i : interchanges_place w - stop_size * e ≡ stops_place w + stop_size * p = omega (arith, q) in
    ap (λ (j : ℕ). get_or w j 0) i

-- ---- on any words

module _ (w x : List ℕ) (number : ℕ) where
  pub first-numbered : first_stop w x number < stops# w → number_at w (first_stop w x number) ≡ number
  unfolding first_stop
  first-numbered l =
      let e : ℕ = first_by w x (interchanges_place w) stop_size (stops# w) (stops_from w) number in
      sym (key-number w e (stops# w - e) (omega (arith, first-le w x (interchanges_place w) stop_size (stops# w) (stops_from w) number)))
      ∙ first_key w x (interchanges_place w) stop_size (stops# w) (stops_from w) number e (λ z. absurd (omega (arith, l, z))) refl

  module _ (place : ℕ) (h : place < stops# w) where
    pub next-later : place < next_stop w x number place
    unfolding next_stop
    next-later = omega (arith, h, next_le w x (interchanges_place w) stop_size (stops_from w) number (stops# w - place))

    pub next-numbered : next_stop w x number place < stops# w → number_at w (next_stop w x number place) ≡ number
    unfolding next_stop
    next-numbered l =
        let e : ℕ = next_by w x (interchanges_place w) stop_size (stops_from w) number (stops# w - place) in
        sym (key-number w e (stops# w - e) (omega (arith, next_le w x (interchanges_place w) stop_size (stops_from w) number (stops# w - place))))
        ∙ next-key w x (interchanges_place w) stop_size (stops_from w) number (stops# w - place) e (λ z. absurd (omega (arith, l, z))) refl

-- ---- of its own index

-- the first match from the front is the greatest counted from the end
from-greatest : (w : List ℕ) (number k p : ℕ) → p + k ≡ stops# w → stops# w - greatest (has_key w (interchanges_place w) stop_size number) k ≡ stop_from w number p k
unfolding stop_from greatest has_key
from-greatest w number zero p q = omega (arith, q)
from-greatest w number (suc k) p q =
    ap (λ (i : ℕ). stops# w - cond (eqb i number) (suc k) g) (key-number w (suc k) p q) ∙ go (eqb (number_at w p) number) (from-greatest w number k (p + 1) (omega (arith, q)))
  where
    g : ℕ
    g = greatest (has_key w (interchanges_place w) stop_size number) k

    go : (t : Bool) → stops# w - g ≡ stop_from w number (p + 1) k → stops# w - cond t (suc k) g ≡ cond t p (stop_from w number (p + 1) k)
    go true e = omega (arith, q)
    go false e = e

module _ (w x rest : List ℕ) (number : ℕ) (e : drop (stops_from w) x ≡ chains_of w (stop_section w) ++ rest) where
  pub first-from : first_stop w x number ≡ stop_from w number 0 (stops# w)
  unfolding first_stop chains_of
  first-from =
      ap (λ (i : ℕ). stops# w - i) (first-agrees w x rest (interchanges_place w) stop_size (stops# w) (stops_from w) e number)
      ∙ from-greatest w number (stops# w) 0 (omega arith)

  pub next-from : (place : ℕ) → place < stops# w → number_at w place ≡ number → next_stop w x number place ≡ stop_from w number (place + 1) (stops# w - (place + 1))
  unfolding next_stop chains_of has_key
  next-from place l d =
      let k : stops# w - place - 1 ≡ stops# w - (place + 1) = omega arith in
      let f : eqb (key_of w (interchanges_place w) stop_size (stops# w - place)) number ≡ true = eq-eqb (key_of w (interchanges_place w) stop_size (stops# w - place)) number (key-number w (stops# w - place) place (omega arith) ∙ d) in
      ap (λ (i : ℕ). stops# w - i) (next-agrees w x rest (interchanges_place w) stop_size (stops# w) (stops_from w) e number (stops# w - place) (omega arith) (omega arith) f
      ∙ ap (greatest (has_key w (interchanges_place w) stop_size number)) k)
      ∙ from-greatest w number (stops# w - (place + 1)) (place + 1) (omega arith)

-- the chains of the stops in the index as a whole
stops-part : (w x : List ℕ) → x ≡ whole_index_of w → drop (stops_from w) x ≡ chains_of w (stop_section w) ++ ((chains_of w (interchange_section w) ++ (chains_of w (class_section w) ++ places_of w)) ++ marked_calls w)
unfolding whole_index_of index_of
stops-part w x q =
    let a : List ℕ = chains_of w (field_section w) in
    let b : List ℕ = chains_of w (stop_section w) in
    let c : List ℕ = chains_of w (interchange_section w) ++ (chains_of w (class_section w) ++ places_of w) in
    ap (drop (stops_from w)) (q ∙ append_assoc a (b ++ c) (marked_calls w))
    ∙ drop_at a ((b ++ c) ++ marked_calls w) (stops_from w) (length-of w (field_section w))
    ∙ append_assoc b c (marked_calls w)

-- THE PLACES: of a table's words and their own index
module _ (w x : List ℕ) (number : ℕ) (q : x ≡ whole_index_of w) where
  pub first-own : first_stop w x number ≡ stop_from w number 0 (stops# w)
  first-own = first-from w x ((chains_of w (interchange_section w) ++ (chains_of w (class_section w) ++ places_of w)) ++ marked_calls w) number (stops-part w x q)

  pub next-own : (place : ℕ) → place < stops# w → number_at w place ≡ number → next_stop w x number place ≡ stop_from w number (place + 1) (stops# w - (place + 1))
  next-own = next-from w x ((chains_of w (interchange_section w) ++ (chains_of w (class_section w) ++ places_of w)) ++ marked_calls w) number (stops-part w x q)

-- ---- one after the other they are all that have the number

module _ (w : List ℕ) (number : ℕ) where
  pub from-high : (k p : ℕ) → stop_from w number p k ≤ p + k
  unfolding stop_from
  from-high zero p = omega arith
  from-high (suc k) p = go (eqb (number_at w p) number) (from-high k (p + 1))
    where
      go : (t : Bool) → stop_from w number (p + 1) k ≤ p + 1 + k → cond t p (stop_from w number (p + 1) k) ≤ p + suc k
      go true l = omega arith
      go false l = omega arith

  pub from-number : (k p r : ℕ) → r ≡ stop_from w number p k → r < p + k → number_at w r ≡ number
  unfolding stop_from
  from-number zero p r q l = absurd (omega (arith, q))
  from-number (suc k) p r q l = go (eqb (number_at w p) number) refl q (λ d. from-number k (p + 1) r d (omega arith))
    where
      go : (t : Bool) → eqb (number_at w p) number ≡ t → r ≡ cond t p (stop_from w number (p + 1) k) → (r ≡ stop_from w number (p + 1) k → number_at w r ≡ number) → number_at w r ≡ number
      go true e d i = ap (number_at w) d ∙ eqb-true (number_at w p) number e
      go false e d i = i d

  -- the first, and then those after it
  pub with-next : (k p r : ℕ) → r ≡ stop_from w number p k → r < p + k → stops_with w number p k ≡ r ∷ stops_with w number (r + 1) (p + k - (r + 1))
  unfolding stop_from stops_with
  with-next zero p r q l = absurd (omega (arith, q))
  with-next (suc k) p r q l = go (eqb (number_at w p) number) q (λ d. with-next k (p + 1) r d (omega arith))
    where
      go : (t : Bool) → r ≡ cond t p (stop_from w number (p + 1) k) → (r ≡ stop_from w number (p + 1) k → stops_with w number (p + 1) k ≡ r ∷ stops_with w number (r + 1) (p + 1 + k - (r + 1)))
          → cond t (p ∷ stops_with w number (p + 1) k) (stops_with w number (p + 1) k) ≡ r ∷ stops_with w number (r + 1) (p + suc k - (r + 1))
      go true d i =
          let m : p + suc k - (p + 1) ≡ k = omega arith in
          rw (d, m)
      go false d i =
          let m : p + suc k - (r + 1) ≡ p + 1 + k - (r + 1) = omega arith in
          rw m (i d)

  pub with_none : (k p : ℕ) → stop_from w number p k ≡ p + k → stops_with w number p k ≡ []
  unfolding stop_from stops_with
  with_none zero p q = refl
  with_none (suc k) p q = go (eqb (number_at w p) number) q (λ d. with_none k (p + 1) d)
    where
      go : (t : Bool) → cond t p (stop_from w number (p + 1) k) ≡ p + suc k → (stop_from w number (p + 1) k ≡ p + 1 + k → stops_with w number (p + 1) k ≡ [])
          → cond t (p ∷ stops_with w number (p + 1) k) (stops_with w number (p + 1) k) ≡ []
      go true d i = absurd (omega (arith, d))
      go false d i = i (omega (arith, d))
