-- What an index can do that is not this table's: on ANY words and ANY index a look-up finds nothing, or a record of these words and of that section that begins
-- with the number asked for (`found-numbered`). So a foreign index makes a look-up miss, and never answers another number's record; and where the section lists
-- no number twice, what is not missed is what the plain look-up finds (`found-or-missed`). Assumes nothing.
use mathlib.Core.Path.{◌≡◌, refl, ap, ◌∙◌, sym}
use mathlib.Core.List.{List}
use mathlib.Core.Bool.{Bool, true, false, cond}
use mathlib.Core.Logic.{◌⊎◌, inl, inr}
use Prim.Native.Nat.{ℕ, zero, suc, ◌+◌, ◌-◌, ◌*◌, ◌≤◌, ◌<◌}
use native.Mathlib.Nat.{mul-suc, mul-add}
use native.Mathlib.Omega.{arith}
use lib.ListN.{length, get_or}
use lib.Dec.{eqb}
use borrow.Author.Tests.{eq-eqb, eqb-true}
use Rattle.std.specs.Prelude.{Option, Some, None}
use Rattle.base.proofs.Laws.{apart}
use Rattle.timetable.specs.Table.{word}
use Rattle.lookups.specs.Lookups.{place_of}
use Rattle.chains.specs.Chains.{key_of, first_by}
use Rattle.chains.proofs.Follow.{first-le, first_key}
use Rattle.index.specs.Index.{section_end, place_by, place_in}
use Rattle.index.specs.declared.Section.{Section}
use Rattle.index.specs.Stale.{Numbered, Once}

abbrev part : ℕ → ℕ → ℕ → ℕ → Section
part at n size from = record { at = at; n = n; size = size; from = from }

abbrev place_at : Option ℕ → ℕ
place_at (Some p) = p
place_at None = 0

-- ---- from the front

front-numbered : (w : List ℕ) (key size from n p q : ℕ) → place_of w key size p n ≡ Some q → Numbered w (part p n size from) key q
unfolding place_of
front-numbered w key size from zero p q e = apart (cc)
front-numbered w key size from (suc n) p q e = go (eqb (get_or w p 0) key) refl e (λ d. front-numbered w key size from n (p + size) q d)
  where
    go : (t : Bool) → eqb (get_or w p 0) key ≡ t → cond t (Some p) (place_of w key size (p + size) n) ≡ Some q → (place_of w key size (p + size) n ≡ Some q → Numbered w (part (p + size) n size from) key q) → Numbered w (part p (suc n) size from) key q
    go true y d i =
        let r : p ≡ q = ap place_at d in
        record { place = 0; low = omega arith; at = omega (arith, r); says = rw (sym r) (eqb-true (get_or w p 0) key y) }
    go false y d i =
        let m : Numbered w (part (p + size) n size from) key q = i d in
        record { place = suc m.place; low = omega (arith, m.low); at = omega (arith, m.at, mul-suc size m.place); says = m.says }

-- one that is there is found
front-some : (w : List ℕ) (key size n p i : ℕ) → i < n → word w (p + size * i) ≡ key → place_of w key size p n ≡ Some (place_at (place_of w key size p n))
unfolding place_of
front-some w key size zero p i h e = absurd (omega arith)
front-some w key size (suc n) p zero h e =
    let r : p + size * 0 ≡ p = omega arith in
    rw (eq-eqb (get_or w p 0) key (rw r at e))
front-some w key size (suc n) p (suc i) h e =
    let r : p + size * suc i ≡ p + size + size * i = omega (arith, mul-suc size i) in
    go (eqb (get_or w p 0) key) (front-some w key size n (p + size) i (omega arith) (rw r at e))
  where
    go : (t : Bool) → place_of w key size (p + size) n ≡ Some (place_at (place_of w key size (p + size) n)) → cond t (Some p) (place_of w key size (p + size) n) ≡ Some (place_at (cond t (Some p) (place_of w key size (p + size) n)))
    go true d = refl
    go false d = d

-- ---- by chains

chain-numbered : (w x : List ℕ) (s : Section) (key q e : ℕ) → e ≡ first_by w x (section_end s) s.size s.n s.from key → place_by (section_end s) s.size e ≡ Some q → Numbered w s key q
unfolding key_of
chain-numbered w x s key q zero d f = apart (cc)
chain-numbered w x s key q (suc e) d f =
    let l : suc e ≤ s.n = omega (arith, d, first-le w x (section_end s) s.size s.n s.from key) in
    let r : section_end s - s.size * suc e ≡ q = ap place_at f in
    let k : key_of w (section_end s) s.size (suc e) ≡ key = first_key w x (section_end s) s.size s.n s.from key (suc e) (λ z. absurd (omega arith)) (sym d) in
    let m : s.n ≡ s.n - suc e + suc e = omega arith in
    let j : s.size * s.n ≡ s.size * (s.n - suc e) + s.size * suc e = ap (λ (i : ℕ). s.size * i) m ∙ mul-add s.size (s.n - suc e) (suc e) in
    record { place = s.n - suc e; low = omega arith; at = omega (arith, r, j); says = rw (sym r) k }

-- THE MOST A FOREIGN INDEX CAN DO

pub found-numbered : (w x : List ℕ) (s : Section) (number p : ℕ) → place_in w x s number ≡ Some p → Numbered w s number p
unfolding place_in
found-numbered w x s number p e = go (eqb (length x) 0) e
  where
    go : (t : Bool) → cond t (place_of w number s.size s.at s.n) (place_by (section_end s) s.size (first_by w x (section_end s) s.size s.n s.from number)) ≡ Some p → Numbered w s number p
    go true d = front-numbered w number s.size s.from s.n s.at p d
    go false d = chain-numbered w x s number p (first_by w x (section_end s) s.size s.n s.from number) refl d

pub found-or-missed : (w x : List ℕ) (s : Section) (number : ℕ) → Once w s → (place_in w x s number ≡ None) ⊎ (place_in w x s number ≡ place_of w number s.size s.at s.n)
found-or-missed w x s number o = go (place_in w x s number) refl
  where
    plain : Option ℕ
    plain = place_of w number s.size s.at s.n

    go : (f : Option ℕ) → place_in w x s number ≡ f → (f ≡ None) ⊎ (f ≡ plain)
    go None e = inl refl
    go (Some p) e =
        let m : Numbered w s number p = found-numbered w x s number p e in
        let d : plain ≡ Some (place_at plain) = front-some w number s.size s.n s.at m.place m.low (ap (word w) (sym m.at) ∙ m.says) in
        let k : Numbered w s number (place_at plain) = front-numbered w number s.size s.from s.n s.at (place_at plain) d in
        let q : m.place ≡ k.place = o.once m.place k.place m.low k.low (ap (word w) (sym m.at) ∙ m.says ∙ sym (ap (word w) (sym k.at) ∙ k.says)) in
        inr (ap Some (m.at ∙ ap (λ (i : ℕ). s.at + s.size * i) q ∙ sym k.at) ∙ sym d)
