-- Departures in order: two ascending lists of the same departures are one list, and departures without a repeat ascend once they are put in order. Assumes nothing.
use mathlib.Core.Path.{◌≡◌, refl, ap, ◌∙◌, sym}
use mathlib.Core.List.{List, [], ◌∷◌}
use mathlib.Core.Logic.{◌⊎◌, inl, inr, ⊎_elim}
use mathlib.Core.Bool.{Bool, true, false, cond}
use Prim.Native.Nat.{ℕ, ◌≤◌, ◌<◌}
use native.Mathlib.Decide.{dec_lt}
use native.Mathlib.Omega.{arith}
use lib.Dec.{ltb}
use borrow.Author.Tests.{lt-ltb, le-leb, eq-eqb, ne_eqb, ltb-true, leb-true}
use Rattle.base.specs.Lists.{nil, cons}
use Rattle.base.proofs.Laws.{clash, by_eqb, by-ltb}
use Rattle.sort.specs.Sorted.{insert, sorted}
use Rattle.sort.specs.Rows.{lower, not_after, sorted_rows}
use Rattle.sort.proofs.Order.{row-order}
use Rattle.board.specs.Board.{Departure, Among, ahead, Ascending, none_left, then}
use Rattle.board.proofs.Among.{all_among, among-all, Distinct}

-- ---- numbers compared one after the other

lower-swap : (x y : ℕ) (a b : Bool) → (a ≡ true → b ≡ true → ⊥) → lower x y a ≡ true → lower y x b ≡ true → ⊥
lower-swap x y a b h =
    by_eqb (λ t. cond t a (ltb x y) ≡ true → lower y x b ≡ true → ⊥) x y
    (λ e p q. h p (rw (eq-eqb y x (sym e)) at q))
    (λ e p q.
    let n : y ≡ x → ⊥ = λ z. e (sym z) in
    let r : ltb y x ≡ true = rw (ne_eqb y x n) at q in
    absurd (omega (arith, ltb-true x y p, ltb-true y x r)))

-- none stands before one that stands before it
pub ahead-not : (e f : Departure) → ahead e f ≡ true → ahead f e ≡ true → ⊥
unfolding ahead
ahead-not e f =
    lower-swap e.time f.time _ _
    (lower-swap e.service f.service _ _
    (lower-swap e.repeat f.repeat _ _ (λ p q. absurd (omega (arith, ltb-true e.place f.place p, ltb-true f.place e.place q)))))

ahead-self : (e x : Departure) → x ≡ e → ahead e x ≡ true → ⊥
ahead-self e x z k = ahead-not e x k (ap (λ (y : Departure). ahead y e) z ∙ ap (λ (y : Departure). ahead e y) (sym z) ∙ k)

lower-strict : (x y : ℕ) (a b : Bool) → (b ≡ false → a ≡ true) → lower y x b ≡ false → lower x y a ≡ true
lower-strict x y a b h =
    by_eqb (λ t. lower y x b ≡ false → cond t a (ltb x y) ≡ true) x y
    (λ e q. h (rw (eq-eqb y x (sym e)) at q))
    (λ e q.
    let n : y ≡ x → ⊥ = λ z. e (sym z) in
    let r : ltb y x ≡ false = rw (ne_eqb y x n) at q in
    by-ltb (λ t. t ≡ true) x y (λ l. refl) (λ l. clash (sym r ∙ lt-ltb y x (let z : y < x = lt_of y x l n in z))))
  where
    lt_of : (y x : ℕ) → y ≤ x → (y ≡ x → ⊥) → y < x
    lt_of y x l n = elim (dec_lt y x) [ yes h ↦ h | no h ↦ absurd (n (omega arith)) ]

-- what does not come after the other, or is it
pub ahead-rest : (e f : Departure) → not_after f e ≡ false → ahead e f ≡ true
unfolding ahead not_after
ahead-rest e f =
    lower-strict e.time f.time _ _
    (lower-strict e.service f.service _ _
    (lower-strict e.repeat f.repeat _ _ (λ q. lt-ltb e.place f.place (by-ltb (λ t. e.place < f.place) e.place f.place (λ l. l) (λ l. clash (sym q ∙ le-leb f.place e.place l))))))

-- one that does not come after another one stands before it
pub ahead-other : (e f : Departure) → not_after e f ≡ true → (e ≡ f → ⊥) → ahead e f ≡ true
ahead-other e f h n = go (not_after f e) refl
  where
    go : (t : Bool) → not_after f e ≡ t → ahead e f ≡ true
    go true q = absurd (n (row-order.same e f h q))
    go false q = ahead-rest e f q

-- one that stands before another does not come after it
pub ahead-later : (e f : Departure) → ahead e f ≡ true → not_after f e ≡ true → ⊥
unfolding ahead not_after
ahead-later e f =
    lower-swap e.time f.time _ _
    (lower-swap e.service f.service _ _
    (lower-swap e.repeat f.repeat _ _ (λ p q. absurd (omega (arith, ltb-true e.place f.place p, leb-true f.place e.place q)))))

-- ---- one order

pub one-ascending : (es fs : List Departure) → Ascending es → Ascending fs → ((x : Departure) → Among x es → Among x fs) → ((x : Departure) → Among x fs → Among x es) → es ≡ fs
unfolding Among
one-ascending [] [] a b p q = refl
one-ascending [] (f ∷ fs) a b p q = absurd (q f (inl refl))
one-ascending (e ∷ es) [] a b p q = absurd (p e (inl refl))
one-ascending (e ∷ es) (f ∷ fs) (then g a) (then h b) p q =
    let s : e ≡ f = ⊎_elim (λ z. z) (λ m. ⊎_elim (λ z. sym z) (λ l. absurd (ahead-not e f (among-all _ es g f l) (among-all _ fs h e m))) (q f (inl refl))) (p e (inl refl)) in
    let i : es ≡ fs =
    one-ascending es fs a b
    (λ x m. ⊎_elim (λ z. absurd (ahead-self e x (z ∙ sym s) (among-all _ es g x m))) (λ l. l) (p x (inr m)))
    (λ x m. ⊎_elim (λ z. absurd (ahead-self f x (z ∙ s) (among-all _ fs h x m))) (λ l. l) (q x (inr m))) in
    λ j. s j ∷ i j

-- ---- put in order

among-insert : (x e : Departure) (l : List Departure) → Among x (insert not_after e l) → (x ≡ e) ⊎ Among x l
unfolding insert Among
among-insert x e [] h = h
among-insert x e (y ∷ l) h = go (not_after e y) (among-insert x e l) h
  where
    go : (t : Bool) → (Among x (insert not_after e l) → (x ≡ e) ⊎ Among x l) → Among x (cond t (e ∷ y ∷ l) (y ∷ insert not_after e l)) → (x ≡ e) ⊎ ((x ≡ y) ⊎ Among x l)
    go true i h = h
    go false i (inl z) = inr (inl z)
    go false i (inr m) = ⊎_elim (λ z. inl z) (λ n. inr (inr n)) (i m)

insert-among : (x e : Departure) (l : List Departure) → (x ≡ e) ⊎ Among x l → Among x (insert not_after e l)
unfolding insert Among
insert-among x e [] h = h
insert-among x e (y ∷ l) h = go (not_after e y) (insert-among x e l) h
  where
    go : (t : Bool) → ((x ≡ e) ⊎ Among x l → Among x (insert not_after e l)) → (x ≡ e) ⊎ ((x ≡ y) ⊎ Among x l) → Among x (cond t (e ∷ y ∷ l) (y ∷ insert not_after e l))
    go true i h = h
    go false i (inl z) = inr (i (inl z))
    go false i (inr (inl z)) = inl z
    go false i (inr (inr m)) = inr (i (inr m))

pub among-sorted : (x : Departure) (l : List Departure) → Among x (sorted_rows l) → Among x l
unfolding sorted Among
among-sorted x [] h = h
among-sorted x (e ∷ l) h = ⊎_elim (λ z. inl z) (λ m. inr (among-sorted x l m)) (among-insert x e (sorted_rows l) h)

pub sorted-among : (x : Departure) (l : List Departure) → Among x l → Among x (sorted_rows l)
unfolding sorted Among
sorted-among x [] h = h
sorted-among x (e ∷ l) (inl z) = insert-among x e (sorted_rows l) (inl z)
sorted-among x (e ∷ l) (inr m) = insert-among x e (sorted_rows l) (inr (sorted-among x l m))

insert-ascending : (e : Departure) (l : List Departure) → (Among e l → ⊥) → Ascending l → Ascending (insert not_after e l)
unfolding insert Among
insert-ascending e [] n a = then nil none_left
insert-ascending e (y ∷ l) n (then g a) = go (not_after e y) refl (insert-ascending e l (λ m. n (inr m)) a)
  where
    go : (t : Bool) → not_after e y ≡ t → Ascending (insert not_after e l) → Ascending (cond t (e ∷ y ∷ l) (y ∷ insert not_after e l))
    go true q i =
        let here : ahead e y ≡ true = ahead-other e y q (λ z. n (inl z)) in
        then (cons here (all_among _ l (λ x m. past x (among-all _ l g x m)))) (then g a)
      where
        past : (x : Departure) → ahead y x ≡ true → ahead e x ≡ true
        past x k = ahead-rest e x (back (not_after x e) refl)
          where
            back : (t : Bool) → not_after x e ≡ t → not_after x e ≡ false
            back true z = absurd (ahead-later y x k (row-order.trans x e y z q))
            back false z = z
    go false q i =
        then
        (all_among _ (insert not_after e l)
        (λ x m. ⊎_elim (λ z. rw z (ahead-rest y e q)) (λ k. among-all _ l g x k) (among-insert x e l m)))
        i

pub sorted-ascending : (l : List Departure) → Distinct l → Ascending (sorted_rows l)
unfolding sorted Distinct
sorted-ascending [] d = none_left
sorted-ascending (e ∷ l) d = insert-ascending e (sorted_rows l) (λ m. d.0 (among-sorted e l m)) (sorted-ascending l d.1)
