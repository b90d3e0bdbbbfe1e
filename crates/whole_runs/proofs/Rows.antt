-- The rows of the one stretch of a day, for a service without an offence: `stretched`, all that demand 3 says of them. Assumes nothing.
use mathlib.Core.Path.{◌≡◌, refl, sym, ap, ◌∙◌, subst}
use mathlib.Core.List.{List, [], ◌∷◌, ◌++◌}
use mathlib.Core.Bool.{Bool, true, false, cond, ◌&&◌}
use mathlib.Core.Option.{Option, none, some}
use Prim.Native.Nat.{ℕ, zero, suc, ◌+◌, ◌-◌, ◌*◌, ◌/◌, ◌%◌, ◌<◌, ◌≤◌}
use native.Mathlib.Omega.{arith}
use lib.ListN.{length, get_or, take, drop, get_elem?, length-drop, get_or-append}
use lib.Seq.{get_or-append-add, length-take-le, get_or-take, get_or-drop}
use lib.Dec.{leb, eqb}
use borrow.Author.Tests.{eqb-true, eq-eqb, ne_eqb, leb-true}
use Rattle.base.specs.Lists.{All, every, find, upto, below}
use Rattle.base.proofs.Laws.{by-leb}
use Rattle.base.proofs.Lists.{length-map-upto}
use Rattle.base.proofs.Loops.{and-true}
use Rattle.timetable.specs.Runs.{lateness}
use Rattle.timetable.specs.Layout.{row_size, latest_time, all_flags}
use Rattle.timetable.specs.Delivery.{Interchange, CategoryRange, Service, Delivery}
use Rattle.timetable.specs.Ranges.{has_arrival}
use Rattle.timetable.specs.Legs.{covers, operated, operated_legs, leg_count}
use Rattle.timetable.specs.Table.{word}
use Rattle.timetable.specs.View.{view_of, interchange_by, interchange_at_stop}
use Rattle.timetable.specs.Run.{name_by, category_on}
use Rattle.timetable.specs.Questions.{row_of, rows_of}
use Rattle.timetable.specs.declared.Call.{Call}
use Rattle.whole_runs.specs.OldTable.{old_call_sound}
use Rattle.whole_runs.specs.Rows.{Unbroken, row_word, flag, Row, time_at, Stated, no_call, call_no, Stretched}
use Rattle.whole_runs.proofs.Lists.{all_head, all_tail, all-to, all-at, every-below, only-found}
use Rattle.whole_runs.proofs.Lines.{StopKnown}
use Rattle.whole_runs.proofs.Right.{Right}
use Rattle.whole_runs.proofs.Once.{Own}
use Rattle.whole_runs.proofs.Stretch.{Only, legs-at}
use Rattle.whole_runs.proofs.Times.{Called, called}

-- ---- rows by their index

module _ (d : Delivery) (s : Service) (a n delay : ℕ) where
  pub rows-size : (i : ℕ) (cs : List Call) → length (rows_of (view_of d) s a n delay i cs) ≡ row_size * length cs
  unfolding rows_of
  rows-size i [] = omega arith
  rows-size i (c ∷ cs) = omega (arith, rows-size (i + 1) cs)

  rows-word : (i : ℕ) (cs : List Call) (q j : ℕ) → q < length cs → j < row_size → row_word (rows_of (view_of d) s a n delay i cs) q j ≡ word (row_of (view_of d) s a n delay (i + q) (get_or cs q no_call)) j
  unfolding rows_of
  rows-word i [] q j h l = absurd (omega arith)
  rows-word i (c ∷ cs) zero j h l =
      let z : i + zero ≡ i = omega arith in
      let y : row_size * zero + j ≡ j = omega arith in
      ap (λ (m : ℕ). word (row_of (view_of d) s a n delay i c ++ rows_of (view_of d) s a n delay (i + 1) cs) m) y
      ∙ (get_or-append (row_of (view_of d) s a n delay i c) (rows_of (view_of d) s a n delay (i + 1) cs) 0 j l
      ∙ ap (λ (m : ℕ). word (row_of (view_of d) s a n delay m c) j) (sym z))
  rows-word i (c ∷ cs) (suc q) j h l =
      let z : row_size * suc q + j ≡ row_size + (row_size * q + j) = omega arith in
      let y : i + suc q ≡ i + 1 + q = omega arith in
      ap (λ (m : ℕ). word (row_of (view_of d) s a n delay i c ++ rows_of (view_of d) s a n delay (i + 1) cs) m) z
      ∙ (get_or-append-add (row_of (view_of d) s a n delay i c) (rows_of (view_of d) s a n delay (i + 1) cs) (row_size * q + j) 0
      ∙ (rows-word (i + 1) cs q j (omega arith) l
      ∙ ap (λ (m : ℕ). word (row_of (view_of d) s a n delay m (get_or cs q no_call)) j) (sym y)))

-- ---- the flags of a row, of a call whose flags are f: t and u say whether it is the first and the last

abbrev flags_by : Bool → Bool → ℕ → ℕ
flags_by t u f = cond t 0 (f % 2 + f / 4 % 2 * 4) + cond u 0 (f / 2 % 2 * 2 + f / 8 * 8)

-- g are the flags f without those that are cleared
record Cleared (t u : Bool) (f g : ℕ) : Type 0 where
  most : g ≤ all_flags
  arrival : flag 1 g ≡ cond t 0 (flag 1 f)
  alighting : flag 4 g ≡ cond t 0 (flag 4 f)
  departure : flag 2 g ≡ cond u 0 (flag 2 f)
  boarding : flag 8 g ≡ cond u 0 (flag 8 f)

is_cleared : Bool → Bool → ℕ → ℕ → Bool
is_cleared t u f g =
    leb g all_flags
    && (eqb (flag 1 g) (cond t 0 (flag 1 f)) && (eqb (flag 4 g) (cond t 0 (flag 4 f)) && (eqb (flag 2 g) (cond u 0 (flag 2 f)) && eqb (flag 8 g) (cond u 0 (flag 8 f)))))

-- of all sixteen
each-cleared : (t u : Bool) → every (λ (f : ℕ). is_cleared t u f (flags_by t u f)) (below 16) ≡ true
unfolding every upto is_cleared
each-cleared true true = refl
each-cleared true false = refl
each-cleared false true = refl
each-cleared false false = refl

cleared : (t u : Bool) (f : ℕ) → f ≤ all_flags → Cleared t u f (flags_by t u f)
unfolding is_cleared
cleared t u f l =
    let g = flags_by t u f in
    let a = and-true (leb g all_flags) _ (every-below (λ (f : ℕ). is_cleared t u f (flags_by t u f)) 16 f (each-cleared t u) (omega arith)) in
    let b = and-true (eqb (flag 1 g) (cond t 0 (flag 1 f))) _ a.1 in
    let c = and-true (eqb (flag 4 g) (cond t 0 (flag 4 f))) _ b.1 in
    let e = and-true (eqb (flag 2 g) (cond u 0 (flag 2 f))) (eqb (flag 8 g) (cond u 0 (flag 8 f))) c.1 in
    record {
      most = leb-true g all_flags a.0;
      arrival = eqb-true _ _ b.0;
      alighting = eqb-true _ _ c.0;
      departure = eqb-true _ _ e.0;
      boarding = eqb-true _ _ e.1;
    }

-- what only the first or only the last row leaves out
kept : (i k x : ℕ) → (i ≡ k → ⊥) → cond (eqb i k) 0 x ≡ x
kept i k x h = rw (ne_eqb i k h)

left_out : (i k x : ℕ) → i ≡ k → cond (eqb i k) 0 x ≡ 0
left_out i k x h = rw (eq-eqb i k h)

-- ---- the interchange record of a stop

-- numbers find their own records, and there is a first
pub record Interchanges (d : Delivery) : Type 0 where
  pub own : All (Own (λ (x : Interchange). x.number) d.interchanges) d.interchanges
  pub some-record : 1 ≤ length d.interchanges

none_found : {X : Type 0} (p : X → Bool) (xs : List X) → All (λ x. p x ≡ false) xs → find p xs ≡ none
unfolding find
none_found p [] h = refl
none_found p (x ∷ xs) h = rw (all_head (λ x. p x ≡ false) h) (none_found p xs (all_tail (λ x. p x ≡ false) h))

module _ (d : Delivery) (h : Interchanges d) (n : ℕ) where
  own-record : All (λ (x : Interchange). x.number ≡ n → interchange_at_stop d n ≡ x) d.interchanges
  unfolding interchange_at_stop
  own-record =
      all-to (Own (λ (x : Interchange). x.number) d.interchanges) (λ (x : Interchange). x.number ≡ n → interchange_at_stop d n ≡ x)
      (λ x e q. ap (λ (o : Option Interchange). interchange_by o d.interchanges) (sym (ap (λ (m : ℕ). find (λ (y : Interchange). eqb y.number m) d.interchanges) q) ∙ e))
      d.interchanges h.own

  first-record : All (λ (x : Interchange). x.number ≡ n → ⊥) d.interchanges → (x : Interchange) × (get_elem? d.interchanges 0 ≡ some x) × (interchange_at_stop d n ≡ x)
  unfolding interchange_at_stop
  first-record u = go d.interchanges h.some-record none_has
    where
      none_has : find (λ (y : Interchange). eqb y.number n) d.interchanges ≡ none
      none_has = none_found (λ (y : Interchange). eqb y.number n) d.interchanges (all-to (λ (x : Interchange). x.number ≡ n → ⊥) (λ (x : Interchange). eqb x.number n ≡ false) (λ x v. ne_eqb x.number n v) d.interchanges u)

      go : (xs : List Interchange) → 1 ≤ length xs → find (λ (y : Interchange). eqb y.number n) xs ≡ none
          → (x : Interchange) × (get_elem? xs 0 ≡ some x) × (interchange_by (find (λ (y : Interchange). eqb y.number n) xs) xs ≡ x)
      go [] l e = absurd (omega arith)
      go (x ∷ xs) l e = (x, refl, ap (λ (o : Option Interchange). interchange_by o (x ∷ xs)) e)

-- ---- the stretch of a day lists what it should

module _ (d : Delivery) (s : Service) (r k a n : ℕ) (one : Only (operated_legs d.fields s k) a n) where
  pub in-route : a + n ≤ leg_count s
  in-route = let f = one.fits in omega (arith, length-map-upto (operated d.fields s.days k) (leg_count s) 0)

  pub inside : a + n < length s.calls
  inside = let f = in-route in let l = one.leg in omega arith

  leg-is : (j : ℕ) → j < leg_count s → operated d.fields s.days k j ≡ get_or (operated_legs d.fields s k) j false
  leg-is j l = sym (legs-at (operated d.fields s.days k) (leg_count s) j l)

  pub one-unbroken : Unbroken d s k a n
  one-unbroken =
      let f = in-route in
      record {
        some_leg = one.leg;
        inside = f;
        operates = λ j l m. leg-is j (omega arith) ∙ one.on j l m;
        not_before = λ j l. leg-is j (omega arith) ∙ one.before j l;
        not_after = λ j l m. leg-is j m ∙ one.after j l;
      }

  -- the calls of the stretch
  part : List Call
  part = take (n + 1) (drop a s.calls)

  pub part_length : length (take (n + 1) (drop a s.calls)) ≡ n + 1
  part_length = let l = inside in length-take-le (n + 1) (drop a s.calls) (omega (arith, length-drop a s.calls))

  part_at : (q : ℕ) → q ≤ n → get_or part q no_call ≡ call_no s (a + q)
  unfolding part
  part_at q l = get_or-take (n + 1) (drop a s.calls) q no_call (omega arith) ∙ get_or-drop a s.calls q no_call

  delay : ℕ
  delay = lateness s.opening r

  ws : List ℕ
  ws = rows_of (view_of d) s a n delay 0 part

  word-is : (q j : ℕ) → q ≤ n → j < row_size → row_word ws q j ≡ word (row_of (view_of d) s a n delay q (call_no s (a + q))) j
  unfolding ws part
  word-is q j l m =
      let p = part_length in
      let z : 0 + q ≡ q = omega arith in
      rows-word d s a n delay 0 part q j (omega arith) m
      ∙ (ap (λ (i : ℕ). word (row_of (view_of d) s a n delay i (get_or part q no_call)) j) z
      ∙ ap (λ (c : Call). word (row_of (view_of d) s a n delay q c) j) (part_at q l))

  arrival-is : (q : ℕ) → 1 ≤ q → q ≤ n → row_word ws q 1 ≡ (call_no s (a + q)).arrival + delay
  arrival-is q l m = word-is q 1 m (omega arith) ∙ kept q 0 ((call_no s (a + q)).arrival + delay) (λ e. omega arith)

  departure-is : (q : ℕ) → q < n → row_word ws q 2 ≡ (call_no s (a + q)).departure + delay
  departure-is q l = word-is q 2 (omega arith) (omega arith) ∙ kept q n ((call_no s (a + q)).departure + delay) (λ e. omega arith)

  module _ (h : Right d s) (known : Interchanges d) where
    flags-are : (q : ℕ) → q ≤ n → Cleared (eqb q 0) (eqb q n) (call_no s (a + q)).flags (row_word ws q 3)
    flags-are q l =
        let m = inside in
        let c = call_no s (a + q) in
        let sound = and-true (leb c.arrival latest_time) _ (all-at (λ (c : Call). old_call_sound c ≡ true) (a + q) no_call s.calls h.calls (omega arith)) in
        let f = leb-true c.flags all_flags (and-true (leb c.departure latest_time) (leb c.flags all_flags) sound.1).1 in
        subst (Cleared (eqb q 0) (eqb q n) c.flags) (sym (word-is q 3 l (omega arith))) (cleared (eqb q 0) (eqb q n) c.flags f)

    call_at : (q : ℕ) → q ≤ n → Called s.calls (a + q)
    call_at q l = let m = inside in called s.calls h.times (a + q) (omega arith)

    category-is : (q : ℕ) → q < n → row_word ws q 7 ≡ category_on s (a + q)
    category-is q l = word-is q 7 (omega arith) (omega arith) ∙ kept q n (category_on s (a + q)) (λ e. omega arith)

    row_is : (q : ℕ) → q ≤ n → Row d s delay n q (a + q) (call_no s (a + q)) (row_word ws q)
    row_is q l =
        let c = call_no s (a + q) in
        let g = inside in
        let i = in-route in
        let m = flags-are q l in
        let first-time = word-is q 8 l (omega arith) in
        let second-time = word-is q 9 l (omega arith) in
        record {
          stop = word-is q 0 l (omega arith);
          known = all-at (StopKnown d) (a + q) no_call s.calls h.stops (omega arith);
          arrival = λ o. arrival-is q o l;
          departure = departure-is q;
          arriving = λ o. (m.arrival ∙ kept q 0 _ (λ e. omega arith), m.alighting ∙ kept q 0 _ (λ e. omega arith));
          departing = λ o. (m.departure ∙ kept q n _ (λ e. omega arith), m.boarding ∙ kept q n _ (λ e. omega arith));
          four_flags = m.most;
          number = word-is q 4 l (omega arith);
          administration = (word-is q 5 l (omega arith), word-is q 6 l (omega arith));
          one_category = λ o. h.categories (a + q) (omega arith);
          category = λ o.
              all-to (λ (g : CategoryRange). covers (a + q) g.legs ≡ true → find (λ (g : CategoryRange). covers (a + q) g.legs) s.categories ≡ some g)
              (λ (g : CategoryRange). covers (a + q) g.legs ≡ true → row_word ws q 7 ≡ g.name)
              (λ g found t. category-is q o ∙ ap name_by (found t))
              s.categories (only-found (λ (g : CategoryRange). covers (a + q) g.legs) s.categories (h.categories (a + q) (omega arith)));
          own_times =
              all-to (λ (x : Interchange). x.number ≡ c.stop → interchange_at_stop d c.stop ≡ x)
              (λ (x : Interchange). x.number ≡ c.stop → (row_word ws q 8 ≡ x.first_time) × (row_word ws q 9 ≡ x.second_time))
              (λ x e t. (first-time ∙ ap (λ (y : Interchange). y.first_time) (e t), second-time ∙ ap (λ (y : Interchange). y.second_time) (e t)))
              d.interchanges (own-record d known c.stop);
          first_times = λ u.
              let x = first-record d known c.stop u in
              (x.0, x.1, first-time ∙ ap (λ (y : Interchange). y.first_time) x.2, second-time ∙ ap (λ (y : Interchange). y.second_time) x.2);
          first_row = λ e. (word-is q 1 l (omega arith) ∙ left_out q 0 _ e, m.arrival ∙ left_out q 0 _ e, m.alighting ∙ left_out q 0 _ e);
          last_row = λ e. (word-is q 2 l (omega arith) ∙ left_out q n _ e, m.departure ∙ left_out q n _ e, m.boarding ∙ left_out q n _ e, word-is q 7 l (omega arith) ∙ left_out q n _ e);
        }

    -- the times

    arrives : (q : ℕ) → 1 ≤ q → q ≤ n → flag 1 (row_word ws q 3) ≡ 1
    arrives q l m = let i = inside in ((row_is q m).arriving l).0 ∙ as-flag (call_no s (a + q)) ((call_at q m).arrival (omega arith))
      where
        as-flag : (c : Call) → has_arrival c ≡ true → flag 1 c.flags ≡ 1
        as-flag c e = let z = eqb-true (c.flags % 2) 1 e in omega arith

    departs : (q : ℕ) → q < n → flag 2 (row_word ws q 3) ≡ 1
    departs q l = let i = inside in ((row_is q (omega arith)).departing l).0 ∙ eqb-true (flag 2 (call_no s (a + q)).flags) 1 ((call_at q (omega arith)).departure (omega arith))

    -- time 2 q is the arrival of row q, and the next its departure
    arrival-time : (p q : ℕ) → p / 2 ≡ q → p % 2 ≡ 0 → time_at ws p ≡ row_word ws q 1
    arrival-time p q u v = ap (λ (i : ℕ). row_word ws i (1 + p % 2)) u ∙ ap (λ (b : ℕ). row_word ws q (1 + b)) v

    departure-time : (p q : ℕ) → p / 2 ≡ q → p % 2 ≡ 1 → time_at ws p ≡ row_word ws q 2
    departure-time p q u v = ap (λ (i : ℕ). row_word ws i (1 + p % 2)) u ∙ ap (λ (b : ℕ). row_word ws q (1 + b)) v

    halts : (q : ℕ) → 1 ≤ q → q < n → row_word ws q 1 ≤ row_word ws q 2
    halts q l m =
        let i = inside in
        omega (arith, arrival-is q l (omega arith), departure-is q m, (call_at q (omega arith)).halt (omega arith) (omega arith))

    forward : (q : ℕ) → q < n → row_word ws q 2 ≤ row_word ws (q + 1) 1
    forward q l =
        let i = inside in
        let e : a + (q + 1) ≡ a + q + 1 = omega arith in
        let y : row_word ws (q + 1) 1 ≡ (call_no s (a + q + 1)).arrival + delay = arrival-is (q + 1) (omega arith) (omega arith) ∙ ap (λ (j : ℕ). (call_no s j).arrival + delay) e in
        omega (arith, departure-is q l, y, (call_at q (omega arith)).forward (omega arith))

    -- from one stated time to the next: the first is the departure of row 0, time 1, the last the arrival of row n, time 2 n
    next-time : (p : ℕ) → 1 ≤ p → p < 2 * n → time_at ws p ≤ time_at ws (p + 1)
    next-time p l m = go (p % 2) refl
      where
        go : (b : ℕ) → p % 2 ≡ b → time_at ws p ≤ time_at ws (p + 1)
        go zero e = omega (arith, arrival-time p (p / 2) refl e, departure-time (p + 1) (p / 2) (omega arith) (omega arith), halts (p / 2) (omega arith) (omega arith))
        go (suc b) e = omega (arith, departure-time p (p / 2) refl (omega arith), arrival-time (p + 1) (p / 2 + 1) (omega arith) (omega arith), forward (p / 2) (omega arith))

    -- the first row's arrival and the last row's departure are not stated
    stated-from : (p : ℕ) → Stated ws p → 1 ≤ p
    stated-from zero e = let z = ((row_is 0 (omega arith)).first_row refl).1 in absurd (omega (arith, z, e))
    stated-from (suc p) e = omega arith

    stated-to : (p : ℕ) → p < 2 * (n + 1) → Stated ws p → p ≤ 2 * n
    stated-to p l e = by-leb (λ t. p ≤ 2 * n) p (2 * n) (λ h. h) (λ h. absurd (last h))
      where
        last : 2 * n < p → ⊥
        last h =
            let u : p / 2 ≡ n = omega arith in
            let v : p % 2 ≡ 1 = omega arith in
            let x : flag (1 + p % 2) (row_word ws (p / 2) 3) ≡ flag 2 (row_word ws n 3) = ap (λ (i : ℕ). flag (1 + p % 2) (row_word ws i 3)) u ∙ ap (λ (b : ℕ). flag (1 + b) (row_word ws n 3)) v in
            let z = ((row_is n (omega arith)).last_row refl).1 in
            omega (arith, x, z, e)

    later-time : (p m : ℕ) → 1 ≤ p → p + m ≤ 2 * n → time_at ws p ≤ time_at ws (p + m)
    later-time p zero l h = let z : p + zero ≡ p = omega arith in rw z (omega arith)
    later-time p (suc m) l h =
        let z : p + suc m ≡ p + m + 1 = omega arith in
        let x = later-time p m l (omega arith) in
        let y = next-time (p + m) (omega arith) (omega arith) in
        rw z (omega arith)

    never_fall : (p m : ℕ) → p ≤ m → 1 ≤ p → m ≤ 2 * n → time_at ws p ≤ time_at ws m
    never_fall p m l f t = let z : p + (m - p) ≡ m = omega arith in rw z at (later-time p (m - p) f (omega arith))

    pub stretched : Stretched d s r k (rows_of (view_of d) s a n (lateness s.opening r) 0 (take (n + 1) (drop a s.calls)))
    unfolding ws part delay
    stretched = record {
      start = a;
      legs = n;
      unbroken = one-unbroken;
      size = let p = part_length in omega (arith, rows-size d s a n delay 0 part);
      row = row_is;
      arrives = arrives;
      departs = departs;
      never_fall = λ p m l h x y. never_fall p m l (stated-from p x) (stated-to m h y);
    }
