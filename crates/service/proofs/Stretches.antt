-- 19: three sets of days swept along the route from range to range (begun, ended, broken), and the number of stretches on each day,
-- for `search sweeps`. Assumes nothing.
use mathlib.Core.Path.{◌≡◌, refl, sym, ap, ap₂, ◌∙◌}
use mathlib.Core.List.{List, [], ◌∷◌, map}
use mathlib.Core.Bool.{Bool, true, false, cond, not, ◌&&◌, ◌||◌}
use mathlib.Core.Option.{Option, none, some}
use Prim.Native.Nat.{ℕ, zero, suc, ◌+◌, ◌-◌, ◌*◌, ◌≤◌, ◌<◌}
use native.Mathlib.Nat.{zero-add, sub-zero}
use native.Mathlib.Omega.{arith}
use lib.ListN.{length, drop}
use lib.Dec.{eqb, leb, ltb, leb-suc-suc}
use borrow.Author.Tests.{le-leb, lt-ltb, eq-eqb, ne_eqb, eqb-true, leb-true, ltb-true}
use Rattle.base.specs.Lists.{some_of, count_if, find, upto, below}
use Rattle.base.proofs.Laws.{tests, apart, or-false}
use Rattle.base.proofs.Loops.{upto-none, and-true, every-at}
use Rattle.bitfield.specs.BitField.{bit_count, bit, runs_on, some_day}
use Rattle.bitfield.proofs.Sets.{no-bit}
use Rattle.timetable.specs.Layout.{day_size, most_period_days}
use Rattle.timetable.specs.Delivery.{BitField, DayRange}
use Rattle.timetable.specs.Legs.{covers, covering, runs_by, field_runs, operated, stretches}
use Rattle.timetable.specs.Checks.{each_once}
use Rattle.timetable.specs.Table.{rows_in, day_at}
use Rattle.timetable.specs.Inner.Words.{day_read}
use Rattle.timetable.specs.declared.DayWords.{DayWords}
use Rattle.sections.specs.Inner.Sections.{words_by, words_of}
use Rattle.cover.specs.Inner.Cover.{cover_place_from}
use Rattle.std.specs.Prelude.{Option as StdOption, Some, None}
use Rattle.cover.proofs.Rows.{row_at, first_row, place-fits}
use Rattle.service.specs.Inner.Answers.{rows_broken, rows_torn}

-- ---- one day

-- a leg has run (b), one has not run after that (e), one has run after that (x); then legs follow that run or not
unfoldable pub broken_by : Bool → Bool → Bool → List Bool → Bool
broken_by b e x [] = x
broken_by b e x (t ∷ ts) = broken_by (b || t) (e || (b && not t)) (x || (e && t)) ts

stays-broken : (b e : Bool) (ts : List Bool) → broken_by b e true ts ≡ true
unfolding broken_by
stays-broken b e [] = refl
stays-broken b e (t ∷ ts) = stays-broken (b || t) (e || (b && not t)) ts

none_more : (m : ℕ) (on : Bool) (ts : List Bool) → leb m (stretches on ts) ≡ leb m (0 + stretches on ts)
none_more m on ts = ap (leb m) (sym (zero-add (stretches on ts)))

-- after a stretch: broken if another begins
after : (ts : List Bool) → broken_by true true false ts ≡ leb 1 (stretches false ts)
unfolding broken_by stretches
after [] = refl
after (true ∷ ts) = stays-broken true true ts ∙ sym (le-leb 1 (1 + stretches true ts) (omega arith))
after (false ∷ ts) = after ts ∙ none_more 1 false ts

-- in the first stretch
during : (ts : List Bool) → broken_by true false false ts ≡ leb 1 (stretches true ts)
unfolding broken_by stretches
during [] = refl
during (true ∷ ts) = during ts ∙ none_more 1 true ts
during (false ∷ ts) = after ts ∙ none_more 1 false ts

one_up : (s : ℕ) → leb 1 s ≡ leb 2 (1 + s)
one_up s =
    let e : 1 + s ≡ suc s = omega arith in
    sym (ap (leb 2) e ∙ leb-suc-suc 1 s)

two-stretches : (ts : List Bool) → broken_by false false false ts ≡ leb 2 (stretches false ts)
unfolding broken_by stretches
two-stretches [] = refl
two-stretches (true ∷ ts) = during ts ∙ one_up (stretches true ts)
two-stretches (false ∷ ts) = two-stretches ts ∙ none_more 2 false ts

-- ---- one day, several legs that run alike

-- the same leg once more changes nothing
same-begun : (b t : Bool) → ((b || t) || t) ≡ (b || t)
same-begun true t = refl
same-begun false true = refl
same-begun false false = refl

same_ended : (b e t : Bool) → ((e || (b && not t)) || ((b || t) && not t)) ≡ (e || (b && not t))
same_ended b true t = refl
same_ended true false true = refl
same_ended true false false = refl
same_ended false false true = refl
same_ended false false false = refl

same-broken : (b e x t : Bool) → ((x || (e && t)) || ((e || (b && not t)) && t)) ≡ (x || (e && t))
same-broken b e true t = refl
same-broken b true false true = refl
same-broken true false false true = refl
same-broken false false false true = refl
same-broken b true false false = refl
same-broken true false false false = refl
same-broken false false false false = refl

by_bits : (b b' e e' x x' : Bool) (ts : List Bool) → b ≡ b' → e ≡ e' → x ≡ x' → broken_by b e x ts ≡ broken_by b' e' x' ts
by_bits b b' e e' x x' ts p q r = cc

-- f says t of 1 + m legs from k on, as far as they are among the 1 + n legs from there
run_on : (f : ℕ → Bool) (t b e x : Bool) (m n k : ℕ) → ((j : ℕ) → k ≤ j → j < k + suc m → j < k + suc n → f j ≡ t)
    → broken_by (b || t) (e || (b && not t)) (x || (e && t)) (map f (upto (suc n - suc m) (k + suc m))) ≡ broken_by b e x (map f (upto (suc n) k))
unfolding broken_by upto
run_on f t b e x zero n k same =
    let i : suc n - 1 ≡ n = omega arith in
    rw (same k (omega arith) (omega arith) (omega arith), i) refl
run_on f t b e x (suc m) zero k same =
    let i : suc zero - suc (suc m) ≡ zero = omega arith in
    rw (same k (omega arith) (omega arith) (omega arith), i) refl
run_on f t b e x (suc m) (suc n) k same =
    let i : suc (suc n) - suc (suc m) ≡ suc n - suc m = omega arith in
    let p : k + suc (suc m) ≡ k + 1 + suc m = omega arith in
    let r : List Bool = map f (upto (suc n - suc m) (k + 1 + suc m)) in
    rw (same k (omega arith) (omega arith) (omega arith), i, p)
    (sym (by_bits ((b || t) || t) (b || t) ((e || (b && not t)) || ((b || t) && not t)) (e || (b && not t)) ((x || (e && t)) || ((e || (b && not t)) && t)) (x || (e && t)) r (same-begun b t) (same_ended b e t) (same-broken b e x t))
    ∙ run_on f t (b || t) (e || (b && not t)) (x || (e && t)) m n (k + 1) (λ j a g h. same j (omega arith) (omega arith) (omega arith)))

-- ---- the one range that covers a leg

module _ {X : Type 0} (t p : X → Bool) where
  none-says : (xs : List X) → count_if t xs ≡ 0 → some_of (λ (x : X). t x && p x) xs ≡ false
  unfolding count_if some_of
  none-says [] h = refl
  none-says (x ∷ xs) h = go (t x) h (none-says xs)
    where
      go : (b : Bool) → cond b 1 0 + count_if t xs ≡ 0 → (count_if t xs ≡ 0 → some_of (λ (x : X). t x && p x) xs ≡ false) → ((b && p x) || some_of (λ (x : X). t x && p x) xs) ≡ false
      go true h ih = absurd (omega arith)
      go false h ih = ih (omega arith)

  -- one that is found by another test, and passes this one, counts
  found-counts : (q : X → Bool) (xs : List X) (y : X) → find q xs ≡ some y → t y ≡ true → 1 ≤ count_if t xs
  unfolding count_if find
  found-counts q [] y f k = apart (cc)
  found-counts q (x ∷ xs) y f k = go (q x) f (found-counts q xs y)
    where
      go : (b : Bool) → cond b (some x) (find q xs) ≡ some y → (find q xs ≡ some y → t y ≡ true → 1 ≤ count_if t xs) → 1 ≤ cond (t x) 1 0 + count_if t xs
      go true f ih = let e : x ≡ y = cc in rw (ap t e ∙ k) (omega arith)
      go false f ih = omega (arith, ih f k)

  -- where one passes the test, what it says is what some that passes says
  only-says : (q : X → Bool) (xs : List X) (y : X) → count_if t xs ≡ 1 → find q xs ≡ some y → t y ≡ true → some_of (λ (x : X). t x && p x) xs ≡ p y
  unfolding count_if some_of find
  only-says q [] y c f k = apart (cc)
  only-says q (x ∷ xs) y c f k = go (q x) f (only-says q xs y)
    where
      here : x ≡ y → ((t x && p x) || some_of (λ (x : X). t x && p x) xs) ≡ p y
      here e =
          let a : t x ≡ true = ap t e ∙ k in
          let z : count_if t xs ≡ 0 = omega (arith, (rw a at c)) in
          rw (a, none-says xs z) (sym (or-false (p x)) ∙ ap p e)

      there : (b : Bool) → t x ≡ b → find q xs ≡ some y → (count_if t xs ≡ 1 → find q xs ≡ some y → t y ≡ true → some_of (λ (x : X). t x && p x) xs ≡ p y) → ((b && p x) || some_of (λ (x : X). t x && p x) xs) ≡ p y
      there true a f ih = absurd (omega (arith, (rw a at c), found-counts q xs y f k))
      there false a f ih = ih (omega (arith, (rw a at c))) f k

      go : (b : Bool) → cond b (some x) (find q xs) ≡ some y → (count_if t xs ≡ 1 → find q xs ≡ some y → t y ≡ true → some_of (λ (x : X). t x && p x) xs ≡ p y) → ((t x && p x) || some_of (λ (x : X). t x && p x) xs) ≡ p y
      go true f ih = here (cc)
      go false f ih = there (t x) refl f ih

found-passes : {X : Type 0} (q : X → Bool) (xs : List X) (y : X) → find q xs ≡ some y → q y ≡ true
unfolding find
found-passes q [] y f = apart (cc)
found-passes q (x ∷ xs) y f = go (q x) refl f (found-passes q xs y)
  where
    go : (b : Bool) → q x ≡ b → cond b (some x) (find q xs) ≡ some y → (find q xs ≡ some y → q y ≡ true) → q y ≡ true
    go true a f ih = let e : x ≡ y = cc in sym (ap q e) ∙ a
    go false a f ih = ih f

none_found : {X : Type 0} (q : X → Bool) (xs : List X) → find q xs ≡ none → count_if q xs ≡ 0
unfolding find count_if
none_found q [] f = refl
none_found q (x ∷ xs) f = go (q x) f (none_found q xs)
  where
    go : (b : Bool) → cond b (some x) (find q xs) ≡ none → (find q xs ≡ none → count_if q xs ≡ 0) → cond b 1 0 + count_if q xs ≡ 0
    go true f ih = apart (cc)
    go false f ih = omega (arith, ih f)

-- ---- the days of a range, by its bit field

module _ (fields : List BitField) (b : ℕ) (r : List ℕ) where
  pub field-daily : b ≡ 0 → ((k : ℕ) → k < bit_count → bit r k ≡ true) → (d : ℕ) → d < most_period_days → bit r (d + 2) ≡ field_runs fields b d
  unfolding field_runs
  field-daily z f d h = rw (eq-eqb b 0 z) (f (d + 2) (omega arith))

  runs-found : (o : Option BitField) (d : ℕ) → d < most_period_days → runs_on (words_by o) d ≡ runs_by o d
  runs-found none d h = no-bit (d + 2) (omega arith)
  runs-found (some f) d h = refl

  pub field_found : (b ≡ 0 → ⊥) → r ≡ words_of b fields → (d : ℕ) → d < most_period_days → bit r (d + 2) ≡ field_runs fields b d
  unfolding field_runs
  field_found z e d h = rw (ne_eqb b 0 z, e) (runs-found (find (λ (f : BitField). eqb f.number b) fields) d h)

-- ---- the first of v ranges (bit field, from, to) in w that covers a leg; x is its place

module _ (w : List ℕ) (v leg : ℕ) (x : StdOption ℕ) (e : x ≡ cover_place_from leg day_size 0 v w) where
  first_found : find (λ (r : DayRange). covers leg r.legs) (rows_in day_at day_size v w) ≡ row_at day_at (λ (r : DayRange). r.legs) day_size (λ w. refl) w x
  first_found = first_row day_at (λ (r : DayRange). r.legs) day_size (λ w. refl) leg v w ∙ ap (row_at day_at (λ (r : DayRange). r.legs) day_size (λ w. refl) w) (sym e)

  module _ (p : ℕ) (q : x ≡ Some p) where
    abbrev row : DayRange
    row = day_at (drop p w)

    row-found : find (λ (r : DayRange). covers leg r.legs) (rows_in day_at day_size v w) ≡ some row
    row-found = first_found ∙ ap (row_at day_at (λ (r : DayRange). r.legs) day_size (λ w. refl) w) q

    row-covers : (leb row.legs.from leg ≡ true) × (ltb leg row.legs.to ≡ true)
    row-covers = and-true (leb row.legs.from leg) (ltb leg row.legs.to) (found-passes (λ (r : DayRange). covers leg r.legs) (rows_in day_at day_size v w) row row-found)

    pub row_room : v * day_size ≤ length w → p + day_size ≤ length w
    row_room h = omega (arith, place-fits leg day_size v p x w e q)

    -- it is read
    module _ (range : DayWords) (read : range ≡ day_read row) where
      row_field : row.field ≡ range.field
      row_field = sym (ap (λ (y : DayWords). y.field) read)

      row-to : row.legs.to ≡ range.to
      row-to = sym (ap (λ (y : DayWords). y.to) read)

      row-past : leg < range.to
      row-past = omega (arith, ltb-true leg row.legs.to row-covers.1, row-to)

      pub sweep-less : (legs : ℕ) → leg < legs → legs - range.to < legs - leg
      sweep-less legs h = omega (arith, row-past)

-- ---- all days at once

-- the ranges cover each leg once
covered : (w : List ℕ) (v legs : ℕ) → each_once (λ (r : DayRange). r.legs) legs (rows_in day_at day_size v w) ≡ true → (j : ℕ) → j < legs → count_if (λ (r : DayRange). covers j r.legs) (rows_in day_at day_size v w) ≡ 1
covered w v legs once j h =
    eqb-true (count_if (λ (r : DayRange). covers j r.legs) (rows_in day_at day_size v w)) 1
    (every-at (λ (k : ℕ). eqb (covering (λ (r : DayRange). r.legs) (rows_in day_at day_size v w) k) 1) legs 0 j once (omega arith) (omega arith))

module _ (fields : List BitField) (w : List ℕ) (v legs : ℕ) where
  abbrev rs : List DayRange
  rs = rows_in day_at day_size v w

  -- from the three sets the legs that are left say what all legs say
  pub record Swept (begun ended broken : List ℕ) (leg : ℕ) : Type 0 where
    pub each : (d : ℕ) → d < most_period_days → broken_by (runs_on begun d) (runs_on ended d) (runs_on broken d) (map (operated fields rs d) (upto (legs - leg) leg)) ≡ rows_broken fields legs rs d

  pub swept_none : (begun ended broken : List ℕ) → ((k : ℕ) → k < bit_count → bit begun k ≡ false) → ((k : ℕ) → k < bit_count → bit ended k ≡ false) → ((k : ℕ) → k < bit_count → bit broken k ≡ false) → Swept begun ended broken 0
  swept_none begun ended broken b e x = record {
    each = λ d h.
        let k : d + 2 < bit_count = omega arith in
        by_bits (runs_on begun d) false (runs_on ended d) false (runs_on broken d) false (map (operated fields rs d) (upto (legs - 0) 0)) (b (d + 2) k) (e (d + 2) k) (x (d + 2) k)
        ∙ ap (λ (m : ℕ). broken_by false false false (map (operated fields rs d) (upto m 0))) (sub-zero legs)
        ∙ two-stretches (map (operated fields rs d) (below legs));
  }

  module _ (leg : ℕ) (x : StdOption ℕ) (once : each_once (λ (r : DayRange). r.legs) legs (rows_in day_at day_size v w) ≡ true) (e : x ≡ cover_place_from leg day_size 0 v w) where
    -- each leg is covered
    pub sweep-covered : (broken : List ℕ) → leg < legs → x ≡ None → (d : ℕ) → d < most_period_days → bit broken (d + 2) ≡ rows_broken fields legs (rows_in day_at day_size v w) d
    sweep-covered broken h n d g =
        absurd (omega (arith, covered w v legs once leg h, none_found (λ (r : DayRange). covers leg r.legs) rs (first_found w v leg x e ∙ ap (row_at day_at (λ (r : DayRange). r.legs) day_size (λ w. refl) w) n)))

    module _ (p : ℕ) (q : x ≡ Some p) (range : DayWords) (read : range ≡ day_read (day_at (drop p w))) where
      past : leg < range.to
      past = row-past w v leg x e p q range read

      -- the legs from this one on, as far as the range reaches, run on the range's days
      row-runs : (d j : ℕ) → leg ≤ j → j < range.to → j < legs → operated fields rs d j ≡ field_runs fields range.field d
      row-runs d j a g h =
          let r : DayRange = day_at (drop p w) in
          let from : r.legs.from ≤ j = omega (arith, leb-true r.legs.from leg (row-covers w v leg x e p q).0) in
          let to : j < r.legs.to = omega (arith, row-to w v leg x e p q range read) in
          only-says (λ (r : DayRange). covers j r.legs) (λ (r : DayRange). field_runs fields r.field d) (λ (r : DayRange). covers leg r.legs) rs r (covered w v legs once j h) (row-found w v leg x e p q) (rw (le-leb r.legs.from j from, lt-ltb j r.legs.to to) refl)
          ∙ ap (λ (b : ℕ). field_runs fields b d) (row_field w v leg x e p q range read)

      -- `on` has the range's days; the others are what the code makes of it
      module _ (on again over : List ℕ) {begun ended broken begun' ended' broken' : List ℕ} where
        pub swept-next : leg < legs → ((d : ℕ) → d < most_period_days → bit on (d + 2) ≡ field_runs fields range.field d) →
            ((k : ℕ) → k < bit_count → bit again k ≡ (bit ended k && bit on k)) → ((k : ℕ) → k < bit_count → bit broken' k ≡ (bit broken k || bit again k)) →
            ((k : ℕ) → k < bit_count → bit over k ≡ (bit begun k && not (bit on k))) → ((k : ℕ) → k < bit_count → bit ended' k ≡ (bit ended k || bit over k)) →
            ((k : ℕ) → k < bit_count → bit begun' k ≡ (bit begun k || bit on k)) → Swept begun ended broken leg → Swept begun' ended' broken' range.to
        swept-next h o a t z u s i = record { each = day }
          where
            day : (d : ℕ) → d < most_period_days → broken_by (runs_on begun' d) (runs_on ended' d) (runs_on broken' d) (map (operated fields rs d) (upto (legs - range.to) range.to)) ≡ rows_broken fields legs rs d
            day d g =
                let k : d + 2 < bit_count = omega arith in
                let m : ℕ = range.to - leg - 1 in
                let n : ℕ = legs - leg - 1 in
                let r : Bool = field_runs fields range.field d in
                let to : range.to ≡ leg + suc m = omega (arith, past) in
                let left : legs - range.to ≡ suc n - suc m = omega (arith, past) in
                let all : suc n ≡ legs - leg = omega arith in
                by_bits (runs_on begun' d) (runs_on begun d || r) (runs_on ended' d) (runs_on ended d || (runs_on begun d && not r)) (runs_on broken' d) (runs_on broken d || (runs_on ended d && r)) (map (operated fields rs d) (upto (legs - range.to) range.to))
                (s (d + 2) k ∙ ap (λ (u : Bool). runs_on begun d || u) (o d g))
                (u (d + 2) k ∙ ap (λ (u : Bool). runs_on ended d || u) (z (d + 2) k ∙ ap (λ (u : Bool). runs_on begun d && not u) (o d g)))
                (t (d + 2) k ∙ ap (λ (u : Bool). runs_on broken d || u) (a (d + 2) k ∙ ap (λ (u : Bool). runs_on ended d && u) (o d g)))
                ∙ ap₂ (λ (i j : ℕ). broken_by (runs_on begun d || r) (runs_on ended d || (runs_on begun d && not r)) (runs_on broken d || (runs_on ended d && r)) (map (operated fields rs d) (upto i j))) left to
                ∙ run_on (operated fields rs d) r (runs_on begun d) (runs_on ended d) (runs_on broken d) m n leg (λ j a g h. row-runs d j a (omega (arith, past)) (omega arith))
                ∙ ap (λ (i : ℕ). broken_by (runs_on begun d) (runs_on ended d) (runs_on broken d) (map (operated fields rs d) (upto i leg))) all
                ∙ i.each d g

  pub swept-done : (leg : ℕ) (begun ended broken : List ℕ) → legs ≤ leg → Swept begun ended broken leg → (d : ℕ) → d < most_period_days → bit broken (d + 2) ≡ rows_broken fields legs (rows_in day_at day_size v w) d
  unfolding broken_by
  swept-done leg begun ended broken h i d g =
      ap (λ (l : List ℕ). broken_by (runs_on begun d) (runs_on ended d) (runs_on broken d) (map (operated fields rs d) l)) (sym (upto-none legs leg h)) ∙ i.each d g

-- ---- on some day

some_same : (f g : ℕ → Bool) (m n k : ℕ) → ((i : ℕ) → i < m → f i ≡ g i) → k + n ≤ m → some_of f (upto n k) ≡ some_of g (upto n k)
unfolding upto some_of
some_same f g m zero k e h = refl
some_same f g m (suc n) k e h = ap₂ (λ (a b : Bool). a || b) (e k (omega arith)) (some_same f g m n (k + 1) e (omega arith))

pub torn-by : (fields : List BitField) (rs : List DayRange) (r : List ℕ) (legs days : ℕ) (x : Bool) → days ≤ most_period_days → ((d : ℕ) → d < most_period_days → bit r (d + 2) ≡ rows_broken fields legs rs d) → x ≡ some_day days r → x ≡ rows_torn fields days legs rs
torn-by fields rs r legs days x h e q = q ∙ some_same (runs_on r) (rows_broken fields legs rs) days days 0 (λ d l. e d (omega arith)) (omega arith)

-- ---- one range: all legs run on its days, so none runs after one that did not

alike : (f : ℕ → Bool) (t : Bool) (n : ℕ) → ((j : ℕ) → j < n → f j ≡ t) → broken_by false false false (map f (below n)) ≡ false
unfolding broken_by upto
alike f t zero e = refl
alike f t (suc n) e =
    let none_left : suc n - suc n ≡ 0 = omega arith in
    sym (run_on f t false false false n n 0 (λ j a g h. e j (omega arith))) ∙ ap (λ (i : ℕ). broken_by (false || t) (false || (false && not t)) (false || (false && t)) (map f (upto i (0 + suc n)))) none_left

only-range : (fields : List BitField) (x : DayRange) (d j : ℕ) → covers j x.legs ≡ true → operated fields (x ∷ []) d j ≡ field_runs fields x.field d
unfolding some_of
only-range fields x d j e = rw e (sym (or-false (field_runs fields x.field d)))

none-torn : (f : ℕ → Bool) (n k : ℕ) → ((i : ℕ) → f i ≡ false) → some_of f (upto n k) ≡ false
unfolding upto some_of
none-torn f zero k e = refl
none-torn f (suc n) k e = rw (e k) (none-torn f n (k + 1) e)

module _ (fields : List BitField) (w : List ℕ) (v legs days : ℕ) (y : v ≡ 1) (once : each_once (λ (r : DayRange). r.legs) legs (rows_in day_at day_size v w) ≡ true) where
  covers-all : (j : ℕ) → j < legs → covers j (day_at w).legs ≡ true
  unfolding rows_in count_if
  covers-all j h = go (covers j (day_at w).legs) (ap (λ (n : ℕ). count_if (λ (r : DayRange). covers j r.legs) (rows_in day_at day_size n w)) (sym y) ∙ covered w v legs once j h)
    where
      go : (b : Bool) → cond b 1 0 + 0 ≡ 1 → b ≡ true
      go true e = refl
      go false e = absurd (omega (arith, e))

  one_range : (d : ℕ) → rows_broken fields legs (rows_in day_at day_size 1 w) d ≡ false
  unfolding rows_in
  one_range d =
      sym (two-stretches (map (operated fields (day_at w ∷ []) d) (below legs)))
      ∙ alike (operated fields (day_at w ∷ []) d) (field_runs fields (day_at w).field d) legs (λ j h. only-range fields (day_at w) d j (covers-all j h))

  pub never-torn : false ≡ rows_torn fields days legs (rows_in day_at day_size v w)
  never-torn = sym (none-torn (rows_broken fields legs (rows_in day_at day_size v w)) days 0 (λ d. ap (λ (n : ℕ). rows_broken fields legs (rows_in day_at day_size n w) d) y ∙ one_range d))

pub ruleset sweeps = (tests, never-torn, field-daily, field_found, swept_none, sweep-covered, row_room, sweep-less, swept-done, torn-by)
