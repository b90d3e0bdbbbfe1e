-- Places of calls on a route: what a turn of each search does, and what a range's end comes to. Assumes nothing.
use mathlib.Core.Path.{◌≡◌, refl, sym, ap, ◌∙◌}
use mathlib.Core.List.{List, [], ◌∷◌, ◌++◌, append-nil}
use mathlib.Core.Bool.{Bool, true, false, cond, ◌&&◌}
use mathlib.Core.Option.{Option as Maybe, some}
use Rattle.std.specs.Prelude.{Some, None}
use Prim.Native.Nat.{ℕ, zero, suc, ◌+◌, ◌-◌, ◌*◌, ◌/◌, ◌%◌, ◌<◌, ◌≤◌}
use native.Mathlib.Nat.{add-zero, sub-zero, zero-add, mul_comm}
use native.Mathlib.Omega.{arith}
use lib.ListN.{length, get_elem?, drop}
use lib.Dec.{eqb}
use borrow.Author.Tests.{eq-eqb, ne_eqb}
use Rattle.base.proofs.Laws.{tests}
use Rattle.fields.specs.declared.RouteIndex.{RouteIndex}
use Rattle.fields.specs.declared.StopNumber.{StopNumber}
use Rattle.timetable.specs.Ranges.{places, first_place, last_place, calls_at}
use Rattle.timetable.specs.Table.{rows_in}
use Rattle.timetable.specs.declared.Call.{Call}
use Rattle.draft.specs.Inner.Draft.{draft_call, call_back, calls_in}
use Rattle.route.specs.Inner.Route.{meets, route_place}
use Rattle.route.specs.declared.Sought.{Sought}
use Rattle.route.specs.declared.Sought.TheVariants.{Calling, Departing, Arriving}
use Rattle.timetable.proofs.Rows.{rows-turn, rows_none, rows_last, length-rows}

-- ---- places

pub places-append : (t : Call → Bool) (k : ℕ) (a b : List Call) → places t k (a ++ b) ≡ places t k a ++ places t (k + length a) b
unfolding places
places-append t k [] b = rw add-zero refl
places-append t k (c ∷ a) b =
    let e : k + 1 + length a ≡ k + suc (length a) = omega arith in
    let r : places t (k + 1) (a ++ b) ≡ places t (k + 1) a ++ places t (k + suc (length a)) b = places-append t (k + 1) a b ∙ ap (λ (i : ℕ). places t (k + 1) a ++ places t i b) e in
    go (t c) (places t (k + 1) (a ++ b)) (places t (k + 1) a) (places t (k + suc (length a)) b) r
  where
    go : (x : Bool) (p q s : List ℕ) → p ≡ q ++ s → cond x (k ∷ p) p ≡ cond x (k ∷ q) q ++ s
    go true p q s r = ap (λ (l : List ℕ). k ∷ l) r
    go false p q s r = r

pub last-append : (ks : List ℕ) (k : ℕ) → last_place (ks ++ (k ∷ [])) ≡ some k
unfolding last_place
last-append [] k = refl
last-append (j ∷ []) k = refl
last-append (j ∷ i ∷ ks) k = last-append (i ∷ ks) k

-- the elements before the one sought are counted down: x stands at the front where b says so
module _ (b : Bool) (x : ℕ) (xs : List ℕ) (here : ℕ) (e : here ≡ cond b 1 0) where
  pub nth-front : (before : ℕ) → before < here → get_elem? (cond b (x ∷ xs) xs) before ≡ some x
  nth-front before l = go b before e l
    where
      go : (b : Bool) (before : ℕ) → here ≡ cond b 1 0 → before < here → get_elem? (cond b (x ∷ xs) xs) before ≡ some x
      go true zero e l = refl
      go true (suc k) e l = absurd (omega (arith, e))
      go false k e l = absurd (omega (arith, e))

  pub nth-behind : (before : ℕ) → here ≤ before → get_elem? (cond b (x ∷ xs) xs) before ≡ get_elem? xs (before - here)
  nth-behind before l = go b before e l
    where
      go : (b : Bool) (before : ℕ) → here ≡ cond b 1 0 → here ≤ before → get_elem? (cond b (x ∷ xs) xs) before ≡ get_elem? xs (before - here)
      go true zero e l = absurd (omega (arith, e))
      go true (suc k) e l =
          let d : suc k - here ≡ k = omega (arith, e) in
          rw d refl
      go false k e l =
          let d : k - here ≡ k = omega (arith, e) in
          rw d refl

-- ---- a call at stop x against stop n, for `search stops`: b says whether they are the same

module _ (x n : ℕ) (b : Bool) (e : b ≡ eqb x n) where
  pub one-appearance : b ≡ true → ◌≡◌ {A = ℕ} 1 (cond (eqb x n) 1 0)
  one-appearance h = rw (← e, h) refl

  pub no-appearance : b ≡ false → ◌≡◌ {A = ℕ} 0 (cond (eqb x n) 1 0)
  no-appearance h = rw (← e, h) refl

  module _ (stated time m : ℕ) where
    pub timed-stated : b ≡ true → stated % 2 ≡ 1 → eqb time m ≡ (eqb x n && (eqb (stated % 2) 1 && eqb time m))
    timed-stated h k = rw (← e, h, eq-eqb (stated % 2) 1 k) refl

    pub timed-not : b ≡ true → (stated % 2 ≡ 1 → ⊥) → false ≡ (eqb x n && (eqb (stated % 2) 1 && eqb time m))
    timed-not h k = rw (← e, h, ne_eqb (stated % 2) 1 k) refl

    pub timed-elsewhere : b ≡ false → false ≡ (eqb x n && (eqb (stated % 2) 1 && eqb time m))
    timed-elsewhere h = rw (← e, h) refl

pub ruleset stops = (tests, one-appearance, no-appearance, timed-stated, timed-not, timed-elsewhere)

-- ---- the call whose words start at a place

-- what is sought, for `search sought`
module _ (s : Sought) (call : Call) (n : StopNumber) (b : Bool) where
  pub sought-calling : s ≡ Calling n → b ≡ eqb call.stop n.0 → b ≡ meets s call
  sought-calling e d = rw e d

  pub sought-departing : (m : ℕ) → s ≡ Departing n m → b ≡ (eqb call.stop n.0 && (eqb (call.flags / 2 % 2) 1 && eqb call.departure m)) → b ≡ meets s call
  sought-departing m e d = rw e d

  pub sought-arriving : (m : ℕ) → s ≡ Arriving n m → b ≡ (eqb call.stop n.0 && (eqb (call.flags % 2) 1 && eqb call.arrival m)) → b ≡ meets s call
  sought-arriving m e d = rw e d

pub sought-at : (s : Sought) (w : List ℕ) (at : ℕ) (call : Call) (b : Bool) → call ≡ (call_back (drop at w)).1 → b ≡ meets s call → b ≡ meets s (call_back (drop at w)).1
sought-at s w at call b e d = d ∙ ap (meets s) e

pub ruleset sought = (tests, sought-calling, sought-departing, sought-arriving, sought-at)

-- the call at the front of some words of the draft
abbrev call_of : List ℕ → Call
call_of u = (call_back u).1

pub length-calls : (c : ℕ) (w : List ℕ) → length (calls_in c w) ≡ c
length-calls c w = length-rows call_of draft_call c w

-- the places from call i on
abbrev pub places_from : (Call → Bool) → List ℕ → ℕ → ℕ → List ℕ
places_from t w c i = places t i (rows_in call_of draft_call (c - i) (drop (draft_call * i) w))

module _ (t : Call → Bool) (w : List ℕ) (c i : ℕ) where
  pub places-turn : (at : ℕ) (b : Bool) → i < c → at ≡ draft_call * i → b ≡ t (call_back (drop at w)).1
      → places_from t w c i ≡ cond b (i ∷ places_from t w c (i + 1)) (places_from t w c (i + 1))
  unfolding places
  places-turn at b h p e =
      let q : draft_call * i + draft_call ≡ draft_call * (i + 1) = omega arith in
      let g : b ≡ t (call_back (drop (draft_call * i) w)).1 = e ∙ ap (λ (k : ℕ). t (call_back (drop k w)).1) p in
      rw (rows-turn call_of draft_call c i (draft_call * i) w h, ← g, q) refl

  pub places-none : c ≤ i → places_from t w c i ≡ []
  unfolding places
  places-none h = rw (rows_none call_of draft_call c i (drop (draft_call * i) w) h) refl

pub places-all : (t : Call → Bool) (w : List ℕ) (c : ℕ) → places_from t w c 0 ≡ places t 0 (calls_in c w)
places-all t w c = rw (sub-zero c) refl

-- the words of a call of the route lie in w
pub call_inside : (w : List ℕ) (c i at : ℕ) → draft_call * c ≤ length w → i < c → at ≡ draft_call * i → at + draft_call ≤ length w
call_inside w c i at l h p = omega arith

-- of n + 1 calls the last one
pub places-last : (t : Call → Bool) (w : List ℕ) (n at : ℕ) (b : Bool) → at ≡ draft_call * n → b ≡ t (call_back (drop at w)).1
    → last_place (places t 0 (calls_in (n + 1) w)) ≡ cond b (some n) (last_place (places t 0 (calls_in n w)))
unfolding places
places-last t w n at b p e =
    let last : t (call_back (drop (draft_call * n) w)).1 ≡ b = ap (λ (k : ℕ). t (call_back (drop k w)).1) (sym p) ∙ sym e in
    rw (rows_last call_of draft_call n w, mul_comm n draft_call, places-append t 0 (calls_in n w), length-calls n w, zero-add n, last) (go b)
  where
    go : (b : Bool) → last_place (places t 0 (calls_in n w) ++ cond b (n ∷ []) []) ≡ cond b (some n) (last_place (places t 0 (calls_in n w)))
    go true = last-append (places t 0 (calls_in n w)) n
    go false = ap last_place (append-nil (places t 0 (calls_in n w)))

-- ---- the needs of the searches; b says whether the call at hand is sought

-- no call passed is sought: the places from the call at hand on are all places, ks
module _ (t : Call → Bool) (w : List ℕ) (c i : ℕ) (ks : List ℕ) (v : places_from t w c i ≡ ks) where
  pub first-again : (at : ℕ) (b : Bool) → i < c → at ≡ draft_call * i → b ≡ t (call_back (drop at w)).1 → b ≡ false → places_from t w c (i + 1) ≡ ks
  first-again at b h p e f = sym (places-turn t w c i at false h p (sym f ∙ e)) ∙ v

  pub first_out : (at : ℕ) (b : Bool) → i < c → at ≡ draft_call * i → b ≡ t (call_back (drop at w)).1 → b ≡ true → Some (record { 0 = i }) ≡ route_place (first_place ks)
  first_out at b h p e f = ap (λ (l : List ℕ). route_place (first_place l)) (sym (places-turn t w c i at true h p (sym f ∙ e)) ∙ v)

  pub first_done : c ≤ i → None ≡ route_place (first_place ks)
  first_done h = ap (λ (l : List ℕ). route_place (first_place l)) (sym (places-none t w c i h) ∙ v)

pub ruleset firsts = (tests, places-all, call_inside, first-again, first_out, first_done)

-- the last place among the first n + 1 calls is o, the last of all
module _ (t : Call → Bool) (w : List ℕ) (n : ℕ) (o : Maybe ℕ) where
  back : (at : ℕ) (b : Bool) → last_place (places t 0 (calls_in (n + 1) w)) ≡ o → at ≡ draft_call * n → b ≡ t (call_back (drop at w)).1
      → cond b (some n) (last_place (places t 0 (calls_in n w))) ≡ o
  back at b v p e = sym (places-last t w n at b p e) ∙ v

  pub last-again : (at : ℕ) (b : Bool) → last_place (places t 0 (calls_in (n + 1) w)) ≡ o → at ≡ draft_call * n → b ≡ t (call_back (drop at w)).1
      → b ≡ false → last_place (places t 0 (calls_in n w)) ≡ o
  last-again at b v p e f = back at false v p (sym f ∙ e)

  pub last_out : (at : ℕ) (b : Bool) → last_place (places t 0 (calls_in (n + 1) w)) ≡ o → at ≡ draft_call * n → b ≡ t (call_back (drop at w)).1
      → b ≡ true → Some (record { 0 = n }) ≡ route_place o
  last_out at b v p e f = ap route_place (back at true v p (sym f ∙ e))

pub last_done : (t : Call → Bool) (w : List ℕ) (i : ℕ) (o : Maybe ℕ) → i ≤ 0 → last_place (places t 0 (calls_in i w)) ≡ o → None ≡ route_place o
unfolding rows_in places last_place
last_done t w zero o h v = ap route_place v
last_done t w (suc i) o h v = absurd (omega arith)

pub ruleset lasts = (tests, call_inside, last-again, last_out, last_done)

-- of the places from the call at hand on the one behind `before` others is o
module _ (n : StopNumber) (w : List ℕ) (c i before : ℕ) (o : Maybe ℕ) (v : get_elem? (places_from (calls_at n) w c i) before ≡ o) where
  abbrev rest : List ℕ
  rest = places_from (calls_at n) w c (i + 1)

  module _ (at : ℕ) (call : Call) (here : ℕ) (h : i < c) (p : at ≡ draft_call * i) (d : call ≡ (call_back (drop at w)).1) (e : here ≡ cond (eqb call.stop n.0) 1 0) where
    turn : get_elem? (cond (calls_at n call) (i ∷ rest) rest) before ≡ o
    turn = ap (λ (l : List ℕ). get_elem? l before) (sym (places-turn (calls_at n) w c i at (calls_at n call) h p (ap (calls_at n) d))) ∙ v

    pub nth-again : here ≤ before → get_elem? (places_from (calls_at n) w c (i + 1)) (before - here) ≡ o
    nth-again l = sym (nth-behind (calls_at n call) i rest here e before l) ∙ turn

    pub nth-out : before < here → Some (record { 0 = i }) ≡ route_place o
    nth-out l = ap route_place (sym (nth-front (calls_at n call) i rest here e before l) ∙ turn)

  pub nth-done : c ≤ i → None ≡ route_place o
  nth-done h = ap route_place (ap (λ (l : List ℕ). get_elem? l before) (sym (places-none (calls_at n) w c i h)) ∙ v)

pub nth-start : (n : StopNumber) (k : ℕ) (w : List ℕ) (c : ℕ) → get_elem? (places_from (calls_at n) w c 0) k ≡ get_elem? (places (calls_at n) 0 (calls_in c w)) k
nth-start n k w c = ap (λ (l : List ℕ). get_elem? l k) (places-all (calls_at n) w c)

pub ruleset nths = (tests, nth-start, call_inside, nth-again, nth-out, nth-done)
