-- Document 02, No. 10: calls that point at stops. A place that was looked up is below S and gives its number back; the number at a place is one of the
-- table's stops; the words of a delivery are the old table's words of the same delivery with its calls pointing; a table is an old one of which each call
-- points at a stop (`table-by-places`), and is read back as the old one, resolved. Assumes nothing.
use mathlib.Core.Path.{◌≡◌, refl, sym, ap}
use mathlib.Core.List.{List, [], ◌∷◌, map}
use mathlib.Core.Bool.{Bool, true, false, cond, ◌&&◌, ◌||◌}
use Prim.Native.Nat.{ℕ, zero, suc, ◌+◌, ◌-◌, ◌≤◌, ◌<◌}
use native.Mathlib.Omega.{arith}
use lib.ListN.{length, drop, get_elem?, length-map}
use lib.Dec.{ltb, leb, eqb}
use borrow.Author.Tests.{lt-ltb, ltb-true, eqb-true, eq-eqb}
use Rattle.base.specs.Lists.{All, nil, cons, every, some_of}
use Rattle.base.proofs.Laws.{clash}
use Rattle.base.proofs.Loops.{and-true}
use Rattle.timetable.specs.Layout.{header_size}
use Rattle.timetable.specs.Delivery.{StopRecord, CategoryRange, DayRange, ExtraRange, Service, Delivery}
use Rattle.timetable.specs.Files.{has_stop}
use Rattle.timetable.specs.Runs.{opening_sound}
use Rattle.timetable.specs.Table.{stop_place_from, stop_place, number_by, stop_number_at, with_stop, pointing, resolved, table_words}
use Rattle.timetable.specs.Table.{word_count_in, used_words, first_day, period_days, bit_fields#, stops#, interchanges#, services#, services_place, classes#, used, service_at, services_in, stops_at, table_of}
use Rattle.timetable.specs.Table.{legs_sound, sizes_sound, service_sound, record_sound, records_sound, head_sound, class_sound, is_table}
use Rattle.timetable.specs.declared.Call.{Call}
use Rattle.whole_runs.specs.OldTable.{old_table_words, old_table_of, old_call_sound, old_service_sound, old_record_sound, old_records_sound, old_is_table, points_below}
use Rattle.whole_runs.proofs.Lists.{or-second}

-- ---- a place

place-from : (k n : ℕ) (stops : List StopRecord) → has_stop n stops ≡ true → (k ≤ stop_place_from k n stops) × (stop_place_from k n stops < k + length stops)
unfolding stop_place_from some_of
place-from k n [] e = clash e
place-from k n (s ∷ stops) e = go (eqb s.number n) e (place-from (k + 1) n stops)
  where
    go : (t : Bool) → t || has_stop n stops ≡ true
        → (has_stop n stops ≡ true → (k + 1 ≤ stop_place_from (k + 1) n stops) × (stop_place_from (k + 1) n stops < k + 1 + length stops))
        → (k ≤ cond t k (stop_place_from (k + 1) n stops)) × (cond t k (stop_place_from (k + 1) n stops) < k + length (s ∷ stops))
    go true e more = (omega arith, omega arith)
    go false e more = let a = more e in (omega (arith, a.0), omega (arith, a.1))

number-from : (k n : ℕ) (stops : List StopRecord) → has_stop n stops ≡ true → number_by (get_elem? stops (stop_place_from k n stops - k)) ≡ n
unfolding stop_place_from some_of
number-from k n [] e = clash e
number-from k n (s ∷ stops) e = go (eqb s.number n) refl e (number-from (k + 1) n stops)
  where
    go : (t : Bool) → eqb s.number n ≡ t → t || has_stop n stops ≡ true
        → (has_stop n stops ≡ true → number_by (get_elem? stops (stop_place_from (k + 1) n stops - (k + 1))) ≡ n)
        → number_by (get_elem? (s ∷ stops) (cond t k (stop_place_from (k + 1) n stops) - k)) ≡ n
    go true q e more = let z : k - k ≡ 0 = omega arith in rw z (eqb-true s.number n q)
    go false q e more =
        let l = (place-from (k + 1) n stops e).0 in
        let z : stop_place_from (k + 1) n stops - k ≡ suc (stop_place_from (k + 1) n stops - (k + 1)) = omega (arith, l) in
        rw z (more e)

module _ (n : ℕ) (stops : List StopRecord) (known : has_stop n stops ≡ true) where
  pub place-below : stop_place n stops < length stops
  place-below = omega (arith, (place-from 0 n stops known).1)

  pub place-back : stop_number_at stops (stop_place n stops) ≡ n
  unfolding stop_number_at
  place-back = let z : stop_place_from 0 n stops - 0 ≡ stop_place_from 0 n stops = omega arith in rw z at (number-from 0 n stops known)

-- the number at a place below S is that of a stop
pub number-found : (stops : List StopRecord) (k : ℕ) → k < length stops → has_stop (stop_number_at stops k) stops ≡ true
unfolding stop_number_at some_of
number-found [] k l = absurd (omega arith)
number-found (s ∷ stops) zero l = rw (eq-eqb s.number s.number refl)
number-found (s ∷ stops) (suc k) l = or-second (eqb s.number (stop_number_at stops k)) (has_stop (stop_number_at stops k) stops) (number-found stops k (omega arith))

-- ---- a service, and all of them

-- each call's stop is among the stops
abbrev pub StopsKnown : List StopRecord → Service → Type 0
StopsKnown stops s = All (λ (c : Call). has_stop c.stop stops ≡ true) s.calls

module _ (stops : List StopRecord) where
  calls_back : (cs : List Call) → All (λ (c : Call). has_stop c.stop stops ≡ true) cs → map (with_stop (stop_number_at stops)) (map (with_stop (λ (n : ℕ). stop_place n stops)) cs) ≡ cs
  calls_back [] nil = refl
  calls_back (c ∷ cs) (cons h t) = λ i. record { stop = place-back c.stop stops h i; arrival = c.arrival; departure = c.departure; flags = c.flags; number = c.number; high = c.high; low = c.low } ∷ calls_back cs t i

  pub service-back : (s : Service) → StopsKnown stops s → resolved stops (pointing stops s) ≡ s
  unfolding resolved pointing
  service-back s h = λ i. record { line = s.line; opening = s.opening; calls = calls_back s.calls h i; categories = s.categories; days = s.days; extras = s.extras }

  pub services-back : (ss : List Service) → All (StopsKnown stops) ss → map (resolved stops) (map (pointing stops) ss) ≡ ss
  services-back [] nil = refl
  services-back (s ∷ ss) (cons h t) = λ i. service-back s h i ∷ services-back ss t i

  calls-sound : (cs : List Call) → every old_call_sound (map (with_stop (λ (n : ℕ). stop_place n stops)) cs) ≡ every old_call_sound cs
  unfolding every
  calls-sound [] = refl
  calls-sound (c ∷ cs) = ap (λ (b : Bool). old_call_sound c && b) (calls-sound cs)

  -- all but the places is as sound as before
  pub pointing-sound : (s : Service) → old_service_sound (pointing stops s) ≡ old_service_sound s
  unfolding pointing
  pointing-sound s =
      let n = length-map s.calls (with_stop (λ (n : ℕ). stop_place n stops)) in
      λ i. opening_sound s.opening
      && (calls-sound s.calls i
      && (every (λ (r : CategoryRange). legs_sound false (n i) r.legs) s.categories
      && (every (λ (r : DayRange). legs_sound false (n i) r.legs) s.days
      && every (λ (r : ExtraRange). legs_sound true (n i) r.legs) s.extras)))

  calls-below : (cs : List Call) → All (λ (c : Call). has_stop c.stop stops ≡ true) cs → every (λ (c : Call). ltb c.stop (length stops)) (map (with_stop (λ (n : ℕ). stop_place n stops)) cs) ≡ true
  unfolding every
  calls-below [] nil = refl
  calls-below (c ∷ cs) (cons h t) = rw (lt-ltb (stop_place c.stop stops) (length stops) (place-below c.stop stops h), calls-below cs t)

  pub services-below : (ss : List Service) → All (StopsKnown stops) ss → every (points_below (length stops)) (map (pointing stops) ss) ≡ true
  unfolding every pointing
  services-below [] nil = refl
  services-below (s ∷ ss) (cons h t) = rw (calls-below s.calls h, services-below ss t)

  calls_found : (cs : List Call) → every (λ (c : Call). ltb c.stop (length stops)) cs ≡ true → All (λ (c : Call). has_stop c.stop stops ≡ true) (map (with_stop (stop_number_at stops)) cs)
  unfolding every
  calls_found [] e = nil
  calls_found (c ∷ cs) e =
      let a = and-true (ltb c.stop (length stops)) (every (λ (c : Call). ltb c.stop (length stops)) cs) e in
      cons (number-found stops c.stop (ltb-true c.stop (length stops) a.0)) (calls_found cs a.1)

  -- what is resolved is known
  pub services-found : (ss : List Service) → every (points_below (length stops)) ss ≡ true → All (StopsKnown stops) (map (resolved stops) ss)
  unfolding every resolved
  services-found [] e = nil
  services-found (s ∷ ss) e =
      let a = and-true (points_below (length stops) s) (every (points_below (length stops)) ss) e in
      cons (calls_found s.calls a.0) (services-found ss a.1)

-- ---- the words

-- a delivery with its calls pointing, and one with its calls resolved
unfoldable pub pointed : Delivery → Delivery
pointed d = record { period = d.period; fields = d.fields; stops = d.stops; interchanges = d.interchanges; classes = d.classes; services = map (pointing d.stops) d.services }

unfoldable pub resolved_all : Delivery → Delivery
resolved_all d = record { period = d.period; fields = d.fields; stops = d.stops; interchanges = d.interchanges; classes = d.classes; services = map (resolved d.stops) d.services }

pub pointed-back : (d : Delivery) → All (StopsKnown d.stops) d.services → resolved_all (pointed d) ≡ d
unfolding pointed resolved_all
pointed-back d h = λ i. record { period = d.period; fields = d.fields; stops = d.stops; interchanges = d.interchanges; classes = d.classes; services = services-back d.stops d.services h i }

pub words-pointed : (d : Delivery) → table_words d ≡ old_table_words (pointed d)
unfolding table_words old_table_words pointed
words-pointed d = rw (length-map d.services (pointing d.stops))

pub read-resolved : (w : List ℕ) → table_of w ≡ resolved_all (old_table_of w)
unfolding table_of stops_at old_table_of resolved_all
read-resolved w = refl

-- ---- "21 additionally refuses a place not below S"

and-all : (a : Bool) → a && true ≡ a
and-all true = refl
and-all false = refl

and_assoc : (a b c : Bool) → a && b && c ≡ a && (b && c)
and_assoc true b c = refl
and_assoc false b c = refl

exchange : (a b c d : Bool) → a && b && (c && d) ≡ a && c && (b && d)
exchange false b c d = refl
exchange true false false d = refl
exchange true false true d = refl
exchange true true c d = refl

last_out : (a b c d e : Bool) → a && (b && (c && (d && e))) ≡ a && (b && (c && d)) && e
last_out false b c d e = refl
last_out true false c d e = refl
last_out true true false d e = refl
last_out true true true d e = refl

to_last : (a b c d : Bool) → a && (b && c && d) ≡ a && (c && d) && b
to_last false b c d = refl
to_last true true true true = refl
to_last true true true false = refl
to_last true true false d = refl
to_last true false true true = refl
to_last true false true false = refl
to_last true false false d = refl

both-all : {X : Type 0} (p q : X → Bool) (xs : List X) → every (λ x. p x && q x) xs ≡ every p xs && every q xs
unfolding every
both-all p q [] = refl
both-all p q (x ∷ xs) = rw (both-all p q xs) (exchange (p x) (q x) (every p xs) (every q xs))

service-places : (n : ℕ) (s : Service) → service_sound n s ≡ old_service_sound s && points_below n s
service-places n s = rw (both-all (λ (c : Call). ltb c.stop n) old_call_sound s.calls) (to_last (opening_sound s.opening) (points_below n s) (every old_call_sound s.calls) _)

record-places : (n : ℕ) (w : List ℕ) → record_sound n w ≡ old_record_sound w && points_below n (service_at w)
unfolding record_sound old_record_sound
record-places n w = rw (service-places n (service_at w)) (sym (and_assoc (sizes_sound w) (old_service_sound (service_at w)) (points_below n (service_at w))))

records-places : (n v : ℕ) (w : List ℕ) → records_sound n v w ≡ old_records_sound v w && every (points_below n) (services_in v w)
unfolding records_sound old_records_sound services_in every
records-places n zero w = sym (and-all (eqb (length w) 0))
records-places n (suc v) w =
    rw (record-places n w, records-places n v (drop (word_count_in w) w))
    (exchange (old_record_sound w) (points_below n (service_at w)) (old_records_sound v (drop (word_count_in w) w)) (every (points_below n) (services_in v (drop (word_count_in w) w))))

pub table-by-places : (w : List ℕ) → is_table w ≡ old_is_table w && every (points_below (stops# w)) (old_table_of w).services
unfolding is_table old_is_table table_of old_table_of
table-by-places w =
    rw (records-places (stops# w) (services# w) (drop (services_place w) (used w)))
    (last_out (leb header_size (length w)) (head_sound (length w) (used_words w) (first_day w) (period_days w) (bit_fields# w) (stops# w) (interchanges# w) (services_place w) (classes# w)) (every class_sound (old_table_of w).classes) (old_records_sound (services# w) (drop (services_place w) (used w))) (every (points_below (stops# w)) (services_in (services# w) (drop (services_place w) (used w)))))
