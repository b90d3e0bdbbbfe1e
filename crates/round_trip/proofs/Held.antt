-- 44's tests say what the lines can hold, both ways: `held-writable`, and for a service of a table `writable-held`. Assumes nothing.
use mathlib.Core.Path.{◌≡◌, refl, ap, sym, ◌∙◌}
use mathlib.Core.List.{List, [], ◌∷◌, ◌++◌, map}
use mathlib.Core.Logic.{◌⊎◌, inl, inr}
use mathlib.Core.Bool.{Bool, true, false, cond, not, ◌&&◌, ◌||◌}
use Prim.Native.Nat.{ℕ, zero, suc, ◌+◌, ◌/◌, ◌%◌, ◌≤◌, ◌<◌}
use native.Mathlib.Omega.{arith}
use lib.ListN.{length, drop, length-map}
use lib.Dec.{ltb, leb, eqb}
use borrow.Author.Tests.{ltb-true, leb-true, eqb-true, eqb-false, lt-ltb, le-leb, eq-eqb, ne_eqb}
use Rattle.base.specs.Lists.{All, nil, cons, every}
use Rattle.base.proofs.Laws.{clash}
use Rattle.base.proofs.Loops.{and-true}
use Rattle.columns.specs.Columns.{is_blank}
use Rattle.timetable.specs.Delivery.{StopRecord, Legs, CategoryRange, DayRange, Service}
use Rattle.timetable.specs.Layout.{service_head, call_size, most_calls, kind_z, kind_t, most_repeats, most_running}
use Rattle.timetable.specs.Plan.{VE}
use Rattle.timetable.specs.Ranges.{has_arrival}
use Rattle.timetable.specs.Runs.{opening_sound}
use Rattle.timetable.specs.Table.{call_at, word_count_in, calls#, service_at, services_in, stops#, services#, services_place, used, stops_at, table_of, with_stop, stop_number_at, resolved, call_sound, legs_sound, service_sound, sizes_sound, record_sound, records_sound, is_table}
use Rattle.timetable.specs.declared.Opening.{Opening}
use Rattle.timetable.specs.declared.Call.{Call}
use Rattle.timetable.proofs.Rows.{length-rows}
use Rattle.table.proofs.Says.{sizes-say, call-says, table-records}
use Rattle.line_text.specs.Text.{two_of, three_of}
use Rattle.line_text.specs.Laid.{not_lf}
use Rattle.line_text.proofs.Numbers.{every_append}
use Rattle.plan_text.specs.PlanText.{filled, no_alighting, AdministrationHeld, OpeningHeld, FrequencyHeld, LegsHeld, CategoryHeld, AttributeHeld, CallHeld}
use Rattle.plan_services.specs.Services.{CategoryOn, DaysOn, ExtraOn, ServiceHeld}
use Rattle.plan_accepted.proofs.Written.{found-on, found-held}
use Rattle.plan_writing.specs.Writing.{table_writable}
use Rattle.writable.specs.Writable.{half_writable, administration_writable, opening_writable, name_writable, category_writable, field_writable, days_writable, code_writable, extra_writable, time_writable, call_writable, service_writable}

-- ---- tests of lists

both : (a b : Bool) → a ≡ true → b ≡ true → (a && b) ≡ true
both a b p q = rw (p, q)

every-join : (t : ℕ → Bool) (a b : List ℕ) → every t a ≡ true → every t b ≡ true → every t (a ++ b) ≡ true
every-join t a b p q = every_append t a b ∙ both (every t a) (every t b) p q

every-parts : (t : ℕ → Bool) (a b : List ℕ) → every t (a ++ b) ≡ true → (every t a ≡ true) × (every t b ≡ true)
every-parts t a b p = and-true (every t a) (every t b) (sym (every_append t a b) ∙ p)

every-both : (t u : ℕ → Bool) (a : List ℕ) → every t a ≡ true → every u a ≡ true → every (λ (b : ℕ). t b && u b) a ≡ true
unfolding every
every-both t u [] p q = refl
every-both t u (x ∷ a) p q =
    let r = and-true (t x) (every t a) p in
    let s = and-true (u x) (every u a) q in
    both (t x && u x) _ (both (t x) (u x) r.0 s.0) (every-both t u a r.1 s.1)

every-each : (t u : ℕ → Bool) (a : List ℕ) → every (λ (b : ℕ). t b && u b) a ≡ true → (every t a ≡ true) × (every u a ≡ true)
unfolding every
every-each t u [] p = (refl, refl)
every-each t u (x ∷ a) p =
    let r = and-true (t x && u x) _ p in
    let s = and-true (t x) (u x) r.0 in
    let m = every-each t u a r.1 in
    (both (t x) (every t a) s.0 m.0, both (u x) (every u a) s.1 m.1)

-- of every element
every_of : {X : Type 0} (ok : X → Type 0) (t : X → Bool) → ((x : X) → ok x → t x ≡ true) → {xs : List X} → All ok xs → every t xs ≡ true
unfolding every
every_of ok t f nil = refl
every_of ok t f (cons {x} {xs} h k) = both (t x) (every t xs) (f x h) (every_of ok t f k)

all_of : {X : Type 0} (ok : X → Type 0) (t u : X → Bool) → ((x : X) → t x ≡ true → u x ≡ true → ok x) → (xs : List X) → every t xs ≡ true → every u xs ≡ true → All ok xs
unfolding every
all_of ok t u f [] p q = nil
all_of ok t u f (x ∷ xs) p q =
    let r = and-true (t x) (every t xs) p in
    let s = and-true (u x) (every u xs) q in
    cons (f x r.0 s.0) (all_of ok t u f xs r.1 s.1)

-- ---- an administration

half-says : (n : ℕ) → half_writable n ≡ true → (n < 16777216) × (filled (three_of n) ≡ true) × (every not_lf (three_of n) ≡ true)
unfolding half_writable
half-says n e =
    let r = and-true (ltb n 16777216) _ e in
    let s = every-each (λ (b : ℕ). not (is_blank b)) not_lf (three_of n) r.1 in
    (ltb-true n 16777216 r.0, s.0, s.1)

half_of : (n : ℕ) → n < 16777216 → filled (three_of n) ≡ true → every not_lf (three_of n) ≡ true → half_writable n ≡ true
unfolding half_writable
half_of n h p q = both (ltb n 16777216) _ (lt-ltb n 16777216 h) (every-both (λ (b : ℕ). not (is_blank b)) not_lf (three_of n) p q)

administration-held : (high low : ℕ) → administration_writable high low ≡ true → AdministrationHeld high low
administration-held high low e =
    let r = and-true (half_writable high) (half_writable low) e in
    let a = half-says high r.0 in
    let b = half-says low r.1 in
    record {
      high_fits = a.0;
      low_fits = b.0;
      filled_in = every-join (λ (b : ℕ). not (is_blank b)) (three_of high) (three_of low) a.1 b.1;
      no_lf = every-join not_lf (three_of high) (three_of low) a.2 b.2;
    }

held-administration : (high low : ℕ) → AdministrationHeld high low → administration_writable high low ≡ true
held-administration high low h =
    let f = every-parts (λ (b : ℕ). not (is_blank b)) (three_of high) (three_of low) h.filled_in in
    let l = every-parts not_lf (three_of high) (three_of low) h.no_lf in
    both (half_writable high) (half_writable low) (half_of high h.high_fits f.0 l.0) (half_of low h.low_fits f.1 l.1)

-- ---- an opening line

spaced-says : (r o : ℕ) → (eqb r 0 || leb 1 o) ≡ true → 1 ≤ r → 1 ≤ o
spaced-says r o e h = go (eqb r 0) refl e
  where
    go : (t : Bool) → eqb r 0 ≡ t → (t || leb 1 o) ≡ true → 1 ≤ o
    go true q v = absurd (omega (arith, eqb-true r 0 q))
    go false q v = leb-true 1 o v

spaced-of : (r o : ℕ) → (1 ≤ r → 1 ≤ o) → (eqb r 0 || leb 1 o) ≡ true
spaced-of r o h = go (eqb r 0) refl
  where
    go : (t : Bool) → eqb r 0 ≡ t → (t || leb 1 o) ≡ true
    go true q = refl
    go false q = le-leb 1 o (h (positive r (eqb-false r 0 q)))
      where
        positive : (r : ℕ) → (r ≡ 0 → ⊥) → 1 ≤ r
        positive r d = omega arith

opening_of : (o : Opening) → o.number < 100000 → AdministrationHeld o.high o.low → (1 ≤ o.repeats → 1 ≤ o.offset) → opening_writable o ≡ true
unfolding opening_writable
opening_of o n a s = both (ltb o.number 100000) _ (lt-ltb o.number 100000 n) (both (administration_writable o.high o.low) _ (held-administration o.high o.low a) (spaced-of o.repeats o.offset s))

held-opening : (o : Opening) → OpeningHeld o ⊎ FrequencyHeld o → opening_writable o ≡ true
held-opening o (inl h) = opening_of o h.number_fits h.administration h.spaced
held-opening o (inr h) = opening_of o h.number_fits h.administration (λ z. h.dense)

opening_held : (o : Opening) → opening_sound o ≡ true → opening_writable o ≡ true → OpeningHeld o ⊎ FrequencyHeld o
unfolding opening_sound opening_writable
opening_held o e w =
    let a = and-true (ltb o.number 100000) _ w in
    let b = and-true (administration_writable o.high o.low) _ a.1 in
    go (ltb-true o.number 100000 a.0) (administration-held o.high o.low b.0) (spaced-says o.repeats o.offset b.1) (eqb o.kind kind_t) refl e
  where
    go : o.number < 100000 → AdministrationHeld o.high o.low → (1 ≤ o.repeats → 1 ≤ o.offset) → (t : Bool) → eqb o.kind kind_t ≡ t
        → cond t (leb o.repeats most_running && (leb 1 o.offset && leb o.offset most_running)) (eqb o.kind kind_z && (leb o.repeats most_repeats && leb o.offset most_repeats)) ≡ true
        → OpeningHeld o ⊎ FrequencyHeld o
    go n a s true q v =
        let r = and-true (leb o.repeats most_running) _ v in
        let d = and-true (leb 1 o.offset) (leb o.offset most_running) r.1 in
        inr (record {
          number_fits = n;
          administration = a;
          time_fits = omega (arith, leb-true o.repeats most_running r.0);
          density_fits = omega (arith, leb-true o.offset most_running d.1);
          dense = leb-true 1 o.offset d.0;
          kind_is = eqb-true o.kind kind_t q;
        })
    go n a s false q v =
        let k = and-true (eqb o.kind kind_z) _ v in
        let r = and-true (leb o.repeats most_repeats) (leb o.offset most_repeats) k.1 in
        inl (record {
          number_fits = n;
          administration = a;
          repeats_fit = omega (arith, leb-true o.repeats most_repeats r.0);
          offset_fits = omega (arith, leb-true o.offset most_repeats r.1);
          spaced = s;
          kind_is = eqb-true o.kind kind_z k.0;
        })

-- ---- ranges

name-says : (n : ℕ) (g : Legs) → name_writable n ≡ true → LegsHeld g → CategoryHeld n g
unfolding name_writable
name-says n g e l =
    let a = and-true (ltb n 16777216) _ e in
    let b = and-true (not (is_blank (n / 65536 % 256))) _ a.1 in
    record { name_fits = ltb-true n 16777216 a.0; first_filled = b.0; no_lf = b.1; legs = l }

name_of : (n : ℕ) (g : Legs) → CategoryHeld n g → name_writable n ≡ true
unfolding name_writable
name_of n g h = both (ltb n 16777216) _ (lt-ltb n 16777216 h.name_fits) (both (not (is_blank (n / 65536 % 256))) _ h.first_filled h.no_lf)

days-says : (n : ℕ) (g : Legs) → field_writable n ≡ true → LegsHeld g → AttributeHeld VE n g
unfolding every
days-says n g e l = record { code_fits = omega arith; first_filled = refl; no_lf = refl; field_fits = ltb-true n 1000000 e; legs = l }

extra-says : (code n : ℕ) (g : Legs) → code_writable code && field_writable n ≡ true → LegsHeld g → AttributeHeld code n g × (code ≡ VE → ⊥)
unfolding code_writable
extra-says code n g e l =
    let z = and-true (code_writable code) (field_writable n) e in
    let a = and-true (ltb code 65536) _ z.0 in
    let b = and-true (not (is_blank (code / 256 % 256))) _ a.1 in
    let c = and-true (every not_lf (two_of code)) _ b.1 in (
      record { code_fits = ltb-true code 65536 a.0; first_filled = b.0; no_lf = c.0; field_fits = ltb-true n 1000000 z.1; legs = l },
      eqb-false code VE (not_is (eqb code VE) c.1),
    )
  where
    not_is : (t : Bool) → not t ≡ true → t ≡ false
    not_is true v = clash v
    not_is false v = refl

extra-of : (code n : ℕ) (g : Legs) → AttributeHeld code n g → (code ≡ VE → ⊥) → code_writable code && field_writable n ≡ true
unfolding code_writable
extra-of code n g h d =
    both (code_writable code) (field_writable n)
    (both (ltb code 65536) _ (lt-ltb code 65536 h.code_fits) (both (not (is_blank (code / 256 % 256))) _ h.first_filled (both (every not_lf (two_of code)) _ h.no_lf (ap not (ne_eqb code VE d)))))
    (lt-ltb n 1000000 h.field_fits)

-- ---- calls

-- a time: its bits s (stated) and b (barred), and its minutes
time-says : (s b m : ℕ) → s < 2 → b < 2 → time_writable (eqb s 1) (eqb b 1) m ≡ true → (s ≡ 0 → m ≡ 0) × (b ≤ s)
time-says s b m h k e = go (eqb s 1) refl (eqb b 1) refl e
  where
    go : (x : Bool) → eqb s 1 ≡ x → (y : Bool) → eqb b 1 ≡ y → (x || (not y && eqb m 0)) ≡ true → (s ≡ 0 → m ≡ 0) × (b ≤ s)
    go true p y q v = (λ z. absurd (omega (arith, eqb-true s 1 p)), omega (arith, eqb-true s 1 p))
    go false p true q v = clash v
    go false p false q v = (λ z. eqb-true m 0 v, let u : b ≡ 1 → ⊥ = eqb-false b 1 q in zero_of b k u)
      where
        zero_of : (b : ℕ) → b < 2 → (b ≡ 1 → ⊥) → b ≤ s
        zero_of zero k u = omega arith
        zero_of (suc zero) k u = absurd (u refl)
        zero_of (suc (suc b)) k u = absurd (omega arith)

time-of : (s b m : ℕ) → s < 2 → (s ≡ 0 → m ≡ 0) → b ≤ s → time_writable (eqb s 1) (eqb b 1) m ≡ true
time-of zero zero m h z l = eq-eqb m 0 (z refl)
time-of zero (suc b) m h z l = absurd (omega arith)
time-of (suc zero) b m h z l = refl
time-of (suc (suc s)) b m h z l = absurd (omega arith)

call-held : (c : Call) → c.arrival ≤ 59999 → c.departure ≤ 59999 → c.flags ≤ 15 → call_writable c ≡ true → CallHeld c
unfolding call_writable
call-held c p q f e =
    let a = and-true (ltb c.stop 10000000) _ e in
    let b = and-true (ltb c.number 100000) _ a.1 in
    let d = and-true (administration_writable c.high c.low) _ b.1 in
    let t = and-true (time_writable (has_arrival c) (no_alighting c) c.arrival) _ d.1 in
    let x = time-says (c.flags % 2) (c.flags / 4 % 2) c.arrival (omega arith) (omega arith) t.0 in
    let y = time-says (c.flags / 2 % 2) (c.flags / 8 % 2) c.departure (omega arith) (omega arith) t.1 in
    record {
      stop_fits = ltb-true c.stop 10000000 a.0;
      arrival_fits = p;
      departure_fits = q;
      flags_fit = f;
      no_arrival = x.0;
      no_departure = y.0;
      alighting = x.1;
      boarding = y.1;
      number_fits = ltb-true c.number 100000 b.0;
      administration = administration-held c.high c.low d.0;
    }

held-call : (c : Call) → CallHeld c → call_writable c ≡ true
unfolding call_writable
held-call c h =
    both (ltb c.stop 10000000) _ (lt-ltb c.stop 10000000 h.stop_fits) (both (ltb c.number 100000) _ (lt-ltb c.number 100000 h.number_fits)
    (both (administration_writable c.high c.low) _ (held-administration c.high c.low h.administration)
    (both (time_writable (has_arrival c) (no_alighting c) c.arrival) _ (time-of (c.flags % 2) (c.flags / 4 % 2) c.arrival (omega arith) h.no_arrival h.alighting)
    (time-of (c.flags / 2 % 2) (c.flags / 8 % 2) c.departure (omega arith) h.no_departure h.boarding))))

-- ---- services

pub held-writable : (s : Service) → ServiceHeld s → service_writable s ≡ true
unfolding service_writable
held-writable s h =
    both (opening_writable s.opening) _ (held-opening s.opening h.opening_held)
    (both (every category_writable s.categories) _ (every_of (CategoryOn (length s.calls)) category_writable (λ r k. name_of r.name r.legs k.held) h.categories_held)
    (both (every days_writable s.days) _ (every_of (DaysOn (length s.calls)) days_writable (λ r k. lt-ltb r.field 1000000 k.held.field_fits) h.days_held)
    (both (every extra_writable s.extras) _ (every_of (ExtraOn (length s.calls)) extra_writable (λ r k. extra-of r.code r.field r.legs k.held k.not_days) h.extras_held)
    (every_of CallHeld call_writable held-call h.calls_held))))

pub all-writable : {ss : List Service} → All ServiceHeld ss → every service_writable ss ≡ true
all-writable hs = every_of ServiceHeld service_writable held-writable hs

-- ---- the services of a table: their calls' stops are places, and n is how many stops there are

pub record Sound (n : ℕ) (s : Service) : Type 0 where
  pub sound : service_sound n s ≡ true
  pub few : length s.calls ≤ most_calls

calls_held : (f : ℕ → ℕ) (n : ℕ) (cs : List Call) → every (call_sound n) cs ≡ true → every call_writable (map (with_stop f) cs) ≡ true → All CallHeld (map (with_stop f) cs)
unfolding every
calls_held f n [] p q = nil
calls_held f n (c ∷ cs) p q =
    let a = and-true (call_sound n c) _ p in
    let b = and-true (call_writable (with_stop f c)) _ q in
    let s = call-says n c a.0 in
    cons (call-held (with_stop f c) s.1 s.2 s.3 b.0) (calls_held f n cs a.1 b.1)

pub writable-held : (stops : List StopRecord) (n : ℕ) (s : Service) → Sound n s → service_writable (resolved stops s) ≡ true → ServiceHeld (resolved stops s)
unfolding resolved service_writable
writable-held stops n s h e =
    let f = stop_number_at stops in
    let cs = map (with_stop f) s.calls in
    let m : length cs ≡ length s.calls = length-map s.calls (with_stop f) in
    let few : length cs ≤ most_calls = omega (arith, m, h.few) in
    let (o, s1) = and-true (opening_sound s.opening) _ h.sound in
    let (c, s2) = and-true (every (call_sound n) s.calls) _ s1 in
    let (g, s3) = and-true (every (λ (r : CategoryRange). legs_sound false (length s.calls) r.legs) s.categories) _ s2 in
    let (v, a) = and-true (every (λ (r : DayRange). legs_sound false (length s.calls) r.legs) s.days) _ s3 in
    let (o', e1) = and-true (opening_writable s.opening) _ e in
    let (g', e2) = and-true (every category_writable s.categories) _ e1 in
    let (v', e3) = and-true (every days_writable s.days) _ e2 in
    let (a', c') = and-true (every extra_writable s.extras) _ e3 in
    record {
      opening_held = opening_held s.opening o o';
      categories_held = all_of (CategoryOn (length cs)) _ category_writable
          (λ r p q. let z : legs_sound false (length cs) r.legs ≡ true = rw m p in record { held = name-says r.name r.legs q (found-held (length cs) few false r.legs z); on_legs = found-on (length cs) few false r.legs z })
          s.categories g g';
      days_held = all_of (DaysOn (length cs)) _ days_writable
          (λ r p q. let z : legs_sound false (length cs) r.legs ≡ true = rw m p in record { held = days-says r.field r.legs q (found-held (length cs) few false r.legs z); on_legs = found-on (length cs) few false r.legs z })
          s.days v v';
      extras_held = all_of (ExtraOn (length cs)) _ extra_writable
          (λ r p q. let z : legs_sound true (length cs) r.legs ≡ true = rw m p in let k = extra-says r.code r.field r.legs q (found-held (length cs) few true r.legs z) in record { held = k.0; not_days = k.1; on_legs = found-on (length cs) few true r.legs z })
          s.extras a a';
      calls_held = calls_held f n s.calls c c';
    }

record-is-sound : (n : ℕ) (u : List ℕ) → record_sound n u ≡ true → Sound n (service_at u)
unfolding record_sound service_at
record-is-sound n u e =
    let r = and-true (sizes_sound u) _ e in
    record { sound = r.1; few = omega (arith, length-rows call_at call_size (calls# u) (drop service_head u), (sizes-say u r.0).calls-high) }

pub records-are-sound : (n v : ℕ) (u : List ℕ) → records_sound n v u ≡ true → All (Sound n) (services_in v u)
unfolding records_sound services_in
records-are-sound n zero u e = nil
records-are-sound n (suc v) u e =
    let r = and-true (record_sound n u) _ e in
    cons (record-is-sound n u r.0) (records-are-sound n v (drop (word_count_in u) u) r.1)

resolved-held : (stops : List StopRecord) (n : ℕ) (ss : List Service) → All (Sound n) ss → every service_writable (map (resolved stops) ss) ≡ true → All ServiceHeld (map (resolved stops) ss)
unfolding every
resolved-held stops n [] nil e = nil
resolved-held stops n (s ∷ ss) (cons h t) e =
    let r = and-true (service_writable (resolved stops s)) _ e in
    cons (writable-held stops n s h r.0) (resolved-held stops n ss t r.1)

-- what 44 is not told of can be written
pub table-held : (w : List ℕ) → is_table w ≡ true → table_writable w ≡ true → All ServiceHeld (table_of w).services
unfolding table_of table_writable
table-held w e h =
    resolved-held (stops_at w) (stops# w) (services_in (services# w) (drop (services_place w) (used w)))
    (records-are-sound (stops# w) (services# w) (drop (services_place w) (used w)) (table-records w e)) h

pub held-table : (w : List ℕ) → All ServiceHeld (table_of w).services → table_writable w ≡ true
unfolding table_writable
held-table w h = all-writable h
