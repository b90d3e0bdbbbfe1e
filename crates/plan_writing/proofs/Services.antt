-- The lines of a service and of all services, written one after the other: the needs of `put_service`, for `search service`, and of `put_services`, for
-- `search services`. Assumes nothing.
use mathlib.Core.Path.{◌≡◌, refl, ap, sym, ◌∙◌}
use mathlib.Core.List.{List, [], ◌∷◌, ◌++◌, map, append_assoc}
use mathlib.Core.Bool.{Bool, true, false, cond}
use Prim.Native.Nat.{ℕ, zero, suc, ◌+◌, ◌-◌, ◌*◌, ◌≤◌, ◌<◌}
use native.Mathlib.Omega.{arith}
use lib.Dec.{eqb}
use lib.ListN.{length, get_or, take, drop, length-append}
use Rattle.base.proofs.Laws.{tests}
use Rattle.timetable.specs.Delivery.{StopRecord, Service}
use Rattle.timetable.specs.Layout.{service_head, call_size, kind_z}
use Rattle.timetable.specs.Table.{rows_in, category_at, day_at, extra_at, calls#, categories#, days#, extras#, category_place, day_place, extra_place, stops#, services#, services_place, service_at, opening_at, resolved, table_of, records_sound}
use Rattle.timetable.specs.declared.RangeKind.{RangeKind}
use Rattle.timetable.specs.declared.RangeKind.TheVariants.{Category, Days, Extra}
use Rattle.timetable.proofs.Rows.{length-rows}
use Rattle.words.specs.Words.{write}
use Rattle.words.proofs.Laws.{write-none, write-write}
use Rattle.table.specs.JustTable.{JustTable}
use Rattle.table.proofs.JustTable.{just-word}
use Rattle.line_text.specs.Laid.{text_of}
use Rattle.plan_text.specs.PlanText.{with_lf, opening_text, frequency_text, category_text, day_text, extra_text, call_text}
use Rattle.plan_text.proofs.Lengths.{opening-length, frequency-length, call_length}
use Rattle.plan_services.specs.Services.{opening_line, rest_lines, service_lines, plan_lines, plan_text}
use Rattle.service_lines.specs.Inner.Record.{range_size, part_count, part_place, here, part_rows, call_rows, shown_call, shown}
use Rattle.service_lines.proofs.Left.{rounds}
use Rattle.service_lines.proofs.Services.{calls-shown, shown_from, shown-all, shown-now, no-service, standing-head, standing-sized, start-place, services-here, standing, records-inside, records-fit, records-place, records-left}
use Rattle.plan_writing.specs.Writing.{table_text}
use Rattle.plan_writing.specs.Inner.Record.{range_text, part_text, calls_text, record_text}
use Rattle.plan_writing.proofs.Lines.{range_length}

-- ---- texts

pub text-append : (a b : List (List ℕ)) → text_of (a ++ b) ≡ text_of a ++ text_of b
unfolding text_of
text-append [] b = refl
text-append (l ∷ a) b = rw (text-append a b, append_assoc)

text-full : {X : Type 0} (g : X → List ℕ) → ((x : X) → length (g x) ≡ 59) → (xs : List X) → length (text_of (map g xs)) ≡ 60 * length xs
unfolding text_of
text-full g full [] = refl
text-full g full (x ∷ xs) = rw (length-append, full x) (omega (arith, text-full g full xs))

pub part_length : (x : RangeKind) (s : List ℕ) → length (part_text x s) ≡ 60 * part_count x s
unfolding part_text part_rows
part_length x s =
    let rows = rows_in here (range_size x) (part_count x s) (drop (part_place x s) s) in
    text-full (range_text x) (range_length x) rows ∙ ap (λ (n : ℕ). 60 * n) (length-rows here (range_size x) (part_count x s) (drop (part_place x s) s))

pub calls-length : (stops : List StopRecord) (s : List ℕ) → length (calls_text stops s) ≡ 60 * calls# s
unfolding calls_text call_rows
calls-length stops s =
    let rows = rows_in (shown_call stops) call_size (calls# s) (drop service_head s) in
    text-full call_text call_length rows ∙ ap (λ (n : ℕ). 60 * n) (length-rows (shown_call stops) call_size (calls# s) (drop service_head s))

-- ---- a record's text by its parts

texts : (l : List ℕ) (g v a c : List (List ℕ)) → text_of (l ∷ (g ++ (v ++ (a ++ c)))) ≡ with_lf l ++ (text_of g ++ (text_of v ++ (text_of a ++ text_of c)))
unfolding text_of
texts l g v a c = rw (text-append g (v ++ (a ++ c)), text-append v (a ++ c), text-append a c, append_assoc l (10 ∷ []))

regroup : (a b c d e : List ℕ) → (((a ++ b) ++ c) ++ d) ++ e ≡ a ++ (b ++ (c ++ (d ++ e)))
regroup a b c d e = simp append_assoc

five-lengths : (a b c d e : List ℕ) → length (a ++ (b ++ (c ++ (d ++ e)))) ≡ length a + (length b + (length c + (length d + length e)))
five-lengths a b c d e = simp length-append

as_rows : {X : Type 0} (x : RangeKind) (g : X → List ℕ) (f : List ℕ → X) (n : ℕ) (u : List ℕ) → ((r : List ℕ) → g (f r) ≡ range_text x r) → map g (rows_in f (range_size x) n u) ≡ map (range_text x) (rows_in here (range_size x) n u)
unfolding rows_in
as_rows x g f zero u e = refl
as_rows x g f (suc n) u e = λ i. e u i ∷ as_rows x g f n (drop (range_size x) u) e i

module _ (w s : List ℕ) where
  pub record-parts : record_text w s ≡ with_lf (opening_line (opening_at s)) ++ (part_text Category s ++ (part_text Days s ++ (part_text Extra s ++ calls_text (table_of w).stops s)))
  unfolding record_text rest_lines resolved service_at part_text part_rows calls_text
  record-parts =
      let g = as_rows Category category_text category_at (categories# s) (drop (category_place s) s) (λ r. refl) in
      let v = as_rows Days day_text day_at (days# s) (drop (day_place s) s) (λ r. refl) in
      let a = as_rows Extra extra_text extra_at (extras# s) (drop (extra_place s) s) (λ r. refl) in
      let c = ap (map call_text) (calls-shown w s) in
      texts (opening_line (opening_at s)) (map category_text (shown w s).categories) (map day_text (shown w s).days) (map extra_text (shown w s).extras) (map call_text (shown w s).calls)
      ∙ (λ i. with_lf (opening_line (opening_at s)) ++ (text_of (g i) ++ (text_of (v i) ++ (text_of (a i) ++ text_of (c i)))))

  first-length : length (with_lf (opening_line (opening_at s))) ≡ 60
  first-length = go (eqb (opening_at s).kind kind_z)
    where
      go : (b : Bool) → length (with_lf (cond b (opening_text (opening_at s)) (frequency_text (opening_at s)))) ≡ 60
      go true = rw (length-append, opening-length (opening_at s))
      go false = rw (length-append, frequency-length (opening_at s))

  pub record-length : length (record_text w s) ≡ 60 + (60 * categories# s + (60 * days# s + (60 * extras# s + 60 * calls# s)))
  record-length =
      let e = ap length record-parts ∙ five-lengths (with_lf (opening_line (opening_at s))) (part_text Category s) (part_text Days s) (part_text Extra s) (calls_text (table_of w).stops s) in
      omega (arith, e, first-length, part_length Category s, part_length Days s, part_length Extra s, calls-length (table_of w).stops s)

  -- the five writes as one
  module _ (t a b d e f : List ℕ) (q x y z : ℕ) (h : q + length (record_text w s) ≤ length t) where
    pub record-written : a ≡ write t q (with_lf (opening_line (opening_at s)))
        → x ≡ q + 60 + 60 * part_count Category s → b ≡ write a (q + 60) (part_text Category s)
        → y ≡ x + 60 * part_count Days s → d ≡ write b x (part_text Days s)
        → z ≡ y + 60 * part_count Extra s → e ≡ write d y (part_text Extra s)
        → f ≡ write e z (calls_text (table_of w).stops s) → f ≡ write t q (record_text w s)
    record-written ea ex eb ey ed ez ee ef =
        let o = with_lf (opening_line (opening_at s)) in
        let g = part_text Category s in
        let v = part_text Days s in
        let m = part_text Extra s in
        let c = calls_text (table_of w).stops s in
        let k = record-length in
        let one : b ≡ write t q (o ++ g) = then t a b o g q (q + 60) 60 first-length refl (omega (arith, k)) ea eb in
        let two : d ≡ write t q ((o ++ g) ++ v) = then t b d (o ++ g) v q x (60 + 60 * categories# s) (rw (length-append, first-length, part_length Category s)) (omega (arith, ex)) (omega (arith, k)) one ed in
        let three : e ≡ write t q (((o ++ g) ++ v) ++ m) = then t d e ((o ++ g) ++ v) m q y (60 + 60 * categories# s + 60 * days# s) (rw (length-append, length-append, first-length, part_length Category s, part_length Days s)) (omega (arith, ex, ey)) (omega (arith, k)) two ee in
        let four : f ≡ write t q ((((o ++ g) ++ v) ++ m) ++ c) = then t e f (((o ++ g) ++ v) ++ m) c q z (60 + 60 * categories# s + 60 * days# s + 60 * extras# s) (rw (length-append, length-append, length-append, first-length, part_length Category s, part_length Days s, part_length Extra s)) (omega (arith, ex, ey, ez)) (omega (arith, k)) three ef in
        four ∙ ap (write t q) (regroup o g v m c ∙ sym record-parts)
      where
        then : (t a b u l : List ℕ) (q p n : ℕ) → length u ≡ n → p ≡ q + n → q + n ≤ length t → a ≡ write t q u → b ≡ write a p l → b ≡ write t q (u ++ l)
        then t a b u l q p n k j i ea eb = eb ∙ rw (ea, j, ← k) (write-write t q u l (omega (arith, k)))

pub ruleset service = (tests, standing-head, standing-sized)

-- ---- services one after the other: k are left from `at` on, their lines to be written at q

pub plan-all : (w : List ℕ) → JustTable w → (at k : ℕ) → at ≡ services_place w → k ≡ services# w → plan_text (shown_from w k at) ≡ table_text w
unfolding table_text
plan-all w j at k p q = ap plan_text (shown-all w j at k p q)

module _ (w : List ℕ) (j : JustTable w) (at k : ℕ) (p : at ≡ services_place w) (q : k ≡ services# w) where
  pub plan-size : 0 + length (plan_text (shown_from w k at)) ≡ length (table_text w)
  plan-size = omega (arith, ap length (plan-all w j at k p q))

  pub plan-start : (t : List ℕ) → write t 0 (plan_text (shown_from w k at)) ≡ write t 0 (table_text w)
  plan-start t = ap (write t 0) (plan-all w j at k p q)

plan-then : (x : Service) (xs : List Service) → plan_text (x ∷ xs) ≡ text_of (service_lines x) ++ plan_text xs
unfolding plan_lines
plan-then x xs = text-append (service_lines x) (plan_lines xs)

module _ (w : List ℕ) (at k : ℕ) (h : 0 < k) (i : records_sound (stops# w) k (drop at w) ≡ true) where
  plan-now : (y : ℕ) → y ≡ get_or w at 0 → plan_text (shown_from w k at) ≡ record_text w (take (length w - at) (drop at w)) ++ plan_text (shown_from w (k - 1) (at + y))
  unfolding record_text
  plan-now y e = ap plan_text (shown-now w at k h i y e) ∙ plan-then _ _

  plan-lengths : (y : ℕ) → y ≡ get_or w at 0 → length (plan_text (shown_from w k at)) ≡ length (record_text w (take (length w - at) (drop at w))) + length (plan_text (shown_from w (k - 1) (at + y)))
  plan-lengths y e = ap length (plan-now y e) ∙ length-append (record_text w (take (length w - at) (drop at w))) (plan_text (shown_from w (k - 1) (at + y)))

  -- n bytes in all
  module _ (q n : ℕ) (l : q + length (plan_text (shown_from w k at)) ≡ n) where
    pub plan-room : (t t₀ : List ℕ) → n ≤ length t₀ → length t ≡ length t₀ → q + length (record_text w (take (length w - at) (drop at w))) ≤ length t
    plan-room t t₀ a b = omega (arith, plan-lengths (get_or w at 0) refl)

    -- the next place is z
    module _ (z y : ℕ) (e : z ≡ q + length (record_text w (take (length w - at) (drop at w)))) (f : y ≡ get_or w at 0) where
      pub plan-left : (j : ℕ) → j + 1 ≡ k → z + length (plan_text (shown_from w j (at + y))) ≡ n
      plan-left j o =
          let d : k - 1 ≡ j = omega arith in
          omega (arith, e, l, rw d at (plan-lengths y f))

      pub plan-again : (t t₀ t' r : List ℕ) (j : ℕ) → j + 1 ≡ k → n ≤ length t₀ → length t ≡ length t₀ → t' ≡ write t q (record_text w (take (length w - at) (drop at w)))
          → write t q (plan_text (shown_from w k at)) ≡ r → write t' z (plan_text (shown_from w j (at + y))) ≡ r
      plan-again t t₀ t' r j o a b g v =
          let d : k - 1 ≡ j = omega arith in
          rw (← d, g, e) (write-write t q (record_text w (take (length w - at) (drop at w))) (plan_text (shown_from w (k - 1) (at + y))) (plan-room t t₀ a b))
          ∙ ap (write t q) (sym (plan-now y f)) ∙ v

pub plan-done : (w t r : List ℕ) (at k q : ℕ) → k ≤ 0 → write t q (plan_text (shown_from w k at)) ≡ r → t ≡ r
unfolding plan_lines text_of
plan-done w t r at k q h v = sym (write-none t q) ∙ (rw (no-service k (drop at w) h) at v)

pub ruleset services = (tests, rounds, just-word, start-place, services-here, standing, records-inside, records-fit, records-place, records-left, plan-size, plan-start, plan-room, plan-left, plan-again, plan-done)
