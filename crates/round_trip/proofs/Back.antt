-- 44 is told of a table exactly where the text of its services would not be read back: `no-44`, `back-no-44`. Assumes nothing.
use Rattle.std.specs.Prelude.{Result, Ok, Err}
use mathlib.Core.Path.{◌≡◌, refl, ap, sym, ◌∙◌, subst}
use mathlib.Core.List.{List, [], ◌∷◌, map}
use mathlib.Core.Logic.{◌⊎◌, inl, inr}
use mathlib.Core.Bool.{Bool, true, false, cond}
use Prim.Native.Nat.{ℕ, ◌+◌, ◌≤◌}
use native.Mathlib.Omega.{arith}
use lib.ListN.{length, length-map}
use lib.Dec.{ltb}
use borrow.Author.Tests.{eq-eqb, ne_eqb}
use Rattle.base.specs.Lists.{All, nil, cons}
use Rattle.base.proofs.Laws.{apart}
use Rattle.lines.specs.Lines.{Line, lines_of}
use Rattle.timetable.specs.Delivery.{StopRecord, Service}
use Rattle.timetable.specs.Layout.{most_calls, kind_z}
use Rattle.timetable.specs.Plan.{told_in, tolds, opens_service}
use Rattle.timetable.specs.Service.{head_lines, blocks, calls_of, service_of}
use Rattle.timetable.specs.Table.{stops#, services#, stops_at, resolved, with_stop, stop_number_at, table_of, is_table}
use Rattle.timetable.specs.Refusals.{number_of}
use Rattle.timetable.specs.declared.refusal.Refusal.TheVariants.{NotWritable, TextTooShort}
use Rattle.timetable.specs.declared.Opening.{Opening}
use Rattle.timetable.specs.declared.CallLine.{CallLine}
use Rattle.timetable.specs.declared.RangeLine.{RangeLine}
use Rattle.timetable.specs.declared.Told.{Told}
use Rattle.timetable.specs.declared.Told.TheVariants.{Opens, Ranges, Calls}
use Rattle.table.proofs.Says.{table-records}
use Rattle.whole_runs.proofs.Lists.{all_append}
use Rattle.line_text.specs.Laid.{lines_on}
use Rattle.line_text.proofs.Lines.{lines-of-text}
use Rattle.plan_text.specs.PlanText.{opening_text, frequency_text, category_text, day_text, extra_text, call_text, OpeningHeld, FrequencyHeld, CallHeld}
use Rattle.plan_text.proofs.Openings.{opening-told, frequency-told}
use Rattle.plan_text.proofs.Ranges.{category-told, day-told, extra-told}
use Rattle.plan_text.proofs.Calls.{call-told}
use Rattle.plan_services.specs.Services.{opening_line, rest_lines, service_lines, plan_lines, plan_text, relined, CategoryOn, DaysOn, ExtraOn, ServiceHeld}
use Rattle.plan_services.proofs.Services.{plan-clean, plan-back}
use Rattle.plan_accepted.proofs.Written.{lines-clean, Block, blocks-clean, read_held}
use Rattle.plan_writing.specs.Writing.{table_text, table_writable, refused, text_or_short, plan_answer}
use Rattle.plan_writing.specs.declared.WriteRefusal.{WriteRefusal}
use Rattle.round_trip.specs.ReadBack.{Formed, ReadBack}
use Rattle.round_trip.proofs.Held.{Sound, records-are-sound, table-held, held-table}
use Rattle.round_trip.proofs.Bytes.{text-bytes}

-- ---- what can be written is read back

opens-formed : (t : Told) (o : Opening) → t ≡ Opens o → Formed t
opens-formed t o e = (λ z. apart (cc), λ c z. apart (cc))

ranges-formed : (t : Told) (r : RangeLine) → t ≡ Ranges r → Formed t
ranges-formed t r e = (λ z. apart (cc), λ c z. apart (cc))

calls-formed : (t : Told) (l : CallLine) → t ≡ Calls l → Formed t
calls-formed t l e = (λ z. apart (cc), λ c z. apart (cc))

abbrev Says : List ℕ → Type 0
Says l = Formed (told_in l)

opening-says : (o : Opening) → OpeningHeld o ⊎ FrequencyHeld o → Says (opening_line o)
opening-says o (inl h) =
    let e : opening_line o ≡ opening_text o = ap (λ (t : Bool). cond t (opening_text o) (frequency_text o)) (eq-eqb o.kind kind_z h.kind_is) in
    opens-formed (told_in (opening_line o)) o (ap told_in e ∙ opening-told o h)
opening-says o (inr h) =
    let k = h.kind_is in
    let e : opening_line o ≡ frequency_text o = ap (λ (t : Bool). cond t (opening_text o) (frequency_text o)) (ne_eqb o.kind kind_z (λ z. omega arith)) in
    opens-formed (told_in (opening_line o)) o (ap told_in e ∙ frequency-told o h)

each : {X : Type 0} (f : X → List ℕ) (ok : X → Type 0) → ((x : X) → ok x → Says (f x)) → {xs : List X} → All ok xs → All Says (map f xs)
each f ok e nil = nil
each f ok e (cons {x} h t) = cons (e x h) (each f ok e t)

rest-says : (s : Service) → ServiceHeld s → All Says (rest_lines s)
unfolding rest_lines
rest-says s h =
    all_append Says (each category_text (CategoryOn (length s.calls)) (λ r k. ranges-formed _ _ (category-told r k.held)) h.categories_held)
    (all_append Says (each day_text (DaysOn (length s.calls)) (λ r k. ranges-formed _ _ (day-told r k.held)) h.days_held)
    (all_append Says (each extra_text (ExtraOn (length s.calls)) (λ r k. ranges-formed _ _ (extra-told r k.held k.not_days)) h.extras_held)
    (each call_text CallHeld (λ c k. calls-formed _ _ (call-told c k)) h.calls_held)))

plan-says : (ss : List Service) → All ServiceHeld ss → All Says (plan_lines ss)
unfolding plan_lines
plan-says [] nil = nil
plan-says (s ∷ ss) (cons h t) = cons (opening-says s.opening h.opening_held) (all_append Says (rest-says s h) (plan-says ss t))

lines-formed : (n at : ℕ) (ls : List (List ℕ)) → All Says ls → All Formed (tolds (lines_on n at ls))
unfolding tolds lines_on
lines-formed n at [] nil = nil
lines-formed n at (l ∷ ls) (cons h t) = cons h (lines-formed (n + 1) (at + length l + 1) ls t)

held_back : (ss : List Service) → All ServiceHeld ss → ReadBack ss
held_back ss h = record {
  formed = subst (λ (ls : List Line). All Formed (tolds ls)) (sym (lines-of-text (plan_lines ss) (plan-clean ss h))) (lines-formed 1 0 (plan_lines ss) (plan-says ss h));
  services = plan-back ss h;
}

-- ---- what is read back can be written

-- of the lines before the first service, and of each block
head-formed : (ls : List Line) → All Formed (tolds ls) → All Formed (tolds (head_lines ls))
unfolding head_lines tolds
head-formed [] nil = nil
head-formed (l ∷ ls) (cons h t) = go (opens_service l) (head-formed ls t)
  where
    go : (x : Bool) → All Formed (tolds (head_lines ls)) → All Formed (tolds (cond x [] (l ∷ head_lines ls)))
    go true k = nil
    go false k = cons h k

blocks-formed : (ls : List Line) → All Formed (tolds ls) → All (λ (b : List Line). All Formed (tolds b)) (blocks ls)
unfolding blocks tolds
blocks-formed [] nil = nil
blocks-formed (l ∷ ls) (cons h t) = go (opens_service l) (blocks-formed ls t)
  where
    go : (x : Bool) → All (λ (b : List Line). All Formed (tolds b)) (blocks ls) → All (λ (b : List Line). All Formed (tolds b)) (cond x ((l ∷ head_lines ls) ∷ blocks ls) (blocks ls))
    go true k = cons (cons h (head-formed ls t)) k
    go false k = k

abbrev Few : Service → Type 0
Few s = length s.calls ≤ most_calls

few-calls : (b : List Line) → Few (service_of b) → length (calls_of b) ≤ most_calls
unfolding service_of
few-calls b h = h

blocks-held : (bs : List (List Line)) → All (λ (b : List Line). All Formed (tolds b)) bs → All Block bs → All Few (map service_of bs) → All ServiceHeld (map service_of bs)
blocks-held [] nil nil nil = nil
blocks-held (b ∷ bs) (cons r rs) (cons k ks) (cons f fs) = cons (read_held b (few-calls b f) r k) (blocks-held bs rs ks fs)

few-moved : (n : ℕ) (ss : List Service) → All Few ss → All Few (relined n ss)
unfolding relined
few-moved n [] nil = nil
few-moved n (s ∷ ss) (cons h t) = cons h (few-moved (n + length (service_lines s)) ss t)

moved-held : (n : ℕ) (ss : List Service) → All ServiceHeld (relined n ss) → All ServiceHeld ss
unfolding relined
moved-held n [] nil = nil
moved-held n (s ∷ ss) (cons h t) =
    cons (record { opening_held = h.opening_held; categories_held = h.categories_held; days_held = h.days_held; extras_held = h.extras_held; calls_held = h.calls_held })
    (moved-held (n + length (service_lines s)) ss t)

back-held : (ss : List Service) → All Few ss → ReadBack ss → All ServiceHeld ss
back-held ss f r =
    let ls = lines_of (plan_text ss) in
    let k = blocks-held (blocks ls) (blocks-formed ls r.formed) (blocks-clean ls (lines-clean (plan_text ss) (text-bytes ss))) (subst (All Few) (sym r.services) (few-moved 1 ss f)) in
    moved-held 1 ss (subst (All ServiceHeld) r.services k)

-- ---- of a table

few-resolved : (stops : List StopRecord) (n : ℕ) (ss : List Service) → All (Sound n) ss → All Few (map (resolved stops) ss)
unfolding resolved
few-resolved stops n [] nil = nil
few-resolved stops n (s ∷ ss) (cons h t) =
    let k : length (map (with_stop (stop_number_at stops)) s.calls) ≤ most_calls = omega (arith, length-map s.calls (with_stop (stop_number_at stops)), h.few) in
    cons k (few-resolved stops n ss t)

table-few : (w : List ℕ) → is_table w ≡ true → All Few (table_of w).services
unfolding table_of
table-few w e = few-resolved (stops_at w) (stops# w) _ (records-are-sound (stops# w) (services# w) _ (table-records w e))

-- the number of what was refused, 0 where nothing was
abbrev number_in : Result ℕ WriteRefusal → ℕ
number_in (Ok n) = 0
number_in (Err r) = number_of r.refusal

short-not-44 : (text : List ℕ) (room : ℕ) → text_or_short text room ≡ refused NotWritable 0 → ⊥
short-not-44 text room v = go (ltb room (length text)) v
  where
    go : (t : Bool) → cond t (refused TextTooShort (length text)) (Ok (length text)) ≡ refused NotWritable 0 → ⊥
    go true v = let z : ◌≡◌ {A = ℕ} 45 44 = ap number_in v in omega arith
    go false v = let z : ◌≡◌ {A = ℕ} 0 44 = ap number_in v in omega arith

module _ (w : List ℕ) (e : is_table w ≡ true) where
  pub writable_back : table_writable w ≡ true → ReadBack (table_of w).services
  writable_back h = held_back (table_of w).services (table-held w e h)

  pub back-writable : ReadBack (table_of w).services → table_writable w ≡ true
  back-writable r = held-table w (back-held (table_of w).services (table-few w e) r)

  -- where 44 is not told, the text is read back; where it would be read back, 44 is not told
  pub no-44 : (room : ℕ) → (plan_answer w room ≡ refused NotWritable 0 → ⊥) → ReadBack (table_of w).services
  unfolding plan_answer
  no-44 room d = writable_back (go (table_writable w) (λ v. d (rw e v)))
    where
      go : (t : Bool) → (cond t (text_or_short (table_text w) room) (refused NotWritable 0) ≡ refused NotWritable 0 → ⊥) → t ≡ true
      go true d = refl
      go false d = absurd (d refl)

  pub back-no-44 : (room : ℕ) → ReadBack (table_of w).services → plan_answer w room ≡ refused NotWritable 0 → ⊥
  unfolding plan_answer
  back-no-44 room r v = short-not-44 (table_text w) room (rw (e, back-writable r) at v)
