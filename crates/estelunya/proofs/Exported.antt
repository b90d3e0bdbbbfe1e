-- What a caller of the exported functions holds in hand: that a number of 0 is no refusal, what a walk's numbers say, and demand 3 of
-- `estelunya_load` and `estelunya_walk`. specs/Promise.antt states it. Assumes nothing.
use mathlib.Core.Path.{◌≡◌, refl, sym, ap, subst, ◌∙◌}
use mathlib.Core.Logic.{◌⊎◌, ⊎_elim}
use mathlib.Core.List.{List}
use mathlib.Core.Bool.{Bool}
use Prim.Native.Nat.{ℕ, ◌-◌, ◌*◌, ◌≤◌}
use native.Mathlib.Omega.{arith}
use lib.ListN.{length, take, replicate}
use Rattle.std.specs.Prelude.{Some, None, Result, Ok, Err}
use Rattle.timetable.specs.declared.refusal.Refusal.{Refusal}
use Rattle.timetable.specs.Delivery.{Files, Service, Delivery}
use Rattle.timetable.specs.Load.{delivered, onto, helper_needed, loaded, written, helped}
use Rattle.timetable.specs.Layout.{row_size}
use Rattle.timetable.specs.View.{View}
use Rattle.timetable.specs.Questions.{asked, day_asked, interchange_asked, between_asked, Journey, refused, journey, walk_of, Walked, walk_refusal, walked_by, walked, rows_by}
use Rattle.timetable.specs.Refusals.{number_of}
use Rattle.timetable.specs.declared.Loaded.{Loaded}
use Rattle.timetable.specs.declared.Loaded.TheVariants.{Accepted, Refused}
use Rattle.timetable.specs.declared.WalkRefusal.{WalkRefusal}
use Rattle.timetable.proofs.Numbered.{numbered}
use Rattle.whole_runs.specs.Rows.{RunsNowhere}
use Rattle.whole_runs.specs.Promise.{Walk, not_running, short, runs, TwoRows}
use Rattle.whole_runs.proofs.Any.{two-rows}
use Rattle.whole_runs.proofs.Slack.{never_both}
use Rattle.whole_runs.proofs.Accepted.{unaltered-asked}
use Rattle.whole_runs.proofs.Demand3.{demand3-promised}
use Rattle.whole_runs.proofs.Numbers.{load-numbered, load-columned, helper-stays, helper-zeros, helper-accepted, day-numbered, interchange-numbered, between-numbered, walk-numbered}
use Rattle.estelunya.specs.declared.LoadResult.{LoadResult}
use Rattle.estelunya.specs.declared.WalkResult.{WalkResult}
use Rattle.estelunya.specs.Answers.{load_result, day_result, interchange_result, walk_result}
use Rattle.estelunya.specs.Promise.{Answered, not_running, short, runs, WholeRuns, Decoded}

-- an answer numbered 0 is an acceptance, with the words used
pub accepted : (f : Files) (room helper : ℕ) → (load_result (loaded f room helper)).number ≡ 0 → loaded f room helper ≡ Accepted (load_result (loaded f room helper)).words
accepted f room helper e = go (loaded f room helper) refl e
  where
    go : (a : Loaded) → loaded f room helper ≡ a → (load_result a).number ≡ 0 → a ≡ Accepted (load_result a).words
    go (Accepted used) q e = refl
    go (Refused number file line column needed) q e = let h = load-numbered f room helper number file line column needed q in absurd (omega (arith, h, e))

-- an answer has a column exactly if its number is 4
pub columned : (f : Files) (room helper : ℕ) {x : LoadResult} → x ≡ load_result (loaded f room helper) → (x.number ≡ 4 → 1 ≤ x.column) × ((x.number ≡ 4 → ⊥) → x.column ≡ 0)
columned f room helper e = subst (λ (y : LoadResult). (y.number ≡ 4 → 1 ≤ y.column) × ((y.number ≡ 4 → ⊥) → y.column ≡ 0)) (sym e) (go (loaded f room helper) refl)
  where
    go : (a : Loaded) → loaded f room helper ≡ a → ((load_result a).number ≡ 4 → 1 ≤ (load_result a).column) × (((load_result a).number ≡ 4 → ⊥) → (load_result a).column ≡ 0)
    go (Accepted used) q = (λ k. absurd (omega arith), λ k. refl)
    go (Refused number file line column needed) q = load-columned f room helper number file line column needed q

-- No. 13: "after 1 and 51 all helper words stay"; after any other answer the needed ones hold 0 and further ones stay
pub helper-kept : (f : Files) (room : ℕ) (h : List ℕ) {x : LoadResult} → x ≡ load_result (loaded f room (length h))
    → ((x.number ≡ 1) ⊎ (x.number ≡ 51) → helped f h ≡ h) × ((x.number ≡ 1 → ⊥) → (x.number ≡ 51 → ⊥) → helped f h ≡ onto (replicate (helper_needed f) 0) h)
helper-kept f room h e = subst (λ (y : LoadResult). ((y.number ≡ 1) ⊎ (y.number ≡ 51) → helped f h ≡ h) × ((y.number ≡ 1 → ⊥) → (y.number ≡ 51 → ⊥) → helped f h ≡ onto (replicate (helper_needed f) 0) h)) (sym e) (go (loaded f room (length h)) refl)
  where
    go : (a : Loaded) → loaded f room (length h) ≡ a
        → (((load_result a).number ≡ 1) ⊎ ((load_result a).number ≡ 51) → helped f h ≡ h) × (((load_result a).number ≡ 1 → ⊥) → ((load_result a).number ≡ 51 → ⊥) → helped f h ≡ onto (replicate (helper_needed f) 0) h)
    go (Accepted used) q = (⊎_elim (λ z. absurd (omega (arith, z))) (λ z. absurd (omega (arith, z))), λ y z. helper-accepted f h room used q)
    go (Refused number file line column needed) q = (helper-stays f h room number file line column needed q, helper-zeros f h room number file line column needed q)

-- and so with the questions: an answer numbered 0 is no refusal
pub day-answered : (w : List ℕ) (d m y field : ℕ) (refusal : Refusal) → (day_result (day_asked w d m y field)).number ≡ 0 → day_asked w d m y field ≡ Err refusal → ⊥
day-answered w d m y field refusal e q = omega (arith, day-numbered w d m y field refusal q, ap (λ (a : Result Bool Refusal). (day_result a).number) q, e)

pub interchange-answered : (w : List ℕ) (stop a b : ℕ) (refusal : Refusal) → (interchange_result (interchange_asked w stop a b)).number ≡ 0 → interchange_asked w stop a b ≡ Err refusal → ⊥
interchange-answered w stop a b refusal e q = omega (arith, interchange-numbered w stop a b refusal q, ap (λ (x : Result ℕ Refusal). (interchange_result x).number) q, e)

pub between-answered : (w : List ℕ) (stop a b : ℕ) (refusal : Refusal) → (interchange_result (between_asked w stop a b)).number ≡ 0 → between_asked w stop a b ≡ Err refusal → ⊥
between-answered w stop a b refusal e q = omega (arith, between-numbered w stop a b refusal q, ap (λ (x : Result ℕ Refusal). (interchange_result x).number) q, e)

pub walk-answered : (w : List ℕ) (i r d m y room : ℕ) (refusal : Refusal) (needed : ℕ) → (walk_result (walked w i r d m y room)).number ≡ 0 → walked w i r d m y room ≡ Err (walk_refusal refusal needed) → ⊥
walk-answered w i r d m y room refusal needed e q = omega (arith, walk-numbered w i r d m y room needed refusal q, ap (λ (a : Walked). (walk_result a).number) q, e)

-- ---- of any words: what an answer is, told from its numbers

pub decoded : (w : List ℕ) (i r d m y room : ℕ) {x : WalkResult} → x ≡ walk_result (walked w i r d m y room) → Decoded (walked w i r d m y room) x
decoded w i r d m y room e = subst (Decoded (walked w i r d m y room)) (sym e) (go (walked w i r d m y room) (two-rows w i r d m y room))
  where
    go : (a : Walked) → TwoRows a → Decoded a (walk_result a)
    go (Ok (Some n)) h = record { idle = λ p q. absurd (omega arith); listing = λ p q. (refl, h); refusal = λ p. absurd (omega arith) }
    go (Ok None) h = record { idle = λ p q. refl; listing = λ p q. absurd (omega arith); refusal = λ p. absurd (omega arith) }
    go (Err x) h =
        let l = numbered x.refusal in
        record { idle = λ p q. absurd (omega arith); listing = λ p q. absurd (omega arith); refusal = λ p. (x.refusal, refl, refl) }

-- ---- demand 3

module _ {d : Delivery} {s : Service} {r k : ℕ} {lent : List ℕ} where
  in-numbers : {a : Walked} {v : List ℕ} → Walk d s r k lent a v → Answered d s r k lent (walk_result a) v
  in-numbers (not_running n) = not_running n
  in-numbers (short x l) = short x l
  in-numbers (runs x l) = runs x l

  roomy : {x : WalkResult} {v : List ℕ} → Answered d s r k lent x v → row_size * length s.calls ≤ length lent → x.number ≡ 0
  roomy (not_running n) h = refl
  roomy (short x l) h = let i = x.unbroken.inside in let n = x.unbroken.some_leg in absurd (omega arith)
  roomy (runs x l) h = refl

  none-listed : {x : WalkResult} {v : List ℕ} → Answered d s r k lent x v → x.number ≡ 0 → x.rows ≡ 0 → RunsNowhere d s k
  none-listed (not_running n) p q = n
  none-listed (short x l) p q = absurd (omega arith)
  none-listed (runs x l) p q = absurd (omega arith)

  none-run : {x : WalkResult} {v : List ℕ} → Answered d s r k lent x v → RunsNowhere d s k → (x.number ≡ 0) × (x.rows ≡ 0)
  none-run (not_running n) w = (refl, refl)
  none-run (short x l) w = absurd (never_both d s k w x.unbroken)
  none-run (runs x l) w = absurd (never_both d s k w x.unbroken)

-- of the words that load left, and of any that are unaltered: every question is answered alike
pub unaltered : (f : Files) (t : List ℕ) (helper : ℕ) (a : LoadResult) (left : List ℕ) → a ≡ load_result (loaded f (length t) helper) → left ≡ written f t helper → a.number ≡ 0
    → (w : List ℕ) → take a.words w ≡ take a.words left → {X : Type 0} (refusal : Refusal → X) (question : View → X) → asked refusal question w ≡ asked refusal question (written f t helper)
unaltered f t helper a left b q e w same refusal question =
    let n : (load_result (loaded f (length t) helper)).words ≡ a.words = ap (λ (c : LoadResult). c.words) (sym b) in
    unaltered-asked f t helper (load_result (loaded f (length t) helper)).words (accepted f (length t) helper (sym (ap (λ (c : LoadResult). c.number) b) ∙ e)) w
    (rw (n, sym q) same) refusal question

pub demand3-exported : WholeRuns
unfolding walk_of
demand3-exported f t helper a left b q e w same i r d m y day s h lent x v z k =
    let j : walk_of w i r d m y ≡ walk_of (written f t helper) i r d m y = unaltered f t helper a left b q e w same refused (λ (o : View). journey o i r d m y) in
    let promised = demand3-promised f t helper refl refl (load_result (loaded f (length t) helper)).words (accepted f (length t) helper (sym (ap (λ (c : LoadResult). c.number) b) ∙ e)) i r d m y day s h lent refl (k ∙ ap (λ (y : Journey). rows_by y lent) j) in
    let answered = subst (λ (y : WalkResult). Answered (delivered f) s r (day - (delivered f).period.start) lent y v) (sym (z ∙ ap (λ (y : Journey). walk_result (walked_by y (length lent))) j)) (in-numbers promised.1) in
    record {
      answered = answered;
      own = promised.0;
      never_refused = roomy answered;
      idle_only = none-listed answered;
      idle_always = none-run answered;
    }
