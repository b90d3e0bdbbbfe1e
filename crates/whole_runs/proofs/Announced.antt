-- The number and the administration that hold at a service's calls are what its lines say hold there. Assumes nothing.
use mathlib.Core.Path.{◌≡◌, refl, sym, ap, ◌∙◌, subst}
use mathlib.Core.List.{List, [], ◌∷◌, map}
use mathlib.Core.Bool.{Bool, true, false, cond}
use mathlib.Core.Option.{Option, none, some}
use Rattle.std.specs.Prelude.{Option as RustOption, Some, None}
use Rattle.std.specs.Option.{unwrap_or}
use Prim.Native.Nat.{ℕ, zero, suc, ◌+◌, ◌≤◌, ◌<◌}
use native.Mathlib.Omega.{arith}
use lib.ListN.{length, get_or, get_elem?}
use Rattle.base.specs.Lists.{gathered}
use Rattle.base.proofs.Laws.{apart}
use Rattle.lines.specs.Lines.{Line}
use Rattle.timetable.specs.Delivery.{Service, Delivery}
use Rattle.timetable.specs.Legs.{leg_count}
use Rattle.timetable.specs.Plan.{tolds, as_call, said_on}
use Rattle.timetable.specs.Service.{opening_of, opened, announced, call_by, holding, called_on, calls_of, service_of}
use Rattle.timetable.specs.declared.Announced.{Announced}
use Rattle.timetable.specs.declared.Call.{Call}
use Rattle.timetable.specs.declared.Administration.{Administration}
use Rattle.timetable.specs.declared.CallLine.{CallLine}
use Rattle.timetable.proofs.Lines.{said-on}
use Rattle.whole_runs.specs.Text.{number_by, administration_by, number_said, administration_said, HoldsAt, since, from_start, Announces, FromText}
use Rattle.whole_runs.specs.Rows.{row_word, no_call, call_no, Stretched}

-- ---- what holds, from the first line on

-- what a line leaves: what it says, else what held before
abbrev otherwise : {X : Type 0} → Option X → X → X
otherwise none z = z
otherwise (some x) z = x

same_line : {l m : CallLine} → some l ≡ some m → l ≡ m
same_line e = cc

module _ {X : Type 0} (say : CallLine → Option X) where
  -- at the first call
  at_first : (l : CallLine) (ls : List CallLine) (z : X) → HoldsAt say (l ∷ ls) z 0 (otherwise (say l) z)
  at_first l ls z = go (say l) refl
    where
      go : (o : Option X) → say l ≡ o → HoldsAt say (l ∷ ls) z 0 (otherwise o z)
      go none e = from_start (λ j m h q. let w : j ≡ 0 = omega arith in ap say (same_line (sym q ∙ ap (get_elem? (l ∷ ls)) w)) ∙ e)
      go (some x) e = since 0 {l = l} (omega arith) refl e (λ j m h k q. absurd (omega arith))

  -- at a later one, with a line more before it
  at-later : (l : CallLine) (ls : List CallLine) (z : X) (p : ℕ) (x : X) → HoldsAt say ls (otherwise (say l) z) p x → HoldsAt say (l ∷ ls) z (suc p) x
  at-later l ls z p x (since i {l = m} h e s n) = since (suc i) {l = m} (omega arith) e s later
    where
      later : (j : ℕ) (m : CallLine) → suc i < j → j ≤ suc p → get_elem? (l ∷ ls) j ≡ some m → say m ≡ none
      later zero m a b q = absurd (omega arith)
      later (suc j) m a b q = n j m (omega arith) (omega arith) q
  at-later l ls z p x (from_start n) = go (say l) refl
    where
      go : (o : Option X) → say l ≡ o → HoldsAt say (l ∷ ls) z (suc p) (otherwise o z)
      go none e = from_start silent
        where
          silent : (j : ℕ) (m : CallLine) → j ≤ suc p → get_elem? (l ∷ ls) j ≡ some m → say m ≡ none
          silent zero m b q = ap say (same_line (sym q)) ∙ e
          silent (suc j) m b q = n j m (omega arith) q
      go (some y) e = since 0 {l = l} (omega arith) refl e later
        where
          later : (j : ℕ) (m : CallLine) → 0 < j → j ≤ suc p → get_elem? (l ∷ ls) j ≡ some m → say m ≡ none
          later zero m a b q = absurd (omega arith)
          later (suc j) m a b q = n j m (omega arith) q

  -- where each call holds by `has` what its line leaves of what held before it
  module _ (has : Announced → X) (leaves : (a : Announced) (l : CallLine) → otherwise (say l) (has a) ≡ has (announced (call_by a l))) where
    at_call : (a : Announced) (xs : List (ℕ × CallLine)) (p : ℕ) → p < length (map (λ (c : ℕ × Call). c.1) (holding a xs))
        → HoldsAt say (map (λ (c : ℕ × CallLine). c.1) xs) (has a) p (has (announced (get_or (map (λ (c : ℕ × Call). c.1) (holding a xs)) p no_call)))
    unfolding holding
    at_call a [] p h = absurd (omega arith)
    at_call a (x ∷ xs) zero h =
        let ls : List CallLine = map (λ (c : ℕ × CallLine). c.1) xs in
        subst (HoldsAt say (x.1 ∷ ls) (has a) 0) (leaves a x.1) (at_first x.1 ls (has a))
    at_call a (x ∷ xs) (suc p) h =
        let ls : List CallLine = map (λ (c : ℕ × CallLine). c.1) xs in
        let b : Announced = announced (call_by a x.1) in
        let y : X = has (announced (get_or (map (λ (c : ℕ × Call). c.1) (holding b xs)) p no_call)) in
        at-later x.1 ls (has a) p y (subst (λ (z : X). HoldsAt say ls z p y) (sym (leaves a x.1)) (at_call b xs p (omega arith)))

    at-text : (ls : List Line) (p : ℕ) → p < length (calls_of ls) → HoldsAt say (gathered as_call (tolds ls)) (has (opened (opening_of ls))) p (has (announced (get_or (calls_of ls) p no_call)))
    unfolding called_on
    at-text ls p h =
        subst (λ (cs : List CallLine). HoldsAt say cs (has (opened (opening_of ls))) p (has (announced (get_or (calls_of ls) p no_call)))) (said-on as_call ls)
        (at_call (opened (opening_of ls)) (said_on as_call ls) p h)

-- ---- number and administration

leaves-number : (a : Announced) (l : CallLine) → otherwise (number_said l) a.number ≡ (call_by a l).number
leaves-number a l = go l.number
  where
    go : (o : RustOption ℕ) → otherwise (number_by o) a.number ≡ unwrap_or o a.number
    go None = refl
    go (Some n) = refl

-- the administration that holds, where b held before
abbrev held : Announced → RustOption Administration → Administration
held b o = unwrap_or o (record { high = b.high; low = b.low })

leaves-administration : (a : Announced) (l : CallLine) → ◌≡◌ {A = ℕ × ℕ} (otherwise (administration_said l) (a.high, a.low)) ((call_by a l).high, (call_by a l).low)
leaves-administration a l = go l.administration
  where
    go : (o : RustOption Administration) → ◌≡◌ {A = ℕ × ℕ} (otherwise (administration_by o) (a.high, a.low)) ((held a o).high, (held a o).low)
    go None = refl
    go (Some x) = refl

announces : (ls : List Line) (p : ℕ) → p < length (calls_of ls)
    → Announces ls p (get_or (calls_of ls) p no_call).number (get_or (calls_of ls) p no_call).high (get_or (calls_of ls) p no_call).low
announces ls p h = record {
  number_holds = at-text number_said (λ (a : Announced). a.number) leaves-number ls p h;
  administration_holds = at-text administration_said (λ (a : Announced). (a.high, a.low)) leaves-administration ls p h;
}

-- ---- of the rows of a run

module _ (bs : List (List Line)) (i : ℕ) (s : Service) (t : FromText bs i s) where
  at_own : (p : ℕ) → p < length s.calls → Announces t.lines p (call_no s p).number (call_no s p).high (call_no s p).low
  unfolding service_of
  at_own p h =
      let e : calls_of t.lines ≡ s.calls = ap (λ (s : Service). s.calls) t.read in
      subst (λ (cs : List Call). Announces t.lines p (get_or cs p no_call).number (get_or cs p no_call).high (get_or cs p no_call).low) e (announces t.lines p (rw e h))

  pub rows-announce : (d : Delivery) {r k : ℕ} {ws : List ℕ} (x : Stretched d s r k ws) (q : ℕ) → q ≤ x.legs
      → Announces t.lines (x.start + q) (row_word ws q 4) (row_word ws q 5) (row_word ws q 6)
  rows-announce d x q h =
      let y = x.row q h in
      let u = x.unbroken.inside in
      let v = x.unbroken.some_leg in
      rw (y.number, y.administration.0, y.administration.1) (at_own (x.start + q) (omega arith))
