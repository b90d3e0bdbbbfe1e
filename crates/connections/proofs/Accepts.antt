-- A connection is answered "holds" exactly if it does (`accepts-exactly`), and else the part named is the first bad one (`names-first`). Assumes nothing.
use mathlib.Core.Path.{◌≡◌, refl, sym, ap, ◌∙◌}
use mathlib.Core.List.{List, [], ◌∷◌}
use mathlib.Core.Bool.{Bool, true, false, cond, ◌&&◌}
use mathlib.Core.Option.{Option, none, some}
use mathlib.Core.Logic.{◌⊎◌, inl, inr}
use Prim.Native.Nat.{ℕ, zero, suc, ◌+◌, ◌-◌, ◌*◌, ◌/◌, ◌%◌, ◌≤◌, ◌<◌}
use native.Mathlib.Omega.{arith}
use native.Mathlib.Numerals.{add-one}
use lib.ListN.{length, get_elem?, take}
use lib.Dec.{ltb, leb, eqb}
use borrow.Author.Tests.{lt-ltb, le-leb, eq-eqb, ltb-true, leb-true, eqb-true}
use Rattle.std.specs.Prelude.{Result, Ok, Err}
use Rattle.base.proofs.Laws.{apart}
use Rattle.base.proofs.Loops.{and-true}
use Rattle.timetable.specs.View.{View}
use Rattle.timetable.specs.Run.{Run, RunFound, no_run, at_rest, a_run, run_of}
use Rattle.timetable.specs.Questions.{date_of, between_in}
use Rattle.timetable.specs.declared.Call.{Call}
use Rattle.timetable.specs.declared.refusal.Refusal.{Refusal}
use Rattle.timetable.specs.declared.refusal.Refusal.TheVariants.{CategoryUnlisted, PartsNotWhole, NotBoardable, OtherStop, WaitTooShort}
use Rattle.connections.specs.declared.Part.{Part}
use Rattle.connections.specs.declared.Stage.{Stage}
use Rattle.connections.specs.Connection.{Staged, ConnectionAnswer, bad_part, part_size, most_parts, parts_of, whole_parts, row_call, boarding_allowed, alighting_allowed, stage_along, stage_between, stage_by, stage_dated, stage_of, change_time, change_to, changed_to, onward, parts_after, parts_hold, connection_in}
use Rattle.connections.specs.Promise.{IsStage, IsChange, GoesOn, ends, next, IsConnection, nothing, starts, Proposed, FirstBad}

-- ---- a stage

-- a call among the rows
row-call : (x : Run) (k : ℕ) (c : Call) → row_call x k ≡ some c → (x.start ≤ k) × (k ≤ x.start + x.legs) × (get_elem? x.service.calls k ≡ some c)
row-call x k c = go (leb x.start k && leb k (x.start + x.legs)) refl
  where
    go : (t : Bool) → (leb x.start k && leb k (x.start + x.legs)) ≡ t → cond t (get_elem? x.service.calls k) none ≡ some c → (x.start ≤ k) × (k ≤ x.start + x.legs) × (get_elem? x.service.calls k ≡ some c)
    go true e h =
        let (a, b) = and-true (leb x.start k) (leb k (x.start + x.legs)) e in
        (leb-true x.start k a, leb-true k (x.start + x.legs) b, h)
    go false e h = apart (cc)

call-row : (x : Run) (k : ℕ) (c : Call) → x.start ≤ k → k ≤ x.start + x.legs → get_elem? x.service.calls k ≡ some c → row_call x k ≡ some c
call-row x k c a b e = rw (le-leb x.start k a, le-leb k (x.start + x.legs) b) e

module _ (v : View) (p : Part) (s : Stage) where
  module _ (k : ℕ) (x : Run) (d : date_of v p.day p.month p.year ≡ Ok k) (g : run_of v p.service p.repeat k ≡ a_run x) where
    between_is : (b a : Option Call) → row_call x p.board ≡ b → row_call x p.alight ≡ a → stage_between x.service x.late k p b a ≡ Ok s → IsStage v p s
    between_is none a e f h = apart (cc)
    between_is (some b) none e f h = apart (cc)
    between_is (some b) (some a) e f h = go (ltb p.board p.alight && (boarding_allowed b && alighting_allowed a)) refl h
      where
        go : (t : Bool) → (ltb p.board p.alight && (boarding_allowed b && alighting_allowed a)) ≡ t → cond t (Ok (stage_along x.service x.late k p b a)) (Err NotBoardable) ≡ Ok s → IsStage v p s
        go false q h = apart (cc)
        go true q h =
            let (o, r) = and-true (ltb p.board p.alight) (boarding_allowed b && alighting_allowed a) q in
            let (m, n) = and-true (boarding_allowed b) (alighting_allowed a) r in
            let z : stage_along x.service x.late k p b a ≡ s = cc in
            record {
              k = k;
              run = x;
              on_day = d;
              runs = g;
              boarding = b;
              alighting = a;
              boards = (row-call x p.board b e).2;
              alights = (row-call x p.alight a f).2;
              first = (row-call x p.board b e).0;
              order = ltb-true p.board p.alight o;
              last = (row-call x p.alight a f).1;
              may_board = eqb-true (b.flags / 8 % 2) 0 m;
              may_alight = eqb-true (a.flags / 4 % 2) 0 n;
              from = ap (λ (y : Stage). y.from) (sym z);
              departs = ap (λ (y : Stage). y.departs) (sym z);
              departing = ap (λ (y : Stage). y.departing) (sym z);
              to = ap (λ (y : Stage). y.to) (sym z);
              arrives = ap (λ (y : Stage). y.arrives) (sym z);
              arriving = ap (λ (y : Stage). y.arriving) (sym z);
            }

  run_is : (k : ℕ) (f : RunFound) → date_of v p.day p.month p.year ≡ Ok k → run_of v p.service p.repeat k ≡ f → stage_by k p f ≡ Ok s → IsStage v p s
  run_is k (no_run refusal) d g h = apart (cc)
  run_is k at_rest d g h = apart (cc)
  run_is k (a_run x) d g h = between_is k x d g (row_call x p.board) (row_call x p.alight) refl refl h

  date-is : (t : Result ℕ Refusal) → date_of v p.day p.month p.year ≡ t → stage_dated v p t ≡ Ok s → IsStage v p s
  date-is (Err refusal) d h = apart (cc)
  date-is (Ok k) d h = run_is k (run_of v p.service p.repeat k) d refl h

  pub stage_is : stage_of v p ≡ Ok s → IsStage v p s
  unfolding stage_of
  stage_is h = date-is (date_of v p.day p.month p.year) refl h

  pub is-stage : IsStage v p s → stage_of v p ≡ Ok s
  unfolding stage_of
  is-stage i =
      rw (
        i.on_day,
        i.runs,
        call-row i.run p.board i.boarding i.first (omega (arith, i.order, i.last)) i.boards,
        call-row i.run p.alight i.alighting (omega (arith, i.first, i.order)) i.last i.alights,
        lt-ltb p.board p.alight i.order,
        i.may_board,
        i.may_alight,
      ) (ap Ok same)
    where
      same : stage_along i.run.service i.run.late i.k p i.boarding i.alighting ≡ s
      same = λ j. record {
        from = sym i.from j;
        departs = sym i.departs j;
        departing = sym i.departing j;
        to = sym i.to j;
        arrives = sym i.arrives j;
        arriving = sym i.arriving j;
      }

-- ---- a change

module _ (v : View) (s t : Stage) where
  pub change-is : (u : Stage) → change_to v s t ≡ Ok u → IsChange v s t × (t ≡ u)
  unfolding change_to
  change-is u = stop (eqb s.to t.from) refl
    where
      wait : (q : Bool) → leb (s.arrives + change_time v s t) t.departs ≡ q → eqb s.to t.from ≡ true → (v.listed s.arriving && v.listed t.departing) ≡ true → cond q (Ok t) (Err WaitTooShort) ≡ Ok u → IsChange v s t × (t ≡ u)
      wait false c a b h = apart (cc)
      wait true c a b h =
          let (m, n) = and-true (v.listed s.arriving) (v.listed t.departing) b in
          (record { same_stop = eqb-true s.to t.from a; arriving_listed = m; departing_listed = n; wait = leb-true (s.arrives + change_time v s t) t.departs c }, cc)

      listed : (q : Bool) → (v.listed s.arriving && v.listed t.departing) ≡ q → eqb s.to t.from ≡ true → cond q (cond (leb (s.arrives + change_time v s t) t.departs) (Ok t) (Err WaitTooShort)) (Err CategoryUnlisted) ≡ Ok u → IsChange v s t × (t ≡ u)
      listed false b a h = apart (cc)
      listed true b a h = wait (leb (s.arrives + change_time v s t) t.departs) refl a b h

      stop : (q : Bool) → eqb s.to t.from ≡ q → cond q (cond (v.listed s.arriving && v.listed t.departing) (cond (leb (s.arrives + change_time v s t) t.departs) (Ok t) (Err WaitTooShort)) (Err CategoryUnlisted)) (Err OtherStop) ≡ Ok u → IsChange v s t × (t ≡ u)
      stop false a h = apart (cc)
      stop true a h = listed (v.listed s.arriving && v.listed t.departing) refl a h

  pub is-change : IsChange v s t → change_to v s t ≡ Ok t
  unfolding change_to
  is-change i = rw (eq-eqb s.to t.from i.same_stop, i.arriving_listed, i.departing_listed, le-leb (s.arrives + change_time v s t) t.departs i.wait)

-- the time asked is what the question between two categories answers of them at that stop (No. 1)
pub change-between : (v : View) (s t : Stage) → v.stop t.from ≡ true → IsChange v s t → between_in v t.from s.arriving t.departing ≡ Ok (change_time v s t)
unfolding between_in
change-between v s t k i = rw (k, i.arriving_listed, i.departing_listed)

-- ---- the parts

module _ (v : View) where
  -- a stage after a stage
  pub changed-is : (s t : Stage) (p : Part) → changed_to v s (stage_of v p) ≡ Ok t → IsStage v p t × IsChange v s t
  changed-is s t p = go (stage_of v p) refl
    where
      go : (x : Staged) → stage_of v p ≡ x → changed_to v s x ≡ Ok t → IsStage v p t × IsChange v s t
      go (Err refusal) e h = apart (cc)
      go (Ok u) e h =
          let (c, q) = change-is v s u t h in
          (rw q at (stage_is v p u e), rw q at c)

  is-changed : (s t : Stage) (p : Part) → IsStage v p t → IsChange v s t → changed_to v s (stage_of v p) ≡ Ok t
  is-changed s t p i c = rw (is-stage v p t i) (is-change v s t c)

  goes_on : (s : Stage) (n : ℕ) (ps : List Part) → parts_after v s n ps ≡ Ok tt → GoesOn v s ps
  unfolding parts_after
  goes_on s n [] h = ends
  goes_on s n (p ∷ ps) h = go (λ t. goes_on t (n + 1) ps) (changed_to v s (stage_of v p)) refl h
    where
      go : ((t : Stage) → parts_after v t (n + 1) ps ≡ Ok tt → GoesOn v t ps) → (x : Staged) → changed_to v s (stage_of v p) ≡ x → onward n x (λ (t : Stage). parts_after v t (n + 1) ps) ≡ Ok tt → GoesOn v s (p ∷ ps)
      go on (Err refusal) e h = apart (cc)
      go on (Ok t) e h =
          let (i, c) = changed-is s t p e in
          next t i c (on t h)

  on-holds : (s : Stage) (n : ℕ) (ps : List Part) → GoesOn v s ps → parts_after v s n ps ≡ Ok tt
  unfolding parts_after
  on-holds s n [] g = refl
  on-holds s n (p ∷ ps) (next t i c g) = rw (is-changed s t p i c) (on-holds t (n + 1) ps g)

  pub parts_are : (ps : List Part) → parts_hold v ps ≡ Ok tt → IsConnection v ps
  parts_are [] h = nothing
  parts_are (p ∷ ps) h = go (stage_of v p) refl h
    where
      go : (x : Staged) → stage_of v p ≡ x → onward 1 x (λ (s : Stage). parts_after v s 2 ps) ≡ Ok tt → IsConnection v (p ∷ ps)
      go (Err refusal) e h = apart (cc)
      go (Ok s) e h = starts s (stage_is v p s e) (goes_on s 2 ps h)

  pub are-parts : (ps : List Part) → IsConnection v ps → parts_hold v ps ≡ Ok tt
  are-parts [] c = refl
  are-parts (p ∷ ps) (starts s i g) = rw (is-stage v p s i) (on-holds s 2 ps g)

  -- ---- "Accept exactly if"

  module _ (ws : List ℕ) where
    pub accepted-is : connection_in v ws ≡ Ok tt → Proposed v ws
    unfolding connection_in
    accepted-is = go (whole_parts (length ws)) refl
      where
        go : (t : Bool) → whole_parts (length ws) ≡ t → cond t (parts_hold v (parts_of ws)) (bad_part PartsNotWhole 0) ≡ Ok tt → Proposed v ws
        go false e h = apart (cc)
        go true e h =
            let (m, r) = and-true (eqb (length ws % part_size) 0) (leb 1 (length ws / part_size) && leb (length ws / part_size) most_parts) e in
            let (l, g) = and-true (leb 1 (length ws / part_size)) (leb (length ws / part_size) most_parts) r in
            record {
              count = length ws / part_size;
              some_part = leb-true 1 (length ws / part_size) l;
              ten_at_most = leb-true (length ws / part_size) most_parts g;
              whole = omega (arith, eqb-true (length ws % part_size) 0 m);
              holds = parts_are (parts_of ws) h;
            }

    pub is-accepted : Proposed v ws → connection_in v ws ≡ Ok tt
    unfolding connection_in
    is-accepted q =
        let m : length ws % part_size ≡ 0 = omega (arith, q.whole) in
        let l : 1 ≤ length ws / part_size = omega (arith, q.whole, q.some_part) in
        let g : length ws / part_size ≤ most_parts = omega (arith, q.whole, q.ten_at_most) in
        rw (m, le-leb 1 (length ws / part_size) l, le-leb (length ws / part_size) most_parts g) (are-parts (parts_of ws) q.holds)

pub accepts-exactly : (v : View) (ws : List ℕ) → (connection_in v ws ≡ Ok tt → Proposed v ws) × (Proposed v ws → connection_in v ws ≡ Ok tt)
accepts-exactly v ws = (accepted-is v ws, is-accepted v ws)

-- ---- the first bad part

-- which it is, 0 for none
abbrev pub named : ConnectionAnswer → ℕ
named (Ok d) = 0
named (Err r) = r.part

-- and why
abbrev pub why : ConnectionAnswer → Refusal
why (Ok d) = PartsNotWhole
why (Err r) = r.refusal

module _ (v : View) where
  -- of the parts after a stage, part n being the first of them
  record BadAfter (s : Stage) (n m : ℕ) (ps : List Part) : Type 0 where
    pub i : ℕ
    pub place : m ≡ n + i
    pub inside : i < length ps
    pub before : GoesOn v s (take i ps)
    pub bad : GoesOn v s (take (suc i) ps) → ⊥

  not-changed : (s t : Stage) (p : Part) (x : Staged) → changed_to v s (stage_of v p) ≡ x → IsStage v p t → IsChange v s t → x ≡ Ok t
  not-changed s t p x e i c = sym e ∙ is-changed v s t p i c

  bad-after : (s : Stage) (n : ℕ) (r : Refusal) (m : ℕ) (ps : List Part) → parts_after v s n ps ≡ bad_part r m → BadAfter s n m ps
  unfolding parts_after
  bad-after s n r m [] h = apart (cc)
  bad-after s n r m (p ∷ ps) h = go (λ t. bad-after t (n + 1) r m ps) (changed_to v s (stage_of v p)) refl h
    where
      here : (refusal : Refusal) → changed_to v s (stage_of v p) ≡ Err refusal → GoesOn v s (p ∷ []) → ⊥
      here refusal e (next t i c g) =
          let q : Err refusal ≡ Ok t = not-changed s t p (Err refusal) e i c in
          let z : ◌≡◌ {A = ℕ} 0 1 = cc in
          omega arith

      later : (t : Stage) → changed_to v s (stage_of v p) ≡ Ok t → (qs : List Part) → (GoesOn v t qs → ⊥) → GoesOn v s (p ∷ qs) → ⊥
      later t e qs b (next u i c g) =
          let q : Ok t ≡ Ok u = not-changed s u p (Ok t) e i c in
          let z : u ≡ t = cc in
          b (rw z at g)

      go : ((t : Stage) → parts_after v t (n + 1) ps ≡ bad_part r m → BadAfter t (n + 1) m ps) → (x : Staged) → changed_to v s (stage_of v p) ≡ x → onward n x (λ (t : Stage). parts_after v t (n + 1) ps) ≡ bad_part r m → BadAfter s n m (p ∷ ps)
      go on (Err refusal) e h =
          let z : m ≡ n = ap named (sym h) in
          record { i = 0; place = omega arith; inside = omega arith; before = ends; bad = here refusal e }
      go on (Ok t) e h =
          let b : BadAfter t (n + 1) m ps = on t h in
          let (i, c) = changed-is v s t p e in
          record { i = suc b.i; place = omega (arith, b.place); inside = omega (arith, b.inside); before = next t i c b.before; bad = later t e (take (suc b.i) ps) b.bad }

  first-bad : (r : Refusal) (m : ℕ) (ps : List Part) → parts_hold v ps ≡ bad_part r m → FirstBad v ps m
  first-bad r m [] h = apart (cc)
  first-bad r m (p ∷ ps) h = go (stage_of v p) refl h
    where
      here : (refusal : Refusal) → stage_of v p ≡ Err refusal → IsConnection v (p ∷ []) → ⊥
      here refusal e (starts s i g) =
          let q : stage_of v p ≡ Ok s = is-stage v p s i in
          let z : ◌≡◌ {A = ℕ} 0 1 = cc in
          omega arith

      later : (s : Stage) → stage_of v p ≡ Ok s → (qs : List Part) → (GoesOn v s qs → ⊥) → IsConnection v (p ∷ qs) → ⊥
      later s e qs b (starts t i g) =
          let q : stage_of v p ≡ Ok t = is-stage v p t i in
          let z : t ≡ s = cc in
          b (rw z at g)

      go : (x : Staged) → stage_of v p ≡ x → onward 1 x (λ (s : Stage). parts_after v s 2 ps) ≡ bad_part r m → FirstBad v (p ∷ ps) m
      go (Err refusal) e h =
          let z : m ≡ 1 = ap named (sym h) in
          rw z (record { low = omega arith; high = omega arith; before = nothing; bad = here refusal e })
      go (Ok s) e h =
          let b : BadAfter s 2 m ps = bad-after s 2 r m ps h in
          let z : m ≡ suc (suc b.i) = omega (arith, b.place) in
          let y : suc (suc b.i) - 1 ≡ suc b.i = omega arith in
          rw z (record { low = omega arith; high = omega (arith, b.inside); before = rw y (starts s (stage_is v p s e) b.before); bad = later s e (take (suc b.i) ps) b.bad })

  -- a refusal is 46 and names 0, or names the first bad part
  pub names-first : (ws : List ℕ) (r : Refusal) (m : ℕ) → connection_in v ws ≡ bad_part r m → ((r ≡ PartsNotWhole) × (m ≡ 0) × (whole_parts (length ws) ≡ false)) ⊎ FirstBad v (parts_of ws) m
  unfolding connection_in
  names-first ws r m = go (whole_parts (length ws)) refl
    where
      go : (t : Bool) → whole_parts (length ws) ≡ t → cond t (parts_hold v (parts_of ws)) (bad_part PartsNotWhole 0) ≡ bad_part r m → ((r ≡ PartsNotWhole) × (m ≡ 0) × (whole_parts (length ws) ≡ false)) ⊎ FirstBad v (parts_of ws) m
      go false e h = inl (ap why (sym h), ap named (sym h), e)
      go true e h = inr (first-bad r m (parts_of ws) h)
