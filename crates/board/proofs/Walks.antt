-- A departure is what a row of its run's walk says (`departure-row`), and what such a row says is a departure (`row-departure`): so a board equals the one from walking every
-- run (`board-walked`). Assumes nothing.
use mathlib.Core.Path.{◌≡◌, refl, ap, ◌∙◌, sym}
use mathlib.Core.List.{List, [], ◌∷◌, ◌++◌}
use mathlib.Core.Bool.{Bool, true, false, cond, not}
use mathlib.Core.Option.{Option, none, some}
use Prim.Native.Nat.{ℕ, zero, suc, ◌+◌, ◌-◌, ◌*◌, ◌/◌, ◌%◌, ◌≤◌, ◌<◌}
use native.Mathlib.Omega.{arith}
use lib.ListN.{length, get_or, get_elem?, take, drop, length-append, get_or-append}
use lib.Seq.{get_or-append-add}
use lib.Dec.{eqb}
use borrow.Author.Tests.{ne_eqb, not-true}
use Rattle.base.proofs.Laws.{clash}
use Rattle.timetable.specs.Delivery.{Service}
use Rattle.timetable.specs.View.{View}
use Rattle.timetable.specs.Run.{Run, a_run, run_of, stretch_calls, stretch_from}
use Rattle.timetable.specs.Questions.{Journey, refused, idle, rows, row_of, rows_of, rows_along}
use Rattle.timetable.specs.declared.Call.{Call}
use Rattle.board.specs.Board.{Departure, IsDeparture, board_of}
use Rattle.board.specs.Walks.{WalkLists, IsWalked}
use Rattle.board.proofs.Meaning.{Served, board-is}

-- ---- elements of a list

elem-drop : {X : Type 0} (l : List X) (a q : ℕ) → get_elem? (drop a l) q ≡ get_elem? l (a + q)
elem-drop l zero q = let z : 0 + q ≡ q = omega arith in ap (get_elem? l) (sym z)
elem-drop [] (suc a) zero = let z : suc a + 0 ≡ suc a = omega arith in ap (get_elem? []) (sym z)
elem-drop [] (suc a) (suc q) = let z : suc a + suc q ≡ suc (a + suc q) = omega arith in ap (get_elem? []) (sym z)
elem-drop (x ∷ l) (suc a) q = let z : suc a + q ≡ suc (a + q) = omega arith in elem-drop l a q ∙ ap (get_elem? (x ∷ l)) (sym z)

elem-take : {X : Type 0} (l : List X) (m q : ℕ) → q < m → get_elem? (take m l) q ≡ get_elem? l q
elem-take l zero q h = absurd (omega arith)
elem-take [] (suc m) q h = refl
elem-take (x ∷ l) (suc m) zero h = refl
elem-take (x ∷ l) (suc m) (suc q) h = elem-take l m q (omega arith)

is_call : Option Call → Bool
is_call none = false
is_call (some c) = true

call_or : Call → Option Call → Call
call_or d none = d
call_or d (some c) = c

-- row q of the rows along some calls, the first of them the i-th
rows_at : (v : View) (s : Service) (a m delay i : ℕ) (cs : List Call) (q : ℕ) (c : Call) → get_elem? cs q ≡ some c → (w : ℕ) → w < 10 → get_or (rows_of v s a m delay i cs) (10 * q + w) 0 ≡ get_or (row_of v s a m delay (i + q) c) w 0
unfolding rows_of is_call call_or
rows_at v s a m delay i [] zero c e w h = clash (ap is_call e)
rows_at v s a m delay i [] (suc q) c e w h = clash (ap is_call e)
rows_at v s a m delay i (x ∷ cs) zero c e w h =
    let d : x ≡ c = ap (call_or x) e in
    let z : i + 0 ≡ i = omega arith in
    let y : 10 * 0 + w ≡ w = omega arith in
    ap (λ (j : ℕ). get_or (row_of v s a m delay i x ++ rows_of v s a m delay (i + 1) cs) j 0) y
    ∙ get_or-append (row_of v s a m delay i x) (rows_of v s a m delay (i + 1) cs) 0 w h
    ∙ (λ j. get_or (row_of v s a m delay (sym z j) (d j)) w 0)
rows_at v s a m delay i (x ∷ cs) (suc q) c e w h =
    let z : i + suc q ≡ i + 1 + q = omega arith in
    let y : 10 * suc q + w ≡ 10 + (10 * q + w) = omega arith in
    ap (λ (j : ℕ). get_or (row_of v s a m delay i x ++ rows_of v s a m delay (i + 1) cs) j 0) y
    ∙ get_or-append-add (row_of v s a m delay i x) (rows_of v s a m delay (i + 1) cs) (10 * q + w) 0
    ∙ rows_at v s a m delay (i + 1) cs q c e w h
    ∙ ap (λ (j : ℕ). get_or (row_of v s a m delay j c) w 0) (sym z)

elem_past : (l : List Call) (q : ℕ) → q < length l → get_elem? l q ≡ none → ⊥
unfolding is_call
elem_past [] q h e = absurd (omega arith)
elem_past (x ∷ l) zero h e = clash (sym (ap is_call e))
elem_past (x ∷ l) (suc q) h e = elem_past l q (omega arith) e

elem_below : (l : List Call) (q : ℕ) (c : Call) → get_elem? l q ≡ some c → q < length l
unfolding is_call
elem_below [] zero c e = clash (ap is_call e)
elem_below [] (suc q) c e = clash (ap is_call e)
elem_below (x ∷ l) zero c e = omega arith
elem_below (x ∷ l) (suc q) c e = omega (arith, elem_below l q c e)

rows_long : (v : View) (s : Service) (a m delay i : ℕ) (cs : List Call) → length (rows_of v s a m delay i cs) ≡ 10 * length cs
unfolding rows_of
rows_long v s a m delay i [] = refl
rows_long v s a m delay i (c ∷ cs) = omega (arith, length-append (row_of v s a m delay i c) (rows_of v s a m delay (i + 1) cs), rows_long v s a m delay (i + 1) cs)

-- flag 8 of a row before the last is the call's
eighths : (a c : ℕ) → a < 8 → (a + c * 8) / 8 ≡ c
eighths a c h = omega arith

flag-kept : (b : Bool) (f : ℕ) → (cond b 0 (f % 2 + f / 4 % 2 * 4) + (f / 2 % 2 * 2 + f / 8 * 8)) / 8 % 2 ≡ f / 8 % 2
flag-kept true f =
    let e : 0 + (f / 2 % 2 * 2 + f / 8 * 8) ≡ f / 2 % 2 * 2 + f / 8 * 8 = omega arith in
    ap (λ (m : ℕ). m / 8 % 2) e ∙ ap (λ (m : ℕ). m % 2) (eighths (f / 2 % 2 * 2) (f / 8) (omega arith))
flag-kept false f =
    let e : f % 2 + f / 4 % 2 * 4 + (f / 2 % 2 * 2 + f / 8 * 8) ≡ f % 2 + f / 4 % 2 * 4 + f / 2 % 2 * 2 + f / 8 * 8 = omega arith in
    ap (λ (m : ℕ). m / 8 % 2) e ∙ ap (λ (m : ℕ). m % 2) (eighths (f % 2 + f / 4 % 2 * 4 + f / 2 % 2 * 2) (f / 8) (omega arith))

-- ---- a run's calls and its rows

module _ (v : View) (x : Run) where
  abbrev along : List Call
  along = stretch_calls x.service (stretch_from x.start x.legs)

  abbrev given : List ℕ
  given = rows_of v x.service x.start x.legs x.late 0 (stretch_calls x.service (stretch_from x.start x.legs))

  module _ (q : ℕ) (h : q < x.legs) where
    at_place : get_elem? along q ≡ get_elem? x.service.calls (x.start + q)
    at_place = elem-take (drop x.start x.service.calls) (x.legs + 1) q (omega arith) ∙ elem-drop x.service.calls x.start q

    inner : eqb (0 + q) x.legs ≡ false
    inner = ne_eqb (0 + q) x.legs (λ z. absurd (omega (arith, z)))

    module _ (c : Call) (g : get_elem? along q ≡ some c) where
      row-there : 10 * q < length given
      row-there = omega (arith, elem_below along q c g, rows_long v x.service x.start x.legs x.late 0 along)

      row-stop : get_or given (10 * q + 0) 0 ≡ c.stop
      row-stop = rows_at v x.service x.start x.legs x.late 0 along q c g 0 (omega arith)

      row-time : get_or given (10 * q + 2) 0 ≡ c.departure + x.late
      row-time = rows_at v x.service x.start x.legs x.late 0 along q c g 2 (omega arith) ∙ ap (λ (b : Bool). cond b 0 (c.departure + x.late)) inner

      row-flag : get_or given (10 * q + 3) 0 / 8 % 2 ≡ c.flags / 8 % 2
      row-flag =
          ap (λ (f : ℕ). f / 8 % 2)
          (rows_at v x.service x.start x.legs x.late 0 along q c g 3 (omega arith)
          ∙ ap (λ (b : Bool). cond (eqb (0 + q) 0) 0 (c.flags % 2 + c.flags / 4 % 2 * 4) + cond b 0 (c.flags / 2 % 2 * 2 + c.flags / 8 * 8)) inner)
          ∙ flag-kept (eqb (0 + q) 0) c.flags

-- ---- from a departure to its row, and back

pub departure-row : (v : View) (n k t u : ℕ) (e : Departure) → IsDeparture v n k t u e → WalkLists v n k t u e
departure-row v n k t u e d =
    let z : d.run.start + (e.place - d.run.start) ≡ e.place = omega (arith, d.from) in
    let h : e.place - d.run.start < d.run.legs = omega (arith, d.before, d.from) in
    let g : get_elem? (along v d.run) (e.place - d.run.start) ≡ some d.call = at_place v d.run (e.place - d.run.start) h ∙ ap (get_elem? d.run.service.calls) z ∙ d.there in
    record {
      run = d.run;
      runs = d.runs;
      words = given v d.run;
      listed = ap (rows_along v) d.runs;
      row = e.place - d.run.start;
      there = row-there v d.run (e.place - d.run.start) h d.call g;
      more = h;
      place = sym z;
      stop = row-stop v d.run (e.place - d.run.start) h d.call g ∙ d.stop;
      time = row-time v d.run (e.place - d.run.start) h d.call g ∙ sym d.time;
      boards = ap (λ (f : ℕ). eqb f 1) (row-flag v d.run (e.place - d.run.start) h d.call g) ∙ not-true (eqb (d.call.flags / 8 % 2) 1) d.boards;
      first = d.first;
      last = d.last;
    }

rows_in : Journey → List ℕ
rows_in (refused refusal) = []
rows_in idle = []
rows_in (rows l) = l

pub row-departure : (v : View) (n k t u : ℕ) (e : Departure) → WalkLists v n k t u e → IsDeparture v n k t u e
unfolding rows_in
row-departure v n k t u e d = go (get_elem? (along v d.run) d.row) refl
  where
    same : d.words ≡ given v d.run
    same = ap rows_in (sym d.listed ∙ ap (rows_along v) d.runs)

    word : (j : ℕ) → get_or (given v d.run) j 0 ≡ get_or d.words j 0
    word j = ap (λ (l : List ℕ). get_or l j 0) (sym same)

    go : (o : Option Call) → get_elem? (along v d.run) d.row ≡ o → IsDeparture v n k t u e
    go none g = absurd (elem_past (along v d.run) d.row (omega (arith, d.there, ap length same, rows_long v d.run.service d.run.start d.run.legs d.run.late 0 (along v d.run))) g)
    go (some c) g = record {
      run = d.run;
      runs = d.runs;
      from = omega (arith, d.place);
      before = omega (arith, d.place, d.more);
      call = c;
      there = ap (get_elem? d.run.service.calls) d.place ∙ sym (at_place v d.run d.row d.more) ∙ g;
      stop = sym (row-stop v d.run d.row d.more c g) ∙ word (10 * d.row + 0) ∙ d.stop;
      boards = ap (λ (f : ℕ). not (eqb f 1)) (sym (row-flag v d.run d.row d.more c g) ∙ ap (λ (f : ℕ). f / 8 % 2) (word (10 * d.row + 3))) ∙ ap not d.boards;
      time = sym d.time ∙ sym (word (10 * d.row + 2)) ∙ row-time v d.run d.row d.more c g;
      first = d.first;
      last = d.last;
    }

pub board-walked : (v : View) (n k t u services : ℕ) → Served v services → IsWalked v n k t u (board_of v services n k t u)
board-walked v n k t u services s =
    let b = board-is v n k t u services s in
    record { ordered = b.ordered; only = λ e m. departure-row v n k t u e (b.only e m); every = λ e m. b.every e (row-departure v n k t u e m) }
