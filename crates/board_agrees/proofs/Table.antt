-- The board that the contracts cite is a board by its definition: for the view of any words (`shown-board`) and of a table (`table-board`). And whatever the words of the
-- calls, where their mark is true: what a quick board lists is a departure (`by_only`). Assumes nothing.
use mathlib.Core.Path.{◌≡◌, refl, ap}
use mathlib.Core.List.{List, [], ◌∷◌}
use mathlib.Core.Logic.{⊎_elim}
use mathlib.Core.Bool.{Bool, true, false, cond}
use Prim.Native.Nat.{ℕ, ◌<◌}
use lib.ListN.{take}
use lib.Dec.{ltb}
use borrow.Author.Tests.{ltb-true}
use Rattle.std.specs.Prelude.{Result, Ok, Err}
use Rattle.base.specs.Lists.{gathered}
use Rattle.base.proofs.Laws.{clash}
use Rattle.timetable.specs.Delivery.{Service}
use Rattle.timetable.specs.Table.{services#, stops#, used_words, table_of}
use Rattle.timetable.specs.View.{view_of}
use Rattle.timetable.specs.declared.refusal.Refusal.{Refusal}
use Rattle.timetable.specs.declared.refusal.Refusal.TheVariants.{NoSuchService}
use Rattle.table.specs.JustTable.{JustTable}
use Rattle.index.specs.Index.{record_in, record_from, record_place_in, service_from, stops_from, stop_section, section_end, view_in}
use Rattle.index.proofs.Agrees.{view-plain}
use Rattle.stop_calls.specs.StopCalls.{entry_word, calls_by}
use Rattle.board.specs.Board.{Departure, Among, IsDeparture, IsBoard, board_of}
use Rattle.board.proofs.Among.{among-either}
use Rattle.board.proofs.Ascending.{among-sorted}
use Rattle.board.proofs.Meaning.{Served, place-among, offered-departure, board-is}
use Rattle.board_runs.specs.Batch.{found_at, departures_at, record_of, departures_in}
use Rattle.table.specs.Steady.{calls_steady}
use Rattle.board_runs.proofs.Goes.{steady-same}
use Rattle.boards.specs.ByWords.{steady_in, departures_by, board_by}
use Rattle.boards.specs.ByWords as B
use Rattle.boards.proofs.Bounds.{opening-shown}

is_service : Result Service Refusal → Bool
is_service (Err refusal) = false
is_service (Ok s) = true

pub served-shown : (w x : List ℕ) → Served (view_in w x) (services# w)
unfolding view_in record_in is_service
served-shown w x = record { most = λ i s e. within i s (ltb i (services# w)) refl e; sound = λ i s e. opening-shown w x i s e }
  where
    within : (i : ℕ) (s : Service) (t : Bool) → ltb i (services# w) ≡ t → service_from w (cond t (record_from w (record_place_in w x i)) (Err NoSuchService)) ≡ Ok s → i < services# w
    within i s true q e = ltb-true i (services# w) q
    within i s false q e = clash (ap is_service e)

-- the board of any words and any index
pub shown-board : (w x : List ℕ) (n k t u : ℕ) → IsBoard (view_in w x) n k t u (board_of (view_in w x) (services# w) n k t u)
shown-board w x n k t u = board-is (view_in w x) n k t u (services# w) (served-shown w x)

-- the board of a table
pub table-board : (w : List ℕ) (n k t u : ℕ) → JustTable w → IsBoard (view_of (table_of w)) n k t u (board_of (view_of (table_of w)) (services# w) n k t u)
table-board w n k t u h =
    let e : view_in w [] ≡ view_of (table_of w) = view-plain w [] h refl in
    rw e at (shown-board w [] n k t u)

-- ---- whatever the index

record From {X Y : Type 0} (f : X → List Y) (y : Y) : Type 0 where
  pub which : X
  pub one : Among y (f which)

gathered-from : {X Y : Type 0} (f : X → List Y) (l : List X) (y : Y) → Among y (gathered f l) → From f y
unfolding gathered Among
gathered-from f [] y h = absurd h
gathered-from f (x ∷ l) y h = ⊎_elim (λ m. record { which = x; one = m }) (λ m. gathered-from f l y m) (among-either y (f x) (gathered f l) h)

at-departure : (w x : List ℕ) (n k t u i p : ℕ) (e : Departure) → Among e (departures_at (view_in w x) n k t u i p) → IsDeparture (view_in w x) n k t u e
unfolding departures_at Among
at-departure w x n k t u i p e h = go ((view_in w x).service i) refl h
  where
    go : (f : Result Service Refusal) → (view_in w x).service i ≡ f → Among e (found_at (view_in w x) n k t u i p f) → IsDeparture (view_in w x) n k t u e
    go (Err refusal) q m = absurd m
    go (Ok s) q m =
        offered-departure (view_in w x) n k t u i (services# w) e (served-shown w x)
        (record { service = s; found = q; place = p; placed = place-among (view_in w x) n k t u i s p e m })

-- what a quick board lists is a departure of what words and look-ups show, unless the words of the calls mark them as steady and they are not: those words can hide one, or list
-- one twice, and can invent none
pub by_only : (w x y : List ℕ) (n k t u : ℕ) (e : Departure) → (steady_in (stops# w) y ≡ true → (i : ℕ) → i < services# w → calls_steady (stops# w) (record_of w x i) ≡ true)
    → Among e (board_by w x y n k t u) → IsDeparture (view_in w x) n k t u e
unfolding board_by departures_by B.entry_departures
by_only w x y n k t u e s h =
    let g = gathered-from (λ (c : ℕ). departures_in (steady_in (stops# w) y) w x n k t u (entry_word (stops# w) y 1 c) (entry_word (stops# w) y 3 c)) (take (used_words w) (calls_by w x y (section_end (stop_section w)) (stops# w) (stops_from w) n)) e (among-sorted e (departures_by w x y n k t u) h) in
    let q = steady-same (steady_in (stops# w) y) w x n k t u (entry_word (stops# w) y 1 g.which) (entry_word (stops# w) y 3 g.which) (λ z. s z (entry_word (stops# w) y 1 g.which)) in
    at-departure w x n k t u (entry_word (stops# w) y 1 g.which) (entry_word (stops# w) y 3 g.which) e (rw q at g.one)
