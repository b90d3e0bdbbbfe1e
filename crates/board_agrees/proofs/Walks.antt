-- No. 9's theorem of any words: where the question for a board is answered by rows, these are in order, each once, and exactly the departures that the walks of the same words
-- list (`asked-walks`; the type is `EqualsWalks`, board/specs/Walks). Assumes nothing.
use mathlib.Core.Path.{◌≡◌, refl, ap, ◌∙◌, sym}
use mathlib.Core.List.{List, []}
use mathlib.Core.Bool.{Bool, true, false, cond}
use Prim.Native.Nat.{ℕ}
use native.Mathlib.Omega.{arith}
use lib.Seq.{get_or-take}
use Rattle.std.specs.Prelude.{Result, Ok, Err}
use Rattle.base.proofs.Laws.{clash}
use Rattle.timetable.specs.declared.refusal.Refusal.TheVariants.{NoTable, StopUnknown, NotItsIndex}
use Rattle.timetable.specs.Table.{used_words, services#, used, table_of, is_table}
use Rattle.timetable.specs.View.{View, view_of}
use Rattle.timetable.specs.Run.{run_of}
use Rattle.timetable.specs.Questions.{date_of, dated_run, rows_along, journey, walk_of}
use Rattle.timetable.specs.declared.refusal.Refusal.{Refusal}
use Rattle.table.proofs.Says.{table-says}
use Rattle.table.proofs.JustTable.{used-just, used-same}
use Rattle.index.specs.Index.{view_in}
use Rattle.index.proofs.Agrees.{view-plain}
use Rattle.board.specs.Board.{Departure, board_of}
use Rattle.board.specs.Question.{BoardFound, refused, board, board_on, board_in, board_asked}
use Rattle.board.specs.Walks.{EqualsWalks}
use Rattle.board.proofs.Meaning.{Served}
use Rattle.board.proofs.Walks.{board-walked}
use Rattle.board_agrees.proofs.Table.{served-shown}

is_board : BoardFound → Bool
is_board (refused refusal) = false
is_board (board es) = true

rows_on : BoardFound → List Departure
rows_on (refused refusal) = []
rows_on (board es) = es

module _ (w : List ℕ) (h : is_table w ≡ true) where
  abbrev v : View
  v = view_of (table_of w)

  views : view_in (used w) [] ≡ view_of (table_of w)
  views = view-plain (used w) [] (used-just w h) refl ∙ ap view_of (used-same w h)

  services : services# (used w) ≡ services# w
  services = get_or-take (used_words w) w 6 0 (omega (arith, (table-says w h).used_low))

  served : Served (view_of (table_of w)) (services# w)
  served = rw (views, services) at (served-shown (used w) [])

  module _ (day month year k : ℕ) (q : date_of (view_of (table_of w)) day month year ≡ Ok k) where
    run_is : (i r : ℕ) → dated_run (view_of (table_of w)) i r (date_of (view_of (table_of w)) day month year) ≡ run_of (view_of (table_of w)) i r k
    run_is i r = ap (dated_run (view_of (table_of w)) i r) q

    walk_is : (i r : ℕ) → walk_of w i r day month year ≡ rows_along (view_of (table_of w)) (run_of (view_of (table_of w)) i r k)
    unfolding walk_of journey
    walk_is i r = rw h (ap (rows_along (view_of (table_of w))) (run_is i r))

    equals : (n t u : ℕ) → EqualsWalks w n day month year t u (board_of (view_of (table_of w)) (services# w) n k t u)
    equals n t u =
        let b = board-walked (view_of (table_of w)) n k t u (services# w) served in
        record {
          ordered = b.ordered;
          only = λ e m. rw (run_is e.service e.repeat, walk_is e.service e.repeat) (b.only e m);
          every = λ e m. b.every e (rw (run_is e.service e.repeat, walk_is e.service e.repeat) at m);
        }

pub asked-walks : (w : List ℕ) (own : Bool) (n day month year t u : ℕ) (es : List Departure) → board_asked w own n day month year t u ≡ board es → EqualsWalks w n day month year t u es
unfolding board_asked board_in is_board rows_on
asked-walks w own n day month year t u es = by-table (is_table w) refl
  where
    by-own : (h : is_table w ≡ true) (k : ℕ) → date_of (view_of (table_of w)) day month year ≡ Ok k → (o : Bool)
        → cond o (board (board_of (view_of (table_of w)) (services# w) n k t u)) (refused NotItsIndex) ≡ board es → EqualsWalks w n day month year t u es
    by-own h k q true e = rw (ap rows_on e) at (equals w h day month year k q n t u)
    by-own h k q false e = clash (ap is_board e)

    by-stop : (h : is_table w ≡ true) (k : ℕ) → date_of (view_of (table_of w)) day month year ≡ Ok k → (s : Bool)
        → cond s (cond own (board (board_of (view_of (table_of w)) (services# w) n k t u)) (refused NotItsIndex)) (refused StopUnknown) ≡ board es → EqualsWalks w n day month year t u es
    by-stop h k q true e = by-own h k q own e
    by-stop h k q false e = clash (ap is_board e)

    by-date : is_table w ≡ true → (d : Result ℕ Refusal) → date_of (view_of (table_of w)) day month year ≡ d → board_on (view_of (table_of w)) (services# w) own n t u d ≡ board es → EqualsWalks w n day month year t u es
    by-date h (Err refusal) q e = clash (ap is_board e)
    by-date h (Ok k) q e = by-stop h k q ((view_of (table_of w)).stop n) e

    by-table : (b : Bool) → is_table w ≡ b → cond b (board_on (view_of (table_of w)) (services# w) own n t u (date_of (view_of (table_of w)) day month year)) (refused NoTable) ≡ board es → EqualsWalks w n day month year t u es
    by-table true h e = by-date h (date_of (view_of (table_of w)) day month year) refl e
    by-table false h e = clash (ap is_board e)
