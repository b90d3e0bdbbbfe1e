-- Departure boards (document 02, No. 9) after an edit inside one service's block, and after bit field numbers were changed one-to-one: what No. 14 says of walks, said of them.
-- Proved in proofs/Boards.antt: `isolated-boards`, `renamed-boards`. Assumes nothing.
use Rattle.std.specs.Prelude.{◌≡◌, List, Bool, ℕ, length}
use Rattle.timetable.specs.Delivery.{Files}
use Rattle.timetable.specs.Load.{delivered, loaded, written}
use Rattle.timetable.specs.View.{view_of}
use Rattle.timetable.specs.declared.Loaded.TheVariants.{Accepted}
use Rattle.board.specs.Board.{Departure, Among, IsBoard}
use Rattle.board.specs.Question.{board_asked}
use Rattle.isolation.specs.Edit.{Edited, place}
use Rattle.isolation.specs.Rename.{OneToOne, renamed}

-- of a stop, a day and two times: a departure of another service than the edited one is on the board after the edit exactly if it was on it before
abbrev pub IsolatedBoards : Type 0
IsolatedBoards =
    (f g : Files) (e : Edited f g) (stop k from to : ℕ) (before after : List Departure)
    → IsBoard (view_of (delivered f)) stop k from to before → IsBoard (view_of (delivered g)) stop k from to after
    → (x : Departure) → (x.service ≡ place e → ⊥) → (Among x before → Among x after) × (Among x after → Among x before)

-- the same board, refusals as well, where both are asked with their own index or both with other words (43)
abbrev pub RenamedBoards : Type 0
RenamedBoards =
    (σ : ℕ → ℕ) → OneToOne σ → (f : Files) (t : List ℕ) (helper u : ℕ) → loaded f (length t) helper ≡ Accepted u
    → (own : Bool) (stop day month year from to : ℕ)
    → board_asked (written (renamed σ f) t helper) own stop day month year from to ≡ board_asked (written f t helper) own stop day month year from to
