-- No. 14 at the boundary, in the numbers that a caller holds: what `estelunya_walk` answers and leaves in the rows, and what `estelunya_day` answers, of the tables that
-- `estelunya_load` left where its number was 0. Proved in proofs/Isolation.antt: `isolation-exported`, `renaming-exported`. Assumes nothing.
use Rattle.std.specs.Prelude.{◌≡◌, List, ℕ, ◌<◌, length, take}
use Rattle.timetable.specs.Delivery.{Files}
use Rattle.timetable.specs.Load.{loaded, written}
use Rattle.timetable.specs.Questions.{day_asked, walked, walk_rows}
use Rattle.isolation.specs.Edit.{Edited, place}
use Rattle.isolation.specs.Rename.{OneToOne, renamed}
use Rattle.estelunya.specs.Answers.{load_result, day_result, walk_result}
use Rattle.estelunya.specs.declared.LoadResult.{LoadResult}
use Rattle.estelunya.specs.declared.WalkResult.{WalkResult}

-- `estelunya_load` of the files f, lent the table t and so many helper words, answered a, with number 0, and left the words `left`; w are these, or any words
-- that begin with as many of them as a says are used
pub record TableOf (f : Files) (t : List ℕ) (helper : ℕ) (a : LoadResult) (left w : List ℕ) : Type 0 where
  pub answered : a ≡ load_result (loaded f (length t) helper)
  pub leaves : left ≡ written f t helper
  pub accepted : a.number ≡ 0
  pub unaltered : take a.words w ≡ take a.words left

-- `estelunya_walk` of the words w, lent rows, answered x and left the rows v
pub record WalkOf (w : List ℕ) (i r d m y : ℕ) (lent : List ℕ) (x : WalkResult) (v : List ℕ) : Type 0 where
  pub answered : x ≡ walk_result (walked w i r d m y (length lent))
  pub leaves : v ≡ walk_rows w i r d m y lent

-- two walks of one index, repeat, date and room: "the same answer and rows"
abbrev pub SameWalks : List ℕ → List ℕ → ℕ → Type 0
SameWalks w w' i =
    (r d m y : ℕ) (lent : List ℕ) (x x' : WalkResult) (v v' : List ℕ) → WalkOf w i r d m y lent x v → WalkOf w' i r d m y lent x' v' → (x ≡ x') × (v ≡ v')

-- "If two accepted deliveries differ only inside one service's block of FPLAN, which is one service in both, every other service's walk gives the same answer and
-- rows, given the same service index, repeat, date and room."
abbrev pub IsolatedWalks : Type 0
IsolatedWalks =
    (f g : Files) (e : Edited f g) (t t' : List ℕ) (helper helper' : ℕ) (a a' : LoadResult) (left left' w w' : List ℕ)
    → TableOf f t helper a left w → TableOf g t' helper' a' left' w'
    → (i : ℕ) → (i ≡ place e → ⊥) → SameWalks w w' i

-- "And if one delivery's bit field numbers are changed one-to-one, in BITFELD and in every place of FPLAN, with 000000 kept, it is again accepted, given the same table
-- and helper room" (a load of the changed files answers the same, so with number 0 and as many words), "and all walks answer alike. The day question by number is exempt":
-- of a changed number it is answered as of the number before
pub record AlikeAfter (σ : ℕ → ℕ) (f : Files) (t : List ℕ) (helper : ℕ) (a a' : LoadResult) (left' w : List ℕ) : Type 0 where
  pub again : a' ≡ a
  pub walks : (w' : List ℕ) → take a'.words w' ≡ take a'.words left' → (i : ℕ) → SameWalks w' w i
  pub days : (w' : List ℕ) → take a'.words w' ≡ take a'.words left'
      → (d m y n : ℕ) → n < 1000000 → day_result (day_asked w' d m y (σ n)) ≡ day_result (day_asked w d m y n)

abbrev pub RenamedAnswers : Type 0
RenamedAnswers =
    (σ : ℕ → ℕ) → OneToOne σ → (f : Files) (t : List ℕ) (helper : ℕ) (a : LoadResult) (left w : List ℕ) → TableOf f t helper a left w
    → (a' : LoadResult) (left' : List ℕ) → a' ≡ load_result (loaded (renamed σ f) (length t) helper) → left' ≡ written (renamed σ f) t helper
    → AlikeAfter σ f t helper a a' left' w
