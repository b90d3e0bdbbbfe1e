-- No. 14 of the exported functions; specs/Isolation.antt states it. Assumes nothing.
use mathlib.Core.Path.{◌≡◌, sym, ap, ◌∙◌}
use mathlib.Core.List.{List}
use Prim.Native.Nat.{ℕ}
use lib.ListN.{length, take}
use Rattle.std.specs.Prelude.{Err}
use Rattle.timetable.specs.Delivery.{Files}
use Rattle.timetable.specs.Load.{loaded, written}
use Rattle.timetable.specs.View.{View}
use Rattle.timetable.specs.Questions.{day_in, day_asked, Journey, refused, journey, walk_of, walked_by, walked, rows_by, walk_rows}
use Rattle.timetable.specs.declared.Loaded.TheVariants.{Accepted}
use Rattle.isolation.specs.Alike.{WalksAlike}
use Rattle.isolation.specs.Rename.{renamed}
use Rattle.isolation.proofs.Isolated.{isolated}
use Rattle.isolation.proofs.Renamed.{renamed-again}
use Rattle.estelunya.specs.Answers.{load_result, day_result, walk_result}
use Rattle.estelunya.specs.Isolation.{TableOf, SameWalks, IsolatedWalks, RenamedAnswers}
use Rattle.estelunya.specs.declared.LoadResult.{LoadResult}
use Rattle.estelunya.proofs.Exported.{accepted, unaltered}

-- ---- words unaltered answer as those that load left

module _ (f : Files) (t : List ℕ) (helper : ℕ) (a : LoadResult) (left w : List ℕ) (h : TableOf f t helper a left w) where
  accepted-load : loaded f (length t) helper ≡ Accepted (load_result (loaded f (length t) helper)).words
  accepted-load = accepted f (length t) helper (sym (ap (λ (c : LoadResult). c.number) h.answered) ∙ h.accepted)

  walk-left : (i r d m y : ℕ) → walk_of w i r d m y ≡ walk_of (written f t helper) i r d m y
  unfolding walk_of
  walk-left i r d m y = unaltered f t helper a left h.answered h.leaves h.accepted w h.unaltered refused (λ (o : View). journey o i r d m y)

  day-left : (d m y n : ℕ) → day_asked w d m y n ≡ day_asked (written f t helper) d m y n
  unfolding day_asked
  day-left d m y n = unaltered f t helper a left h.answered h.leaves h.accepted w h.unaltered Err (λ (o : View). day_in o d m y n)

same_walks : (w w' z z' : List ℕ) (i : ℕ) → ((r d m y : ℕ) → walk_of w i r d m y ≡ walk_of z i r d m y) → ((r d m y : ℕ) → walk_of w' i r d m y ≡ walk_of z' i r d m y)
    → WalksAlike z z' i → SameWalks w w' i
same_walks w w' z z' i p q h r d m y lent x x' v v' k l =
    let a : walked w i r d m y (length lent) ≡ walked w' i r d m y (length lent) = ap (λ (j : Journey). walked_by j (length lent)) (p r d m y) ∙ (h.answers r d m y (length lent) ∙ sym (ap (λ (j : Journey). walked_by j (length lent)) (q r d m y))) in
    let b : walk_rows w i r d m y lent ≡ walk_rows w' i r d m y lent = ap (λ (j : Journey). rows_by j lent) (p r d m y) ∙ (h.rows r d m y lent ∙ sym (ap (λ (j : Journey). rows_by j lent) (q r d m y))) in
    (k.answered ∙ (ap walk_result a ∙ sym l.answered), k.leaves ∙ (b ∙ sym l.leaves))

pub isolation-exported : IsolatedWalks
isolation-exported f g e t t' helper helper' a a' left left' w w' h h' i other =
    same_walks w w' (written f t helper) (written g t' helper') i (walk-left f t helper a left w h i) (walk-left g t' helper' a' left' w' h' i)
    (isolated f g e t t' helper helper' _ _ (accepted-load f t helper a left w h) (accepted-load g t' helper' a' left' w' h') i other)

pub renaming-exported : RenamedAnswers
renaming-exported σ o f t helper a left w h a' left' q k =
    let again = renamed-again σ o f t helper (load_result (loaded f (length t) helper)).words (accepted-load f t helper a left w h) in
    let same : a' ≡ a = q ∙ (ap load_result (again.0 ∙ sym (accepted-load f t helper a left w h)) ∙ sym h.answered) in
    let table : (w' : List ℕ) → take a'.words w' ≡ take a'.words left' → TableOf (renamed σ f) t helper a' left' w'
    = λ w' z. record { answered = q; leaves = k; accepted = ap (λ (c : LoadResult). c.number) same ∙ h.accepted; unaltered = z } in
    record {
      again = same;
      walks = λ w' z i. same_walks w' w (written (renamed σ f) t helper) (written f t helper) i (walk-left (renamed σ f) t helper a' left' w' (table w' z) i) (walk-left f t helper a left w h i) (again.1.walks i);
      days = λ w' z d m y n l. ap day_result (day-left (renamed σ f) t helper a' left' w' (table w' z) d m y (σ n) ∙ (again.1.days d m y n l ∙ sym (day-left f t helper a left w h d m y n)));
    }
