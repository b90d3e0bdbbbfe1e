-- What a caller of `estelunya_interchange_between` holds in hand (specs/Between.antt). Assumes nothing.
use mathlib.Core.Path.{◌≡◌, refl, sym, ap, subst, ◌∙◌}
use mathlib.Core.List.{List}
use mathlib.Core.Bool.{true}
use Prim.Native.Nat.{ℕ}
use lib.ListN.{length, take}
use Rattle.std.specs.Prelude.{Result, Ok, Err}
use Rattle.timetable.specs.declared.refusal.Refusal.{Refusal}
use Rattle.timetable.specs.Delivery.{Files}
use Rattle.timetable.specs.Files.{has_stop}
use Rattle.timetable.specs.Load.{delivered, loaded, written}
use Rattle.timetable.specs.View.{View}
use Rattle.timetable.specs.Questions.{between_in, between_asked}
use Rattle.whole_runs.specs.Classes.{OwnClass, Between}
use Rattle.whole_runs.proofs.Classes.{between-answered}
use Rattle.estelunya.specs.declared.LoadResult.{LoadResult}
use Rattle.estelunya.specs.declared.InterchangeResult.{InterchangeResult}
use Rattle.estelunya.specs.Answers.{load_result, interchange_result}
use Rattle.estelunya.specs.Between.{BetweenGiven}
use Rattle.estelunya.proofs.Exported.{accepted, unaltered}

-- `estelunya_load` answered number 0 (a) and left words; w are any words that begin with the words used of these; x is what `estelunya_interchange_between` answers of them
pub between-exported : (f : Files) (t : List ℕ) (helper : ℕ) {a : LoadResult} {left : List ℕ} → a ≡ load_result (loaded f (length t) helper) → left ≡ written f t helper → a.number ≡ 0
    → (w : List ℕ) → take a.words w ≡ take a.words left
    → (stop arriving departing : ℕ) → has_stop stop (delivered f).stops ≡ true → OwnClass f arriving → OwnClass f departing
    → {x : InterchangeResult} → x ≡ interchange_result (between_asked w stop arriving departing) → BetweenGiven f stop arriving departing x
unfolding between_asked
between-exported f t helper {a} {left} b q e w front stop arriving departing h k l {x} z =
    let own = between-answered f t helper (load_result (loaded f (length t) helper)).words (accepted f (length t) helper (sym (ap (λ (c : LoadResult). c.number) b) ∙ e)) stop h arriving departing k l in
    let same : x ≡ interchange_result (between_asked (written f t helper) stop arriving departing) = z ∙ ap interchange_result (unaltered f t helper a left b q e w front Err (λ (v : View). between_in v stop arriving departing)) in
    subst (BetweenGiven f stop arriving departing) (sym same) (go (between_asked (written f t helper) stop arriving departing) own own.answer)
  where
    go : (y : Result ℕ Refusal) → Between f stop arriving departing y → {n : ℕ} → y ≡ Ok n → BetweenGiven f stop arriving departing (interchange_result y)
    go y own {n} v = subst (λ (r : Result ℕ Refusal). BetweenGiven f stop arriving departing (interchange_result r)) (sym v) (record { answered = refl; own = subst (Between f stop arriving departing) v own })
