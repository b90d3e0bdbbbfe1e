-- What a caller of `estelunya_stop_name` holds in hand (specs/StopNames.antt). Assumes nothing.
use mathlib.Core.Path.{◌≡◌, refl, sym, ap, subst, ◌∙◌}
use mathlib.Core.List.{List}
use mathlib.Core.Bool.{true}
use Prim.Native.Nat.{ℕ, ◌≤◌}
use native.Mathlib.Omega.{arith}
use lib.ListN.{length, take}
use Rattle.std.specs.Prelude.{Result, Ok, Err}
use Rattle.names.specs.Names.{askable}
use Rattle.timetable.specs.declared.refusal.Refusal.{Refusal}
use Rattle.timetable.specs.Delivery.{Files}
use Rattle.timetable.specs.Files.{has_stop}
use Rattle.timetable.specs.Load.{delivered, loaded, written}
use Rattle.timetable.specs.View.{View}
use Rattle.timetable.specs.StopNames.{stop_name_in, stop_name_asked}
use Rattle.timetable.specs.declared.NamePart.{NamePart}
use Rattle.timetable.specs.Refusals.{number_of}
use Rattle.timetable.proofs.Numbered.{numbered}
use Rattle.whole_runs.specs.StopNames.{InBytes, OwnName}
use Rattle.whole_runs.proofs.StopNames.{name-in-bytes, own_name}
use Rattle.estelunya.specs.declared.LoadResult.{LoadResult}
use Rattle.estelunya.specs.declared.NameResult.{NameResult}
use Rattle.estelunya.specs.Answers.{load_result, name_result}
use Rattle.estelunya.specs.StopNames.{NameDecoded, OwnNameGiven}
use Rattle.estelunya.proofs.Exported.{accepted, unaltered}

-- of any words and bytes
pub name-decoded : (w b : List ℕ) (stop language type : ℕ) {x : NameResult} → x ≡ name_result (stop_name_asked w b stop language type) → NameDecoded b (stop_name_asked w b stop language type) x
name-decoded w b stop language type e = subst (NameDecoded b (stop_name_asked w b stop language type)) (sym e) (go (stop_name_asked w b stop language type) (name-in-bytes w b stop language type))
  where
    go : (a : Result NamePart Refusal) → InBytes b a → NameDecoded b a (name_result a)
    go (Ok part) h = record { given = λ p. refl; inside = h; refusal = λ p. absurd (omega arith) }
    go (Err r) h =
        let l = numbered r in
        record { given = λ p. absurd (omega arith); inside = h; refusal = λ p. ((r, refl, refl), refl, refl) }

-- `estelunya_load` answered number 0 (a) and left words; w are any words that begin with the words used of these; x is what `estelunya_stop_name` answers of them and of the same BAHNHOF
pub own-name-exported : (f : Files) (t : List ℕ) (helper : ℕ) {a : LoadResult} {left : List ℕ} → a ≡ load_result (loaded f (length t) helper) → left ≡ written f t helper → a.number ≡ 0
    → (w : List ℕ) → take a.words w ≡ take a.words left
    → (stop language type : ℕ) → askable language type ≡ true → has_stop stop (delivered f).stops ≡ true
    → {x : NameResult} → x ≡ name_result (stop_name_asked w f.bahnhof stop language type) → OwnNameGiven f.bahnhof stop language type x
unfolding stop_name_asked
own-name-exported f t helper {a} {left} b q e w front stop language type h k {x} z =
    let own = own_name f t helper (load_result (loaded f (length t) helper)).words (accepted f (length t) helper (sym (ap (λ (c : LoadResult). c.number) b) ∙ e)) stop language type h k in
    let same : x ≡ name_result (stop_name_asked (written f t helper) f.bahnhof stop language type) = z ∙ ap name_result (unaltered f t helper a left b q e w front Err (λ (v : View). stop_name_in v f.bahnhof stop language type)) in
    subst (OwnNameGiven f.bahnhof stop language type) (sym same) (go (stop_name_asked (written f t helper) f.bahnhof stop language type) own own.answer)
  where
    go : (y : Result NamePart Refusal) → OwnName f.bahnhof stop language type y → {p : NamePart} → y ≡ Ok p → OwnNameGiven f.bahnhof stop language type (name_result y)
    go y own {p} v = subst (λ (r : Result NamePart Refusal). OwnNameGiven f.bahnhof stop language type (name_result r)) (sym v) (record { answered = refl; own = subst (OwnName f.bahnhof stop language type) v own })
