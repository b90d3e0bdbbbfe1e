-- The first of several offences: where there is none, and where there is one. Assumes nothing.
use Rattle.std.specs.Prelude.{Result, Ok, Err}
use mathlib.Core.Path.{◌≡◌, refl, ap, sym, ◌∙◌}
use mathlib.Core.List.{List, [], ◌∷◌, ◌++◌}
use mathlib.Core.Bool.{Bool, true, false}
use mathlib.Core.Option.{Option, none, some}
use Prim.Native.Nat.{ℕ}
use Rattle.base.proofs.Laws.{apart}
use Rattle.lines.specs.Lines.{Line}
use Rattle.forms.specs.Form.{Form, Fits, Broken}
use Rattle.timetable.specs.Offences.{given, form_offence, ◌<|>◌, first, verdict_by, checked_by}
use Rattle.timetable.specs.Load.{in_file}
use Rattle.timetable.specs.declared.Offence.{Offence}

-- ---- none of several

pub then-none : {X : Type 0} (a b : Option X) → (a <|> b) ≡ none → (a ≡ none) × (b ≡ none)
unfolding ◌<|>◌
then-none none b e = (refl, e)
then-none (some x) b e = apart (cc)

pub given-none : (t : Bool) (number line : ℕ) → given t number line ≡ none → t ≡ false
given-none false number line e = refl
given-none true number line e = apart (cc)

pub form-none : (f : Form) (line : ℕ) → form_offence f line ≡ none → f ≡ Fits
form-none Fits line e = refl
form-none (Broken c) line e = apart (cc)

pub in-none : (f : ℕ) (o : Option Offence) → in_file f o ≡ none → o ≡ none
in-none f none e = refl
in-none f (some x) e = apart (cc)

-- none at this line, nor at one after it
pub first-none : (off : List Line → Line → Option Offence) (before : List Line) (l : Line) (ls : List Line) → first off before (l ∷ ls) ≡ none → (off before l ≡ none) × (first off (before ++ (l ∷ [])) ls ≡ none)
unfolding first
first-none off before l ls e = then-none (off before l) (first off (before ++ (l ∷ [])) ls) e

-- ---- one of two, in order, is one of them

pub one_of : {X P : Type 0} {x : X} (a b : Option X) → (a <|> b) ≡ some x → (a ≡ some x → P) → (b ≡ some x → P) → P
unfolding ◌<|>◌
one_of none b e p q = q e
one_of (some y) b e p q = p e

-- ---- the first of lines, by offences that are the same at every line

pub first-same : (off own : List Line → Line → Option Offence) → ((before : List Line) (l : Line) → off before l ≡ own before l) → (before ls : List Line) → first off before ls ≡ first own before ls
unfolding first
first-same off own e before [] = refl
first-same off own e before (l ∷ ls) = rw (e before l, first-same off own e (before ++ (l ∷ [])) ls) refl

-- ---- what the code answers says whether there is an offence, and which

module _ (o : Option Offence) (v : Result (Unit {0}) Offence) (e : v ≡ verdict_by o) where
  pub verdict-fine : v ≡ Ok tt → o ≡ none
  verdict-fine y = go o (sym e ∙ y)
    where
      go : (o : Option Offence) → verdict_by o ≡ Ok tt → o ≡ none
      go none k = refl
      go (some x) k = apart (cc)

  pub verdict-offends : (x : Offence) → v ≡ Err x → o ≡ some x
  verdict-offends x y = go o (sym e ∙ y)
    where
      go : (o : Option Offence) → verdict_by o ≡ Err x → o ≡ some x
      go none k = apart (cc)
      go (some z) k = let p : z ≡ x = cc in ap some p

-- the two numbers of one answer are those of an equal one
pub same_held : (a b c d : ℕ) → ◌≡◌ {A = Result (ℕ × ℕ) Offence} (Ok (a, b)) (Ok (c, d)) → (a ≡ c) × (b ≡ d)
same_held a b c d e = let p : ◌≡◌ {A = ℕ × ℕ} (a, b) (c, d) = cc in (ap (λ (q : ℕ × ℕ). q.0) p, ap (λ (q : ℕ × ℕ). q.1) p)

module _ (o : Option Offence) (a b : ℕ) (r : Result (ℕ × ℕ) Offence) (e : r ≡ checked_by o a b) where
  pub checked-holds : (c d : ℕ) → r ≡ Ok (c, d) → (o ≡ none) × (a ≡ c) × (b ≡ d)
  checked-holds c d y = go o (sym e ∙ y)
    where
      go : (o : Option Offence) → checked_by o a b ≡ Ok (c, d) → (o ≡ none) × (a ≡ c) × (b ≡ d)
      go none k = let q = same_held a b c d k in (refl, q.0, q.1)
      go (some x) k = apart (cc)

  pub checked_refused : (x : Offence) → r ≡ Err x → o ≡ some x
  checked_refused x y = go o (sym e ∙ y)
    where
      go : (o : Option Offence) → checked_by o a b ≡ Err x → o ≡ some x
      go none k = apart (cc)
      go (some z) k = let p : z ≡ x = cc in ap some p
