-- Worked examples: texts, each with what is said of it. Assumes nothing.
use Prim.Native.Nat.{ℕ}
use Prim.Native.String.{String}
use mathlib.Core.Path.{◌≡◌}
use mathlib.Core.List.{List, map}
use Rattle.base.specs.Text.{bytes}

pub record Case (X : Type 0) : Type 0 where
  pub text : String
  pub answer : X

infix 70 ◌⇒◌
abbrev pub ◌⇒◌ : {X : Type 0} → String → X → Case X
s ⇒ x = record { text = s; answer = x }

-- f says of each text what stands beside it
abbrev pub Says : {X : Type 0} → (List ℕ → X) → List (Case X) → Type 0
Says {X} f cs = map (λ (c : Case X). f (bytes c.text)) cs ≡ map (λ (c : Case X). c.answer) cs
