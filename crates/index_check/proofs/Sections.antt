-- The chains of the sections, checked: of one, for `search chains`; of two, for `search pairs`. Assumes nothing.
use mathlib.Core.Path.{◌≡◌, refl, ap, ◌∙◌, sym}
use mathlib.Core.List.{List}
use mathlib.Core.Bool.{Bool, true, false, not, ◌&&◌}
use Prim.Native.Nat.{ℕ, ◌+◌, ◌-◌, ◌*◌, ◌^◌, ◌≤◌, ◌<◌}
use native.Mathlib.Omega.{arith}
use lib.ListN.{length, take, drop}
use borrow.Author.Tests.{not-true, not-false}
use Rattle.base.proofs.Laws.{tests}
use Rattle.chains.specs.Chains.{chain_words}
use Rattle.chain_check.specs.Tally.{same}
use Rattle.index.specs.Index.{index_size, field_section, stop_section, interchange_section, class_section, chains_of}
use Rattle.index.specs.Inner.Ready.{Fits}
use Rattle.index.specs.declared.Section.{Section}
use Rattle.index.proofs.Places.{end-scaled, end_fits, records-fit}
use Rattle.index_check.specs.Inner.Parts.{chains_right}

-- ---- one section

pub chains-told : (w x : List ℕ) (at n size from end k j : ℕ) (t : Bool) → k ≡ n → end ≡ at + size * k → j ≡ n → t ≡ same (take (from + 2 * j - from) (drop from x)) (chain_words w end size n)
    → t ≡ chains_right w x (record { at = at; n = n; size = size; from = from })
unfolding chains_right chains_of
chains-told w x at n size from end k j t q p r e =
    let d : from + 2 * j - from ≡ 2 * n = omega arith in
    e ∙ rw (d, p, q)

pub ruleset chains = (tests, end-scaled, end_fits, records-fit, chains-told)

-- ---- two sections; t says whether the first is right

module _ (w x : List ℕ) (l : length x ≡ index_size w) (s : Section) where
  pub room_fields : s ≡ field_section w → s.from + 2 * s.n ≤ length x
  room_fields q = rw q (omega arith)

  pub room-stops : s ≡ stop_section w → s.from + 2 * s.n ≤ length x
  room-stops q = rw q (omega arith)

  pub room-interchanges : s ≡ interchange_section w → s.from + 2 * s.n ≤ length x
  room-interchanges q = rw q (omega arith)

  pub room-classes : s ≡ class_section w → s.from + 2 * s.n ≤ length x
  room-classes q = rw q (omega arith)

module _ (w x : List ℕ) (s r : Section) (t : Bool) (e : t ≡ chains_right w x s) where
  pub first-wrong : not t ≡ true → false ≡ (chains_right w x s && chains_right w x r)
  first-wrong n = sym (rw (sym e ∙ not-true t n))

  pub then-second : not t ≡ false → (u : Bool) → u ≡ chains_right w x r → u ≡ (chains_right w x s && chains_right w x r)
  then-second n u f = f ∙ sym (rw (sym e ∙ not-false t n))

pub ruleset pairs = (tests, first-wrong, then-second)
