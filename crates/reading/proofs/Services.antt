-- A walk from service to service: the words of the first and of the others, and where the next begins. Assumes nothing.
use mathlib.Core.Path.{◌≡◌, refl, ap, ◌∙◌}
use mathlib.Core.List.{List, ◌∷◌, ◌++◌}
use Prim.Native.Nat.{ℕ, ◌+◌, ◌-◌, ◌≤◌, ◌<◌}
use native.Mathlib.Omega.{arith}
use lib.ListN.{length, length-append}
use Rattle.base.specs.Lists.{gathered}
use Rattle.lines.specs.Lines.{Line, lines_at, cut_at}
use Rattle.timetable.specs.Service.{blocks, service_of}
use Rattle.timetable.specs.Table.{service_words}
use Rattle.reading.specs.Inner.Reading.{service_lines_at, Boundary, HeadClear, HeadAs}
use Rattle.reading.specs.Inner.Services.{ServiceTaken, block_words}
use Rattle.std.specs.Prelude.{Result, Ok}
use Rattle.timetable.specs.declared.Offence.{Offence}
use Rattle.reading.proofs.Heads.{after, service-here}

-- ---- the first and the others

words-cons : (b : List Line) (bs : List (List Line)) → block_words (b ∷ bs) ≡ service_words (service_of b) ++ block_words bs
unfolding block_words gathered
words-cons b bs = refl

-- the words of the service that begins at a place are of those that begin there
pub here-words : (f : List ℕ) (at n : ℕ) → Boundary f at n → at < length f → length (service_words (service_of (service_lines_at f at n))) ≤ length (block_words (blocks (lines_at f at n)))
here-words f at n b h =
    omega (
      arith,
      ap length (ap block_words (service-here f at n b h) ∙ words-cons (service_lines_at f at n) (blocks (after f (cut_at f at n)))),
      length-append (service_words (service_of (service_lines_at f at n))) (block_words (blocks (after f (cut_at f at n)))),
    )

-- ---- where the services begin

module _ (f : List ℕ) (h : Result (ℕ × ℕ) Offence) (at n : ℕ) (e : h ≡ Ok (at, n)) (d : HeadAs f h) where
  pub head_clear : HeadClear f at n
  head_clear = rw e at d

  pub head-next : Boundary f at n
  head-next = head_clear.next

-- ---- from one to the next: the service that begins at place `at` takes w words

module _ (f : List ℕ) (at n w end m : ℕ) (s : ServiceTaken f at n w end m) where
  abbrev own : List ℕ
  own = service_words (service_of (service_lines_at f at n))

  abbrev rest : List ℕ
  rest = block_words (blocks (lines_at f end m))

  pub next-boundary : Boundary f end m
  next-boundary = s.next

  pub next-less : at < length f → length f - end < length f - at
  next-less h = omega (arith, s.past)

  -- `to` words stand before it, q in all
  pub next-count : (to q : ℕ) → to + length (block_words (blocks (lines_at f at n))) ≡ q → to + w + length (block_words (blocks (lines_at f end m))) ≡ q
  next-count to q count =
      let step : block_words (blocks (lines_at f at n)) ≡ own ++ rest = ap block_words s.services ∙ words-cons (service_lines_at f at n) (blocks (lines_at f end m)) in
      omega (arith, count, s.size, ap length step, length-append own rest)
