-- The legs of a day: where they form no stretch none operates, and where they form one it is `stretch_of`'s. Assumes nothing.
use mathlib.Core.Path.{◌≡◌, refl, ap, ◌∙◌}
use mathlib.Core.List.{List, [], ◌∷◌, map}
use mathlib.Core.Bool.{Bool, true, false}
use Prim.Native.Nat.{ℕ, zero, suc, ◌+◌, ◌<◌, ◌≤◌}
use native.Mathlib.Omega.{arith}
use lib.ListN.{length, get_or, drop}
use Rattle.base.specs.Lists.{upto, below}
use Rattle.timetable.specs.Legs.{stretches}
use Rattle.timetable.specs.Run.{idle_legs, leading_legs}

pub still : (bs : List Bool) → stretches false bs ≡ 0 → (j : ℕ) → get_or bs j false ≡ false
unfolding stretches
still [] e j = refl
still (true ∷ bs) e j = absurd (omega arith)
still (false ∷ bs) e zero = refl
still (false ∷ bs) e (suc j) = still bs (omega arith) j

-- n legs from the front, and no other
record Run (bs : List Bool) (n : ℕ) : Type 0 where
  fits : n ≤ length bs
  on : (j : ℕ) → j < n → get_or bs j false ≡ true
  after : (j : ℕ) → n ≤ j → get_or bs j false ≡ false

module _ (bs : List Bool) (n : ℕ) (r : Run bs n) where
  run_on : (j : ℕ) → j < 1 + n → get_or (true ∷ bs) j false ≡ true
  run_on zero h = refl
  run_on (suc j) h = r.on j (omega arith)

  run-after : (j : ℕ) → 1 + n ≤ j → get_or (true ∷ bs) j false ≡ false
  run-after zero h = absurd (omega arith)
  run-after (suc j) h = r.after j (omega arith)

run : (bs : List Bool) → stretches true bs ≡ 0 → Run bs (leading_legs bs)
unfolding stretches leading_legs
run [] e = record { fits = omega arith; on = λ j h. absurd (omega arith); after = λ j h. refl }
run (true ∷ bs) e =
    let r = run bs (omega arith) in
    let f = r.fits in
    record { fits = omega arith; on = run_on bs (leading_legs bs) r; after = run-after bs (leading_legs bs) r }
run (false ∷ bs) e = record { fits = omega arith; on = λ j h. absurd (omega arith); after = λ j h. off j }
  where
    off : (j : ℕ) → get_or (false ∷ bs) j false ≡ false
    off zero = refl
    off (suc j) = still bs (omega arith) j

-- n legs from leg a on, and no other
pub record Only (bs : List Bool) (a n : ℕ) : Type 0 where
  pub leg : 1 ≤ n
  pub fits : a + n ≤ length bs
  pub before : (j : ℕ) → j < a → get_or bs j false ≡ false
  pub on : (j : ℕ) → a ≤ j → j < a + n → get_or bs j false ≡ true
  pub after : (j : ℕ) → a + n ≤ j → get_or bs j false ≡ false

only-run : (bs : List Bool) (n : ℕ) → Run bs n → 1 ≤ n → Only bs 0 n
only-run bs n r h =
    let f = r.fits in
    record { leg = h; fits = omega arith; before = λ j l. absurd (omega arith); on = λ j k l. r.on j (omega arith); after = λ j l. r.after j (omega arith) }

module _ (bs : List Bool) (a n : ℕ) (r : Only bs a n) where
  only-before : (j : ℕ) → j < suc a → get_or (false ∷ bs) j false ≡ false
  only-before zero h = refl
  only-before (suc j) h = r.before j (omega arith)

  only-on : (j : ℕ) → suc a ≤ j → j < suc a + n → get_or (false ∷ bs) j false ≡ true
  only-on zero h l = absurd (omega arith)
  only-on (suc j) h l = r.on j (omega arith) (omega arith)

  only-after : (j : ℕ) → suc a + n ≤ j → get_or (false ∷ bs) j false ≡ false
  only-after zero h = refl
  only-after (suc j) h = r.after j (omega arith)

  only-later : Only (false ∷ bs) (suc a) n
  only-later =
      let f = r.fits in
      record { leg = r.leg; fits = omega arith; before = only-before; on = only-on; after = only-after }

pub one-stretch : (bs : List Bool) → stretches false bs ≡ 1 → Only bs (idle_legs bs) (leading_legs (drop (idle_legs bs) bs))
unfolding stretches idle_legs leading_legs
one-stretch [] e = absurd (omega arith)
one-stretch (true ∷ bs) e = only-run (true ∷ bs) (1 + leading_legs bs) (run (true ∷ bs) (omega arith)) (omega arith)
one-stretch (false ∷ bs) e =
    let z : 1 + idle_legs bs ≡ suc (idle_legs bs) = omega arith in
    rw z (only-later bs (idle_legs bs) (leading_legs (drop (idle_legs bs) bs)) (one-stretch bs (omega arith)))

-- ---- the legs below n, at one of them

legs-upto : (f : ℕ → Bool) (n k j : ℕ) → j < n → get_or (map f (upto n k)) j false ≡ f (k + j)
unfolding upto
legs-upto f zero k j h = absurd (omega arith)
legs-upto f (suc n) k zero h = let z : k + zero ≡ k = omega arith in rw z
legs-upto f (suc n) k (suc j) h = let z : k + suc j ≡ k + 1 + j = omega arith in rw z (legs-upto f n (k + 1) j (omega arith))

pub legs-at : (f : ℕ → Bool) (n j : ℕ) → j < n → get_or (map f (below n)) j false ≡ f j
legs-at f n j h = let z : 0 + j ≡ j = omega arith in legs-upto f n 0 j h ∙ ap f z
