-- The parts one after another, for `search connections`, `search firsts` and `search afters`. Assumes nothing.
use Rattle.std.specs.Prelude.{Ok, Err}
use mathlib.Core.Path.{◌≡◌, refl, sym, ap, ◌∙◌}
use mathlib.Core.List.{List, [], ◌∷◌}
use mathlib.Core.Bool.{Bool, true, false, not}
use Prim.Native.Nat.{ℕ, ◌+◌, ◌-◌, ◌*◌, ◌/◌, ◌%◌, ◌^◌, ◌≤◌, ◌<◌}
use native.Mathlib.Omega.{arith}
use lib.ListN.{length, drop, length-drop}
use lib.Seq.{drop-drop}
use lib.Dec.{leb, eqb}
use borrow.Author.Tests.{eqb-true, leb-true, not-true, not-false}
use Rattle.base.proofs.Laws.{tests}
use Rattle.base.proofs.Loops.{and-true}
use Rattle.timetable.specs.Table.{rows_in}
use Rattle.timetable.specs.View.{View}
use Rattle.timetable.proofs.Rows.{one-row}
use Rattle.timetable.specs.declared.refusal.Refusal.{Refusal}
use Rattle.timetable.specs.declared.refusal.Refusal.TheVariants.{PartsNotWhole}
use Rattle.connections.specs.declared.Part.{Part}
use Rattle.connections.specs.declared.Stage.{Stage}
use Rattle.connections.specs.Connection.{Staged, ConnectionAnswer, bad_part, part_size, most_parts, part_at, parts_of, whole_parts, stage_of, changed_to, parts_after, parts_hold, connection_in}

-- ---- the words

pub record Whole (n : ℕ) : Type 0 where
  pub parted : n % part_size ≡ 0
  pub low : part_size ≤ n
  pub high : n ≤ part_size * most_parts

pub whole_says : (n : ℕ) → whole_parts n ≡ true → Whole n
whole_says n e =
    let (m, r) = and-true (eqb (n % part_size) 0) _ e in
    let (l, g) = and-true (leb 1 (n / part_size)) (leb (n / part_size) most_parts) r in
    let z = eqb-true (n % part_size) 0 m in
    let a = leb-true 1 (n / part_size) l in
    let b = leb-true (n / part_size) most_parts g in
    record { parted = z; low = omega arith; high = omega arith }

-- the words from a place on: whole parts are left, and so one and the others
parts_next : (ws : List ℕ) (at : ℕ) → at < length ws → (length ws - at) % part_size ≡ 0 → parts_of (drop at ws) ≡ part_at (drop at ws) ∷ parts_of (drop (at + part_size) ws)
parts_next ws at h m =
    let l = length-drop at ws in
    let k = length-drop (at + part_size) ws in
    let z : length (drop at ws) / part_size - 1 ≡ length (drop (at + part_size) ws) / part_size = omega arith in
    one-row part_at part_size (length (drop at ws) / part_size) (drop at ws) (omega arith) ∙ rw (drop-drop part_size at ws, z) refl

-- ---- the question: b says whether they are 1 to 10 whole parts

module _ (ws : List ℕ) (b : Bool) (e : b ≡ whole_parts (length ws)) where
  pub parts-46 : (v : View) → not b ≡ true → bad_part PartsNotWhole 0 ≡ connection_in v ws
  unfolding connection_in
  parts-46 v n = rw (sym e ∙ not-true b n)

  pub parts_whole : not b ≡ false → whole_parts (length ws) ≡ true
  parts_whole n = sym e ∙ not-false b n

  pub parts-asked : (v : View) → not b ≡ false → (r : ConnectionAnswer) → r ≡ parts_hold v (parts_of ws) → r ≡ connection_in v ws
  unfolding connection_in
  parts-asked v n r f = rw (parts_whole n) f

pub ruleset connections = (tests, parts-46, parts_whole, parts-asked)

-- ---- the first part p; x is its stage

module _ (ws : List ℕ) (h : whole_parts (length ws) ≡ true) where
  pub first-room : 0 + part_size ≤ length ws
  first-room = omega (arith, (whole_says (length ws) h).low)

  module _ (v : View) (p : Part) (q : p ≡ part_at (drop 0 ws)) (x : Staged) (e : x ≡ stage_of v p) where
    first_next : parts_of ws ≡ p ∷ parts_of (drop part_size ws)
    first_next = parts_next ws 0 (omega (arith, (whole_says (length ws) h).low)) (omega (arith, (whole_says (length ws) h).parted)) ∙ rw q refl

    pub first-refused : (refusal : Refusal) → x ≡ Err refusal → bad_part refusal 1 ≡ parts_hold v (parts_of ws)
    first-refused refusal g = rw (first_next, sym e ∙ g)

    pub first-staged : (s : Stage) → x ≡ Ok s → (r : ConnectionAnswer) → r ≡ parts_after v s 2 (parts_of (drop part_size ws)) → r ≡ parts_hold v (parts_of ws)
    first-staged s g r f = rw (first_next, sym e ∙ g) f

pub ruleset firsts = (tests, first-room, first-refused, first-staged)

-- ---- the parts after a stage s, where n are passed; r is what all of them answer

module _ (ws : List ℕ) (h : whole_parts (length ws) ≡ true) (n : ℕ) (l : n < length ws / part_size) where
  pub after-room : part_size * n + part_size ≤ length ws
  after-room = omega arith

  pub after-place : part_size * n < 2 ^ 64
  after-place = omega (arith, (whole_says (length ws) h).high)

  pub after-number : n < 2 ^ 32
  after-number = omega (arith, (whole_says (length ws) h).high)

  pub after-fits : n + 1 < 2 ^ 32
  after-fits = omega (arith, (whole_says (length ws) h).high)

  after_next : parts_of (drop (part_size * n) ws) ≡ part_at (drop (part_size * n) ws) ∷ parts_of (drop (part_size * (n + 1)) ws)
  after_next =
      let z : part_size * n + part_size ≡ part_size * (n + 1) = omega arith in
      rw z at (parts_next ws (part_size * n) (omega arith) (omega (arith, (whole_says (length ws) h).parted)))

  module _ (v : View) (s : Stage) (r : ConnectionAnswer) (i : parts_after v s (n + 1) (parts_of (drop (part_size * n) ws)) ≡ r) (p : Part) (q : p ≡ part_at (drop (part_size * n) ws)) (x : Staged) (e : x ≡ changed_to v s (stage_of v p)) where
    pub after-out : (refusal : Refusal) → x ≡ Err refusal → bad_part refusal (n + 1) ≡ r
    unfolding parts_after
    after-out refusal g = rw (after_next, sym q, sym e ∙ g) at i

    pub after-again : (t : Stage) → x ≡ Ok t → parts_after v t (n + 1 + 1) (parts_of (drop (part_size * (n + 1)) ws)) ≡ r
    unfolding parts_after
    after-again t g = rw (after_next, sym q, sym e ∙ g) at i

pub after-done : (v : View) (ws : List ℕ) → whole_parts (length ws) ≡ true → (s : Stage) (n : ℕ) (r : ConnectionAnswer) → length ws / part_size ≤ n → parts_after v s (n + 1) (parts_of (drop (part_size * n) ws)) ≡ r → Ok tt ≡ r
unfolding parts_after rows_in
after-done v ws h s n r k i =
    let z : length (drop (part_size * n) ws) / part_size ≡ 0 = omega (arith, length-drop (part_size * n) ws, (whole_says (length ws) h).parted) in
    rw z at i

pub ruleset afters = (tests, after-room, after-place, after-number, after-fits, after-out, after-again, after-done)
