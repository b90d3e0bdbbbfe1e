-- Demand 3 of the contracts themselves: `estelunya_load` has answered number 0 by its contract, and `estelunya_walk`, lent words that begin with the table, answers and
-- leaves rows by its own; then the walk is whole (`Walks`, specs/Promise). And words enough: what `estelunya_room` has answered is enough for `estelunya_load`. A clause
-- that goes from these contracts is missed here. Assumes nothing.
use mathlib.Core.Path.{◌≡◌, refl, sym, ap, ◌∙◌}
use Prim.Native.Nat.{ℕ, ◌-◌, ◌≤◌}
use lib.ListN.{length, take}
use native.Mathlib.Omega.{arith}
use contract.Lifetimes.{Lfts}
use borrow.Fn.Kinds.{Dens, ended_of}
use denote.Triple.Clauses.{AtExit}
use Rattle.timetable.specs.Delivery.{files_of, Files, Service}
use Rattle.timetable.specs.Load.{delivered, loaded}
use Rattle.timetable.specs.declared.Loaded.{Loaded}
use Rattle.timetable.specs.declared.Loaded.TheVariants.{Accepted, Refused}
use Rattle.whole_runs.specs.Promise.{Asked}
use Rattle.estelunya.specs.declared.LoadResult.{LoadResult}
use Rattle.estelunya.specs.declared.WalkResult.{WalkResult}
use Rattle.estelunya.specs.Answers.{load_result}
use Rattle.estelunya.specs.Promise.{Walks}
use Rattle.estelunya.proofs.Exported.{demand3-exported}
use Rattle.estelunya.proofs.estelunya_load.Kinds as Load
use Rattle.estelunya.proofs.estelunya_load.Reads.{Learnt as load-allows}
use Rattle.estelunya.proofs.estelunya_room.Kinds as Room
use Rattle.estelunya.proofs.estelunya_room.Reads.{Learnt as room-allows}
use Rattle.estelunya.proofs.estelunya_walk.Kinds as Walk
use Rattle.estelunya.proofs.estelunya_walk.Reads.{Learnt as walk-allows}

-- the six files lent to a load
abbrev pub files_lent : (κ : Lfts 8) → Dens κ Load.ps → Files
files_lent κ a = files_of a.0.now a.1.0.now a.1.1.0.now a.1.1.1.0.now a.1.1.1.1.0.now a.1.1.1.1.1.0.now

pub demand3-contracts :
    (κ : Lfts 8) (a : Dens κ Load.ps) (x : LoadResult) (s : AtExit (ended_of 8 Load.ps Load.r) κ) → load-allows κ a x s → x.number ≡ 0
    → (ν : Lfts 2) (b : Dens ν Walk.ps) (y : WalkResult) (t : AtExit (ended_of 2 Walk.ps Walk.r) ν) → walk-allows ν b y t
    → take x.words b.0.now ≡ take x.words s.1.1.1.1.1.1.0.now
    → (day : ℕ) (v : Service) → Asked (files_lent κ a) b.1.0 b.1.1.0 b.1.1.1.0 b.1.1.1.1.0 b.1.1.1.1.1.0 v day
    → Walks (files_lent κ a) b.1.0 v b.1.1.0 (day - (delivered (files_lent κ a)).period.start) b.1.1.1.1.1.1.0.now y t.1.1.1.1.1.1.0.now
demand3-contracts κ a x s p e ν b y t q same day v asked =
    demand3-exported (files_lent κ a) a.1.1.1.1.1.1.0.now (length a.1.1.1.1.1.1.1.0.now) x s.1.1.1.1.1.1.0.now p.0 p.1.0 e
    b.0.now same b.1.0 b.1.1.0 b.1.1.1.0 b.1.1.1.1.0 b.1.1.1.1.1.0 day v asked b.1.1.1.1.1.1.0.now y t.1.1.1.1.1.1.0.now q.0 q.1

-- With a table of as many words as `estelunya_room` answers for the sizes of the files, `estelunya_load` never answers 20.
pub room-contracts :
    (μ : Lfts 0) (c : Dens μ Room.ps) (words : ℕ) (u : AtExit (ended_of 0 Room.ps Room.r) μ) → room-allows μ c words u
    → (κ : Lfts 8) (a : Dens κ Load.ps) (x : LoadResult) (s : AtExit (ended_of 8 Load.ps Load.r) κ) → load-allows κ a x s
    → length a.1.0.now ≡ c.0 → length a.1.1.0.now ≡ c.1.0 → length a.1.1.1.0.now ≡ c.1.1.0
    → length a.1.1.1.1.0.now ≡ c.1.1.1.0 → length a.1.1.1.1.1.0.now ≡ c.1.1.1.1.0
    → words ≤ length a.1.1.1.1.1.1.0.now → x.number ≡ 20 → ⊥
room-contracts μ c words u p κ a x s q eb es eu ep ez h e =
    go (loaded (files_lent κ a) (length a.1.1.1.1.1.1.0.now) (length a.1.1.1.1.1.1.1.0.now)) refl (sym (ap (λ (r : LoadResult). r.number) q.0) ∙ e)
  where
    go : (l : Loaded) → loaded (files_lent κ a) (length a.1.1.1.1.1.1.0.now) (length a.1.1.1.1.1.1.1.0.now) ≡ l → (load_result l).number ≡ 20 → ⊥
    go (Accepted used) r n = omega (arith, n)
    go (Refused number file line column needed) r n =
        p.1.never_20 (files_lent κ a) eb es eu ep ez (length a.1.1.1.1.1.1.0.now) (length a.1.1.1.1.1.1.1.0.now) file line column needed h
        (r ∙ ap (λ (m : ℕ). Refused m file line column needed) n)
