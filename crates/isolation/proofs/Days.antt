-- A service whose bit field numbers are changed by σ, where of σ b is known what was known of b: its legs are covered and operated alike. Assumes nothing.
use mathlib.Core.Path.{◌≡◌, refl, ap}
use mathlib.Core.List.{List, [], ◌∷◌, map}
use mathlib.Core.Bool.{Bool, cond, not, ◌||◌}
use Prim.Native.Nat.{ℕ, ◌+◌}
use Rattle.base.specs.Lists.{every, some_of, count_if, below}
use Rattle.timetable.specs.Delivery.{BitField, DayRange, ExtraRange, Service}
use Rattle.timetable.specs.Legs.{covers, covering, field_known, field_runs, operated_by, leg_count, operated_legs_by}
use Rattle.isolation.proofs.Lines.{map-by}

-- the same opening, calls and categories, with other ranges of days and another line
abbrev pub besides : ℕ → List DayRange → List ExtraRange → Service → Service
besides n ds es s = record { line = n; opening = s.opening; calls = s.calls; categories = s.categories; days = ds; extras = es }

abbrev pub day_for : (ℕ → ℕ) → DayRange → DayRange
day_for σ r = record { field = σ r.field; legs = r.legs }

abbrev pub extra_for : (ℕ → ℕ) → ExtraRange → ExtraRange
extra_for σ r = record { code = r.code; field = σ r.field; legs = r.legs }

-- with its opening line's number n
abbrev pub service_for : (ℕ → ℕ) → ℕ → Service → Service
service_for σ n s = besides n (map (day_for σ) s.days) (map (extra_for σ) s.extras) s

-- what fs knows of σ b is what gs knows of b
pub record Knows (σ : ℕ → ℕ) (fs gs : List BitField) : Type 0 where
  pub known : (b : ℕ) → field_known (σ b) fs ≡ field_known b gs
  pub runs : (b k : ℕ) → field_runs fs (σ b) k ≡ field_runs gs b k

pub covering-for : (σ : ℕ → ℕ) (rs : List DayRange) (k : ℕ) → covering (λ (r : DayRange). r.legs) (map (day_for σ) rs) k ≡ covering (λ (r : DayRange). r.legs) rs k
unfolding count_if
covering-for σ [] k = refl
covering-for σ (r ∷ rs) k = ap (λ (n : ℕ). cond (covers k r.legs) 1 0 + n) (covering-for σ rs k)

pub known-for : (σ : ℕ → ℕ) (known old : ℕ → Bool) → ((b : ℕ) → known (σ b) ≡ old b) → (rs : List DayRange) (k : ℕ)
    → every (λ (r : DayRange). not (covers k r.legs) || known r.field) (map (day_for σ) rs) ≡ every (λ (r : DayRange). not (covers k r.legs) || old r.field) rs
unfolding every
known-for σ known old h [] k = refl
known-for σ known old h (r ∷ rs) k = rw (h r.field, known-for σ known old h rs k)

module _ (σ : ℕ → ℕ) (runs old : ℕ → ℕ → Bool) (h : (b k : ℕ) → runs (σ b) k ≡ old b k) where
  operated-for : (rs : List DayRange) (day k : ℕ) → operated_by runs (map (day_for σ) rs) day k ≡ operated_by old rs day k
  unfolding some_of
  operated-for [] day k = refl
  operated-for (r ∷ rs) day k = rw (h r.field day, operated-for rs day k)

  pub legs-for : (n : ℕ) (s : Service) (day : ℕ) → operated_legs_by runs (service_for σ n s) day ≡ operated_legs_by old s day
  legs-for n s day = map-by (operated_by runs (map (day_for σ) s.days) day) (operated_by old s.days day) (operated-for s.days day) (below (leg_count s))
