-- One operator's edit: document 02, No. 14, its first half, proved; specs/Edit.antt says what is edited. Assumes nothing.
use mathlib.Core.Path.{◌≡◌, refl, sym, ap, ◌∙◌}
use mathlib.Core.Logic.{◌⊎◌, inl, inr}
use mathlib.Core.List.{List, [], ◌∷◌, ◌++◌, map}
use mathlib.Core.Bool.{true}
use Prim.Native.Nat.{ℕ, zero, suc}
use native.Mathlib.Omega.{arith}
use lib.ListN.{length, get_elem?, length-map}
use Rattle.lines.specs.Lines.{Line, lines_of}
use Rattle.timetable.specs.Delivery.{Files, Service}
use Rattle.timetable.specs.Service.{blocks, service_of}
use Rattle.timetable.specs.Files.{period_in, bit_fields_in, stops_in, interchanges_in, classes_in}
use Rattle.timetable.specs.Legs.{field_known, field_runs}
use Rattle.timetable.specs.Load.{delivered, loaded, written}
use Rattle.timetable.specs.Questions.{day_asked}
use Rattle.timetable.specs.declared.Loaded.TheVariants.{Accepted}
use Rattle.isolation.specs.Alike.{WalksAlike, StopsAlike}
use Rattle.isolation.specs.Edit.{ends_line, OneService, Edited, place, Isolation}
use Rattle.isolation.proofs.Lines.{map-map, map-by, bare, services, services-cut}
use Rattle.isolation.proofs.Days.{day_for, extra_for, service_for}
use Rattle.isolation.proofs.Tables.{Alike, ServiceAlike, walks-alike, days-alike, stops-alike}

-- ---- lists that differ in one place

one-differs : {X : Type 0} (a m n c : List X) → length m ≡ 1 → length n ≡ 1 → (i : ℕ) → (i ≡ length a → ⊥) → get_elem? (a ++ (m ++ c)) i ≡ get_elem? (a ++ (n ++ c)) i
one-differs [] [] n c p q i h = absurd (omega (arith, p))
one-differs [] (x ∷ []) [] c p q i h = absurd (omega (arith, q))
one-differs [] (x ∷ []) (y ∷ []) c p q zero h = absurd (h refl)
one-differs [] (x ∷ []) (y ∷ []) c p q (suc i) h = refl
one-differs [] (x ∷ []) (y ∷ z ∷ n) c p q i h = absurd (omega (arith, q))
one-differs [] (x ∷ y ∷ m) n c p q i h = absurd (omega (arith, p))
one-differs (x ∷ a) m n c p q zero h = refl
one-differs (x ∷ a) m n c p q (suc i) h = one-differs a m n c p q i (λ e. h (ap suc e))

-- ---- the services of the two

abbrev pub same : ℕ → ℕ
same b = b

map_same : {X : Type 0} (f : X → X) → ((x : X) → f x ≡ x) → (xs : List X) → map f xs ≡ xs
map_same f e [] = refl
map_same f e (x ∷ xs) = rw (e x, map_same f e xs)

-- with their own numbers
own-numbers : (s : Service) → service_for same 0 s ≡ bare s
own-numbers s = rw (map_same (day_for same) (λ r. refl) s.days, map_same (extra_for same) (λ r. refl) s.extras)

bare-delivered : (f : Files) → map bare (delivered f).services ≡ services (lines_of f.fplan)
unfolding delivered
bare-delivered f = map-map service_of bare (blocks (lines_of f.fplan))

one_of : (s : List ℕ) → OneService s → length (services (lines_of s)) ≡ 1
one_of s h = length-map (blocks (lines_of s)) (λ (b : List Line). bare (service_of b)) ∙ h.once

first-cut : (post x y : List ℕ) → (post ≡ []) ⊎ ((ends_line x ≡ true) × (ends_line y ≡ true)) → (post ≡ []) ⊎ (ends_line x ≡ true)
first-cut post x y (inl e) = inl e
first-cut post x y (inr e) = inr e.0

second-cut : (post x y : List ℕ) → (post ≡ []) ⊎ ((ends_line x ≡ true) × (ends_line y ≡ true)) → (post ≡ []) ⊎ (ends_line y ≡ true)
second-cut post x y (inl e) = inl e
second-cut post x y (inr e) = inr e.1

-- an edit taken back
pub swapped : (f g : Files) → Edited f g → Edited g f
swapped f g e = record {
  pre = e.pre;
  x = e.y;
  y = e.x;
  post = e.post;
  before = e.after;
  after = e.before;
  x_service = e.y_service;
  y_service = e.x_service;
  post_service = e.post_service;
  pre_ends = e.pre_ends;
  block_ends = swapped-ends e.block_ends;
  eckdaten = sym e.eckdaten;
  bitfeld = sym e.bitfeld;
  bahnhof = sym e.bahnhof;
  umsteigb = sym e.umsteigb;
  zugart = sym e.zugart;
}
  where
    swapped-ends : (e.post ≡ []) ⊎ ((ends_line e.x ≡ true) × (ends_line e.y ≡ true)) → (e.post ≡ []) ⊎ ((ends_line e.y ≡ true) × (ends_line e.x ≡ true))
    swapped-ends (inl z) = inl z
    swapped-ends (inr z) = inr (z.1, z.0)

pub same_place : (f g : Files) (e : Edited f g) → place (swapped f g e) ≡ place e
unfolding swapped
same_place f g e = refl

module _ (f g : Files) (e : Edited f g) where
  services-before : map bare (delivered f).services ≡ services (lines_of e.pre) ++ (services (lines_of e.x) ++ services (lines_of e.post))
  services-before =
      bare-delivered f ∙ (ap (λ (s : List ℕ). services (lines_of s)) e.before
      ∙ services-cut e.pre e.x e.post e.pre_ends e.x_service.starts e.post_service (first-cut e.post e.x e.y e.block_ends))

  services-after : map bare (delivered g).services ≡ services (lines_of e.pre) ++ (services (lines_of e.y) ++ services (lines_of e.post))
  services-after =
      bare-delivered g ∙ (ap (λ (s : List ℕ). services (lines_of s)) e.after
      ∙ services-cut e.pre e.y e.post e.pre_ends e.y_service.starts e.post_service (second-cut e.post e.x e.y e.block_ends))

  -- every other service is the same, but for its opening line's number
  pub service-kept : (i : ℕ) → (i ≡ place e → ⊥) → get_elem? (map bare (delivered f).services) i ≡ get_elem? (map bare (delivered g).services) i
  service-kept i other =
      ap (λ (ss : List Service). get_elem? ss i) services-before
      ∙ (one-differs (services (lines_of e.pre)) (services (lines_of e.x)) (services (lines_of e.y)) (services (lines_of e.post)) (one_of e.x e.x_service) (one_of e.y e.y_service) i
      (λ q. other (q ∙ length-map (blocks (lines_of e.pre)) (λ (b : List Line). bare (service_of b))))
      ∙ sym (ap (λ (ss : List Service). get_elem? ss i) services-after))

  pub deliveries-alike : Alike same (delivered f) (delivered g)
  unfolding delivered
  deliveries-alike = record {
    period = ap (λ (s : List ℕ). period_in (lines_of s)) e.eckdaten;
    fields = record { known = λ b. ap (λ (s : List ℕ). field_known b (bit_fields_in s)) e.bitfeld; runs = λ b k. ap (λ (s : List ℕ). field_runs (bit_fields_in s) b k) e.bitfeld };
    stops = ap stops_in e.bahnhof;
    interchanges = ap interchanges_in e.umsteigb;
    classes = ap classes_in e.zugart;
  }

  pub service-alike : (i : ℕ) → (i ≡ place e → ⊥) → ServiceAlike same (delivered f) (delivered g) i
  service-alike i other = service-kept i other ∙ ap (λ (ss : List Service). get_elem? ss i) (sym (map-by (service_for same 0) bare own-numbers (delivered g).services))

  module _ (t t' : List ℕ) (helper helper' u u' : ℕ) (a : loaded f (length t) helper ≡ Accepted u) (a' : loaded g (length t') helper' ≡ Accepted u') where
    others-alike : (i : ℕ) → (i ≡ place e → ⊥) → WalksAlike (written f t helper) (written g t' helper') i
    others-alike i other = walks-alike same f g t t' helper helper' u u' a a' deliveries-alike i (service-alike i other)

    -- beyond: the day question, and those of stops
    pub isolated-days : (day month year b : ℕ) → day_asked (written f t helper) day month year b ≡ day_asked (written g t' helper') day month year b
    isolated-days = days-alike same f g t t' helper helper' u u' a a' deliveries-alike

    pub isolated-stops : StopsAlike (written f t helper) (written g t' helper')
    isolated-stops = stops-alike same f g t t' helper helper' u u' a a' deliveries-alike

-- "If two accepted deliveries differ only inside one service's block of FPLAN, which is one service in both, every other service's walk gives the same answer
-- and rows, given the same service index, repeat, date and room."
pub isolated : Isolation
isolated = others-alike
