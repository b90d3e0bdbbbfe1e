-- The records of a table, as they are written and as they are read: how many words they take, and that they are read back from their words,
-- whatever words follow. Assumes nothing.
use mathlib.Core.Path.{◌≡◌, refl, sym, ap, ◌∙◌}
use mathlib.Core.List.{List, [], ◌∷◌, ◌++◌, append_assoc}
use Prim.Native.Nat.{ℕ, ◌+◌, ◌*◌}
use native.Mathlib.Omega.{arith}
use lib.ListN.{length, drop, length-append}
use lib.Seq.{drop_at, take_at, drop-drop}
use Rattle.base.specs.Lists.{All, gathered}
use Rattle.timetable.specs.Delivery.{BitField, StopRecord, Interchange, CategoryClass, CategoryRange, DayRange, ExtraRange, Service}
use Rattle.timetable.specs.Table.{bit_field_words, stop_words, interchange_words, class_words, call_words, category_words, day_words, extra_words, service_size, head_words, service_words}
use Rattle.timetable.specs.Layout.{bit_words, bit_field_size, stop_size, interchange_size, class_size, service_head, call_size, category_size, day_size, extra_size}
use Rattle.timetable.specs.Table.{word, rows_in, bit_field_at, stop_at, interchange_at, class_at, call_at, category_at, day_at, extra_at, service_at, services_in}
use Rattle.timetable.specs.declared.Call.{Call}
use Rattle.timetable.proofs.Rows.{any, all_any, length-gathered, rows_back}

-- ---- records of one size

-- a bit field has twelve words; the other records have their size by themselves
abbrev pub twelve : BitField → Type 0
twelve b = length b.words ≡ bit_words

twelve-back : (b : BitField) (r : List ℕ) → twelve b → bit_field_at (bit_field_words b ++ r) ≡ b
twelve-back b r h = λ i. record { number = b.number; words = take_at b.words r bit_words h i }

pub fields_back : {xs : List BitField} (r : List ℕ) → All twelve xs → rows_in bit_field_at bit_field_size (length xs) (gathered bit_field_words xs ++ r) ≡ xs
fields_back = rows_back bit_field_words bit_field_size twelve (λ b k. omega (arith, k)) bit_field_at twelve-back

pub fields-length : {xs : List BitField} → All twelve xs → length (gathered bit_field_words xs) ≡ bit_field_size * length xs
fields-length = length-gathered bit_field_words bit_field_size twelve (λ b k. omega (arith, k))

any-back : {X : Type 0} (f : List ℕ → X) (g : X → List ℕ) (size : ℕ) → ((x : X) → length (g x) ≡ size) → ((x : X) (r : List ℕ) → f (g x ++ r) ≡ x) → (xs : List X) (r : List ℕ) → rows_in f size (length xs) (gathered g xs ++ r) ≡ xs
any-back f g size long back xs r = rows_back g size any (λ x k. long x) f (λ x q k. back x q) r (all_any xs)

any-length : {X : Type 0} (g : X → List ℕ) (size : ℕ) → ((x : X) → length (g x) ≡ size) → (xs : List X) → length (gathered g xs) ≡ size * length xs
any-length g size long xs = length-gathered g size any (λ x k. long x) (all_any xs)

pub stops-back : (xs : List StopRecord) (r : List ℕ) → rows_in stop_at stop_size (length xs) (gathered stop_words xs ++ r) ≡ xs
stops-back = any-back stop_at stop_words stop_size (λ x. refl) (λ x r. refl)

pub stops-length : (xs : List StopRecord) → length (gathered stop_words xs) ≡ stop_size * length xs
stops-length = any-length stop_words stop_size (λ x. refl)

pub interchanges-back : (xs : List Interchange) (r : List ℕ) → rows_in interchange_at interchange_size (length xs) (gathered interchange_words xs ++ r) ≡ xs
interchanges-back = any-back interchange_at interchange_words interchange_size (λ x. refl) (λ x r. refl)

pub interchanges-length : (xs : List Interchange) → length (gathered interchange_words xs) ≡ interchange_size * length xs
interchanges-length = any-length interchange_words interchange_size (λ x. refl)

pub classes-back : (xs : List CategoryClass) (r : List ℕ) → rows_in class_at class_size (length xs) (gathered class_words xs ++ r) ≡ xs
classes-back = any-back class_at class_words class_size (λ x. refl) (λ x r. refl)

pub classes-length : (xs : List CategoryClass) → length (gathered class_words xs) ≡ class_size * length xs
classes-length = any-length class_words class_size (λ x. refl)

pub calls_back : (xs : List Call) (r : List ℕ) → rows_in call_at call_size (length xs) (gathered call_words xs ++ r) ≡ xs
calls_back = any-back call_at call_words call_size (λ x. refl) (λ x r. refl)

pub calls-length : (xs : List Call) → length (gathered call_words xs) ≡ call_size * length xs
calls-length = any-length call_words call_size (λ x. refl)

pub categories-back : (xs : List CategoryRange) (r : List ℕ) → rows_in category_at category_size (length xs) (gathered category_words xs ++ r) ≡ xs
categories-back = any-back category_at category_words category_size (λ x. refl) (λ x r. refl)

pub categories-length : (xs : List CategoryRange) → length (gathered category_words xs) ≡ category_size * length xs
categories-length = any-length category_words category_size (λ x. refl)

pub days-back : (xs : List DayRange) (r : List ℕ) → rows_in day_at day_size (length xs) (gathered day_words xs ++ r) ≡ xs
days-back = any-back day_at day_words day_size (λ x. refl) (λ x r. refl)

pub days-length : (xs : List DayRange) → length (gathered day_words xs) ≡ day_size * length xs
days-length = any-length day_words day_size (λ x. refl)

pub extras-back : (xs : List ExtraRange) (r : List ℕ) → rows_in extra_at extra_size (length xs) (gathered extra_words xs ++ r) ≡ xs
extras-back = any-back extra_at extra_words extra_size (λ x. refl) (λ x r. refl)

pub extras-length : (xs : List ExtraRange) → length (gathered extra_words xs) ≡ extra_size * length xs
extras-length = any-length extra_words extra_size (λ x. refl)

-- ---- a service

pub service-length : (s : Service) → length (service_words s) ≡ service_size s
unfolding service_words
service-length s = simp (length-append, calls-length, categories-length, days-length, extras-length) (omega arith)

-- past k words, and n more that stand there
pub past : (w a b : List ℕ) (k n : ℕ) → drop k w ≡ a ++ b → length a ≡ n → drop (k + n) w ≡ b
past w a b k n e l = sym (drop-drop n k w) ∙ (ap (drop n) e ∙ drop_at a b n l)

module _ (s : Service) (r : List ℕ) where
  A : List ℕ
  A = gathered call_words s.calls

  B : List ℕ
  B = gathered category_words s.categories

  C : List ℕ
  C = gathered day_words s.days

  D : List ℕ
  D = gathered extra_words s.extras

  w : List ℕ
  w = head_words s ++ (A ++ (B ++ (C ++ (D ++ r))))

  -- the words, grouped as they are read
  grouped : service_words s ++ r ≡ w
  unfolding service_words w A B C D
  grouped = simp append_assoc

  c : ℕ
  c = service_head + call_size * length s.calls

  g : ℕ
  g = c + category_size * length s.categories

  v : ℕ
  v = g + day_size * length s.days

  to-categories : drop c w ≡ B ++ (C ++ (D ++ r))
  unfolding w A c
  to-categories = past w A (B ++ (C ++ (D ++ r))) service_head (call_size * length s.calls) refl (calls-length s.calls)

  to-days : drop g w ≡ C ++ (D ++ r)
  unfolding g B
  to-days = past w B (C ++ (D ++ r)) c (category_size * length s.categories) to-categories (categories-length s.categories)

  to-extras : drop v w ≡ D ++ r
  unfolding v C
  to-extras = past w C (D ++ r) g (day_size * length s.days) to-days (days-length s.days)

  pub service-back : service_at (service_words s ++ r) ≡ s
  unfolding service_at w A B C D c g v
  service-back =
      ap service_at grouped
      ∙ (λ i. record {
        line = s.line;
        opening = s.opening;
        calls = calls_back s.calls (B ++ (C ++ (D ++ r))) i;
        categories = (ap (rows_in category_at category_size (length s.categories)) to-categories ∙ categories-back s.categories (C ++ (D ++ r))) i;
        days = (ap (rows_in day_at day_size (length s.days)) to-days ∙ days-back s.days (D ++ r)) i;
        extras = (ap (rows_in extra_at extra_size (length s.extras)) to-extras ∙ extras-back s.extras r) i;
      })

  first_word : word (service_words s ++ r) 0 ≡ length (service_words s)
  unfolding service_words
  first_word = sym (service-length s)

-- services, one after the other
pub services-back : (ss : List Service) (r : List ℕ) → services_in (length ss) (gathered service_words ss ++ r) ≡ ss
unfolding services_in gathered
services-back [] r = refl
services-back (s ∷ ss) r =
    rw (append_assoc (service_words s) (gathered service_words ss) r, service-back s (gathered service_words ss ++ r), first_word s (gathered service_words ss ++ r), drop_at (service_words s) (gathered service_words ss ++ r) (length (service_words s)) refl, services-back ss r)
