-- The words of two deliveries that differ in their services' opening line numbers only are the same but for these: `except-same`. Assumes nothing.
use mathlib.Core.Path.{◌≡◌, refl, ap, sym, ◌∙◌}
use mathlib.Core.List.{List, [], ◌∷◌, ◌++◌, map, append_assoc}
use Prim.Native.Nat.{ℕ, suc, ◌+◌}
use native.Mathlib.Omega.{arith}
use lib.ListN.{length, set, length-append, length-map}
use lib.Seq.{take_at, drop_at}
use Rattle.base.specs.Lists.{All, gathered}
use Rattle.timetable.specs.Delivery.{StopRecord, Service, Delivery}
use Rattle.timetable.specs.Layout.{header_size, first_service}
use Rattle.timetable.specs.Table.{pointing, bit_field_words, stop_words, interchange_words, class_words, service_size, service_words, sections, table_words, word_count_in, services#, services_place}
use Rattle.timetable.proofs.Records.{twelve, fields-length, stops-length, interchanges-length, classes-length, service-length}
use Rattle.plan_services.specs.Services.{at_line, relined, service_lines}
use Rattle.round_trip.specs.Lines.{unlined, except_lines}

-- ---- the records

first_word : (s : Service) (r : List ℕ) → word_count_in (service_words s ++ r) ≡ service_size s
unfolding service_words
first_word s r = refl

line-zero : (s : Service) → set (service_words s) 10 0 ≡ service_words (at_line 0 s)
unfolding service_words
line-zero s = refl

one-unlined : (v : ℕ) (s : Service) (r : List ℕ) → unlined (suc v) (service_words s ++ r) ≡ service_words (at_line 0 s) ++ unlined v r
unfolding unlined
one-unlined v s r =
    rw (first_word s r, take_at (service_words s) r (service_size s) (service-length s), drop_at (service_words s) r (service_size s) (service-length s), line-zero s)

none-unlined : (r : List ℕ) → unlined 0 r ≡ r
unfolding unlined
none-unlined r = refl

services-unlined : (ss : List Service) (r : List ℕ) → unlined (length ss) (gathered service_words ss ++ r) ≡ gathered service_words (map (at_line 0) ss) ++ r
unfolding gathered
services-unlined [] r = none-unlined r
services-unlined (s ∷ ss) r = rw (append_assoc, one-unlined (length ss) s (gathered service_words ss ++ r), services-unlined ss r, append_assoc)

-- ---- the words before them

abbrev pointed : Delivery → List Service
pointed d = map (pointing d.stops) d.services

front : ℕ → ℕ → Delivery → List ℕ
front n v d =
    (header_size + n) ∷ d.period.start ∷ d.period.n ∷ length d.fields ∷ length d.stops ∷ length d.interchanges ∷ v
    ∷ first_service (length d.fields) (length d.stops) (length d.interchanges) (length d.classes) ∷ length d.classes
    ∷ (gathered bit_field_words d.fields ++ (gathered stop_words d.stops ++ (gathered interchange_words d.interchanges ++ gathered class_words d.classes)))

words-split : (d : Delivery) → table_words d ≡ front (length (sections d)) (length d.services) d ++ gathered service_words (pointed d)
unfolding table_words front
words-split d = simp append_assoc

front_length : (n v : ℕ) (d : Delivery) → All twelve d.fields → length (front n v d) ≡ first_service (length d.fields) (length d.stops) (length d.interchanges) (length d.classes)
unfolding front
front_length n v d h =
    simp length-append (omega (arith, fields-length h, stops-length d.stops, interchanges-length d.interchanges, classes-length d.classes))

module _ (n v : ℕ) (d : Delivery) (x : List ℕ) where
  place_is : services_place (front n v d ++ x) ≡ first_service (length d.fields) (length d.stops) (length d.interchanges) (length d.classes)
  unfolding front
  place_is = refl

  count-is : services# (front n v d ++ x) ≡ v
  unfolding front
  count-is = refl

  except-front : All twelve d.fields → except_lines (front n v d ++ x) ≡ front n v d ++ unlined v x
  unfolding except_lines
  except-front h =
      let k = first_service (length d.fields) (length d.stops) (length d.interchanges) (length d.classes) in
      rw (place_is, count-is, take_at (front n v d) x k (front_length n v d h), drop_at (front n v d) x k (front_length n v d h))

-- a table's words without its line numbers
except-words : (d : Delivery) → All twelve d.fields → (rest : List ℕ)
    → except_lines (table_words d ++ rest) ≡ front (length (sections d)) (length d.services) d ++ (gathered service_words (map (at_line 0) (pointed d)) ++ rest)
except-words d h rest =
    let p = front (length (sections d)) (length d.services) d in
    let z = gathered service_words (pointed d) in
    let e : table_words d ++ rest ≡ p ++ (z ++ rest) = rw (words-split d, append_assoc) in
    let m : length (pointed d) ≡ length d.services = length-map d.services (pointing d.stops) in
    let u : unlined (length d.services) (z ++ rest) ≡ gathered service_words (map (at_line 0) (pointed d)) ++ rest = rw m at (services-unlined (pointed d) rest) in
    ap except_lines e ∙ except-front (length (sections d)) (length d.services) d (z ++ rest) h ∙ ap (λ (x : List ℕ). p ++ x) u

-- ---- other line numbers

abbrev pub with_services : Delivery → List Service → Delivery
with_services d ss = record { period = d.period; fields = d.fields; stops = d.stops; interchanges = d.interchanges; classes = d.classes; services = ss }

same-unlined : (stops : List StopRecord) (n : ℕ) (ss : List Service) → map (at_line 0) (map (pointing stops) (relined n ss)) ≡ map (at_line 0) (map (pointing stops) ss)
unfolding relined pointing
same-unlined stops n [] = refl
same-unlined stops n (s ∷ ss) = ap (λ (r : List Service). at_line 0 (pointing stops s) ∷ r) (same-unlined stops (n + length (service_lines s)) ss)

same_count : (n : ℕ) (ss : List Service) → length (relined n ss) ≡ length ss
unfolding relined
same_count n [] = refl
same_count n (s ∷ ss) = ap suc (same_count (n + length (service_lines s)) ss)

unlined-length : (ss : List Service) → length (gathered service_words (map (at_line 0) ss)) ≡ length (gathered service_words ss)
unfolding gathered
unlined-length [] = refl
unlined-length (s ∷ ss) = rw (length-append, length-append, service-length (at_line 0 s), service-length s, unlined-length ss)

module _ (d : Delivery) (n : ℕ) where
  abbrev moved : Delivery
  moved = with_services d (relined n d.services)

  records-length : length (gathered service_words (pointed moved)) ≡ length (gathered service_words (pointed d))
  records-length = sym (unlined-length (pointed moved)) ∙ ap (λ (x : List Service). length (gathered service_words x)) (same-unlined d.stops n d.services) ∙ unlined-length (pointed d)

  sections-same : length (sections moved) ≡ length (sections d)
  sections-same = rw (length-append, length-append, length-append, length-append, records-length, length-append, length-append, length-append, length-append)

  pub length-same : length (table_words moved) ≡ length (table_words d)
  unfolding table_words
  length-same = omega (arith, sections-same)

  pub except-same : All twelve d.fields → (rest : List ℕ) → except_lines (table_words moved ++ rest) ≡ except_lines (table_words d ++ rest)
  unfolding front
  except-same h rest =
      except-words moved h rest
      ∙ (λ i. front (sections-same i) (same_count n d.services i) d ++ (gathered service_words (same-unlined d.stops n d.services i) ++ rest))
      ∙ sym (except-words d h rest)
