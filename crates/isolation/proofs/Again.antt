-- The files of a delivery with bit field numbers changed one-to-one: they are loaded alike, and hold the same but for the numbers. Assumes nothing.
use mathlib.Core.Path.{◌≡◌, refl, sym, ap, ◌∙◌, subst}
use mathlib.Core.List.{List, [], ◌∷◌, ◌++◌, map}
use mathlib.Core.Bool.{Bool, cond}
use mathlib.Core.Option.{Option}
use Prim.Native.Nat.{ℕ, ◌+◌, ◌-◌, ◌≤◌, ◌<◌}
use native.Mathlib.Omega.{arith}
use native.Mathlib.Decide.{dec_lt}
use lib.ListN.{length, length-map, length-append}
use lib.Dec.{eqb, ltb}
use borrow.Author.Tests.{lt-ltb, le-ltb, eq-eqb, ne_eqb}
use Rattle.base.specs.Lists.{gathered}
use Rattle.base.proofs.Laws.{by_eqb}
use Rattle.columns.specs.Columns.{columns, number}
use Rattle.columns.proofs.Laws.{columns-lt}
use Rattle.lines.specs.Lines.{Line, lines_of}
use Rattle.timetable.specs.Delivery.{Files, BitField, StopRecord, Service}
use Rattle.timetable.specs.Files.{held_in, bit_field_of, bit_fields_first, period_first, stops_first, interchanges_first, classes_first}
use Rattle.timetable.specs.Offences.{◌<|>◌}
use Rattle.timetable.specs.Service.{blocks, service_of}
use Rattle.timetable.specs.Checks.{plan_first}
use Rattle.timetable.specs.Table.{pointing, bit_field_words, stop_words, interchange_words, class_words, service_words, sections, table_words}
use Rattle.timetable.specs.Load.{Where, delivered, in_file, length_offence, content_offence, helper_needed, loaded}
use Rattle.timetable.specs.declared.Offence.{Offence}
use Rattle.timetable.proofs.Records.{service-length}
use Rattle.isolation.specs.Rename.{OneToOne, renumbered, field_line, plan_line, renamed}
use Rattle.isolation.proofs.Lines.{map-map, map-by, bare, blocks-map}
use Rattle.isolation.proofs.Days.{day_for, extra_for, service_for, Knows}
use Rattle.isolation.proofs.Texts.{field-safe, plan-safe}
use Rattle.isolation.proofs.Each.{on_text, lines-each, length-each, each-by}
use Rattle.isolation.proofs.Told.{field_for}
use Rattle.isolation.proofs.Changed.{Everywhere, fields-for, held-for, knows-for, line-for, opens-for, service-for}
use Rattle.isolation.proofs.Same.{fields-first, plan-first}

-- ---- one-to-one on numbers of six digits, and the others left alone: one-to-one on all

unfoldable pub extended : (ℕ → ℕ) → ℕ → ℕ
extended σ n = cond (ltb n 1000000) (σ n) n

module _ (σ : ℕ → ℕ) (o : OneToOne σ) where
  pub inside : (n : ℕ) → n < 1000000 → extended σ n ≡ σ n
  unfolding extended
  inside n h = rw (lt-ltb n 1000000 h)

  outside : (n : ℕ) → 1000000 ≤ n → extended σ n ≡ n
  unfolding extended
  outside n h = rw (le-ltb n 1000000 h)

  apart-still : (n m : ℕ) → extended σ n ≡ extended σ m → n ≡ m
  apart-still n m e = elim (dec_lt n 1000000) [ yes h ↦ elim (dec_lt m 1000000) [ yes k ↦ o.apart n m h k (sym (inside n h) ∙ (e ∙ inside m k)) | no k ↦ absurd (mixed n m h (omega arith) e) ] | no h ↦ elim (dec_lt m 1000000) [ yes k ↦ absurd (mixed m n k (omega arith) (sym e)) | no k ↦ sym (outside n (omega arith)) ∙ (e ∙ outside m (omega arith)) ] ]
    where
      mixed : (n m : ℕ) → n < 1000000 → 1000000 ≤ m → extended σ n ≡ extended σ m → ⊥
      mixed n m h k e = let z = o.six_digits n h in let q : σ n ≡ m = sym (inside n h) ∙ (e ∙ outside m k) in omega (arith, z, q, k)

  pub everywhere : Everywhere (extended σ)
  everywhere = record {
    six_digits = λ n h. rw (inside n h) (o.six_digits n h);
    same = λ n m. by_eqb (λ (b : Bool). eqb (extended σ n) (extended σ m) ≡ b) n m (λ e. eq-eqb (extended σ n) (extended σ m) (ap (extended σ) e)) (λ h. ne_eqb (extended σ n) (extended σ m) (λ e. h (apart-still n m e)));
    kept = inside 0 (omega arith) ∙ o.kept;
  }

  line-extended : (c : ℕ) → 1 ≤ c → (t : List ℕ) → renumbered σ c t ≡ renumbered (extended σ) c t
  unfolding renumbered
  line-extended c h t =
      let e : c + 5 - (c - 1) ≡ 6 = omega (arith, h) in
      let z = rw e at (columns-lt c (c + 5) t) in
      rw (inside (number (columns c (c + 5) t)) z)

  plan-extended : (t : List ℕ) → plan_line σ t ≡ plan_line (extended σ) t
  unfolding plan_line
  plan-extended t = rw (line-extended 23 (omega arith) t)

  pub renamed-extended : (f : Files) → renamed σ f ≡ renamed (extended σ) f
  unfolding renamed
  renamed-extended f = rw (each-by (field_line σ) (field_line (extended σ)) (line-extended 1 (omega arith)) [] f.bitfeld, each-by (plan_line σ) (plan_line (extended σ)) plan-extended [] f.fplan)

-- ---- lists of the same length

gathered-lengths : {X Y : Type 0} (f : X → List ℕ) (h : Y → List ℕ) (k : Y → X) → ((y : Y) → length (f (k y)) ≡ length (h y)) → (ys : List Y) → length (gathered f (map k ys)) ≡ length (gathered h ys)
unfolding gathered
gathered-lengths f h k e [] = refl
gathered-lengths f h k e (y ∷ ys) =
    let z = gathered-lengths f h k e ys in let q = e y in
    let u = length-append (f (k y)) (gathered f (map k ys)) in let v = length-append (h y) (gathered h ys) in
    omega (arith, z, q, u, v)

five-lengths : (a b c d e : List ℕ) → length (a ++ (b ++ (c ++ (d ++ e)))) ≡ length a + (length b + (length c + (length d + length e)))
five-lengths a b c d e =
    length-append a (b ++ (c ++ (d ++ e))) ∙ ap (λ (n : ℕ). length a + n)
    (length-append b (c ++ (d ++ e)) ∙ ap (λ (n : ℕ). length b + n) (length-append c (d ++ e) ∙ ap (λ (n : ℕ). length c + n) (length-append d e)))

-- ---- the changed delivery, for a change that is one-to-one on all numbers

module _ (σ : ℕ → ℕ) (g : Everywhere σ) (f : Files) where
  abbrev new : Files
  new = renamed σ f

  field-lines : lines_of new.bitfeld ≡ map (on_text (field_line σ)) (lines_of f.bitfeld)
  unfolding renamed
  field-lines = lines-each (field_line σ) (field-safe σ) 1 0 f.bitfeld

  plan-lines : lines_of new.fplan ≡ map (line-for σ g) (lines_of f.fplan)
  unfolding renamed
  plan-lines = lines-each (plan_line σ) (plan-safe σ) 1 0 f.fplan

  fields-now : (delivered new).fields ≡ fields-for σ g (delivered f).fields
  unfolding delivered
  fields-now = ap (held_in bit_field_of) field-lines ∙ held-for σ g (lines_of f.bitfeld)

  abbrev service_now : Service → Service
  service_now s = service_for σ s.line s

  service-now : (b : List Line) → service_of (map (line-for σ g) b) ≡ service_now (service_of b)
  unfolding service_of
  service-now b = service-for σ g b

  services-now : (delivered new).services ≡ map service_now (delivered f).services
  unfolding delivered
  services-now =
      ap (map service_of) (ap blocks plan-lines ∙ blocks-map (line-for σ g) (opens-for σ g) (lines_of f.fplan))
      ∙ (map-map (map (line-for σ g)) service_of (blocks (lines_of f.fplan))
      ∙ (map-by (λ (b : List Line). service_of (map (line-for σ g) b)) (λ (b : List Line). service_now (service_of b)) service-now (blocks (lines_of f.fplan))
      ∙ sym (map-map service_of service_now (blocks (lines_of f.fplan)))))

  -- ---- no other offence

  lengths-same : length_offence new ≡ length_offence f
  unfolding length_offence renamed
  lengths-same = rw (length-each (field_line σ) (field-safe σ) f.bitfeld, length-each (plan_line σ) (plan-safe σ) f.fplan)

  helper-same : helper_needed new ≡ helper_needed f
  unfolding helper_needed renamed
  helper-same = rw (field-lines, length-map (lines_of f.bitfeld) (on_text (field_line σ)))

  fields-offend : bit_fields_first (delivered new).period.n (lines_of new.bitfeld) ≡ bit_fields_first (delivered f).period.n (lines_of f.bitfeld)
  unfolding delivered renamed
  fields-offend = ap (bit_fields_first (delivered f).period.n) field-lines ∙ fields-first σ g (delivered f).period.n (lines_of f.bitfeld)

  plan-offends : plan_first (delivered new).fields (delivered new).stops (delivered new).classes (delivered new).period.n (lines_of new.fplan)
      ≡ plan_first (delivered f).fields (delivered f).stops (delivered f).classes (delivered f).period.n (lines_of f.fplan)
  unfolding delivered renamed
  plan-offends =
      ap (λ (fs : List BitField). plan_first fs (delivered f).stops (delivered f).classes (delivered f).period.n (lines_of new.fplan)) fields-now
      ∙ (ap (plan_first (fields-for σ g (delivered f).fields) (delivered f).stops (delivered f).classes (delivered f).period.n) plan-lines
      ∙ plan-first σ g (delivered f).fields (delivered f).stops (delivered f).classes (delivered f).period.n (lines_of f.fplan))

  -- the content's first offence, by those of BITFELD and FPLAN
  abbrev by_both : Option Offence → Option Offence → Option Where
  by_both a b =
      in_file 1 (period_first (lines_of f.eckdaten))
      <|> in_file 2 a
      <|> in_file 3 (stops_first (lines_of f.bahnhof))
      <|> in_file 4 (interchanges_first (delivered f).stops (lines_of f.umsteigb))
      <|> in_file 6 (classes_first (lines_of f.zugart))
      <|> in_file 5 b

  content-same : content_offence new ≡ content_offence f
  unfolding content_offence delivered renamed
  content-same =
      ap (λ (o : Option Offence). by_both o (plan_first (delivered new).fields (delivered new).stops (delivered new).classes (delivered new).period.n (lines_of new.fplan))) fields-offend
      ∙ ap (by_both (bit_fields_first (delivered f).period.n (lines_of f.bitfeld))) plan-offends

  -- ---- as many words

  service-size : (stops : List StopRecord) (s : Service) → length (service_words (pointing stops (service_now s))) ≡ length (service_words (pointing stops s))
  unfolding pointing
  service-size stops s =
      service-length (pointing stops (service_now s))
      ∙ (rw (length-map s.days (day_for σ), length-map s.extras (extra_for σ)) refl
      ∙ sym (service-length (pointing stops s)))

  field-words : length (gathered bit_field_words (delivered new).fields) ≡ length (gathered bit_field_words (delivered f).fields)
  field-words = ap (λ (fs : List BitField). length (gathered bit_field_words fs)) fields-now ∙ gathered-lengths bit_field_words bit_field_words (field_for σ) (λ b. refl) (delivered f).fields

  service-words : (stops : List StopRecord) → length (gathered service_words (map (pointing stops) (delivered new).services)) ≡ length (gathered service_words (map (pointing stops) (delivered f).services))
  service-words stops =
      ap (λ (ss : List Service). length (gathered service_words ss)) (ap (map (pointing stops)) services-now ∙ map-map service_now (pointing stops) (delivered f).services)
      ∙ (gathered-lengths service_words (λ (s : Service). service_words (pointing stops s)) (λ (s : Service). pointing stops (service_now s)) (service-size stops) (delivered f).services
      ∙ sym (gathered-lengths service_words (λ (s : Service). service_words (pointing stops s)) (pointing stops) (λ s. refl) (delivered f).services))

  sections-same : length (sections (delivered new)) ≡ length (sections (delivered f))
  unfolding delivered renamed
  sections-same =
      let a = field-words in let v = service-words (delivered f).stops in
      let p = five-lengths (gathered bit_field_words (delivered new).fields) (gathered stop_words (delivered f).stops) (gathered interchange_words (delivered f).interchanges) (gathered class_words (delivered f).classes) (gathered service_words (map (pointing (delivered f).stops) (delivered new).services)) in
      let q = five-lengths (gathered bit_field_words (delivered f).fields) (gathered stop_words (delivered f).stops) (gathered interchange_words (delivered f).interchanges) (gathered class_words (delivered f).classes) (gathered service_words (map (pointing (delivered f).stops) (delivered f).services)) in
      p ∙ (rw (a, v) refl ∙ sym q)

  words_same : length (table_words (delivered new)) ≡ length (table_words (delivered f))
  unfolding table_words
  words_same = let e = sections-same in omega (arith, e)

  pub loaded-same : (room helper : ℕ) → loaded new room helper ≡ loaded f room helper
  unfolding loaded
  loaded-same room helper = rw (lengths-same, helper-same, content-same, words_same)

  pub knows-now : Knows σ (delivered new).fields (delivered f).fields
  knows-now = subst (λ (fs : List BitField). Knows σ fs (delivered f).fields) (sym fields-now) (knows-for σ g (delivered f).fields)

  pub bare-now : map bare (delivered new).services ≡ map (service_for σ 0) (delivered f).services
  bare-now = ap (map bare) services-now ∙ map-map service_now bare (delivered f).services

  pub services-count : length (delivered new).services ≡ length (delivered f).services
  services-count = ap length services-now ∙ length-map (delivered f).services service_now
