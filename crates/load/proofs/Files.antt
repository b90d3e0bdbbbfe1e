-- The first offence of a delivery, file after file. Assumes nothing.
use Rattle.std.specs.Prelude.{Result, Ok, Err}
use mathlib.Core.Path.{◌≡◌, refl, sym, ap, ◌∙◌, subst}
use mathlib.Core.List.{List}
use mathlib.Core.Bool.{Bool, true, false, cond}
use mathlib.Core.Option.{Option, none, some}
use Prim.Native.Nat.{ℕ, ◌≤◌}
use native.Mathlib.Omega.{arith}
use lib.ListN.{length}
use lib.Dec.{ltb, eqb}
use borrow.Author.Tests.{ltb-false, eq-eqb, ne_eqb}
use Rattle.base.proofs.Laws.{apart, tests}
use Rattle.lines.specs.Lines.{lines_of}
use Rattle.timetable.specs.Layout.{most_file_bytes, most_period_days}
use Rattle.timetable.specs.Delivery.{files_of}
use Rattle.timetable.specs.Offences.{offence_at, given, ◌<|>◌, checked_by}
use Rattle.timetable.specs.Files.{period_first, period_in, bit_field_of, bit_fields_in, bit_fields_first, stop_of, stops_in, stops_first, interchange_of, interchanges_in, interchanges_first, class_of, classes_in, classes_first}
use Rattle.timetable.specs.Service.{blocks}
use Rattle.timetable.specs.Checks.{plan_first}
use Rattle.timetable.specs.Load.{Where, in_file, delivered, length_offence, content_offence}
use Rattle.timetable.specs.declared.Offence.{Offence}
use Rattle.timetable.proofs.Offences.{then-none, in-none, checked-holds, checked_refused}
use Rattle.period.proofs.Laws.{period-short}
use Rattle.sections.proofs.Held.{held-file}
use Rattle.reading.specs.Inner.Services.{block_words, most_plan_words}
use Rattle.reading.proofs.Sizes.{words-fit}
use Rattle.table_words.specs.declared.Header.{Header}
use Rattle.load.specs.Inner.Helper.{Short}
use Rattle.load.specs.Inner.Delivered.{long_in, header_by, header_of, refused_in, delivered_by, Few, FewHeld}
use Rattle.load.specs.declared.FileOffence.{FileOffence}
use Rattle.load.specs.declared.Counted.{Counted}
use Rattle.load.proofs.Table.{header_is}

-- ---- lengths

-- the file that is too long
abbrev long_at : ℕ → Option Where
long_at file = cond (eqb file 0) none (some (record { file = file; offence = offence_at 1 0 }))

abbrev long_by : Bool → Bool → Bool → Bool → Bool → Bool → ℕ
long_by e b s u z p = cond e 1 (cond b 2 (cond s 3 (cond u 4 (cond z 6 (cond p 5 0)))))

first-long : (e b s u z p : Bool)
    → (in_file 1 (given e 1 0) <|> in_file 2 (given b 1 0) <|> in_file 3 (given s 1 0) <|> in_file 4 (given u 1 0) <|> in_file 6 (given z 1 0) <|> in_file 5 (given p 1 0)) ≡ long_at (long_by e b s u z p)
unfolding ◌<|>◌
first-long true b s u z p = refl
first-long false true s u z p = refl
first-long false false true u z p = refl
first-long false false false true z p = refl
first-long false false false false true p = refl
first-long false false false false false true = refl
first-long false false false false false false = refl

none-long : (e b s u z p : Bool) → long_by e b s u z p ≡ 0 → (e ≡ false) × (b ≡ false) × (s ≡ false) × (u ≡ false) × (z ≡ false) × (p ≡ false)
none-long true b s u z p n = absurd (omega arith)
none-long false true s u z p n = absurd (omega arith)
none-long false false true u z p n = absurd (omega arith)
none-long false false false true z p n = absurd (omega arith)
none-long false false false false true p n = absurd (omega arith)
none-long false false false false false true n = absurd (omega arith)
none-long false false false false false false n = (refl, refl, refl, refl, refl, refl)

module _ (e b s u p z : List ℕ) where
  abbrev long : ℕ
  long = long_in (length e) (length b) (length s) (length u) (length z) (length p)

  -- the first offence of files 1 to 4, 6 and 5
  abbrev in_files : Option Where
  in_files =
      in_file 1 (period_first (lines_of e)) <|> in_file 2 (bit_fields_first (period_in (lines_of e)).n (lines_of b)) <|> in_file 3 (stops_first (lines_of s))
      <|> in_file 4 (interchanges_first (stops_in s) (lines_of u)) <|> in_file 6 (classes_first (lines_of z))
      <|> in_file 5 (plan_first (bit_fields_in b) (stops_in s) (classes_in z) (period_in (lines_of e)).n (lines_of p))

  length-is : length_offence (files_of e b s u p z) ≡ long_at long
  unfolding length_offence
  length-is = first-long (ltb most_file_bytes (length e)) (ltb most_file_bytes (length b)) (ltb most_file_bytes (length s)) (ltb most_file_bytes (length u)) (ltb most_file_bytes (length z)) (ltb most_file_bytes (length p))

  content-is : content_offence (files_of e b s u p z) ≡ in_files
  unfolding content_offence delivered
  content-is = refl

  -- what is answered
  abbrev answer : Result Header FileOffence
  answer = delivered_by (content_offence (files_of e b s u p z)) (header_of (delivered (files_of e b s u p z)))

  module _ (n : ℕ) (k : n ≡ long_in (length e) (length b) (length s) (length u) (length z) (length p)) where
    pub too_long : (n ≡ 0 → ⊥) → length_offence (files_of e b s u p z) ≡ some (record { file = n; offence = offence_at 1 0 })
    too_long y = rw (length-is, ← k, ne_eqb n 0 y) refl

    module _ (y : n ≡ 0) where
      pub none-too-long : length_offence (files_of e b s u p z) ≡ none
      none-too-long = rw (length-is, ← k, eq-eqb n 0 y) refl

      tests-fail : (ltb most_file_bytes (length e) ≡ false) × (ltb most_file_bytes (length b) ≡ false) × (ltb most_file_bytes (length s) ≡ false) × (ltb most_file_bytes (length u) ≡ false) × (ltb most_file_bytes (length z) ≡ false) × (ltb most_file_bytes (length p) ≡ false)
      tests-fail = none-long _ _ _ _ _ _ (sym k ∙ y)

      pub all_short : Short e b s u p z
      all_short = record {
        eckdaten = ltb-false most_file_bytes (length e) tests-fail.0;
        bitfeld = ltb-false most_file_bytes (length b) tests-fail.1;
        bahnhof = ltb-false most_file_bytes (length s) tests-fail.2;
        umsteigb = ltb-false most_file_bytes (length u) tests-fail.3;
        fplan = ltb-false most_file_bytes (length p) tests-fail.5;
        zugart = ltb-false most_file_bytes (length z) tests-fail.4;
      }

      pub short-fields : length b ≤ most_file_bytes
      short-fields = all_short.bitfeld

      pub short-stops : length s ≤ most_file_bytes
      short-stops = all_short.bahnhof

      pub short-interchanges : length u ≤ most_file_bytes
      short-interchanges = all_short.umsteigb

      pub short-classes : length z ≤ most_file_bytes
      short-classes = all_short.zugart

      pub short-plan : length p ≤ most_file_bytes
      short-plan = all_short.fplan

  module _ (v : content_offence (files_of e b s u p z) ≡ none) where
    -- none in any file
    each_none : (in_file 2 (bit_fields_first (period_in (lines_of e)).n (lines_of b)) ≡ none) × (in_file 3 (stops_first (lines_of s)) ≡ none) × (in_file 4 (interchanges_first (stops_in s) (lines_of u)) ≡ none)
        × (in_file 6 (classes_first (lines_of z)) ≡ none) × (in_file 5 (plan_first (bit_fields_in b) (stops_in s) (classes_in z) (period_in (lines_of e)).n (lines_of p)) ≡ none)
    each_none =
        let a₁ = then-none (in_file 1 (period_first (lines_of e))) _ (sym content-is ∙ v) in
        let a₂ = then-none (in_file 2 (bit_fields_first (period_in (lines_of e)).n (lines_of b))) _ a₁.1 in
        let a₃ = then-none (in_file 3 (stops_first (lines_of s))) _ a₂.1 in
        let a₄ = then-none (in_file 4 (interchanges_first (stops_in s) (lines_of u))) _ a₃.1 in
        let a₆ = then-none (in_file 6 (classes_first (lines_of z))) _ a₄.1 in
        (a₂.0, a₃.0, a₄.0, a₆.0, a₆.1)

    pub sections-none : (bit_fields_first (period_in (lines_of e)).n (lines_of b) ≡ none) × (stops_first (lines_of s) ≡ none) × (interchanges_first (stops_in s) (lines_of u) ≡ none) × (classes_first (lines_of z) ≡ none)
    sections-none = (in-none 2 _ each_none.0, in-none 3 _ each_none.1, in-none 4 _ each_none.2, in-none 6 _ each_none.3)

    pub plan-none : plan_first (bit_fields_in b) (stops_in s) (classes_in z) (period_in (lines_of e)).n (lines_of p) ≡ none
    plan-none = in-none 5 _ each_none.4

-- ---- a file's own offence, or the next file's: what is said of each is x, and r is what is answered where it does not hold

-- the six files in order, by their offences
module _ (P B S U C F : Option Offence) (h : Header) where
  abbrev six : Result Header FileOffence
  six = delivered_by (in_file 1 P <|> in_file 2 B <|> in_file 3 S <|> in_file 4 U <|> in_file 6 C <|> in_file 5 F) h

  module _ (o : Offence) where
    in-1 : P ≡ some o → six ≡ Err (record { file = 1; offence = o })
    unfolding ◌<|>◌
    in-1 a = rw a refl

    in-2 : P ≡ none → B ≡ some o → six ≡ Err (record { file = 2; offence = o })
    unfolding ◌<|>◌
    in-2 a b = rw (a, b) refl

    in-3 : P ≡ none → B ≡ none → S ≡ some o → six ≡ Err (record { file = 3; offence = o })
    unfolding ◌<|>◌
    in-3 a b c = rw (a, b, c) refl

    in-4 : P ≡ none → B ≡ none → S ≡ none → U ≡ some o → six ≡ Err (record { file = 4; offence = o })
    unfolding ◌<|>◌
    in-4 a b c d = rw (a, b, c, d) refl

    in-6 : P ≡ none → B ≡ none → S ≡ none → U ≡ none → C ≡ some o → six ≡ Err (record { file = 6; offence = o })
    unfolding ◌<|>◌
    in-6 a b c d g = rw (a, b, c, d, g) refl

    in-5 : P ≡ none → B ≡ none → S ≡ none → U ≡ none → C ≡ none → F ≡ some o → six ≡ Err (record { file = 5; offence = o })
    unfolding ◌<|>◌
    in-5 a b c d g f = rw (a, b, c, d, g, f) refl

  all_hold : P ≡ none → B ≡ none → S ≡ none → U ≡ none → C ≡ none → F ≡ none → six ≡ Ok h
  unfolding ◌<|>◌
  all_hold a b c d g f = rw (a, b, c, d, g, f) refl

-- what is said of a file
record Says (own : Option Offence) (a b : ℕ) (x : Result (ℕ × ℕ) Offence) : Type 0 where
  is : x ≡ checked_by own a b

past : {own : Option Offence} {a b : ℕ} {x : Result (ℕ × ℕ) Offence} → Says own a b x → {c d : ℕ} → x ≡ Ok (c, d) → own ≡ none
past {own} {a} {b} {x} k {c} {d} y = (checked-holds own a b x k.is c d y).0

counted : {own : Option Offence} {a b : ℕ} {x : Result (ℕ × ℕ) Offence} → Says own a b x → {c d : ℕ} → x ≡ Ok (c, d) → a ≡ c
counted {own} {a} {b} {x} k {c} {d} y = (checked-holds own a b x k.is c d y).1

counted-too : {own : Option Offence} {a b : ℕ} {x : Result (ℕ × ℕ) Offence} → Says own a b x → {c d : ℕ} → x ≡ Ok (c, d) → b ≡ d
counted-too {own} {a} {b} {x} k {c} {d} y = (checked-holds own a b x k.is c d y).2

wrong : {own : Option Offence} {a b : ℕ} {x : Result (ℕ × ℕ) Offence} → Says own a b x → {o : Offence} → x ≡ Err o → own ≡ some o
wrong {own} {a} {b} {x} k {o} y = checked_refused own a b x k.is o y

-- what is said of the file with it: where it holds, and where it does not
pub held : (file : ℕ) {x : Result (ℕ × ℕ) Offence} {r : Result (ℕ × ℕ) FileOffence} {a b : ℕ} → r ≡ refused_in file x → r ≡ Ok (a, b) → x ≡ Ok (a, b)
held file {x} {r} {a} {b} v y = go x (sym v ∙ y)
  where
    go : (x : Result (ℕ × ℕ) Offence) → refused_in file x ≡ Ok (a, b) → x ≡ Ok (a, b)
    go (Ok h) k = let p : ◌≡◌ {A = ℕ × ℕ} h (a, b) = cc in ap Ok p
    go (Err o) k = apart (cc)

record Out (file : ℕ) (x : Result (ℕ × ℕ) Offence) (e : FileOffence) : Type 0 where
  is : x ≡ Err e.offence
  at : e.file ≡ file

out : (file : ℕ) {x : Result (ℕ × ℕ) Offence} {r : Result (ℕ × ℕ) FileOffence} {e : FileOffence} → r ≡ refused_in file x → r ≡ Err e → Out file x e
out file {x} {r} {e} v y = go x (sym v ∙ y)
  where
    go : (x : Result (ℕ × ℕ) Offence) → refused_in file x ≡ Err e → Out file x e
    go (Ok h) k = apart (cc)
    go (Err o) k =
        let p : ◌≡◌ {A = FileOffence} (record { file = file; offence = o }) e = cc in
        record { is = ap (λ (q : FileOffence). Err q.offence) p; at = sym (ap (λ (q : FileOffence). q.file) p) }

-- so the answer of all is that of the file
refusal : {file : ℕ} {e : FileOffence} {all : Result Header FileOffence} → all ≡ Err (record { file = file; offence = e.offence }) → e.file ≡ file → Err e ≡ all
refusal {file} {e} k y = sym (k ∙ rw (← y) refl)

-- ECKDATEN, BITFELD, BAHNHOF, UMSTEIGB, ZUGART, FPLAN
abbrev Period : List ℕ → Result (ℕ × ℕ) Offence → Type 0
Period e x = Says (period_first (lines_of e)) (period_in (lines_of e)).start (period_in (lines_of e)).n x

abbrev Fields : List ℕ → ℕ → ℕ → Result (ℕ × ℕ) Offence → Type 0
Fields b days m x = Says (bit_fields_first days (lines_of b)) (length (bit_fields_in b)) m x

abbrev Stops : List ℕ → ℕ → Result (ℕ × ℕ) Offence → Type 0
Stops s m x = Says (stops_first (lines_of s)) (length (stops_in s)) m x

abbrev Interchanges : List ℕ → List ℕ → ℕ → Result (ℕ × ℕ) Offence → Type 0
Interchanges s u m x = Says (interchanges_first (stops_in s) (lines_of u)) (length (interchanges_in u)) m x

abbrev Classes : List ℕ → ℕ → Result (ℕ × ℕ) Offence → Type 0
Classes z m x = Says (classes_first (lines_of z)) (length (classes_in z)) m x

abbrev Plan : List ℕ → List ℕ → List ℕ → ℕ → List ℕ → Result (ℕ × ℕ) Offence → Type 0
Plan b s z days p x = Says (plan_first (bit_fields_in b) (stops_in s) (classes_in z) days (lines_of p)) (length (blocks (lines_of p))) (length (block_words (blocks (lines_of p)))) x

-- ---- bounds of what was counted, for the calls

module _ (x : Result (ℕ × ℕ) Offence) (c k : ℕ) (y : x ≡ Ok (c, k)) where
  pub days-few : (e : List ℕ) → x ≡ checked_by (period_first (lines_of e)) (period_in (lines_of e)).start (period_in (lines_of e)).n → k ≤ most_period_days
  days-few e d = let q : Period e x = record { is = d } in omega (arith, period-short (lines_of e), counted-too q y)

  pub fields-few : (b : List ℕ) (days m : ℕ) → x ≡ checked_by (bit_fields_first days (lines_of b)) (length (bit_fields_in b)) m → length b ≤ most_file_bytes → c ≤ most_file_bytes
  fields-few b days m d l = let q : Fields b days m x = record { is = d } in omega (arith, counted q y, held-file bit_field_of b)

  pub stops-few : (s : List ℕ) (m : ℕ) → x ≡ checked_by (stops_first (lines_of s)) (length (stops_in s)) m → length s ≤ most_file_bytes → c ≤ most_file_bytes
  stops-few s m d l = let q : Stops s m x = record { is = d } in omega (arith, counted q y, held-file stop_of s)

  pub interchanges-few : (s u : List ℕ) (m : ℕ) → x ≡ checked_by (interchanges_first (stops_in s) (lines_of u)) (length (interchanges_in u)) m → length u ≤ most_file_bytes → c ≤ most_file_bytes
  interchanges-few s u m d l = let q : Interchanges s u m x = record { is = d } in omega (arith, counted q y, held-file interchange_of u)

  pub classes-few : (z : List ℕ) (m : ℕ) → x ≡ checked_by (classes_first (lines_of z)) (length (classes_in z)) m → length z ≤ most_file_bytes → c ≤ most_file_bytes
  classes-few z m d l = let q : Classes z m x = record { is = d } in omega (arith, counted q y, held-file class_of z)

  pub words-few : (b s z p : List ℕ) (days : ℕ) → x ≡ checked_by (plan_first (bit_fields_in b) (stops_in s) (classes_in z) days (lines_of p)) (length (blocks (lines_of p))) (length (block_words (blocks (lines_of p)))) → length p ≤ most_file_bytes → k ≤ most_plan_words
  words-few b s z p days d l = let q : Plan b s z days p x = record { is = d } in omega (arith, words-fit p 0 1 l, counted-too q y)

-- so what was counted fits a header
pub few-held : {g : Counted} → Few g → FewHeld (Ok g)
few-held {g} k = record { few = λ c e. let p : ◌≡◌ {A = Counted} g c = cc in subst Few p k }

-- ---- the files, one after the other

module _ (e b s u p z : List ℕ)
    (x₁ : Result (ℕ × ℕ) Offence) (e₁ : x₁ ≡ checked_by (period_first (lines_of e)) (period_in (lines_of e)).start (period_in (lines_of e)).n) where
  abbrev header : Header
  header = header_of (delivered (files_of e b s u p z))

  -- the days of the period
  abbrev own : ℕ
  own = (period_in (lines_of e)).n

  -- the offences of the files
  abbrev o₁ : Option Offence
  o₁ = period_first (lines_of e)

  abbrev o₂ : Option Offence
  o₂ = bit_fields_first own (lines_of b)

  abbrev o₃ : Option Offence
  o₃ = stops_first (lines_of s)

  abbrev o₄ : Option Offence
  o₄ = interchanges_first (stops_in s) (lines_of u)

  abbrev o₆ : Option Offence
  o₆ = classes_first (lines_of z)

  abbrev o₅ : Option Offence
  o₅ = plan_first (bit_fields_in b) (stops_in s) (classes_in z) own (lines_of p)

  abbrev same : answer e b s u p z ≡ six o₁ o₂ o₃ o₄ o₆ o₅ header
  same = ap (λ (o : Option Where). delivered_by o header) (content-is e b s u p z)

  c₁ : Period e x₁
  c₁ = record { is = e₁ }

  pub period-out : (r : Result (ℕ × ℕ) FileOffence) (o : FileOffence) → r ≡ refused_in 1 x₁ → r ≡ Err o → Err o ≡ answer e b s u p z
  period-out r o v y = let k : Out 1 x₁ o = out 1 v y in refusal (same ∙ in-1 o₁ o₂ o₃ o₄ o₆ o₅ header o.offence (wrong c₁ k.is)) k.at

  module _ (start days : ℕ) (y₁ : x₁ ≡ Ok (start, days)) (x₂ : Result (ℕ × ℕ) Offence) (m₂ : ℕ) (e₂ : x₂ ≡ checked_by (bit_fields_first days (lines_of b)) (length (bit_fields_in b)) m₂) where
    days-are : own ≡ days
    days-are = counted-too c₁ y₁

    c₂ : Fields b own m₂ x₂
    c₂ = record { is = rw days-are e₂ }

    pub fields_out : (r : Result (ℕ × ℕ) FileOffence) (o : FileOffence) → r ≡ refused_in 2 x₂ → r ≡ Err o → Err o ≡ answer e b s u p z
    fields_out r o v y = let k : Out 2 x₂ o = out 2 v y in refusal (same ∙ in-2 o₁ o₂ o₃ o₄ o₆ o₅ header o.offence (past c₁ y₁) (wrong c₂ k.is)) k.at

    module _ (nb k₂ : ℕ) (y₂ : x₂ ≡ Ok (nb, k₂)) (x₃ : Result (ℕ × ℕ) Offence) (m₃ : ℕ) (e₃ : x₃ ≡ checked_by (stops_first (lines_of s)) (length (stops_in s)) m₃) where
      c₃ : Stops s m₃ x₃
      c₃ = record { is = e₃ }

      pub stops-out : (r : Result (ℕ × ℕ) FileOffence) (o : FileOffence) → r ≡ refused_in 3 x₃ → r ≡ Err o → Err o ≡ answer e b s u p z
      stops-out r o v y = let k : Out 3 x₃ o = out 3 v y in refusal (same ∙ in-3 o₁ o₂ o₃ o₄ o₆ o₅ header o.offence (past c₁ y₁) (past c₂ y₂) (wrong c₃ k.is)) k.at

      module _ (ns k₃ : ℕ) (y₃ : x₃ ≡ Ok (ns, k₃)) (x₄ : Result (ℕ × ℕ) Offence) (m₄ : ℕ) (e₄ : x₄ ≡ checked_by (interchanges_first (stops_in s) (lines_of u)) (length (interchanges_in u)) m₄) where
        c₄ : Interchanges s u m₄ x₄
        c₄ = record { is = e₄ }

        pub interchanges-out : (r : Result (ℕ × ℕ) FileOffence) (o : FileOffence) → r ≡ refused_in 4 x₄ → r ≡ Err o → Err o ≡ answer e b s u p z
        interchanges-out r o v y = let k : Out 4 x₄ o = out 4 v y in refusal (same ∙ in-4 o₁ o₂ o₃ o₄ o₆ o₅ header o.offence (past c₁ y₁) (past c₂ y₂) (past c₃ y₃) (wrong c₄ k.is)) k.at

        module _ (nu k₄ : ℕ) (y₄ : x₄ ≡ Ok (nu, k₄)) (x₆ : Result (ℕ × ℕ) Offence) (m₆ : ℕ) (e₆ : x₆ ≡ checked_by (classes_first (lines_of z)) (length (classes_in z)) m₆) where
          c₆ : Classes z m₆ x₆
          c₆ = record { is = e₆ }

          pub classes-out : (r : Result (ℕ × ℕ) FileOffence) (o : FileOffence) → r ≡ refused_in 6 x₆ → r ≡ Err o → Err o ≡ answer e b s u p z
          classes-out r o v y = let k : Out 6 x₆ o = out 6 v y in refusal (same ∙ in-6 o₁ o₂ o₃ o₄ o₆ o₅ header o.offence (past c₁ y₁) (past c₂ y₂) (past c₃ y₃) (past c₄ y₄) (wrong c₆ k.is)) k.at

          module _ (nk k₆ : ℕ) (y₆ : x₆ ≡ Ok (nk, k₆)) (x₅ : Result (ℕ × ℕ) Offence) (e₅ : x₅ ≡ checked_by (plan_first (bit_fields_in b) (stops_in s) (classes_in z) days (lines_of p)) (length (blocks (lines_of p))) (length (block_words (blocks (lines_of p))))) where
            c₅ : Plan b s z own p x₅
            c₅ = record { is = rw days-are e₅ }

            pub plan-out : (r : Result (ℕ × ℕ) FileOffence) (o : FileOffence) → r ≡ refused_in 5 x₅ → r ≡ Err o → Err o ≡ answer e b s u p z
            plan-out r o v y = let k : Out 5 x₅ o = out 5 v y in refusal (same ∙ in-5 o₁ o₂ o₃ o₄ o₆ o₅ header o.offence (past c₁ y₁) (past c₂ y₂) (past c₃ y₃) (past c₄ y₄) (past c₆ y₆) (wrong c₅ k.is)) k.at

            pub all_right : (v w : ℕ) → x₅ ≡ Ok (v, w) → Ok (header_by start days nb ns nu nk v w) ≡ answer e b s u p z
            all_right v w y =
                ap Ok (sym (header_is e b s u p z ∙ rw (counted c₁ y₁, days-are, counted c₂ y₂, counted c₃ y₃, counted c₄ y₄, counted c₆ y₆, counted c₅ y, counted-too c₅ y) refl))
                ∙ sym (same ∙ all_hold o₁ o₂ o₃ o₄ o₆ o₅ header (past c₁ y₁) (past c₂ y₂) (past c₃ y₃) (past c₄ y₄) (past c₆ y₆) (past c₅ y))

pub ruleset orders = (tests, period-out, fields_out, stops-out, interchanges-out, plan-out)
