-- The block of a service: which line opens it, its calls line by line, and where a *to* that names a stop ends. specs/Text.antt states it. Assumes nothing.
use mathlib.Core.Path.{◌≡◌, refl, sym, ap, subst, ◌∙◌}
use mathlib.Core.Logic.{◌⊎◌, inl, inr}
use mathlib.Core.List.{List, [], ◌∷◌, ◌++◌, map}
use mathlib.Core.Bool.{Bool, true, false, cond, not}
use mathlib.Core.Option.{Option, none, some}
use Rattle.timetable.specs.Checks.{is_none}
use Prim.Native.Nat.{ℕ, zero, suc, ◌+◌, ◌<◌, ◌≤◌}
use native.Mathlib.Omega.{arith}
use lib.ListN.{length, get_elem?}
use lib.Dec.{eqb}
use borrow.Author.Tests.{eqb-true, eq-eqb, ne_eqb}
use Rattle.base.specs.Lists.{All, nil, cons, every, gathered}
use Rattle.base.proofs.Laws.{apart, clash, by_eqb}
use Rattle.columns.specs.Columns.{column, is_digit}
use Rattle.fields.specs.declared.StopNumber.{StopNumber}
use Rattle.fields.specs.declared.RangeEnd.{RangeEnd}
use Rattle.fields.specs.declared.RangeEnd.TheVariants.{Stop}
use Rattle.fields.specs.declared.Detail.{Detail}
use Rattle.fields.specs.declared.Detail.TheVariants.{Plain}
use Rattle.forms.specs.Kinds.{starred, kind_of}
use Rattle.forms.specs.Form.{form_of, Form, Fits, Broken as BrokenForm}
use Rattle.forms.specs.Columns.{service_columns, frequency_columns}
use Rattle.forms.specs.declared.Kind.{Kind}
use Rattle.forms.specs.declared.Kind.TheVariants.{Opening as OpeningKind, Frequency, Category as CategoryKind, Attribute, Schedule, Other as OtherKind}
use Rattle.lines.specs.Lines.{Line, skipped}
use Rattle.timetable.specs.Layout.{kind_z, kind_t}
use Rattle.timetable.specs.Delivery.{Legs}
use Rattle.timetable.specs.Plan.{opening_in, frequency_in, formed, told_by, told_in, is_opening, opens_service, tolds, as_call, as_opening, said_on}
use Rattle.timetable.specs.Ranges.{places, last_place, calls_at, in_order, legs_by, from_place, to_place, legs_of}
use Rattle.timetable.specs.Service.{head_lines, blocks, first_opening, opening_of, opened, announced, call_by, holding, called_on, calls_of, with_legs, loose, legs_on}
use Rattle.timetable.specs.declared.Opening.{Opening}
use Rattle.timetable.specs.declared.Announced.{Announced}
use Rattle.timetable.specs.declared.Call.{Call}
use Rattle.timetable.specs.declared.CallLine.{CallLine}
use Rattle.timetable.specs.declared.RangeLine.{RangeLine}
use Rattle.timetable.specs.declared.Told.{Told}
use Rattle.timetable.specs.declared.Told.TheVariants.{Skip, Other, Broken, Opens}
use Rattle.timetable.proofs.Lines.{said-on}
use Rattle.whole_runs.specs.Text.{Opened, call_says, line_says, LastThere, EndsLast}

-- ---- the line that opens it

no-opening : (ls : List Line) → All (λ (l : Line). opens_service l ≡ false) (head_lines ls)
unfolding head_lines
no-opening [] = nil
no-opening (l ∷ ls) = go (opens_service l) refl (no-opening ls)
  where
    go : (t : Bool) → opens_service l ≡ t → All (λ (l : Line). opens_service l ≡ false) (head_lines ls) → All (λ (l : Line). opens_service l ≡ false) (cond t [] (l ∷ head_lines ls))
    go true e r = nil
    go false e r = cons {x = l} e r

-- a line that opens begins with a star, so that it is not skipped
star-read : (text : List ℕ) → column 1 text ≡ 42 → skipped text ≡ false
unfolding skipped every
star-read [] e = absurd (omega (arith, e))
star-read (x ∷ l) e = let v : x ≡ 42 = e in rw v

opening-star : (text : List ℕ) → is_opening (kind_of text) ≡ true → column 1 text ≡ 42
unfolding kind_of
opening-star text e = go (eqb (column 1 text) 42) refl (starred (column 2 text) (column 3 text)) e
  where
    other : (t : Bool) → is_opening (cond t Schedule OtherKind) ≡ true → ⊥
    other true e = clash e
    other false e = clash e

    go : (t : Bool) → eqb (column 1 text) 42 ≡ t → (k : Kind) → is_opening (cond t k (cond (is_digit (column 1 text)) Schedule OtherKind)) ≡ true → column 1 text ≡ 42
    go true q k e = eqb-true (column 1 text) 42 q
    go false q k e = absurd (other (is_digit (column 1 text)) e)

module _ (l : Line) (others : List Line) where
  of_kind : opens_service l ≡ true → ((c : ℕ) → told_in l.text ≡ Broken c → ⊥)
      → ((kind_of l.text ≡ OpeningKind) × ((opening_of (l ∷ others)).kind ≡ kind_z)) ⊎ ((kind_of l.text ≡ Frequency) × ((opening_of (l ∷ others)).kind ≡ kind_t))
  unfolding opens_service told_in
  of_kind o whole = go (kind_of l.text) refl
    where
      read : skipped l.text ≡ false
      read = star-read l.text (opening-star l.text o)

      by_form : (f : Form) (k : ℕ) (o : Opening) → o.kind ≡ k → ((c : ℕ) → formed f (Opens o) ≡ Broken c → ⊥) → (first_opening (as_opening (formed f (Opens o)))).kind ≡ k
      by_form Fits k o e w = e
      by_form (BrokenForm c) k o e w = absurd (w c refl)

      go : (k : Kind) → kind_of l.text ≡ k → ((kind_of l.text ≡ OpeningKind) × ((opening_of (l ∷ others)).kind ≡ kind_z)) ⊎ ((kind_of l.text ≡ Frequency) × ((opening_of (l ∷ others)).kind ≡ kind_t))
      go OpeningKind e = inl (e, rw (read, e) (by_form (form_of service_columns l.text) kind_z (opening_in l.text) refl (λ c q. whole c (rw (read, e) q))))
      go Frequency e = inr (e, rw (read, e) (by_form (form_of frequency_columns l.text) kind_t (frequency_in l.text) refl (λ c q. whole c (rw (read, e) q))))
      go CategoryKind e = clash (sym (ap is_opening e) ∙ o)
      go Attribute e = clash (sym (ap is_opening e) ∙ o)
      go Schedule e = clash (sym (ap is_opening e) ∙ o)
      go OtherKind e = clash (sym (ap is_opening e) ∙ o)

-- every line was read: none is of another kind, none is broken
abbrev pub Whole : List Line → Type 0
Whole b = All (λ (t : Told). (t ≡ Other → ⊥) × ((c : ℕ) → t ≡ Broken c → ⊥)) (tolds b)

first-whole : (l : Line) (others : List Line) → Whole (l ∷ others) → (c : ℕ) → told_in l.text ≡ Broken c → ⊥
unfolding tolds
first-whole l others (cons h t) = h.1

-- the i-th block of a file
pub block-opened : (ls : List Line) (i : ℕ) (b : List Line) → get_elem? (blocks ls) i ≡ some b → Whole b → Opened b (opening_of b).kind
unfolding blocks
block-opened [] i b e read = apart (cc)
block-opened (l ∷ ls) i b e read = go (opens_service l) refl (λ i e. block-opened ls i b e read) i e
  where
    go : (t : Bool) → opens_service l ≡ t → ((i : ℕ) → get_elem? (blocks ls) i ≡ some b → Opened b (opening_of b).kind) → (i : ℕ) → get_elem? (cond t ((l ∷ head_lines ls) ∷ blocks ls) (blocks ls)) i ≡ some b → Opened b (opening_of b).kind
    go true o r zero e =
        let q : l ∷ head_lines ls ≡ b = cc in
        subst (λ (c : List Line). Opened c (opening_of c).kind) q
        (record { first = l; others = head_lines ls; are = refl; no_other = no-opening ls; of_kind = of_kind l (head_lines ls) o (first-whole l (head_lines ls) (subst Whole (sym q) read)) })
    go true o r (suc i) e = r i e
    go false o r i e = r i e

-- ---- its calls, line by line

calls-hold : (a : Announced) (xs : List (ℕ × CallLine)) → map call_says (map (λ (c : ℕ × Call). c.1) (holding a xs)) ≡ map line_says (map (λ (l : ℕ × CallLine). l.1) xs)
unfolding holding
calls-hold a [] = refl
calls-hold a (x ∷ xs) = ap (λ (r : List (List ℕ)). line_says x.1 ∷ r) (calls-hold (announced (call_by a x.1)) xs)

pub calls-say : (ls : List Line) → map call_says (calls_of ls) ≡ map line_says (gathered as_call (tolds ls))
unfolding called_on
calls-say ls = calls-hold (opened (opening_of ls)) (said_on as_call ls) ∙ ap (map line_says) (said-on as_call ls)

-- ---- where a *to* ends that names a stop

module _ (t : Call → Bool) where
  -- none passes
  none_passes : (k : ℕ) (cs : List Call) → places t k cs ≡ [] → (q : ℕ) (d : Call) → get_elem? cs q ≡ some d → t d ≡ true → ⊥
  unfolding places
  none_passes k [] e q d g h = apart (cc)
  none_passes k (c ∷ cs) e q d g h = go (t c) refl e (λ e q g. none_passes (k + 1) cs e q d g h) q g
    where
      go : (b : Bool) → t c ≡ b → cond b (k ∷ places t (k + 1) cs) (places t (k + 1) cs) ≡ [] → (places t (k + 1) cs ≡ [] → (q : ℕ) → get_elem? cs q ≡ some d → ⊥) → (q : ℕ) → get_elem? (c ∷ cs) q ≡ some d → ⊥
      go true p e r q g = apart (cc)
      go false p e r zero g = let z : c ≡ d = cc in clash (sym p ∙ ap t z ∙ h)
      go false p e r (suc q) g = r e q g

  -- the last place: i counts from the first of these calls
  pub record Last (k : ℕ) (cs : List Call) (j : ℕ) : Type 0 where
    pub i : ℕ
    pub is : j ≡ k + i
    pub call : Call
    pub there : get_elem? cs i ≡ some call
    pub passes : t call ≡ true
    pub none_later : (q : ℕ) (d : Call) → i < q → get_elem? cs q ≡ some d → t d ≡ true → ⊥

  behind : (k : ℕ) (c : Call) (cs : List Call) (j : ℕ) → Last (k + 1) cs j → Last k (c ∷ cs) j
  behind k c cs j x = record { i = suc x.i; is = omega (arith, x.is); call = x.call; there = x.there; passes = x.passes; none_later = later }
    where
      later : (q : ℕ) (d : Call) → suc x.i < q → get_elem? (c ∷ cs) q ≡ some d → t d ≡ true → ⊥
      later zero d h g p = absurd (omega arith)
      later (suc q) d h g p = x.none_later q d (omega arith) g p

  pub last-there : (k : ℕ) (cs : List Call) (j : ℕ) → last_place (places t k cs) ≡ some j → Last k cs j
  unfolding places last_place
  last-there k [] j e = apart (cc)
  last-there k (c ∷ cs) j e = go (t c) refl (places t (k + 1) cs) refl (last-there (k + 1) cs j) e
    where
      here : t c ≡ true → k ≡ j → places t (k + 1) cs ≡ [] → Last k (c ∷ cs) j
      here p e n = record { i = 0; is = omega arith; call = c; there = refl; passes = p; none_later = later }
        where
          later : (q : ℕ) (d : Call) → 0 < q → get_elem? (c ∷ cs) q ≡ some d → t d ≡ true → ⊥
          later zero d h g p = absurd (omega arith)
          later (suc q) d h g p = none_passes (k + 1) cs n q d g p

      go : (b : Bool) → t c ≡ b → (ps : List ℕ) → places t (k + 1) cs ≡ ps → (last_place (places t (k + 1) cs) ≡ some j → Last (k + 1) cs j) → last_place (cond b (k ∷ ps) ps) ≡ some j → Last k (c ∷ cs) j
      go true p [] q r e = here p (cc) q
      go true p (m ∷ ps) q r e = behind k c cs j (r (ap last_place q ∙ e))
      go false p ps q r e = behind k c cs j (r (ap last_place q ∙ e))

-- the legs of a range line whose *to* names a stop
to-there : (cs : List Call) (r : RangeLine) (g : Legs) → legs_on cs r ≡ some g → to_place cs r.ends.to ≡ some g.to
unfolding legs_of
to-there cs r g e = go (from_place cs r.ends.from) (to_place cs r.ends.to) e
  where
    by_order : (b : Bool) (f t : ℕ) → cond b (some (record { from = f; to = t })) none ≡ some g → some t ≡ some g.to
    by_order true f t e = let z : record { from = f; to = t } ≡ g = cc in ap (λ (x : Legs). some x.to) z
    by_order false f t e = apart (cc)

    go : (f t : Option ℕ) → legs_by (loose r.part) f t ≡ some g → t ≡ some g.to
    go none t e = apart (cc)
    go (some f) none e = apart (cc)
    go (some f) (some t) e = by_order (in_order (loose r.part) f t) f t e

ends_last : (cs : List Call) (r : RangeLine) (g : Legs) → legs_on cs r ≡ some g → (stop : StopNumber) → r.ends.to.place ≡ Stop stop → r.ends.to.detail ≡ Plain → LastThere cs stop.0 g.to
unfolding to_place
ends_last cs r g e stop p d =
    let x = last-there (calls_at stop) 0 cs g.to (sym (rw (p, d) refl) ∙ to-there cs r g e) in
    record { call = x.call; there = ap (get_elem? cs) (omega (arith, x.is)) ∙ x.there; at_stop = eqb-true _ _ x.passes; none_later = λ q c h k z. x.none_later q c (omega (arith, x.is)) k (eq-eqb _ _ z) }

-- lines of ranges, each found, and the legs that they give
module _ {X : Type 0} (legs : X → Legs) (of : RangeLine → Legs → X) (same : (r : RangeLine) (g : Legs) → legs (of r g) ≡ g) (cs : List Call) where
  pub each_last : (rs : List RangeLine) → All (λ (r : RangeLine). is_none (legs_on cs r) ≡ false) rs → EndsLast cs rs (map legs (gathered (λ (r : RangeLine). with_legs (of r) (legs_on cs r)) rs))
  unfolding gathered
  each_last [] nil = λ q r g e f. apart (cc)
  each_last (l ∷ rs) (cons h t) = go (legs_on cs l) refl h (each_last rs t)
    where
      go : (o : Option Legs) → legs_on cs l ≡ o → is_none o ≡ false → EndsLast cs rs (map legs (gathered (λ (r : RangeLine). with_legs (of r) (legs_on cs r)) rs)) → EndsLast cs (l ∷ rs) (map legs (with_legs (of l) o ++ gathered (λ (r : RangeLine). with_legs (of r) (legs_on cs r)) rs))
      go none p h i q r g e f stop a b = clash (sym h)
      go (some x) p h i zero r g e f stop a b =
          let y : l ≡ r = cc in
          let z : legs (of l x) ≡ g = cc in
          ends_last cs r g (ap (legs_on cs) (sym y) ∙ p ∙ ap some (sym (same l x) ∙ z)) stop a b
      go (some x) p h i (suc q) r g e f stop a b = i q r g e f stop a b
