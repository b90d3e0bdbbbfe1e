-- The needs of the first look at a call: how many runs the opening line and the call allow, and where they say no, nothing leaves. Assumes nothing.
use mathlib.Core.Path.{◌≡◌, refl, ap, ◌∙◌, sym}
use mathlib.Core.List.{List, [], ◌∷◌}
use mathlib.Core.Bool.{Bool, true, false, cond, not, ◌&&◌}
use mathlib.Core.Option.{some}
use Prim.Native.Nat.{ℕ, ◌+◌, ◌-◌, ◌*◌, ◌^◌, ◌≤◌, ◌<◌}
use native.Mathlib.Omega.{arith}
use lib.ListN.{length, get_or, drop, length-drop}
use lib.Seq.{get_or-drop}
use lib.Dec.{eqb, leb}
use borrow.Author.Tests.{ne_eqb, eqb-true, not-true, not-false}
use Rattle.base.proofs.Laws.{tests, clash, by-ltb, by-leb}
use Rattle.base.proofs.Lists.{length-map-upto}
use Rattle.timetable.specs.Layout.{service_head, call_size}
use Rattle.timetable.specs.Runs.{opening_sound}
use Rattle.timetable.specs.Table.{stops#, services#, calls#, call_at, opening_at, with_stop}
use Rattle.timetable.specs.declared.Call.{Call}
use Rattle.timetable.specs.declared.Opening.{Opening}
use Rattle.index.specs.Index.{record_place_in, view_in}
use Rattle.spans.specs.Spans.{first_run, end_run, span_of}
use Rattle.spans.specs.declared.Span.{Span}
use Rattle.spans.proofs.Meaning.{once-before, once-end}
use Rattle.spans.proofs.Laws.{end_none}
use Rattle.board.specs.Board.{Departure, boardable, departure_of, runs_from, call_departures}
use Rattle.board_runs.specs.Batch.{call_gives, departures_in, Shelved, outside, Quiet, AtMost, MostFrom}
use Rattle.board_runs.specs.Inner.Goes.{goes_in, Opened}
use Rattle.board_runs.proofs.Interval.{runs-in-a-row}
use Rattle.board_runs.proofs.Given.{goes-ready, call-room, none-past, given_by}
use Rattle.board_runs.proofs.Needs.{call-there, call_none}

-- ---- how many runs leave a call

pub none-long : (es : List Departure) → length es ≤ 0 → es ≡ []
none-long [] h = refl
none-long (e ∷ es) h = absurd (omega arith)

module _ (t u i : ℕ) (o : Opening) (p d : ℕ) (s : opening_sound o ≡ true) where
  runs-long : length (runs_from t u i o p d) ≡ end_run o d u - first_run o d t
  runs-long = ap length (sym (runs-in-a-row t u i o p d s)) ∙ length-map-upto (departure_of i o p d) (end_run o d u - first_run o d t) (first_run o d t)

  runs-once : o.repeats ≡ 0 → length (runs_from t u i o p d) ≤ 1
  runs-once z = omega (arith, runs-long, once-end o z d u)

  runs-outside : outside d o.repeats t u ≡ true → length (runs_from t u i o p d) ≤ 0
  runs-outside =
      by-ltb (λ (a : Bool). cond a true (cond (leb t d) false (eqb o.repeats 0)) ≡ true → length (runs_from t u i o p d) ≤ 0) u d
      (λ l e. omega (arith, runs-long, end_none o d u l))
      (λ l. by-leb (λ (b : Bool). cond b false (eqb o.repeats 0) ≡ true → length (runs_from t u i o p d) ≤ 0) t d
      (λ m e. clash e)
      (λ m e.
      let z = eqb-true o.repeats 0 e in
      omega (arith, runs-long, once-end o z d u, once-before o z d t m)))

-- ---- a record that is not sound gives nothing, nor does a place past its calls; a call gives no more than its runs

module _ (w x : List ℕ) (t u i p at : ℕ) (l : i < services# w) (e : at ≡ record_place_in w x i) where
  pub record-few : (r : ℕ)
      → (Opened (drop at w) → p < calls# (drop at w) → length (runs_from t u i (opening_at (drop at w)) p (call_at (drop (service_head + call_size * p) (drop at w))).departure) ≤ r)
      → (m : Bool) (n k : ℕ) → length (departures_in m w x n k t u i p) ≤ r
  record-few r q m n k = rw (given_by w x n k t u i p l m, ← e) (by-goes (goes_in m (view_in w x) (stops# w) (drop at w) k p) refl)
    where
      few-runs : (c : Call) → length (runs_from t u i (opening_at (drop at w)) p c.departure) ≤ r → length (call_departures n t u i (opening_at (drop at w)) p (some c)) ≤ r
      few-runs c z = by-boards (eqb c.stop n && boardable c)
        where
          by-boards : (b : Bool) → length (cond b (runs_from t u i (opening_at (drop at w)) p c.departure) []) ≤ r
          by-boards true = z
          by-boards false = omega arith

      there : Opened (drop at w) → length (call_gives (view_in w x) n t u i (drop at w) p) ≤ r
      there o =
          by-ltb (λ b. length (call_gives (view_in w x) n t u i (drop at w) p) ≤ r) p (calls# (drop at w))
          (λ h. rw (call-there (view_in w x).shown (drop at w) p h) (few-runs (with_stop (view_in w x).shown (call_at (drop (service_head + call_size * p) (drop at w)))) (q o h)))
          (λ h. rw (call_none (view_in w x).shown (drop at w) p h) (omega arith))

      by-goes : (b : Bool) → goes_in m (view_in w x) (stops# w) (drop at w) k p ≡ b → length (cond b (call_gives (view_in w x) n t u i (drop at w) p) []) ≤ r
      by-goes true d = there (goes-ready m (view_in w x) (stops# w) (drop at w) k p d).opened
      by-goes false d = omega arith

-- ---- the place of a record, as the index says; j is the service as a place

module _ (w x : List ℕ) (places i j : ℕ) (h : Shelved w x places) (a : j ≡ i) where
  pub shelf-fits : j < 4294967296 → length x * 4 < 2 ^ 63 → places + j < 2 ^ 64
  shelf-fits l m = omega (arith, h.from, h.long)

  shelf-past : length x ≤ places + j → services# w ≤ i
  shelf-past l = omega (arith, h.from, h.long)

  module _ (l : places + j < length x) where
    pub shelf-some : i < services# w
    shelf-some = omega (arith, h.from, h.long)

    pub shelf-place : (at : ℕ) → at ≡ get_or x (places + j) 0 → at ≡ record_place_in w x i
    unfolding record_place_in
    shelf-place at e = e ∙ rw (ne_eqb (length x) 0 (λ z. absurd (omega arith)), ← h.from, a)

-- ---- the first look

module _ (w x : List ℕ) (places t u i p j : ℕ) (h : Shelved w x places) (a : j ≡ i) where
  pub past-none : length x ≤ places + j → (m : Bool) (n k : ℕ) → departures_in m w x n k t u i p ≡ []
  past-none l m n k = none-past w x n k t u i p m (shelf-past w x places i j h a l)

  pub quiet-past : length x ≤ places + j → Quiet w x places t u i p true
  quiet-past l = record { none = λ f m n k. past-none l m n k; there = λ f. clash (sym f); words = λ f. clash (sym f) }

  module _ (l : places + j < length x) (at : ℕ) (e : at ≡ get_or x (places + j) 0) (end : ℕ) (q : end ≡ at + service_head + call_size * p + call_size) where
    few-of : (r : ℕ) → (Opened (drop at w) → p < calls# (drop at w) → length (runs_from t u i (opening_at (drop at w)) p (call_at (drop (service_head + call_size * p) (drop at w))).departure) ≤ r) → (m : Bool) (n k : ℕ) → length (departures_in m w x n k t u i p) ≤ r
    few-of = record-few w x t u i p at (shelf-some w x places i j h a l) (shelf-place w x places i j h a l at e)

    pub quiet_short : length w < end → Quiet w x places t u i p true
    quiet_short m = record {
      none = λ f m' n k. none-long _ (few-of 0 (λ b c. absurd (omega (arith, call-room (drop at w) p b c, length-drop at w, q))) m' n k);
      there = λ f. clash (sym f);
      words = λ f. clash (sym f);
    }

    its-departure : (call_at (drop (service_head + call_size * p) (drop at w))).departure ≡ get_or w (end - 5) 0
    its-departure = get_or-drop (service_head + call_size * p) (drop at w) 2 0 ∙ get_or-drop at w (service_head + call_size * p + 2) 0 ∙ ap (λ (j : ℕ). get_or w j 0) (omega (arith, q))

    pub quiet_told : (r : Bool) → end ≤ length w → r ≡ outside (get_or w (end - 5) 0) (get_or w (at + 4) 0) t u → Quiet w x places t u i p r
    quiet_told r m d = record {
      none = λ f m' n k. none-long _ (few-of 0 (λ b c. runs-outside t u i (opening_at (drop at w)) p _ b.opening (told f)) m' n k);
      there = λ f. omega (arith, a, l);
      words = λ f. rw (← a, ← e) (omega (arith, q));
    }
      where
        told : r ≡ true → outside (call_at (drop (service_head + call_size * p) (drop at w))).departure (opening_at (drop at w)).repeats t u ≡ true
        told f = (λ z. outside (its-departure z) (get_or-drop at w 4 0 z) t u) ∙ sym d ∙ f

-- the words of a call that ends within the words
module _ (w : List ℕ) (at p end : ℕ) (q : end ≡ at + service_head + call_size * p + call_size) (m : end ≤ length w) where
  pub end_reads : 5 ≤ end
  end_reads = omega (arith, q)

  pub end-inside : end - 5 < length w
  end-inside = omega (arith, q)

  pub head-inside : at + 4 < length w
  head-inside = omega (arith, q)

  pub head-fits : length w * 4 < 2 ^ 63 → at + 4 < 2 ^ 64
  head-fits b = omega (arith, q)

pub ruleset quiets = (tests, shelf-fits, quiet-past, quiet_short, quiet_told, end_reads, end-inside, head-inside, head-fits)

-- ---- how many at most

pub most-none : (w x : List ℕ) (places t u i p : ℕ) (b : Bool) → Quiet w x places t u i p b → b ≡ true → AtMost w x t u i p 0
most-none w x places t u i p b g f = record { few = λ m n k. omega (arith, ap length (g.none f m n k)) }

module _ (w x : List ℕ) (places t u i p j : ℕ) (h : Shelved w x places) (a : j ≡ i) (b : Bool) (g : Quiet w x places t u i p b) where
  pub most-place : b ≡ false → places + j < length x
  most-place f = omega (arith, a, g.there f)

  module _ (at : ℕ) (e : at ≡ get_or x (places + j) 0) (f : b ≡ false) where
    ends : at + service_head + call_size * p + call_size ≤ length w
    ends = rw (e, a) (g.words f)

    pub most-within : at ≤ length w
    most-within = omega (arith, ends)

    module _ (s : List ℕ) (d : s ≡ drop at w) where
      pub most-words : service_head + call_size * p + call_size ≤ length s
      most-words = omega (arith, ends, ap length d, length-drop at w)

      pub most-told : (r : ℕ) → MostFrom s t u p r → AtMost w x t u i p r
      most-told r m = record {
        few = record-few w x t u i p at (shelf-some w x places i j h a (most-place f)) (shelf-place w x places i j h a (most-place f) at e) r (λ b c. of-front (rw d at m) b);
      }
        where
          of-front : MostFrom (drop at w) t u p r → Opened (drop at w) → length (runs_from t u i (opening_at (drop at w)) p (call_at (drop (service_head + call_size * p) (drop at w))).departure) ≤ r
          of-front m b = m.few b.opening i

pub ruleset mosts = (tests, shelf-fits, most-none, most-place, most-within, most-words, most-told)

module _ (s : List ℕ) (t u p : ℕ) (o : Opening) (e : o ≡ opening_at s) where
  pub from-once : o.repeats ≡ 0 → MostFrom s t u p 1
  from-once z = record { few = λ a i. runs-once t u i (opening_at s) p _ a (ap (λ (o : Opening). o.repeats) (sym e) ∙ z) }

  module _ (b : Bool) (f : b ≡ opening_sound o) where
    pub from-unsound : not b ≡ true → MostFrom s t u p 0
    from-unsound k = record { few = λ a i. clash (sym (not-true b k) ∙ f ∙ ap opening_sound e ∙ a) }

    pub from-sound : not b ≡ false → opening_sound o ≡ true
    from-sound k = sym f ∙ not-false b k

    pub from-span : not b ≡ false → (c : Call) → c ≡ call_at (drop (service_head + call_size * p) s) → (z : Span) → z ≡ span_of o c.departure t u → (r : ℕ) → r ≡ z.high - z.low → MostFrom s t u p r
    unfolding span_of
    from-span k c g z q r m = record {
      few = λ a i.
          let same : length (runs_from t u i o p c.departure) ≡ length (runs_from t u i (opening_at s) p (call_at (drop (service_head + call_size * p) s)).departure) = (λ j. length (runs_from t u i (e j) p (g j).departure)) in
          omega (arith, same, m, ap (λ (y : Span). y.high) q, ap (λ (y : Span). y.low) q, runs-long t u i o p c.departure (from-sound k));
    }

pub from-head : (s : List ℕ) (p : ℕ) → service_head + call_size * p + call_size ≤ length s → 12 ≤ length s
from-head s p h = omega arith

pub ruleset mostly = (tests, from-head, from-once, from-unsound, from-sound, from-span)
