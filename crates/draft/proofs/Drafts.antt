-- The draft of lines: of none, with one line more, and what it is read as. Assumes nothing.
use mathlib.Core.Path.{◌≡◌, refl, sym, ap, ◌∙◌}
use mathlib.Core.List.{List, [], ◌∷◌, ◌++◌, map, append-nil}
use Prim.Native.Nat.{ℕ, zero, suc, ◌+◌, ◌≤◌}
use native.Mathlib.Nat.{add-zero}
use native.Mathlib.Omega.{arith}
use lib.ListN.{length, drop, length-append}
use Rattle.base.specs.Lists.{gathered}
use Rattle.base.proofs.Lists.{gathered-append}
use Rattle.lines.specs.Lines.{Line}
use Rattle.timetable.specs.Plan.{told_in, tolds, as_call, as_range, as_opening, ranges_of, of_part, part_lines, said_on}
use Rattle.timetable.specs.Service.{first_line, first_opening, opening_of, opened, announced, call_by, holding, called_on, calls_of, service_of}
use Rattle.timetable.specs.Table.{rows_in}
use Rattle.timetable.specs.declared.Announced.{Announced}
use Rattle.timetable.specs.declared.Call.{Call}
use Rattle.timetable.specs.declared.CallLine.{CallLine}
use Rattle.timetable.specs.declared.Opening.{Opening}
use Rattle.timetable.specs.declared.RangeKind.{RangeKind}
use Rattle.timetable.specs.declared.RangeKind.TheVariants.{Category, Days, Extra}
use Rattle.timetable.specs.declared.RangeLine.{RangeLine}
use Rattle.timetable.specs.declared.Told.{Told}
use Rattle.timetable.specs.declared.Told.TheVariants.{Skip, Other, Broken, Opens, Ranges, Calls}
use Rattle.timetable.proofs.Calls.{calls-more}
use Rattle.timetable.proofs.Lines.{part-more, said-on}
use Rattle.draft.specs.Inner.Draft.{most_ranges, calls_lent, ranges_lent, call_back, range_back, calls_on, calls_in, ranges_on, ranges_in, on_line, last_of, calls_after, counts_of, ranges#, no_counts, count_part, counted, Within, DraftOf, drafted_service}
use Rattle.draft.specs.declared.Counts.{Counts}

-- ---- counts with one line more

part_length : (p : RangeKind) (before : List Line) (l : Line) → length (part_lines p (before ++ (l ∷ []))) ≡ length (part_lines p before) + length (gathered (of_part p) (as_range (told_in l.text)))
part_length p before l = ap length (part-more p before l) ∙ length-append (part_lines p before) (gathered (of_part p) (as_range (told_in l.text)))

added : (k : Counts) (t : Told)
    → ◌≡◌ {A = Counts} (record {
      calls = k.calls + length (as_call t);
      categories = k.categories + length (gathered (of_part Category) (as_range t));
      days = k.days + length (gathered (of_part Days) (as_range t));
      extras = k.extras + length (gathered (of_part Extra) (as_range t));
    }) (counted k t)
unfolding gathered
added k Skip = simp add-zero
added k Other = simp add-zero
added k (Broken c) = simp add-zero
added k (Opens o) = simp add-zero
added k (Ranges r) = go r.part r refl
  where
    go : (p : RangeKind) (r : RangeLine) → r.part ≡ p
        → ◌≡◌ {A = Counts} (record {
          calls = k.calls + 0;
          categories = k.categories + length (of_part Category r ++ []);
          days = k.days + length (of_part Days r ++ []);
          extras = k.extras + length (of_part Extra r ++ []);
        }) (count_part k r.part)
    go Category r e = simp (e, add-zero)
    go Days r e = simp (e, add-zero)
    go Extra r e = simp (e, add-zero)
added k (Calls c) = simp add-zero

pub counts-more : (before : List Line) (l : Line) → counts_of (before ++ (l ∷ [])) ≡ counted (counts_of before) (told_in l.text)
counts-more before l =
    rw (calls-more before l, part_length Category before l, part_length Days before l, part_length Extra before l)
    (added (counts_of before) (told_in l.text))

-- ---- what is said, with one line more

said-on-more : {X : Type 0} (say : Told → List X) (before : List Line) (l : Line) → said_on say (before ++ (l ∷ [])) ≡ said_on say before ++ on_line l.no (say (told_in l.text))
unfolding said_on on_line gathered
said-on-more say before l =
    gathered-append (λ (m : Line). map (λ x. (m.no, x)) (say (told_in m.text))) before (l ∷ [])
    ∙ ap (λ (r : List _). said_on say before ++ r) (append-nil (map (λ x. (l.no, x)) (say (told_in l.text))))

-- ---- what holds, with one line more

holding-append : (a : Announced) (xs ys : List (ℕ × CallLine)) → holding a (xs ++ ys) ≡ holding a xs ++ holding (last_of a (holding a xs)) ys
unfolding holding last_of
holding-append a [] ys = refl
holding-append a (x ∷ xs) ys = ap (λ (r : List (ℕ × Call)). (x.0, call_by a x.1) ∷ r) (holding-append (announced (call_by a x.1)) xs ys)

-- behind a first line
first-kept : (ls : List Line) (l : Line) → 1 ≤ length ls → first_line (ls ++ (l ∷ [])) ≡ first_line ls
first-kept [] l h = absurd (omega arith)
first-kept (k ∷ ls) l h = refl

pub opening-kept : (o : Opening) (ls : List Line) (l : Line) → 1 ≤ length ls → opening_of ls ≡ o → opening_of (ls ++ (l ∷ [])) ≡ o
opening-kept o ls l h e = ap (λ (m : Line). first_opening (as_opening (told_in m.text))) (first-kept ls l h) ∙ e

called_more : (o : Opening) (ls : List Line) (l : Line) → 1 ≤ length ls → opening_of ls ≡ o → called_on (ls ++ (l ∷ [])) ≡ calls_after o (called_on ls) l.no (as_call (told_in l.text))
unfolding called_on calls_after
called_more o ls l h e =
    let new : List (ℕ × CallLine) = on_line l.no (as_call (told_in l.text)) in
    ap (λ (p : Opening). holding (opened p) (said_on as_call (ls ++ (l ∷ [])))) (opening-kept o ls l h e ∙ sym e)
    ∙ (ap (holding (opened (opening_of ls))) (said-on-more as_call ls l)
    ∙ (holding-append (opened (opening_of ls)) (said_on as_call ls) new ∙ ap (λ (p : Opening). called_on ls ++ holding (last_of (opened p) (called_on ls)) new) e))

-- ---- the draft

pub within_none : Within no_counts
within_none = record { calls = omega arith; categories = omega arith; days = omega arith; extras = omega arith }

-- of a first line, which says no call and no range
pub draft-first : (l : Line) (calls ranges : List ℕ) → as_call (told_in l.text) ≡ [] → as_range (told_in l.text) ≡ [] → calls_lent ≤ length calls → ranges_lent ≤ length ranges
    → DraftOf (l ∷ []) no_counts calls ranges
unfolding tolds gathered said_on rows_in holding called_on on_line
draft-first l calls ranges p q c r =
    let e : said_on as_call (l ∷ []) ≡ [] = said-on-more as_call [] l ∙ ap (on_line l.no) p in
    record {
      counts = counts-more [] l ∙ rw (p, q) refl;
      within = within_none;
      lent_calls = c;
      lent_ranges = r;
      called = sym (ap (holding (opened (opening_of (l ∷ [])))) e);
      ranged = sym (said-on-more as_range [] l ∙ ap (on_line l.no) q);
    }

pub draft-more : (o : Opening) (ls : List Line) (k k' : Counts) (calls ranges calls' ranges' : List ℕ) (l : Line) (t : Told) → 1 ≤ length ls → opening_of ls ≡ o
    → DraftOf ls k calls ranges → t ≡ told_in l.text → Within (counted k t)
    → k' ≡ counted k t
    → calls_on k'.calls calls' ≡ calls_after o (calls_on k.calls calls) l.no (as_call t)
    → ranges_on (ranges# k') ranges' ≡ ranges_on (ranges# k) ranges ++ on_line l.no (as_range t)
    → length calls' ≡ length calls → length ranges' ≡ length ranges
    → DraftOf (ls ++ (l ∷ [])) k' calls' ranges'
draft-more o ls k k' calls ranges calls' ranges' l t h p d e w q c r x y = record {
  counts = counts-more ls l ∙ (rw (d.counts, ← e) refl ∙ sym q);
  within = rw q w;
  lent_calls = omega (arith, x, d.lent_calls);
  lent_ranges = omega (arith, y, d.lent_ranges);
  called = c ∙ (rw (d.called, e) refl ∙ sym (called_more o ls l h p));
  ranged = r ∙ (rw (d.ranged, e) refl ∙ sym (said-on-more as_range ls l));
}

-- no more ranges than the words lent hold
pub ranges-within : (k : Counts) → Within k → ranges# k ≤ most_ranges
ranges-within k w = omega (arith, w.categories, w.days, w.extras)

-- ---- what it is read as

rows-map : {X Y : Type 0} (g : X → Y) (f : List ℕ → X) (size n : ℕ) (w : List ℕ) → rows_in (λ (u : List ℕ). g (f u)) size n w ≡ map g (rows_in f size n w)
unfolding rows_in
rows-map g f size zero w = refl
rows-map g f size (suc n) w = ap (λ (r : List _). g (f w) ∷ r) (rows-map g f size n (drop size w))

module _ (ls : List Line) (k : Counts) (calls ranges : List ℕ) (d : DraftOf ls k calls ranges) where
  pub draft-calls : calls_in k.calls calls ≡ calls_of ls
  draft-calls = rows-map (λ (x : ℕ × Call). x.1) call_back _ k.calls calls ∙ ap (map (λ (x : ℕ × Call). x.1)) d.called

  pub draft-ranges : ranges_in (ranges# k) ranges ≡ ranges_of ls
  draft-ranges = rows-map (λ (x : ℕ × RangeLine). x.1) range_back _ (ranges# k) ranges ∙ (ap (map (λ (x : ℕ × RangeLine). x.1)) d.ranged ∙ said-on as_range ls)

  -- the service is the one that the draft is
  pub draft-service : drafted_service (service_of ls).opening (first_line ls).no (calls_in k.calls calls) (ranges_in (ranges# k) ranges) ≡ service_of ls
  unfolding drafted_service service_of
  draft-service = rw (draft-calls, draft-ranges) refl
