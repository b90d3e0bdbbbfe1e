-- The lines of a service that were read and drafted, and what is left of it. Assumes nothing.
use mathlib.Core.Path.{◌≡◌, refl, ap, sym, ◌∙◌}
use mathlib.Core.List.{List, [], ◌∷◌, ◌++◌, append_assoc, append-nil}
use mathlib.Core.Bool.{Bool, true, false, cond}
use mathlib.Core.Logic.{⊎_elim}
use denote.Enum.Declared.{tag_of}
use types.Run.{OneOf}
use Prim.Native.Nat.{ℕ, ◌+◌, ◌-◌, ◌≤◌, ◌<◌}
use native.Mathlib.Omega.{arith}
use lib.ListN.{length, take, drop, length-append}
use Rattle.base.specs.Lists.{every, gathered}
use Rattle.base.proofs.Laws.{clash, tests, len-trans}
use Rattle.base.proofs.Loops.{and-true}
use Rattle.base.proofs.Lists.{gathered-append}
use Rattle.lines.specs.Lines.{Line, skipped, cut_at, lines_at}
use Rattle.lines.specs.declared.Cut.{Cut}
use Rattle.lines.proofs.Laws.{walk, Cutting, cutting}
use Rattle.forms.specs.Form.{form_of, Form, Fits, Broken as BrokenForm}
use Rattle.forms.specs.Columns.{service_columns, frequency_columns}
use Rattle.forms.specs.Kinds.{kind_of}
use Rattle.forms.specs.declared.Kind.{Kind}
use Rattle.forms.specs.declared.Kind.TheVariants.{Opening as OpeningKind, Frequency, Category as CategoryKind, Attribute, Schedule, Other as OtherKind}
use Rattle.timetable.specs.Plan.{opening_in, frequency_in, formed, told_by, told_in, is_opening, opens_service, tolds, as_call, as_range, as_opening, ranges_of, of_part, part_lines}
use Rattle.timetable.specs.Service.{head_lines, blocks, first_line, first_opening, opening_of, calls_of, service_of}
use Rattle.timetable.specs.declared.CallLine.{CallLine}
use Rattle.timetable.specs.declared.Opening.{Opening}
use Rattle.timetable.specs.declared.RangeKind.{RangeKind}
use Rattle.timetable.specs.declared.RangeKind.TheVariants.{Category, Days, Extra}
use Rattle.timetable.specs.declared.Told.{Told}
use Rattle.timetable.specs.declared.Told.TheVariants.{Skip, Other, Broken, Opens, Ranges, Calls}
use Rattle.timetable.proofs.Calls.{calls_count}
use Rattle.timetable.specs.contracts.Told.{the_type}
use Rattle.draft.specs.Inner.Draft.{calls_lent, ranges_lent, calls_on, ranges_on, on_line, calls_after, counts_of, ranges#, no_counts, counted, Within, DraftOf}
use Rattle.draft.specs.declared.Counts.{Counts}
use Rattle.draft.proofs.Drafts.{draft-first, draft-more, opening-kept, counts-more}
use Rattle.reading.specs.Inner.Reading.{service_lines_at, Boundary, Sound, is_formed, all_formed, ServiceRead, NextLine, NextAs}
use Rattle.reading.specs.declared.LineTold.{LineTold}
use Rattle.std.specs.Prelude.{Option as RustOption, Some, None}
use Rattle.reading.proofs.Heads.{cut_line, after, opens-first, blocks-open, nothing-opens, first-opens, next-opens, next-told}

-- ---- lines within the limits: so are those at their front

tolds-append : (a b : List Line) → tolds (a ++ b) ≡ tolds a ++ tolds b
unfolding tolds
tolds-append [] b = refl
tolds-append (l ∷ a) b = ap (λ (r : List Told). told_in l.text ∷ r) (tolds-append a b)

said-append : {X : Type 0} (say : Told → List X) (a b : List Line) → gathered say (tolds (a ++ b)) ≡ gathered say (tolds a) ++ gathered say (tolds b)
said-append say a b = ap (gathered say) (tolds-append a b) ∙ gathered-append say (tolds a) (tolds b)

calls-front : (a b : List Line) → length (calls_of a) ≤ length (calls_of (a ++ b))
calls-front a b =
    let u : List CallLine = gathered as_call (tolds a) in
    let v : List CallLine = gathered as_call (tolds b) in
    omega (arith, calls_count a, calls_count (a ++ b), ap length (said-append as_call a b), length-append u v)

part-front : (p : RangeKind) (a b : List Line) → length (part_lines p a) ≤ length (part_lines p (a ++ b))
part-front p a b =
    let e : part_lines p (a ++ b) ≡ part_lines p a ++ part_lines p b
    = ap (gathered (of_part p)) (said-append as_range a b) ∙ gathered-append (of_part p) (ranges_of a) (ranges_of b) in
    omega (arith, ap length e, length-append (part_lines p a) (part_lines p b))

within-front : (a b : List Line) → Within (counts_of (a ++ b)) → Within (counts_of a)
within-front a b w = record {
  calls = omega (arith, w.calls, calls-front a b);
  categories = omega (arith, w.categories, part-front Category a b);
  days = omega (arith, w.days, part-front Days a b);
  extras = omega (arith, w.extras, part-front Extra a b);
}

-- ---- the lines ls were read, up to line m at place e: they are drafted; the service's first line is line n at place `at`, and says `opening`

pub record Reads (f : List ℕ) (at n : ℕ) (opening : Opening) (ls : List Line) (e m : ℕ) (k : Counts) (calls ranges : List ℕ) : Type 0 where
  pub own : service_lines_at f at n ≡ ls ++ head_lines (lines_at f e m)
  pub services : blocks (lines_at f at n) ≡ service_lines_at f at n ∷ blocks (lines_at f e m)
  pub draft : DraftOf ls k calls ranges
  pub own_line : (first_line (service_lines_at f at n)).no ≡ n
  pub opened : (service_of (service_lines_at f at n)).opening ≡ opening
  pub some-line : 1 ≤ length ls
  pub begun : opening_of ls ≡ opening
  pub start : Boundary f at n
  pub past : at < e
  pub inside : e ≤ length f
  pub number : m ≤ e + 1

-- a line that opens a service says no call and no range
no_more : (f : Form) (o : Opening) → (as_call (formed f (Opens o)) ≡ []) × (as_range (formed f (Opens o)) ≡ [])
no_more Fits o = (refl, refl)
no_more (BrokenForm c) o = (refl, refl)

says-no-more : (k : Kind) (text : List ℕ) → is_opening k ≡ true → (as_call (told_by k text) ≡ []) × (as_range (told_by k text) ≡ [])
says-no-more OpeningKind text e = no_more (form_of service_columns text) (opening_in text)
says-no-more Frequency text e = no_more (form_of frequency_columns text) (frequency_in text)
says-no-more CategoryKind text e = clash e
says-no-more Attribute text e = clash e
says-no-more Schedule text e = clash e
says-no-more OtherKind text e = clash e

opening-says : (l : Line) → opens_service l ≡ true → (as_call (told_in l.text) ≡ []) × (as_range (told_in l.text) ≡ [])
unfolding opens_service told_in
opening-says l e = go (skipped l.text) (told_by (kind_of l.text) l.text) (says-no-more (kind_of l.text) l.text e)
  where
    go : (s : Bool) (t : Told) → (as_call t ≡ []) × (as_range t ≡ []) → (as_call (cond s Skip t) ≡ []) × (as_range (cond s Skip t) ≡ [])
    go true t h = (refl, refl)
    go false t h = h

draft-opening : (l : Line) (calls ranges : List ℕ) → opens_service l ≡ true → calls_lent ≤ length calls → ranges_lent ≤ length ranges → DraftOf (l ∷ []) no_counts calls ranges
draft-opening l calls ranges o c r = let s : (as_call (told_in l.text) ≡ []) × (as_range (told_in l.text) ≡ []) = opening-says l o in draft-first l calls ranges s.0 s.1 c r

-- ---- the needs of `opening_of`, for `search opening`

pub no-opening : (t : Told) → OneOf (0 ∷ 1 ∷ 2 ∷ 4 ∷ 5 ∷ []) (tag_of the_type t) → record { number = 0; high = 0; low = 0; repeats = 0; offset = 0; kind = 0 } ≡ first_opening (as_opening t)
no-opening Skip e = refl
no-opening Other e = refl
no-opening (Broken c) e = refl
no-opening (Opens o) e = absurd (⊎_elim (λ w. omega arith) (⊎_elim (λ w. omega arith) (⊎_elim (λ w. omega arith) (⊎_elim (λ w. omega arith) (λ w. omega arith)))) e)
no-opening (Ranges r) e = refl
no-opening (Calls c) e = refl

pub an-opening : (t : Told) (o : Opening) → t ≡ Opens o → o ≡ first_opening (as_opening t)
an-opening t o e = rw e refl

pub ruleset opening = (tests, no-opening, an-opening)

-- ---- from line to line

-- at the first line
pub reads_first : (f : List ℕ) (at n : ℕ) (r : Cut) (said : Told) (opening : Opening) (k : Counts) (calls ranges : List ℕ)
    → Boundary f at n → at < length f → r ≡ cut_at f at n → said ≡ told_in (take (r.stop - at) (drop at f)) → opening ≡ first_opening (as_opening said)
    → k ≡ no_counts → calls_lent ≤ length calls → ranges_lent ≤ length ranges
    → Reads f at n opening (cut_line f at n r ∷ []) r.next r.no k calls ranges
unfolding service_of
reads_first f at n r said opening k calls ranges b h e d o z x y =
    let c : Cutting f at n r = cutting f at n r h e in
    let l : Line = cut_line f at n r in
    let q : opens_service l ≡ true = opens-first l (after f r) (ap head_lines (sym c.step) ∙ b.opening) in
    record {
      own = rw c.step refl;
      services = rw c.step (blocks-open l (after f r) q);
      draft = rw z (draft-opening l calls ranges q x y);
      own_line = rw c.step refl;
      opened = rw (c.step, o, d) refl;
      some-line = omega arith;
      begun = rw (o, d) refl;
      start = b;
      past = c.past;
      inside = c.inside;
      number = omega (arith, b.number, c);
    }

pub next-is : (f : List ℕ) (e m : ℕ) (r : RustOption LineTold) (l : LineTold) → NextAs f e m r → r ≡ Some l → NextLine f e m l.said l.next l.no
next-is f e m r l a g = rw g at a

module _ (f : List ℕ) (at n : ℕ) (opening : Opening) (ls : List Line) (e m : ℕ) (k : Counts) (calls ranges : List ℕ) (p : Reads f at n opening ls e m k calls ranges) where
  reads_end : head_lines (lines_at f e m) ≡ [] → ServiceRead f at n (record { opening = opening; line = n; counts = k; end = e; no = m }) calls ranges
  reads_end z =
      let whole : service_lines_at f at n ≡ ls = p.own ∙ rw z (append-nil ls) in
      record {
        line = refl;
        own_line = p.own_line;
        opening = p.opened;
        draft = rw whole p.draft;
        services = p.services;
        past = p.past;
        next = record { short = p.start.short; inside = p.inside; number = p.number; opening = z };
      }

  module _ (said : Told) (next m' : ℕ) (x : NextLine f e m said next m') where
    -- what is left of the service
    left : service_lines_at f at n ≡ (ls ++ (x.line ∷ [])) ++ head_lines (lines_at f next m')
    left = p.own ∙ (rw x.head refl ∙ sym (append_assoc ls (x.line ∷ []) (head_lines (lines_at f next m'))))

    reads-within : Within (counts_of (service_lines_at f at n)) → Within (counted k said)
    reads-within w =
        let v : Within (counts_of (ls ++ (x.line ∷ []))) = within-front (ls ++ (x.line ∷ [])) (head_lines (lines_at f next m')) (rw left at w) in
        let u : counts_of (ls ++ (x.line ∷ [])) ≡ counted k said = counts-more ls x.line ∙ rw (p.draft.counts, ← x.told) refl in
        rw u at v

    pub reads_more : (k' : Counts) (calls' ranges' : List ℕ) → Within (counted k said) → k' ≡ counted k said
        → calls_on k'.calls calls' ≡ calls_after opening (calls_on k.calls calls) m (as_call said)
        → ranges_on (ranges# k') ranges' ≡ ranges_on (ranges# k) ranges ++ on_line m (as_range said)
        → length calls' ≡ length calls → length ranges' ≡ length ranges
        → Reads f at n opening (ls ++ (x.line ∷ [])) next m' k' calls' ranges'
    reads_more k' calls' ranges' w q c s i j = record {
      own = left;
      services = p.services ∙ rw x.others refl;
      draft = draft-more opening ls k k' calls ranges calls' ranges' x.line said p.some-line p.begun p.draft x.told w q (rw x.own_number c) (rw x.own_number s) i j;
      own_line = p.own_line;
      opened = p.opened;
      some-line = omega (arith, length-append ls (x.line ∷ []));
      begun = opening-kept opening ls x.line p.some-line p.begun;
      start = p.start;
      past = omega (arith, p.past, x.past);
      inside = x.inside;
      number = x.number;
    }

-- a line without a broken form among others without one
formed-at : (a : List Line) (l : Line) (b : List Line) → all_formed ((a ++ (l ∷ [])) ++ b) ≡ true → is_formed (told_in l.text) ≡ true
unfolding all_formed every
formed-at [] l b e = (and-true (is_formed (told_in l.text)) _ e).0
formed-at (x ∷ a) l b e = formed-at a l b (and-true (is_formed (told_in x.text)) _ e).1

-- ---- the needs of the loop of `read_again`, for `search passing`; r is the line that is cut, t says whether it opens a service

pub record Passed (f : List ℕ) (at n : ℕ) (opening : Opening) (e m : ℕ) (k : Counts) (calls ranges : List ℕ) : Type 0 where
  pub ls : List Line
  pub reads : Reads f at n opening ls e m k calls ranges

pub pass-first : (f : List ℕ) (at n : ℕ) (r : Cut) (said : Told) (opening : Opening) (k : Counts) (calls ranges : List ℕ)
    → Boundary f at n → at < length f → r ≡ cut_at f at n → said ≡ told_in (take (r.stop - at) (drop at f)) → opening ≡ first_opening (as_opening said)
    → k ≡ no_counts → calls_lent ≤ length calls → ranges_lent ≤ length ranges
    → Passed f at n opening r.next r.no k calls ranges
pass-first f at n r said opening k calls ranges b h e d o z x y = record { ls = cut_line f at n r ∷ []; reads = reads_first f at n r said opening k calls ranges b h e d o z x y }

pub pass-end : (f : List ℕ) (at n : ℕ) (opening : Opening) (ls : List Line) (e m : ℕ) (k : Counts) (calls ranges : List ℕ) (r : RustOption LineTold)
    → Reads f at n opening ls e m k calls ranges → NextAs f e m r → r ≡ None → ServiceRead f at n (record { opening = opening; line = n; counts = k; end = e; no = m }) calls ranges
pass-end f at n opening ls e m k calls ranges r p a g = reads_end f at n opening ls e m k calls ranges p (let z : head_lines (lines_at f e m) ≡ [] = rw g at a in z)

pub pass-less : (f : List ℕ) (e m : ℕ) (r : RustOption LineTold) (l : LineTold) → NextAs f e m r → r ≡ Some l → length f - l.next < length f - e
pass-less f e m r l a g = let x : NextLine f e m l.said l.next l.no = next-is f e m r l a g in omega (arith, x.past, x.inside)

module _ (f : List ℕ) (at n : ℕ) (opening : Opening) (e m : ℕ) (k : Counts) (calls ranges : List ℕ) (p : Passed f at n opening e m k calls ranges) where
  pub again-inside : e ≤ length f
  again-inside = p.reads.inside

  pub again-number : m < 4294967295
  again-number = omega (arith, p.reads.number, p.reads.inside, p.reads.start.short)

  pub again-none : length f ≤ e → ServiceRead f at n (record { opening = opening; line = n; counts = k; end = e; no = m }) calls ranges
  again-none h = reads_end f at n opening p.ls e m k calls ranges p.reads (nothing-opens f e m h)

  module _ (r : Cut) (kind : Kind) (t : Bool) (h : e < length f) (d : r ≡ cut_at f e m) (w : kind ≡ kind_of (take (r.stop - e) (drop e f))) (o : t ≡ is_opening kind) where
    pub again-end : t ≡ true → ServiceRead f at n (record { opening = opening; line = n; counts = k; end = e; no = m }) calls ranges
    again-end y = reads_end f at n opening p.ls e m k calls ranges p.reads (next-opens f e m r kind t h d w o y)

    module _ (y : t ≡ false) where
      abbrev it : NextLine f e m (told_in (take (r.stop - e) (drop e f))) r.next r.no
      it = next-told f e m r kind t h d w o (told_in (take (r.stop - e) (drop e f))) y p.reads.number refl

      pub again-within : Sound (service_lines_at f at n) → Within (counted k (told_in (take (r.stop - e) (drop e f))))
      again-within s = reads-within f at n opening p.ls e m k calls ranges p.reads (told_in (take (r.stop - e) (drop e f))) r.next r.no it s.within

      pub again-formed : Sound (service_lines_at f at n) → is_formed (told_in (take (r.stop - e) (drop e f))) ≡ true
      again-formed s =
          let v : all_formed ((p.ls ++ (it.line ∷ [])) ++ head_lines (lines_at f r.next r.no)) ≡ true =
          rw (left f at n opening p.ls e m k calls ranges p.reads (told_in (take (r.stop - e) (drop e f))) r.next r.no it) at s.formed in
          rw (← it.told) at (formed-at p.ls it.line (head_lines (lines_at f r.next r.no)) v)

      pub again-less : length f - r.next < length f - e
      again-less = omega (arith, it.past, it.inside)

      pub again-more : (k' : Counts) (calls' ranges' : List ℕ) → Sound (service_lines_at f at n) → k' ≡ counted k (told_in (take (r.stop - e) (drop e f)))
          → calls_on k'.calls calls' ≡ calls_after opening (calls_on k.calls calls) m (as_call (told_in (take (r.stop - e) (drop e f))))
          → ranges_on (ranges# k') ranges' ≡ ranges_on (ranges# k) ranges ++ on_line m (as_range (told_in (take (r.stop - e) (drop e f))))
          → length calls' ≡ length calls → length ranges' ≡ length ranges
          → Passed f at n opening r.next r.no k' calls' ranges'
      again-more k' calls' ranges' s q c u i j =
          record { ls = p.ls ++ (it.line ∷ []); reads = reads_more f at n opening p.ls e m k calls ranges p.reads (told_in (take (r.stop - e) (drop e f))) r.next r.no it k' calls' ranges' (again-within s) q c u i j }

pub ruleset passing = (tests, walk, len-trans, first-opens, pass-first, again-inside, again-number, again-none, again-end, again-within, again-formed, again-less, again-more)
