-- The own checks of a service's lines, one after the other. Assumes nothing.
use mathlib.Core.Path.{◌≡◌, refl, sym, ap, ◌∙◌}
use mathlib.Core.List.{List, [], ◌∷◌, ◌++◌, append_assoc, append-nil}
use mathlib.Core.Bool.{true}
use mathlib.Core.Option.{Option, none, some}
use Prim.Native.Nat.{ℕ, ◌-◌, ◌≤◌, ◌<◌}
use native.Mathlib.Omega.{arith}
use lib.ListN.{length, take, drop}
use lib.Dec.{leb}
use borrow.Author.Tests.{leb-false}
use Rattle.base.specs.Lists.{every, gathered}
use Rattle.base.proofs.Laws.{apart, tests}
use Rattle.lines.specs.Lines.{Line, cut_at, lines_at}
use Rattle.lines.specs.declared.Cut.{Cut}
use Rattle.lines.proofs.Laws.{walk, cutting}
use Rattle.timetable.specs.Layout.{most_calls}
use Rattle.timetable.specs.Delivery.{BitField, StopRecord, CategoryClass}
use Rattle.timetable.specs.Offences.{given, ◌<|>◌, first, verdict_by}
use Rattle.timetable.specs.Plan.{told_in, tolds, as_call, as_range, as_opening, part_lines, said_on}
use Rattle.timetable.specs.Service.{head_lines, first_opening, holding, called_on}
use Rattle.timetable.specs.Checks.{most, told_offence, own_offence}
use Rattle.timetable.specs.declared.Offence.{Offence}
use Rattle.timetable.specs.declared.Opening.{Opening}
use Rattle.timetable.specs.declared.RangeKind.{RangeKind}
use Rattle.timetable.specs.declared.RangeKind.TheVariants.{Category, Days, Extra}
use Rattle.timetable.specs.declared.Told.{Told}
use Rattle.timetable.specs.declared.Told.TheVariants.{Skip, Other, Broken, Opens, Ranges, Calls}
use Rattle.timetable.proofs.Offences.{then-none, given-none, first-none, verdict-fine, verdict-offends}
use Rattle.draft.specs.Inner.Draft.{calls_lent, ranges_lent, calls_on, ranges_on, on_line, calls_after, counts_of, count_part, ranges#, no_counts, counted, Within}
use Rattle.draft.specs.declared.Counts.{Counts}
use Rattle.draft.proofs.Drafts.{counts-more}
use Rattle.reading.specs.Inner.Reading.{service_lines_at, Boundary, Sound, is_formed, all_formed, NextLine, NextAs, count_of, range_after, form_after, offence_after}
use Rattle.reading.specs.declared.LineTold.{LineTold}
use Rattle.std.specs.Prelude.{Option as RustOption, Some, None, Result, Ok, Err}
use Rattle.reading.proofs.Heads.{cut_line, after, first-opens}
use Rattle.reading.proofs.Again.{form-only}
use Rattle.reading.proofs.Passing.{Reads, reads_first, reads_more, next-is, pass-end, pass-less}

-- ---- one line

count_same : (p : RangeKind) (before : List Line) → count_of p (counts_of before) ≡ length (part_lines p before)
count_same Category before = refl
count_same Days before = refl
count_same Extra before = refl

module _ (fields : List BitField) (stops : List StopRecord) (classes : List CategoryClass) where
  -- the lines before matter only by their counts
  offence-same : (before : List Line) (line : ℕ) (t : Told) → offence_after fields stops classes (counts_of before) line t ≡ told_offence fields stops classes before line t
  offence-same before line Skip = refl
  offence-same before line Other = refl
  offence-same before line (Broken c) = refl
  offence-same before line (Opens o) = refl
  offence-same before line (Ranges r) = rw (count_same r.part before) refl
  offence-same before line (Calls c) = refl

  offence-next : (before : List Line) (l : Line) (k : Counts) (m : ℕ) (said : Told) → counts_of before ≡ k → l.no ≡ m → said ≡ told_in l.text
      → offence_after fields stops classes k m said ≡ own_offence fields stops classes before l
  offence-next before l k m said c n t = rw (← c, ← n, t) (offence-same before l.no (told_in l.text))

-- a line without an offence leaves the service within the limits
limit : (n most line : ℕ) (o : Option Offence) → (given (leb most n) 13 line <|> o) ≡ none → n < most
limit n most line o e = leb-false most n (given-none (leb most n) 13 line (then-none (given (leb most n) 13 line) o e).0)

part-within : (fields : List BitField) (classes : List CategoryClass) (k : Counts) (line field name : ℕ) (p : RangeKind) → Within k → range_after fields classes k line p field name ≡ none → Within (count_part k p)
part-within fields classes k line field name Category w e = record { calls = w.calls; categories = omega (arith, limit k.categories (most Category) line _ e); days = w.days; extras = w.extras }
part-within fields classes k line field name Days w e = record { calls = w.calls; categories = w.categories; days = omega (arith, limit k.days (most Days) line _ e); extras = w.extras }
part-within fields classes k line field name Extra w e = record { calls = w.calls; categories = w.categories; days = w.days; extras = omega (arith, limit k.extras (most Extra) line _ e) }

within_more : (fields : List BitField) (stops : List StopRecord) (classes : List CategoryClass) (k : Counts) (line : ℕ) (t : Told) → Within k → offence_after fields stops classes k line t ≡ none → Within (counted k t)
within_more fields stops classes k line Skip w e = w
within_more fields stops classes k line Other w e = w
within_more fields stops classes k line (Broken c) w e = w
within_more fields stops classes k line (Opens o) w e = w
within_more fields stops classes k line (Ranges r) w e = part-within fields classes k line r.field r.name r.part w e
within_more fields stops classes k line (Calls c) w e = record { calls = omega (arith, limit k.calls most_calls line _ e); categories = w.categories; days = w.days; extras = w.extras }

module _ (fields : List BitField) (stops : List StopRecord) (classes : List CategoryClass) where
  own-after : (before ls : List Line) → first (own_offence fields stops classes) before ls ≡ none → Within (counts_of before) → Within (counts_of (before ++ ls))
  own-after before [] e w = rw append-nil w
  own-after before (l ∷ ls) e w =
      let o = first-none (own_offence fields stops classes) before l ls e in
      let k : Within (counts_of (before ++ (l ∷ []))) = rw (counts-more before l) (within_more fields stops classes (counts_of before) l.no (told_in l.text) w (offence-same fields stops classes before l.no (told_in l.text) ∙ o.0)) in
      rw append_assoc at (own-after (before ++ (l ∷ [])) ls o.1 k)

  -- so lines without an own offence are within them
  pub own-within : (ls : List Line) → first (own_offence fields stops classes) [] ls ≡ none → Within (counts_of ls)
  unfolding tolds gathered said_on holding called_on
  own-within ls e = own-after [] ls e (record { calls = omega arith; categories = omega arith; days = omega arith; extras = omega arith })

-- and none of them has a broken form
told-formed : (fields : List BitField) (stops : List StopRecord) (classes : List CategoryClass) (before : List Line) (line : ℕ) (t : Told) → told_offence fields stops classes before line t ≡ none → is_formed t ≡ true
told-formed fields stops classes before line Skip e = refl
told-formed fields stops classes before line Other e = refl
told-formed fields stops classes before line (Broken c) e = apart (cc)
told-formed fields stops classes before line (Opens o) e = refl
told-formed fields stops classes before line (Ranges r) e = refl
told-formed fields stops classes before line (Calls c) e = refl

module _ (fields : List BitField) (stops : List StopRecord) (classes : List CategoryClass) where
  own-formed : (before ls : List Line) → first (own_offence fields stops classes) before ls ≡ none → all_formed ls ≡ true
  unfolding all_formed every
  own-formed before [] e = refl
  own-formed before (l ∷ ls) e =
      let o = first-none (own_offence fields stops classes) before l ls e in
      rw (told-formed fields stops classes before l.no (told_in l.text) o.0) (own-formed (before ++ (l ∷ [])) ls o.1)

  pub own-sound : (ls : List Line) → first (own_offence fields stops classes) [] ls ≡ none → Sound ls
  own-sound ls e = record { within = own-within fields stops classes ls e; formed = own-formed [] ls e }

-- the first offence of lines, at the first of them and after it
first-cons : (off : List Line → Line → Option Offence) (before : List Line) (l : Line) (ls : List Line) → first off before (l ∷ ls) ≡ (off before l <|> first off (before ++ (l ∷ [])) ls)
unfolding first
first-cons off before l ls = refl

or-none : {X : Type 0} (a b : Option X) → a ≡ none → (a <|> b) ≡ b
unfolding ◌<|>◌
or-none a b e = rw e refl

or_some : {X : Type 0} (a b : Option X) (x : X) → a ≡ some x → (a <|> b) ≡ some x
unfolding ◌<|>◌
or_some a b x e = rw e refl

-- ---- the lines that were read without an offence, up to line m at place e

pub record Clean (fields : List BitField) (stops : List StopRecord) (classes : List CategoryClass) (f : List ℕ) (at n : ℕ) (opening : Opening) (e m : ℕ) (k : Counts) (calls ranges : List ℕ) : Type 0 where
  pub ls : List Line
  pub reads : Reads f at n opening ls e m k calls ranges
  pub clean : first (own_offence fields stops classes) [] (service_lines_at f at n) ≡ first (own_offence fields stops classes) ls (head_lines (lines_at f e m))

module _ (fields : List BitField) (stops : List StopRecord) (classes : List CategoryClass) where
  -- at the first line: v is the verdict of its form
  module _ (f : List ℕ) (at n : ℕ) (r : Cut) (said : Told) (v : Result (Unit {0}) Offence) (b : Boundary f at n)
      (h : at < length f) (e : r ≡ cut_at f at n) (d : said ≡ told_in (take (r.stop - at) (drop at f))) (o : v ≡ verdict_by (form_after n said)) where
    own_first : form_after n said ≡ own_offence fields stops classes [] (cut_line f at n r)
    unfolding tolds gathered said_on holding called_on
    own_first =
        form-only fields stops classes no_counts n (take (r.stop - at) (drop at f)) said (first-opens f at n r b h e) d
        ∙ offence-next fields stops classes [] (cut_line f at n r) no_counts n said refl refl d

    first-lines : first (own_offence fields stops classes) [] (service_lines_at f at n)
        ≡ (own_offence fields stops classes [] (cut_line f at n r) <|> first (own_offence fields stops classes) (cut_line f at n r ∷ []) (head_lines (after f r)))
    first-lines = rw (cutting f at n r h e).step (first-cons (own_offence fields stops classes) [] (cut_line f at n r) (head_lines (after f r)))

    pub clean-first : (opening : Opening) (k : Counts) (calls ranges : List ℕ) → k ≡ no_counts → opening ≡ first_opening (as_opening said) → calls_lent ≤ length calls → ranges_lent ≤ length ranges
        → v ≡ Ok tt → Clean fields stops classes f at n opening r.next r.no k calls ranges
    clean-first opening k calls ranges z p x y g = record {
      ls = cut_line f at n r ∷ [];
      reads = reads_first f at n r said opening k calls ranges b h e d p z x y;
      clean = first-lines ∙ or-none (own_offence fields stops classes [] (cut_line f at n r)) _ (sym own_first ∙ verdict-fine (form_after n said) v o g);
    }

    pub refused-first : (x : Offence) → v ≡ Err x → first (own_offence fields stops classes) [] (service_lines_at f at n) ≡ some x
    refused-first x g = first-lines ∙ or_some (own_offence fields stops classes [] (cut_line f at n r)) _ x (sym own_first ∙ verdict-offends (form_after n said) v o x g)

  module _ (f : List ℕ) (at n : ℕ) (opening : Opening) (e m : ℕ) (k : Counts) (calls ranges : List ℕ) (p : Clean fields stops classes f at n opening e m k calls ranges) (r : RustOption LineTold) (a : NextAs f e m r) where
    pub clean_end : r ≡ None → first (own_offence fields stops classes) [] (service_lines_at f at n) ≡ none
    unfolding first
    clean_end g = let z : head_lines (lines_at f e m) ≡ [] = rw g at a in p.clean ∙ rw z refl

    -- v is the next line's verdict
    module _ (l : LineTold) (g : r ≡ Some l) (v : Result (Unit {0}) Offence) (o : v ≡ verdict_by (offence_after fields stops classes k m l.said)) where
      abbrev it : NextLine f e m l.said l.next l.no
      it = next-is f e m r l a g

      own-next : offence_after fields stops classes k m l.said ≡ own_offence fields stops classes p.ls it.line
      own-next = offence-next fields stops classes p.ls it.line k m l.said p.reads.draft.counts it.own_number it.told

      next-lines : first (own_offence fields stops classes) [] (service_lines_at f at n)
          ≡ (own_offence fields stops classes p.ls it.line <|> first (own_offence fields stops classes) (p.ls ++ (it.line ∷ [])) (head_lines (lines_at f l.next l.no)))
      next-lines = p.clean ∙ (ap (first (own_offence fields stops classes) p.ls) it.head ∙ first-cons (own_offence fields stops classes) p.ls it.line (head_lines (lines_at f l.next l.no)))

      pub refused-next : (x : Offence) → v ≡ Err x → first (own_offence fields stops classes) [] (service_lines_at f at n) ≡ some x
      refused-next x y = next-lines ∙ or_some (own_offence fields stops classes p.ls it.line) _ x (sym own-next ∙ verdict-offends (offence_after fields stops classes k m l.said) v o x y)

      module _ (y : v ≡ Ok tt) where
        pub clean-within : Within (counted k l.said)
        clean-within = within_more fields stops classes k m l.said p.reads.draft.within (verdict-fine (offence_after fields stops classes k m l.said) v o y)

        pub clean-more : (k' : Counts) (calls' ranges' : List ℕ) → k' ≡ counted k l.said
            → calls_on k'.calls calls' ≡ calls_after opening (calls_on k.calls calls) m (as_call l.said)
            → ranges_on (ranges# k') ranges' ≡ ranges_on (ranges# k) ranges ++ on_line m (as_range l.said)
            → length calls' ≡ length calls → length ranges' ≡ length ranges
            → Clean fields stops classes f at n opening l.next l.no k' calls' ranges'
        clean-more k' calls' ranges' q c s i j = record {
          ls = p.ls ++ (it.line ∷ []);
          reads = reads_more f at n opening p.ls e m k calls ranges p.reads l.said l.next l.no it k' calls' ranges' clean-within q c s i j;
          clean = next-lines ∙ or-none (own_offence fields stops classes p.ls it.line) _ (sym own-next ∙ verdict-fine (offence_after fields stops classes k m l.said) v o y);
        }

pub ruleset checking = (tests, walk, first-opens, clean-first, refused-first, clean_end, pass-end, pass-less, refused-next, clean-within, clean-more)
