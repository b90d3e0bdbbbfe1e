-- A changed delivery has the same first offence: 6, 7, 8 and 10 by the same lines, every other one by the same bytes. Assumes nothing.
use mathlib.Core.Path.{◌≡◌, refl, sym, ap, ◌∙◌}
use mathlib.Core.List.{List, [], ◌∷◌, ◌++◌, map}
use mathlib.Core.Bool.{Bool, false, not}
use mathlib.Core.Option.{Option}
use Prim.Native.Nat.{ℕ}
use lib.ListN.{length, length-map}
use lib.Dec.{eqb, leb}
use Rattle.base.specs.Lists.{every, some_of, below}
use Rattle.lines.specs.Lines.{Line, skipped}
use Rattle.timetable.specs.Delivery.{BitField, StopRecord, CategoryClass, DayRange, Service}
use Rattle.timetable.specs.Files.{Held, skip, broken, held, held_in, held_offence, bit_field_of, bit_field_offence, bit_field_line_offence, bit_fields_first}
use Rattle.timetable.specs.Legs.{covering, field_runs, stretches, leg_count, operated_legs}
use Rattle.timetable.specs.Offences.{given, ◌<|>◌, first}
use Rattle.timetable.specs.Plan.{told_in, as_range, part_lines, said_on}
use Rattle.timetable.specs.Service.{head_lines, blocks, first_line, calls_of, legs_on, service_of}
use Rattle.timetable.specs.Checks.{told_offence, own_offence, is_none, ends_first, each_once, torn, service_checks, head_first, service_first, services_first, plan_first}
use Rattle.timetable.specs.declared.Call.{Call}
use Rattle.timetable.specs.declared.Offence.{Offence}
use Rattle.timetable.specs.declared.RangeLine.{RangeLine}
use Rattle.timetable.specs.declared.Told.{Told}
use Rattle.timetable.specs.declared.Told.TheVariants.{Skip, Other, Broken, Opens, Ranges, Calls}
use Rattle.isolation.specs.Rename.{field_line}
use Rattle.isolation.proofs.Lines.{map-append, head-map, blocks-map}
use Rattle.isolation.proofs.Days.{day_for, service_for, covering-for, legs-for}
use Rattle.isolation.proofs.Each.{on_text}
use Rattle.isolation.proofs.Told.{range_for, told_for, held_for, field-held}
use Rattle.isolation.proofs.Changed.{Everywhere, zero-for, fields-for, held-for, has-for, knows-for, line-for, opens-for, told-for, skipped-for, parts-for, called-for, calls-for, said_for, said-ranges, first-no, service-for}

-- ---- lines that offend alike after lines that do

first-map : (off off' : List Line → Line → Option Offence) (g : Line → Line) → ((before : List Line) (l : Line) → off' (map g before) (g l) ≡ off before l)
    → (before ls : List Line) → first off' (map g before) (map g ls) ≡ first off before ls
unfolding first
first-map off off' g e before [] = refl
first-map off off' g e before (l ∷ ls) =
    ap (λ (o : Option Offence). o <|> first off' (map g before ++ (g l ∷ [])) (map g ls)) (e before l)
    ∙ ap (λ (o : Option Offence). off before l <|> o)
    (ap (λ (b : List Line). first off' b (map g ls)) (sym (map-append g before (l ∷ []))) ∙ first-map off off' g e (before ++ (l ∷ [])) ls)

every-by : {X : Type 0} (t u : X → Bool) → ((x : X) → t x ≡ u x) → (xs : List X) → every t xs ≡ every u xs
unfolding every
every-by t u e [] = refl
every-by t u e (x ∷ xs) = rw (e x, every-by t u e xs)

some-by : {X : Type 0} (t u : X → Bool) → ((x : X) → t x ≡ u x) → (xs : List X) → some_of t xs ≡ some_of u xs
unfolding some_of
some-by t u e [] = refl
some-by t u e (x ∷ xs) = rw (e x, some-by t u e xs)

module _ (σ : ℕ → ℕ) (g : Everywhere σ) where
  -- ---- BITFELD

  field-offence : (n line : ℕ) (fs : List BitField) (h : Held BitField)
      → held_offence (bit_field_offence n (fields-for σ g fs) line) line (held_for σ h) ≡ held_offence (bit_field_offence n fs line) line h
  field-offence n line fs skip = refl
  field-offence n line fs (broken c) = refl
  field-offence n line fs (held f) = rw (zero-for σ g f.number, has-for σ g f.number fs)

  field-line : (n : ℕ) (before : List Line) (l : Line) → bit_field_line_offence n (map (on_text (field_line σ)) before) (on_text (field_line σ) l) ≡ bit_field_line_offence n before l
  field-line n before l =
      ap (λ (h : Held BitField). held_offence (bit_field_offence n (held_in bit_field_of (map (on_text (field_line σ)) before)) l.no) l.no h) (field-held σ g.six_digits l)
      ∙ (ap (λ (fs : List BitField). held_offence (bit_field_offence n fs l.no) l.no (held_for σ (bit_field_of l))) (held-for σ g before)
      ∙ field-offence n l.no (held_in bit_field_of before) (bit_field_of l))

  pub fields-first : (n : ℕ) (ls : List Line) → bit_fields_first n (map (on_text (field_line σ)) ls) ≡ bit_fields_first n ls
  unfolding bit_fields_first
  fields-first n ls = first-map (bit_field_line_offence n) (bit_field_line_offence n) (on_text (field_line σ)) (field-line n) [] ls

  -- ---- FPLAN

  module _ (fields : List BitField) (stops : List StopRecord) (classes : List CategoryClass) (n : ℕ) where
    abbrev new : List BitField
    new = fields-for σ g fields

    own-told : (before : List Line) (line : ℕ) (t : Told) → told_offence new stops classes (map (line-for σ g) before) line (told_for σ t) ≡ told_offence fields stops classes before line t
    own-told before line Skip = refl
    own-told before line Other = refl
    own-told before line (Broken c) = refl
    own-told before line (Opens o) = refl
    own-told before line (Ranges r) =
        let e : length (part_lines r.part (map (line-for σ g) before)) ≡ length (part_lines r.part before) = ap length (parts-for σ g r.part before) ∙ length-map (part_lines r.part before) (range_for σ) in
        rw (e, (knows-for σ g fields).known r.field)
    own-told before line (Calls c) = rw (calls-for σ g before)

    own_line : (before : List Line) (l : Line) → own_offence new stops classes (map (line-for σ g) before) (line-for σ g l) ≡ own_offence fields stops classes before l
    own_line before l = ap (λ (t : Told). told_offence new stops classes (map (line-for σ g) before) l.no t) (told-for σ g l) ∙ own-told before l.no (told_in l.text)

    ends-for : (cs : List Call) (rs : List (ℕ × RangeLine)) → ends_first cs (map (said_for σ g) rs) ≡ ends_first cs rs
    unfolding ends_first
    ends-for cs [] = refl
    ends-for cs (r ∷ rs) = ap (λ (o : Option Offence). given (is_none (legs_on cs r.1)) 16 r.0 <|> o) (ends-for cs rs)

    once-for : (k : ℕ) (ds : List DayRange) → each_once (λ (r : DayRange). r.legs) k (map (day_for σ) ds) ≡ each_once (λ (r : DayRange). r.legs) k ds
    once-for k ds = every-by (λ (j : ℕ). eqb (covering (λ (r : DayRange). r.legs) (map (day_for σ) ds) j) 1) (λ (j : ℕ). eqb (covering (λ (r : DayRange). r.legs) ds j) 1)
        (λ j. ap (λ (m : ℕ). eqb m 1) (covering-for σ ds j)) (below k)

    torn-for : (k : ℕ) (s : Service) → torn new n (service_for σ k s) ≡ torn fields n s
    torn-for k s = some-by (λ (d : ℕ). leb 2 (stretches false (operated_legs new (service_for σ k s) d))) (λ (d : ℕ). leb 2 (stretches false (operated_legs fields s d)))
        (λ d. ap (λ (bs : List Bool). leb 2 (stretches false bs)) (legs-for σ (field_runs new) (field_runs fields) (knows-for σ g fields).runs k s d)) (below n)

    checks-for : (ls : List Line) → service_checks new n (map (line-for σ g) ls) ≡ service_checks fields n ls
    unfolding service_checks
    checks-for ls = rw (
      calls-for σ g ls,
      first-no σ g ls,
      called-for σ g ls,
      said-ranges σ g ls,
      ends-for (calls_of ls) (said_on as_range ls),
      service-for σ g ls,
      once-for (leg_count (service_of ls)) (service_of ls).days,
      torn-for (first_line ls).no (service_of ls),
    )

    service-first : (ls : List Line) → service_first new stops classes n (map (line-for σ g) ls) ≡ service_first fields stops classes n ls
    unfolding service_first
    service-first ls = rw (first-map (own_offence fields stops classes) (own_offence new stops classes) (line-for σ g) own_line [] ls, checks-for ls)

    services-first : (bs : List (List Line)) → services_first new stops classes n (map (map (line-for σ g)) bs) ≡ services_first fields stops classes n bs
    unfolding services_first
    services-first [] = refl
    services-first (b ∷ bs) = rw (service-first b, services-first bs)

    head-line : (before : List Line) (l : Line) → given (not (skipped (line-for σ g l).text)) 12 l.no ≡ given (not (skipped l.text)) 12 l.no
    head-line before l = rw (skipped-for σ g l)

    head-first : (ls : List Line) → head_first (map (line-for σ g) ls) ≡ head_first ls
    head-first ls =
        ap (first (λ before l. given (not (skipped l.text)) 12 l.no) []) (head-map (line-for σ g) (opens-for σ g) ls)
        ∙ first-map (λ before l. given (not (skipped l.text)) 12 l.no) (λ before l. given (not (skipped l.text)) 12 l.no) (line-for σ g) head-line [] (head_lines ls)

    pub plan-first : (ls : List Line) → plan_first new stops classes n (map (line-for σ g) ls) ≡ plan_first fields stops classes n ls
    unfolding plan_first
    plan-first ls =
        ap (λ (o : Option Offence). o <|> services_first new stops classes n (blocks (map (line-for σ g) ls))) (head-first ls)
        ∙ ap (λ (o : Option Offence). head_first ls <|> o) (ap (services_first new stops classes n) (blocks-map (line-for σ g) (opens-for σ g) ls) ∙ services-first (blocks ls))
