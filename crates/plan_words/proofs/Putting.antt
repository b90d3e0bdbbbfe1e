-- Services written one after the other: what is left to write at a place, and what was to be written, end alike. Assumes nothing.
use mathlib.Core.Path.{◌≡◌, refl, sym, ap, ◌∙◌}
use mathlib.Core.List.{List, [], ◌∷◌, ◌++◌, map}
use mathlib.Core.Bool.{true, ◌&&◌}
use mathlib.Core.Option.{none, some}
use Prim.Native.Nat.{ℕ, ◌+◌, ◌^◌, ◌≤◌, ◌<◌}
use native.Mathlib.Omega.{arith}
use lib.ListN.{length, length-append}
use Rattle.base.specs.Lists.{every, gathered}
use Rattle.base.proofs.Laws.{tests, apart, len-trans}
use Rattle.base.proofs.Loops.{and-true}
use Rattle.lines.specs.Lines.{Line, lines_of, lines_at, cut_at}
use Rattle.words.specs.Words.{write}
use Rattle.words.proofs.Laws.{write-none, write-write}
use Rattle.timetable.specs.Delivery.{StopRecord, Service}
use Rattle.timetable.specs.Service.{blocks, service_of}
use Rattle.timetable.specs.Checks.{head_first}
use Rattle.timetable.specs.Table.{service_words, pointing}
use Rattle.timetable.specs.declared.Call.{Call}
use Rattle.timetable.specs.declared.Offence.{Offence}
use Rattle.timetable.specs.declared.Opening.{Opening}
use Rattle.timetable.specs.declared.RangeLine.{RangeLine}
use Rattle.draft.specs.Inner.Draft.{calls_lent, ranges_lent, counts_of, ranges#, Within, calls_in, ranges_in, drafted_service}
use Rattle.draft.specs.declared.Drafted.{Drafted}
use Rattle.draft.proofs.Drafts.{draft-service}
use Rattle.reading.specs.Inner.Reading.{service_lines_at, Boundary, Sound, all_formed, ServiceRead, HeadAs}
use Rattle.reading.specs.Inner.Services.{ServiceTaken, block_words}
use Rattle.std.specs.Prelude.{Result, Ok, Err}
use Rattle.reading.proofs.Heads.{after, service-here, services-none}
use Rattle.reading.proofs.Sizes.{words-fit}
use Rattle.reading.proofs.Services.{here-words, head_clear, head-next, next-boundary, next-less, next-count}
use Rattle.service_words.specs.Inner.Record.{placed_in}
use Rattle.service_words.proofs.Record.{pointed-size}
use Rattle.plan_words.specs.Inner.Services.{placed_words, counts_within, all_sound}
use Rattle.plan_words.proofs.Within.{within-says}

-- ---- services, the first and the others

placed-cons : (stops : List StopRecord) (b : List Line) (bs : List (List Line)) → placed_words stops (b ∷ bs) ≡ service_words (pointing stops (service_of b)) ++ placed_words stops bs
unfolding placed_words gathered
placed-cons stops b bs = refl

-- as many words, whether the calls have numbers or places
pub placed-size : (stops : List StopRecord) (bs : List (List Line)) → length (placed_words stops bs) ≡ length (block_words bs)
unfolding placed_words block_words gathered
placed-size stops [] = refl
placed-size stops (b ∷ bs) =
    omega (
      arith,
      pointed-size stops (service_of b),
      placed-size stops bs,
      length-append (service_words (pointing stops (service_of b))) (gathered service_words (map (pointing stops) (map service_of bs))),
      length-append (service_words (service_of b)) (gathered service_words (map service_of bs)),
    )

sound-cons : (b : List Line) (bs : List (List Line)) → all_sound (b ∷ bs) ≡ true → Sound b × (all_sound bs ≡ true)
unfolding all_sound every
sound-cons b bs e =
    let x = and-true (counts_within (counts_of b) && all_formed b) (every (λ (b : List Line). counts_within (counts_of b) && all_formed b) bs) e in
    let y = and-true (counts_within (counts_of b)) (all_formed b) x.0 in
    (record { within = within-says (counts_of b) y.0; formed = y.1 }, x.1)

module _ (f : List ℕ) (at n : ℕ) (b : Boundary f at n) (h : at < length f) where
  pub here-sound : all_sound (blocks (lines_at f at n)) ≡ true → Sound (service_lines_at f at n)
  here-sound w = (sound-cons (service_lines_at f at n) (blocks (after f (cut_at f at n))) (rw (service-here f at n b h) at w)).0

  -- `to` is the place to write at; all services end at place q
  pub here-room : (to q l : ℕ) → to + length (block_words (blocks (lines_at f at n))) ≡ q → q ≤ l → to + length (service_words (service_of (service_lines_at f at n))) ≤ l
  here-room to q l v r = omega (arith, v, r, here-words f at n b h)

-- ---- the needs of `put_service`, for `search holding`: the draft that was read holds the service

module _ (f : List ℕ) (at n : ℕ) (d : Drafted) (calls ranges : List ℕ) (s : ServiceRead f at n d calls ranges) where
  pub within-read : Within d.counts
  within-read = s.draft.within

  pub calls-read : calls_lent ≤ length calls
  calls-read = s.draft.lent_calls

  pub ranges-read : ranges_lent ≤ length ranges
  ranges-read = s.draft.lent_ranges

  service-is : drafted_service d.opening d.line (calls_in d.counts.calls calls) (ranges_in (ranges# d.counts) ranges) ≡ service_of (service_lines_at f at n)
  service-is =
      let ls : List Line = service_lines_at f at n in
      let cs : List Call = calls_in d.counts.calls calls in
      let rs : List RangeLine = ranges_in (ranges# d.counts) ranges in
      ap (λ (o : Opening). drafted_service o d.line cs rs) (sym s.opening)
      ∙ (ap (λ (l : ℕ). drafted_service (service_of ls).opening l cs rs) (s.line ∙ sym s.own_line) ∙ draft-service ls d.counts calls ranges s.draft)

  module _ (stops : List StopRecord) where
    held-is : placed_in stops d calls ranges ≡ pointing stops (service_of (service_lines_at f at n))
    held-is = ap (pointing stops) service-is

    held-size : length (service_words (placed_in stops d calls ranges)) ≡ length (service_words (service_of (service_lines_at f at n)))
    held-size = ap (λ (x : Service). length (service_words x)) held-is ∙ pointed-size stops (service_of (service_lines_at f at n))

    pub held-room : (to l : ℕ) → to + length (service_words (service_of (service_lines_at f at n))) ≤ l → to + length (service_words (placed_in stops d calls ranges)) ≤ l
    held-room to l h = rw held-size h

    pub held_fits : Boundary f at n → at < length f → length (service_words (placed_in stops d calls ranges)) ≤ 4294967295
    held_fits b h = rw held-size (omega (arith, words-fit f at n b.short, here-words f at n b h))

    pub held-taken : (w : ℕ) → w ≡ length (service_words (placed_in stops d calls ranges)) → ServiceTaken f at n w d.end d.no
    held-taken w i = record { size = i ∙ held-size; services = s.services; past = s.past; next = s.next }

    pub held-written : (t t' : List ℕ) (to : ℕ) → t' ≡ write t to (service_words (placed_in stops d calls ranges))
        → t' ≡ write t to (service_words (pointing stops (service_of (service_lines_at f at n))))
    held-written t t' to x = rw held-is at x

pub ruleset holding = (tests, within-read, calls-read, ranges-read, held-room, held_fits, held-taken, held-written)

-- ---- from service to service: the one that begins at place `at` takes w words

module _ (f : List ℕ) (at n w end m : ℕ) (s : ServiceTaken f at n w end m) where
  pub next-sound : all_sound (blocks (lines_at f at n)) ≡ true → all_sound (blocks (lines_at f end m)) ≡ true
  next-sound v = (sound-cons (service_lines_at f at n) (blocks (lines_at f end m)) (rw s.services at v)).1

  -- `to` words stand before it, q in all
  module _ (to q : ℕ) (count : to + length (block_words (blocks (lines_at f at n))) ≡ q) where
    pub place-fits : q < 2 ^ 64 → to + w < 2 ^ 64
    place-fits h = omega (arith, next-count f at n w end m s to q count)

    pub next-written : (stops : List StopRecord) (t t' ws : List ℕ) → q ≤ length t → t' ≡ write t to (service_words (pointing stops (service_of (service_lines_at f at n))))
        → write t to (placed_words stops (blocks (lines_at f at n))) ≡ ws → write t' (to + w) (placed_words stops (blocks (lines_at f end m))) ≡ ws
    next-written stops t t' ws room x v =
        let A : List ℕ = service_words (pointing stops (service_of (service_lines_at f at n))) in
        let B : List ℕ = placed_words stops (blocks (lines_at f end m)) in
        let step : placed_words stops (blocks (lines_at f at n)) ≡ A ++ B = ap (placed_words stops) s.services ∙ placed-cons stops (service_lines_at f at n) (blocks (lines_at f end m)) in
        let size : w ≡ length A = s.size ∙ sym (pointed-size stops (service_of (service_lines_at f at n))) in
        let fits : to + length A ≤ length t = omega (arith, next-count f at n w end m s to q count, size, room) in
        rw (x, size) (write-write t to A B fits ∙ (sym (ap (write t to) step) ∙ v))

pub all-written : (stops : List StopRecord) (f t w : List ℕ) (at n to : ℕ) → length f ≤ at → write t to (placed_words stops (blocks (lines_at f at n))) ≡ w → t ≡ w
unfolding placed_words gathered
all-written stops f t w at n to h v = sym (write-none t to) ∙ (rw (services-none f at n h) at v)

pub ruleset putting = (tests, here-sound, here-room, next-boundary, next-less, next-sound, next-count, place-fits, next-written, all-written, len-trans)

-- ---- where the services begin, for `search beginning`

module _ (f : List ℕ) (h : Result (ℕ × ℕ) Offence) (at n : ℕ) (e : h ≡ Ok (at, n)) (d : HeadAs f h) where
  pub head-sound : all_sound (blocks (lines_of f)) ≡ true → all_sound (blocks (lines_at f at n)) ≡ true
  head-sound v = rw (head_clear f h at n e d).services at v

  module _ (stops : List StopRecord) (t : List ℕ) (q : ℕ) where
    pub head-room : q + length (placed_words stops (blocks (lines_of f))) ≤ length t → q + length (block_words (blocks (lines_at f at n))) ≤ length t
    head-room v = omega (arith, v, placed-size stops (blocks (lines_of f)), ap (λ (bs : List (List Line)). length (block_words bs)) (head_clear f h at n e d).services)

    pub head-written : (t' : List ℕ) → t' ≡ write t q (placed_words stops (blocks (lines_at f at n))) → t' ≡ write t q (placed_words stops (blocks (lines_of f)))
    head-written t' v = rw (head_clear f h at n e d).services v

some-none : {X : Type 0} (o : Offence) → some o ≡ none → X
some-none o e = apart (cc)

-- nothing stands before them
pub no_stray : (f : List ℕ) (h : Result (ℕ × ℕ) Offence) (o : Offence) (t w : List ℕ) → h ≡ Err o → HeadAs f h → head_first (lines_of f) ≡ none → t ≡ w
no_stray f h o t w e d v =
    let x : head_first (lines_of f) ≡ some o = rw e at d in
    some-none o (sym x ∙ v)

pub ruleset beginning = (tests, head-next, head-sound, head-room, head-written, no_stray)
