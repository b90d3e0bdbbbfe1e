-- The map of the lines read so far: the needs of a record put, for `search puts`, and of the walk that puts each, for `search fills`.
-- Assumes nothing.
use Rattle.std.specs.Prelude.{Result, Ok, Err}
use mathlib.Core.Path.{◌≡◌, refl, ap, ◌∙◌}
use mathlib.Core.List.{List, [], ◌∷◌, ◌++◌, map, append-nil}
use mathlib.Core.Bool.{false}
use Prim.Native.Nat.{ℕ, ◌+◌, ◌*◌, ◌-◌, ◌≤◌, ◌<◌}
use native.Mathlib.Nat.{sub-zero}
use native.Mathlib.Omega.{arith}
use lib.ListN.{length, get_or, take, drop, replicate, length-drop, drop_of_length-le}
use lib.Seq.{take_all, drop_at, length-take-le}
use borrow.Rule.Slice.PartMut.{same_len_mid, take_put}
use Rattle.base.specs.Lists.{gathered}
use Rattle.base.proofs.Laws.{tests, apart}
use Rattle.base.proofs.Lists.{gathered-append}
use Rattle.lines.specs.Lines.{Line, lines_of, cut_at}
use Rattle.lines.specs.declared.Cut.{Cut}
use Rattle.lines.proofs.Laws.{lines-nil}
use Rattle.lines.specs.Inner.Skips.{past_skipped}
use Rattle.lines.proofs.Pieces.{cut-empty}
use Rattle.lines.proofs.reader.Skipping.{passed-text, passed-next}
use Rattle.map.specs.Inner.Map.{map_record_size, word_values, column, Chained, Added, Distinct}
use Rattle.map.proofs.Puts.{empty-zeros}
use Rattle.map.proofs.Meaning.{distinct_none, distinct_more}
use Rattle.timetable.specs.Layout.{most_file_bytes}
use Rattle.timetable.specs.Delivery.{StopRecord}
use Rattle.timetable.specs.Offences.{verdict_by}
use Rattle.timetable.specs.declared.Offence.{Offence}
use Rattle.timetable.proofs.Offences.{verdict-fine}
use Rattle.sections.specs.Inner.Sections.{number_on, as_number, numbers, has_number, record_offence, numbered_offence}
use Rattle.sections.specs.Inner.SectionMap.{if_held, texts, Filled, Lent, MapAfter, Ready, Reached, PutReady, Put}
use Rattle.sections.specs.declared.Section.{Section}
use Rattle.sections.specs.declared.Numbered.{Numbered}
use Rattle.sections.specs.declared.Numbered.TheVariants.{Number, Skipped, Broken}
use Rattle.sections.proofs.Held.{map-append, skipped-number, empty-skipped}
use Rattle.sections.proofs.Lookups.{own-part}
use Rattle.sections.proofs.Bits.{text-some}
use Rattle.sections.proofs.Offences.{record-unseen}
use Rattle.sections.proofs.Walk.{Walked, walked-before, walked_more}
use Rattle.sections.proofs.Scans.{numbers-le, numbers_more}

-- ---- one line

module _ (n : Numbered) (m : List ℕ) (count at split : ℕ) (k : PutReady count split at m) where
  -- a line that holds no record
  put-none : as_number n ≡ [] → if_held at n ≡ [] → Put n at count split m count m
  put-none a b = record {
    same = refl;
    front = refl;
    counted = rw a (omega arith);
    chained = k.chained;
    numbers_held = rw (a, append-nil) refl;
    places_held = rw (b, append-nil) refl;
  }

  pub put-skipped : n ≡ Skipped → Put n at count split m count m
  put-skipped e = put-none (ap as_number e) (ap (if_held at) e)

  pub put-broken : (c : ℕ) → n ≡ Broken c → Put n at count split m count m
  put-broken c e = put-none (ap as_number e) (ap (if_held at) e)

-- a record, put into the words from `split` on: m' is what becomes of them
module _ (m m' : List ℕ) (split : ℕ) where
  abbrev after : List ℕ
  after = take split m ++ (m' ++ drop (length m - split) (drop split m))

  nothing-after : drop (length m - split) (drop split m) ≡ []
  nothing-after = drop_of_length-le (drop split m) {i = length m - split} (omega (arith, length-drop split m))

  pub part-chained : (count at : ℕ) → PutReady count split at m → Chained count (take (length m - split) (drop split m))
  part-chained count at k = rw own-part k.chained

  pub part_room : (count at : ℕ) → PutReady count split at m → map_record_size * count + map_record_size ≤ length (take (length m - split) (drop split m))
  part_room count at k = rw own-part k.room

  module _ (count x at : ℕ) (k : PutReady count split at m) (a : Added count x at (take (length m - split) (drop split m)) m') where
    part-added : Added count x at (drop split m) m'
    part-added = rw own-part at a

    pub put-length : length after ≡ length m
    put-length = same_len_mid split (length m - split) m m' a.same

    own-after : drop split after ≡ m'
    own-after = drop_at (take split m) (m' ++ drop (length m - split) (drop split m)) split (length-take-le split m k.inside) ∙ rw nothing-after (append-nil m')

    pub put_one : (n : Numbered) → n ≡ Number x → Put n at count split m (count + 1) after
    put_one n d = rw d (record {
      same = put-length;
      front = take_put split (length m - split) m m' k.inside;
      counted = refl;
      chained = rw own-after part-added.chained;
      numbers_held = rw own-after part-added.numbers;
      places_held = rw own-after part-added.places;
    })

pub ruleset puts = (tests, put-skipped, put-broken, part-chained, part_room, put-length, put_one)

-- ---- the walk

-- the map holds the lines before the place `at`, and the words before `split` are as they were
pub record Filling (s : Section) (f m₀ : List ℕ) (split at count : ℕ) (m : List ℕ) : Type 0 where
  pub same : length m ≡ length m₀
  pub front : take split m ≡ take split m₀
  pub filled : Filled s f (lines_of (take at f)) count (drop split m)

empty-lent : (f m : List ℕ) → Lent f m → Chained 0 m
empty-lent f m l = go (length m) l.zeros l.size
  where
    go : (n : ℕ) → m ≡ replicate n 0 → n < word_values → Chained 0 m
    go n e h = rw e (empty-zeros n h)

module _ (s : Section) (f b m₀ : List ℕ) (split : ℕ) (w : Ready s f b split m₀) where
  pub fill-first : Filling s f m₀ split 0 0 m₀
  unfolding column numbers texts gathered
  fill-first = record {
    same = refl;
    front = refl;
    filled = record {
      chained = empty-lent f (drop split m₀) w.lent;
      numbers_held = rw lines-nil refl;
      texts_held = rw lines-nil refl;
      distinct = rw lines-nil distinct_none;
    };
  }

  module _ (at count : ℕ) (m : List ℕ) (v : Filling s f m₀ split at count m) where
    -- the part before, as it is handed on
    pub fill-reached : Reached s (take (at - 0) (drop 0 f)) b split m
    fill-reached = rw sub-zero (record {
      inside = omega (arith, w.inside, v.same);
      seen = record { count = count; chained = v.filled.chained; numbers_held = v.filled.numbers_held };
      stops = λ e. rw v.front (w.stops e);
      mapped = w.mapped;
    })

    pub fill-ready : (line : ℕ) → Walked f at line → at < length f → length f ≤ most_file_bytes → count ≡ length (numbers s (lines_of (take at f))) → PutReady count split at m
    fill-ready line x h l c = record {
      inside = omega (arith, w.inside, v.same);
      chained = v.filled.chained;
      room = omega (arith, w.lent.room, v.same, length-drop split m, length-drop split m₀, walked_more f at line x h, numbers-le s (lines_of (take at f)), c);
      small = omega arith;
    }

numbers-distinct : (n : Numbered) (ns : List ℕ) → Distinct ns → ((x : ℕ) → n ≡ Number x → has_number x ns ≡ false) → Distinct (ns ++ as_number n)
numbers-distinct Skipped ns d h = rw append-nil d
numbers-distinct (Broken c) ns d h = rw append-nil d
numbers-distinct (Number x) ns d h = distinct_more ns x d (h x refl)

texts-more : (s : Section) (ls : List Line) (l : Line) → texts s (ls ++ (l ∷ [])) ≡ texts s ls ++ if_held l.text (number_on s l.text)
unfolding texts gathered
texts-more s ls l = gathered-append (λ (l : Line). if_held l.text (number_on s l.text)) ls (l ∷ []) ∙ rw append-nil refl

map-held : {X Y : Type 0} (g : X → Y) (x : X) (n : Numbered) → map g (if_held x n) ≡ if_held (g x) n
map-held g x (Number k) = refl
map-held g x Skipped = refl
map-held g x (Broken c) = refl

-- r is the line cut at `at`, n what it has for a number, own what its own checks say
module _ (f : List ℕ) (at no : ℕ) (r : Cut) (h : at < length f) (e : r ≡ cut_at f at no) (w : Walked f at no) (s : Section) (n : Numbered) (y : n ≡ number_on s (take (r.stop - at) (drop at f)))
    (days : ℕ) (stops : List StopRecord) (own : Result (Unit {0}) Offence) (x : own ≡ verdict_by (numbered_offence (record_offence s days stops (lines_of (take (at - 0) (drop 0 f))) no (take (r.stop - at) (drop at f))) no n)) where
  abbrev text : List ℕ
  text = take (r.stop - at) (drop at f)

  -- no offence, so its number was not seen earlier
  unseen : own ≡ Ok tt → (k : ℕ) → n ≡ Number k → has_number k (numbers s (lines_of (take at f))) ≡ false
  unseen z k d = record-unseen days no k stops (lines_of (take at f)) text s (verdict-fine _ own (x ∙ rw (d, sub-zero) refl) z)

  pub fill-turn : (m₀ m m' : List ℕ) (split count count' : ℕ) → own ≡ Ok tt → Filling s f m₀ split at count m → Put n at count split m count' m' → Filling s f m₀ split r.next count' m'
  fill-turn m₀ m m' split count count' z v q =
      let ls : List Line = lines_of (take at f) in
      record {
        same = q.same ∙ v.same;
        front = q.front ∙ v.front;
        filled = record {
          chained = q.chained;
          numbers_held = q.numbers_held ∙ rw (walked-before f at no w r h e, numbers_more, v.filled.numbers_held, y) refl;
          texts_held = rw (q.places_held, map-append, map-held, ← (text-some f at no r e), v.filled.texts_held, walked-before f at no w r h e, texts-more, y) refl;
          distinct = rw (walked-before f at no w r h e, numbers_more, ← y) (numbers-distinct n (numbers s ls) v.filled.distinct (unseen z));
        };
      }

-- a line that is skipped, passed at once: r is the line as it would be cut
skip-turn : (s : Section) (f m₀ m : List ℕ) (split at line count : ℕ) (r : Cut) → at < length f → r ≡ cut_at f at line → Skipped ≡ number_on s (take (r.stop - at) (drop at f)) → Walked f at line
    → Filling s f m₀ split at count m → Filling s f m₀ split r.next count m
skip-turn s f m₀ m split at line count r h e y w v =
    fill-turn f at line r h e w s Skipped y 0 [] (Ok tt) refl m₀ m m split count count refl v (record {
      same = refl;
      front = refl;
      counted = omega arith;
      chained = v.filled.chained;
      numbers_held = rw append-nil refl;
      places_held = rw append-nil refl;
    })

pub fill-empty : (s : Section) (f m₀ m : List ℕ) (split at line count : ℕ) → at < length f → get_or f at 0 ≡ 10 → Walked f at line → Filling s f m₀ split at count m → Filling s f m₀ split (at + 1) count m
fill-empty s f m₀ m split at line count h b w v = skip-turn s f m₀ m split at line count _ h (cut-empty f at line h b) (empty-skipped s f at) w v

pub fill-passed : (s : Section) (f m₀ m : List ℕ) (split at line count p : ℕ) → at < length f → p ≡ past_skipped f at → at < p → Walked f at line → Filling s f m₀ split at count m → Filling s f m₀ split p count m
fill-passed s f m₀ m split at line count p h e l w v =
    rw (passed-next f at line p e l) at (skip-turn s f m₀ m split at line count (cut_at f at line) h refl (skipped-number s (take ((cut_at f at line).stop - at) (drop at f)) (passed-text f at line p e l)) w v)

pub fill_done : (s : Section) (f m₀ m : List ℕ) (split at count line : ℕ) → length f ≤ at → Filling s f m₀ split at count m → MapAfter s f (Ok (count, line)) (drop split m)
fill_done s f m₀ m split at count line h v = record { held = λ c n e. record { count = count; filled = rw (take_all at f h) at v.filled } }

pub fill-refused : (s : Section) (f m : List ℕ) (o : Offence) → MapAfter s f (Err o) m
fill-refused s f m o = record { held = λ c n e. apart cc }

pub ruleset fills = (tests, fill-first, fill-reached, fill-ready, fill-turn, fill-empty, fill-passed, fill_done, fill-refused)
