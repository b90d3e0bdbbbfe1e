-- The needs of the functions of src: each value that code computed stands with its equation. Assumes nothing.
use mathlib.Core.Path.{◌≡◌, refl, ap, ◌∙◌, sym}
use mathlib.Core.List.{List, [], ◌∷◌, ◌++◌, append_assoc, append-nil}
use mathlib.Core.Bool.{Bool, true, false, cond, not}
use mathlib.Core.Logic.{⊎_elim}
use Prim.Native.Nat.{ℕ, zero, suc, ◌+◌, ◌-◌, ◌*◌, ◌/◌, ◌^◌, ◌≤◌, ◌<◌}
use native.Mathlib.Nat.{mul-le-mul, eq-or-lt_of_le}
use native.Mathlib.Numerals.{add-one}
use native.Mathlib.Omega.{arith}
use lib.ListN.{length, get_or, take, drop, set, length-set, length-append, length-take, drop_of_length-le}
use lib.Seq.{take-suc, take-set-le, drop-cons, get_or-take, get_or-set_same, get_or-set_other, length-take-le}
use lib.Dec.{eqb}
use borrow.Author.Tests.{eq-eqb, eqb-true, lt-ltb, le-ltb, not-false}
use Rattle.base.specs.Lists.{gathered}
use Rattle.base.proofs.Laws.{tests}
use Rattle.base.proofs.Lists.{gathered-append, length-map-upto}
use Rattle.timetable.specs.Layout.{latest_time}
use Rattle.timetable.specs.Load.{onto}
use Rattle.timetable.specs.Runs.{opening_sound}
use Rattle.timetable.specs.Table.{stops#}
use Rattle.timetable.proofs.Rows.{any, all_any, length-gathered}
use Rattle.table.specs.JustTable.{header_sound}
use Rattle.table.proofs.Says.{header-says, header-word}
use Rattle.words.specs.Words.{write}
use Rattle.words.proofs.Laws.{write-none, write-turn, write-front, length-write}
use Rattle.index.specs.Index.{services_from, stops_from, stop_section, section_end}
use Rattle.index.specs.Inner.Ready.{Ready}
use Rattle.index.proofs.Sections.{sections-fit}
use Rattle.sort.specs.Rows.{board_row_words, sorted_rows, in_order}
use Rattle.sort.proofs.Sorted.{length-sorted}
use Rattle.sort.proofs.Rows.{written-sorted}
use Rattle.sort.specs.Rows.{not_after}
use Rattle.spans.specs.Spans.{runs#, most_runs}
use Rattle.board.specs.Board.{Departure, departure_of}
use Rattle.board.specs.Question.{board, boarded_by, board_into}
use Rattle.board.specs.declared.BoardAnswer.TheVariants.{Listed, Refused}
use Rattle.board_runs.specs.Batch.{departures_in, batch_rows, Batched, Shelved, Quiet, AtMost}
use Rattle.board_runs.specs.declared.Batch.{Batch}
use Rattle.board_runs.proofs.Quiet.{none-long}
use Rattle.stop_calls.specs.StopCalls.{entries#, entry_word, calls_by, Lent, left_at, On}
use Rattle.stop_calls.specs.declared.Cursor.{Cursor}
use Rattle.boards.specs.ByWords.{steady_in, entry_departures, departures_by, board_by, Lends, Along, left_departures, Calm, Few, one_if, Behind, Entry, KeptFrom, Kept, Told, Keeping, PuttingKept, Putting, most}
use Rattle.boards.proofs.Bounds.{call-few, gathered-few}

-- ---- one call

pub batch-is : (w x : List ℕ) (s e n k t u i p : ℕ) (y : List ℕ) (b : Batch) (m : Bool) → m ≡ steady_in s y → i ≡ entry_word s y 1 e → p ≡ entry_word s y 3 e → Batched b (departures_in m w x n k t u i p) → Batched b (entry_departures w x s y n k t u e)
unfolding entry_departures
batch-is w x s e n k t u i p y b m q a c g = rw (q, a, c) at g

-- the mark; j is the number of stops as a place
module _ (s j : ℕ) (y : List ℕ) (q : j ≡ s) where
  pub steady-none : length y ≤ j → false ≡ steady_in s y
  unfolding steady_in
  steady-none h = sym (rw (le-ltb s (length y) (omega (arith, q))) refl)

  module _ (h : j < length y) where
    pub steady-some : 1 ≤ length y
    steady-some = omega arith

    pub steady-last : length y - 1 < length y
    steady-last = omega arith

    pub steady-told : eqb (get_or y (length y - 1) 0) 1 ≡ steady_in s y
    unfolding steady_in
    steady-told = sym (rw (lt-ltb s (length y) (omega (arith, q))) refl)

pub ruleset marks = (tests, steady-none, steady-some, steady-last, steady-told)

pub shelved-ready : (w x : List ℕ) (places : ℕ) → Shelved w x places → Ready w x
shelved-ready w x places h = h.ready

module _ (w x : List ℕ) (places s e t u i p : ℕ) (y : List ℕ) (a : i ≡ entry_word s y 1 e) (c : p ≡ entry_word s y 3 e) where
  pub calm-is : (r : Bool) → Quiet w x places t u i p r → Calm w x s y t u e r
  unfolding entry_departures
  calm-is r g = record { none = λ f n k. rw (← a, ← c) (g.none f (steady_in s y) n k) }

pub few-is : (w x : List ℕ) (s e t u i p r : ℕ) (y : List ℕ) → i ≡ entry_word s y 1 e → p ≡ entry_word s y 3 e → AtMost w x t u i p r → Few w x s y t u e r
unfolding entry_departures
few-is w x s e t u i p r y a c g = record { few = λ n k. rw (← a, ← c) (g.few (steady_in s y) n k) }

pub ruleset looks = (tests, calm-is, few-is)

module _ (w x : List ℕ) (s e n k t u : ℕ) (y : List ℕ) (r : Bool) (g : Calm w x s y t u e r) (f : r ≡ true) where
  pub calm-count : 0 ≡ length (entry_departures w x s y n k t u e)
  calm-count = sym (ap length (g.none f n k))

  pub calm-end : (to : ℕ) → to ≡ to + 4 * length (entry_departures w x s y n k t u e)
  calm-end to = omega (arith, calm-count)

  pub calm-words : (l : List ℕ) (to : ℕ) → l ≡ write l to (gathered board_row_words (entry_departures w x s y n k t u e))
  unfolding gathered
  calm-words l to = sym (write-none l to) ∙ sym (ap (λ (es : List Departure). write l to (gathered board_row_words es)) (g.none f n k))

module _ (b : Batch) (es : List Departure) (g : Batched b es) where
  pub batch-long : b.high - b.low ≡ length es
  batch-long = sym (length-map-upto (departure_of b.service b.opening b.place b.departure) (b.high - b.low) b.low) ∙ ap length g.rows

  pub batch-count : (r : ℕ) → r ≡ b.high - b.low → r ≡ length es
  batch-count r q = q ∙ batch-long

  pub batch-sound : opening_sound b.opening ≡ true
  batch-sound = g.sound

  pub batch-there : b.high ≤ runs# b.opening
  batch-there = g.there

  pub batch-early : b.departure ≤ latest_time
  batch-early = g.early

  pub batch-room : (t : List ℕ) (to : ℕ) → to + 4 * length es ≤ length t → to + 4 * (b.high - b.low) ≤ length t
  batch-room t to h = rw batch-long h

  pub batch-end : (r to : ℕ) → r ≡ to + 4 * (b.high - b.low) → r ≡ to + 4 * length es
  batch-end r to q = rw batch-long at q

  pub batch-words : (t t' : List ℕ) (to : ℕ) → t' ≡ write t to (gathered board_row_words (batch_rows b)) → t' ≡ write t to (gathered board_row_words es)
  batch-words t t' to q = q ∙ ap (λ (r : List Departure). write t to (gathered board_row_words r)) g.rows

pub ruleset one = (tests, shelved-ready, calm-count, calm-end, calm-words, batch-is, batch-count, batch-sound, batch-there, batch-early, batch-room, batch-end, batch-words)

-- ---- from a cursor on

pub along-heads : (w x y : List ℕ) (end n from : ℕ) → Along w x y end n from → n ≤ length y
along-heads w x y end n from a = a.lent.heads

pub along-ready : (w x y : List ℕ) (end n from : ℕ) → Along w x y end n from → Ready w x
along-ready w x y end n from a = a.ready

pub along-lent : (w x y : List ℕ) (end n from : ℕ) → Along w x y end n from → Lent w x y end n from
along-lent w x y end n from a = a.lent

pub on-within : (y : List ℕ) (n : ℕ) (c : Cursor) → On y n c → c.call ≤ entries# n y
on-within y n c o = o.call

pub on_some : (e : ℕ) → (e ≡ 0 → ⊥) → 0 < e
on_some zero z = absurd (z refl)
on_some (suc e) z = omega arith

words_long : (es : List Departure) → length (gathered board_row_words es) ≡ 4 * length es
words_long es = length-gathered board_row_words 4 any (λ x h. refl) (all_any es)

module _ (w x y : List ℕ) (end n from stop k t u : ℕ) where
  abbrev left : Cursor → List Departure
  left c = left_departures w x y end n from stop k t u c

  abbrev given : ℕ → List Departure
  given e = entry_departures w x n y stop k t u e

  pub left-none : (c : Cursor) → c.call ≡ 0 → left_departures w x y end n from stop k t u c ≡ []
  unfolding left_departures left_at gathered
  left-none c z = rw (eq-eqb c.call 0 z)

  module _ (c c' : Cursor) (q : left_at w x y end n from stop c ≡ c.call ∷ left_at w x y end n from stop c') where
    split : left c ≡ given c.call ++ left c'
    unfolding left_departures gathered
    split = ap (gathered (entry_departures w x n y stop k t u)) q

    long : length (left c) ≡ length (given c.call) + length (left c')
    long = ap length split ∙ length-append (given c.call) (left c')

    pub left_less : length (left_at w x y end n from stop c') < length (left_at w x y end n from stop c)
    left_less = rw q (omega arith)

    pub left-count : (total d m : ℕ) → d ≡ length (entry_departures w x n y stop k t u c.call) → total + length (left_departures w x y end n from stop k t u c) ≡ m → total + d + length (left_departures w x y end n from stop k t u c') ≡ m
    left-count total d m e h = omega (arith, long, e, h)

    module _ (l₀ : List ℕ) (c₀ : Cursor) (l : List ℕ) (to : ℕ) (g : Putting w x y end n from stop k t u l₀ c₀ l c to) where
      fits : to + 4 * length (given c.call) ≤ length l
      fits = omega (arith, long, g.count, g.room, g.long)

      pub put-turn : (l' : List ℕ) (to' : ℕ) → l' ≡ write l to (gathered board_row_words (entry_departures w x n y stop k t u c.call)) → to' ≡ to + 4 * length (entry_departures w x n y stop k t u c.call) → On y n c'
          → Putting w x y end n from stop k t u l₀ c₀ l' c' to'
      put-turn l' to' d e o = record {
        on = o;
        long = ap length d ∙ length-write l to (gathered board_row_words (given c.call)) (omega (arith, fits, words_long (given c.call))) ∙ g.long;
        count = omega (arith, long, e, g.count);
        room = g.room;
        words =
            rw e
            (write-turn l l' (write l₀ 0 (gathered board_row_words (left c₀))) to (4 * length (given c.call)) (gathered board_row_words (given c.call)) (gathered board_row_words (left c')) d (words_long (given c.call)) fits
            (ap (write l to) (sym (ap (gathered board_row_words) split ∙ gathered-append board_row_words (given c.call) (left c'))) ∙ g.words));
      }

  -- before the cursor has moved: what a call gives is a part of what is left
  pub left-part : (c : Cursor) → On y n c → (c.call ≡ 0 → ⊥) → length (entry_departures w x n y stop k t u c.call) ≤ length (left_departures w x y end n from stop k t u c)
  unfolding left_departures left_at gathered
  left-part c o z = rw (borrow.Author.Tests.ne_eqb c.call 0 z) (head c.left (o.more z))
    where
      head : (m : ℕ) → 0 < m → length (entry_departures w x n y stop k t u c.call) ≤ length (gathered (entry_departures w x n y stop k t u) (take m (c.call ∷ Rattle.stop_calls.specs.StopCalls.calls_after w x y end n from stop c.call c.stop)))
      head zero h = absurd (omega arith)
      head (suc m) h = omega (arith, length-append (entry_departures w x n y stop k t u c.call) (gathered (entry_departures w x n y stop k t u) (take m (Rattle.stop_calls.specs.StopCalls.calls_after w x y end n from stop c.call c.stop))))

  module _ (c : Cursor) (o : On y n c) (z : c.call ≡ 0 → ⊥) where
    pub left-fits : (total d m : ℕ) → d ≡ length (entry_departures w x n y stop k t u c.call) → total + length (left_departures w x y end n from stop k t u c) ≡ m → m ≤ most → total + d < 2 ^ 64
    left-fits total d m e h b = omega (arith, e, h, b, left-part c o z)

  pub left-total : (c : Cursor) (total m : ℕ) → c.call ≡ 0 → total + length (left_departures w x y end n from stop k t u c) ≡ m → total ≡ m
  left-total c total m z h = omega (arith, ap length (left-none c z), h)

  pub put_first : (c : Cursor) (l : List ℕ) → On y n c → 4 * length (left_departures w x y end n from stop k t u c) ≤ length l → Putting w x y end n from stop k t u l c l c 0
  put_first c l o h = record { on = o; long = refl; count = omega arith; room = h; words = refl }

  module _ (l₀ : List ℕ) (c₀ : Cursor) (l : List ℕ) (c : Cursor) (to : ℕ) (g : Putting w x y end n from stop k t u l₀ c₀ l c to) where
    pub put-room : (c.call ≡ 0 → ⊥) → to + 4 * length (entry_departures w x n y stop k t u c.call) ≤ length l
    put-room z = omega (arith, g.count, g.room, g.long, left-part c g.on z)

    pub put_on : On y n c
    put_on = g.on

    pub put-within : c.call ≤ entries# n y
    put-within = g.on.call

    pub put-long : length l ≡ length l₀
    put-long = g.long

    pub put_last : c.call ≡ 0 → to ≡ 4 * length (left_departures w x y end n from stop k t u c₀)
    put_last z = omega (arith, g.count, ap length (left-none c z))

    pub put-end : c.call ≡ 0 → l ≡ write l₀ 0 (gathered board_row_words (left_departures w x y end n from stop k t u c₀))
    unfolding gathered
    put-end z = sym (write-none l to) ∙ ap (λ (es : List Departure). write l to (gathered board_row_words es)) (sym (left-none c z)) ∙ g.words

pub ruleset counts = (tests, along-heads, along-ready, along-lent, on-within, on_some, left_less, left-count, left-fits, left-total)

pub ruleset puts = (tests, along-heads, along-ready, along-lent, on_some, left_less, put_first, put-turn, put-room, put_on, put-within, put-long, put_last, put-end)

-- ---- the calls that may give rows

pub one_none : (m : ℕ) → m ≡ 0 → 0 ≡ one_if m
one_none m e = rw e

pub one-some : (m : ℕ) → (m ≡ 0 → ⊥) → 1 ≡ one_if m
one-some m z = rw (borrow.Author.Tests.ne_eqb m 0 z)

pub ruleset ones = (tests, one_none, one-some)

front-more : (l : List ℕ) (m e : ℕ) → m < length l → take (m + 1) (set l m e) ≡ take m l ++ (e ∷ [])
front-more l m e h =
    ap (λ (j : ℕ). take j (set l m e)) (add-one m) ∙ take-suc (set l m e) m 0 (simp length-set h)
    ∙ (λ j. take-set-le m l m e (omega arith) j ++ (get_or-set_same l m e 0 h j ∷ []))

-- the calls behind one that are told to give none are passed over
module _ (w x y : List ℕ) (end n from stop t u : ℕ) (c r : Cursor) where
  pub behind-next : left_at w x y end n from stop c ≡ c.call ∷ left_at w x y end n from stop r → On y n r → Behind w x y end n from stop t u c r
  behind-next q o = record { on = o; rest = λ k. split w x y end n from stop k t u c r q; less = rw q (omega arith) }

  module _ (g : Behind w x y end n from stop t u c r) where
    pub behind-on : On y n r
    behind-on = g.on

    pub behind-within : r.call ≤ entries# n y
    behind-within = g.on.call

    pub behind-less : length (left_at w x y end n from stop r) < length (left_at w x y end n from stop c)
    behind-less = g.less

    pub behind-again : (r' : Cursor) → left_at w x y end n from stop r ≡ r.call ∷ left_at w x y end n from stop r' → On y n r' → (b : Bool) → Calm w x n y t u r.call b → not b ≡ false → Behind w x y end n from stop t u c r'
    behind-again r' q o b f e = record {
      on = o;
      rest = λ k. g.rest k ∙ ap (λ (es : List Departure). entry_departures w x n y stop k t u c.call ++ es) (split w x y end n from stop k t u r r' q ∙ ap (λ (es : List Departure). es ++ left_departures w x y end n from stop k t u r') (f.none (not-false b e) stop k));
      less = omega (arith, g.less, ap length q);
    }

pub ruleset behinds = (tests, along-heads, along-lent, on_some, left_less, behind-next, behind-on, behind-within, behind-again)

module _ (w x y : List ℕ) (end n from stop t u : ℕ) (c₀ : Cursor) (rows : ℕ) where
  pub keep-first : (kept : List ℕ) → On y n c₀ → Keeping w x y end n from stop t u c₀ rows kept c₀ rows 0
  unfolding gathered
  keep-first kept o = record { on = o; within = omega arith; all = λ k. refl; room = λ k. omega arith; each = λ j h. absurd (omega arith) }

  pub keep-many : (kept : List ℕ) → KeptFrom w x y end n from stop t u c₀ rows kept (length kept + 1)
  keep-many kept = record { calls = λ h k. absurd (omega arith); room = λ h k. absurd (omega arith); each = λ h j l. absurd (omega arith) }

  module _ (kept : List ℕ) (c : Cursor) (left m : ℕ) (g : Keeping w x y end n from stop t u c₀ rows kept c left m) where
    pub keep-on : On y n c
    keep-on = g.on

    pub keep-within : c.call ≤ entries# n y
    keep-within = g.on.call

    pub keep-done : c.call ≡ 0 → KeptFrom w x y end n from stop t u c₀ rows kept m
    keep-done z = record {
      calls = λ h k. sym (append-nil (gathered (entry_departures w x n y stop k t u) (take m kept))) ∙ ap (λ (es : List Departure). gathered (entry_departures w x n y stop k t u) (take m kept) ++ es) (sym (left-none w x y end n from stop k t u c z)) ∙ g.all k;
      room = λ h k. omega (arith, g.room k, ap length (left-none w x y end n from stop k t u c z));
      each = λ h. g.each;
    }

    module _ (c' : Cursor) (q : Behind w x y end n from stop t u c c') (most : ℕ) (f : Few w x n y t u c.call most) (a : most ≤ left) (h : m < length kept) (z : c.call ≡ 0 → ⊥) where
      rest : (k : ℕ) → left_departures w x y end n from stop k t u c ≡ entry_departures w x n y stop k t u c.call ++ left_departures w x y end n from stop k t u c'
      rest k = q.rest k

      o : On y n c'
      o = q.on

      lower : (k : ℕ) → length (left_departures w x y end n from stop k t u c₀) + (left - most) ≤ length (left_departures w x y end n from stop k t u c') + rows
      lower k = omega (arith, g.room k, ap length (rest k), length-append (entry_departures w x n y stop k t u c.call) (left_departures w x y end n from stop k t u c'), f.few stop k)

      kept-before : (j : ℕ) → j < m → Entry n y (get_or (set kept m c.call) j 0)
      kept-before j l = rw (get_or-set_other kept m j c.call 0 (λ d. absurd (omega (arith, d)))) (g.each j l)

      kept-each : (j : ℕ) → j < m + 1 → Entry n y (get_or (set kept m c.call) j 0)
      kept-each j l = ⊎_elim at-m before-m (eq-or-lt_of_le (let d : j ≤ m = omega arith in d))
        where
          at-m : j ≡ m → Entry n y (get_or (set kept m c.call) j 0)
          at-m d = rw (d, get_or-set_same kept m c.call 0 h) ((on_some c.call z, g.on.call))

          before-m : j < m → Entry n y (get_or (set kept m c.call) j 0)
          before-m d = kept-before j d

      pub keep_same : most ≡ 0 → Keeping w x y end n from stop t u c₀ rows (set kept m c.call) c' (left - most) (m + 0)
      keep_same e =
          let d : m + 0 ≡ m = omega arith in
          rw d
          (record {
            on = o;
            within = simp length-set (omega arith);
            all = λ k.
                let none : entry_departures w x n y stop k t u c.call ≡ [] = none-long (entry_departures w x n y stop k t u c.call) (omega (arith, f.few stop k, e)) in
                (λ j. gathered (entry_departures w x n y stop k t u) (take-set-le m kept m c.call (omega arith) j) ++ left_departures w x y end n from stop k t u c')
                ∙ ap (λ (es : List Departure). gathered (entry_departures w x n y stop k t u) (take m kept) ++ es) (sym (rest k ∙ ap (λ (es : List Departure). es ++ left_departures w x y end n from stop k t u c') none)) ∙ g.all k;
            room = lower;
            each = kept-before;
          })

      pub keep-more : Keeping w x y end n from stop t u c₀ rows (set kept m c.call) c' (left - most) (m + 1)
      unfolding gathered
      keep-more = record {
        on = o;
        within = simp length-set (omega arith);
        all = λ k.
            (λ j. gathered (entry_departures w x n y stop k t u) (front-more kept m c.call h j) ++ left_departures w x y end n from stop k t u c')
            ∙ ap (λ (es : List Departure). es ++ left_departures w x y end n from stop k t u c') (gathered-append (entry_departures w x n y stop k t u) (take m kept) (c.call ∷ []))
            ∙ append_assoc (gathered (entry_departures w x n y stop k t u) (take m kept)) (entry_departures w x n y stop k t u c.call ++ []) (left_departures w x y end n from stop k t u c')
            ∙ ap (λ (es : List Departure). gathered (entry_departures w x n y stop k t u) (take m kept) ++ (es ++ left_departures w x y end n from stop k t u c')) (append-nil (entry_departures w x n y stop k t u c.call))
            ∙ ap (λ (es : List Departure). gathered (entry_departures w x n y stop k t u) (take m kept) ++ es) (sym (rest k)) ∙ g.all k;
        room = lower;
        each = kept-each;
      }

      pub keep-turn : (i : ℕ) → i ≡ one_if most → Keeping w x y end n from stop t u c₀ rows (set kept m c.call) c' (left - most) (m + i)
      keep-turn i e = go (eqb most 0) refl e
        where
          go : (b : Bool) → eqb most 0 ≡ b → i ≡ cond b 0 1 → Keeping w x y end n from stop t u c₀ rows (set kept m c.call) c' (left - most) (m + i)
          go true d e = rw e (keep_same (eqb-true most 0 d))
          go false d e = rw e keep-more

pub ruleset keeps = (tests, on_some, behind-less, along-heads, keep-first, keep-many, keep-on, keep-within, keep-done, keep-turn)

-- ---- written by the calls kept

module _ (w x y : List ℕ) (stop k t u : ℕ) (kept : List ℕ) (m : ℕ) (h : Told w x y stop k t u kept m) where
  abbrev kept_gives : ℕ → List Departure
  kept_gives e = entry_departures w x (stops# w) y stop k t u e

  abbrev later : ℕ → List Departure
  later j = gathered (entry_departures w x (stops# w) y stop k t u) (drop j (take m kept))

  front_long : length (take m kept) ≡ m
  front_long = length-take-le m kept h.within

  pub told-first : (l : List ℕ) → PuttingKept w x y stop k t u kept m l l 0 0
  told-first l = record { long = refl; few = omega arith; count = omega (arith, ap length h.calls); words = ap (λ (es : List Departure). write l 0 (gathered board_row_words es)) h.calls }

  pub told-inside : (j : ℕ) → j < m → j < length kept
  told-inside j l = omega (arith, h.within)

  pub told-some : (j : ℕ) → j < m → 0 < get_or kept j 0
  told-some j l = (h.each j l).0

  pub told-low : (j : ℕ) → j < m → get_or kept j 0 ≤ entries# (stops# w) y
  told-low j l = (h.each j l).1

  module _ (l₀ l : List ℕ) (j to : ℕ) (g : PuttingKept w x y stop k t u kept m l₀ l j to) where
    pub told-long : length l ≡ length l₀
    told-long = g.long

    pub told-last : m ≤ j → to / 4 ≡ length (departures_by w x y stop k t u)
    unfolding gathered
    told-last a =
        let none : drop j (take m kept) ≡ [] = drop_of_length-le (take m kept) {i = j} (omega (arith, front_long)) in
        let z : length (later j) ≡ 0 = ap (λ (r : List ℕ). length (gathered (entry_departures w x (stops# w) y stop k t u) r)) none in
        omega (arith, g.count, z)

    pub told-end : m ≤ j → l ≡ write l₀ 0 (gathered board_row_words (departures_by w x y stop k t u))
    unfolding gathered
    told-end a =
        let none : drop j (take m kept) ≡ [] = drop_of_length-le (take m kept) {i = j} (omega (arith, front_long)) in
        sym (write-none l to) ∙ ap (λ (r : List ℕ). write l to (gathered board_row_words (gathered (entry_departures w x (stops# w) y stop k t u) r))) (sym none) ∙ g.words

    module _ (a : j < m) (b : 4 * length (departures_by w x y stop k t u) ≤ length l₀) where
      next : later j ≡ kept_gives (get_or kept j 0) ++ later (j + 1)
      unfolding gathered
      next =
          ap (gathered (entry_departures w x (stops# w) y stop k t u))
          (drop-cons (take m kept) j 0 (omega (arith, front_long)) ∙ (λ i. get_or-take m kept j 0 a i ∷ drop (sym (add-one j) i) (take m kept)))

      kept-long : length (later j) ≡ length (kept_gives (get_or kept j 0)) + length (later (j + 1))
      kept-long = ap length next ∙ length-append (kept_gives (get_or kept j 0)) (later (j + 1))

      pub told-room : to + 4 * length (entry_departures w x (stops# w) y stop k t u (get_or kept j 0)) ≤ length l
      told-room = omega (arith, kept-long, g.count, g.long)

      pub told-turn : (l' : List ℕ) (to' : ℕ) → l' ≡ write l to (gathered board_row_words (entry_departures w x (stops# w) y stop k t u (get_or kept j 0))) → to' ≡ to + 4 * length (entry_departures w x (stops# w) y stop k t u (get_or kept j 0))
          → PuttingKept w x y stop k t u kept m l₀ l' (j + 1) to'
      told-turn l' to' d e = record {
        long = ap length d ∙ length-write l to (gathered board_row_words (kept_gives (get_or kept j 0))) (omega (arith, told-room, words_long (kept_gives (get_or kept j 0)))) ∙ g.long;
        few = omega arith;
        count = omega (arith, kept-long, e, g.count);
        words =
            rw e
            (write-turn l l' (write l₀ 0 (gathered board_row_words (departures_by w x y stop k t u))) to (4 * length (kept_gives (get_or kept j 0))) (gathered board_row_words (kept_gives (get_or kept j 0))) (gathered board_row_words (later (j + 1))) d (words_long (kept_gives (get_or kept j 0))) told-room
            (ap (write l to) (sym (ap (gathered board_row_words) next ∙ gathered-append board_row_words (kept_gives (get_or kept j 0)) (later (j + 1)))) ∙ g.words));
      }

-- ---- the stop section, and the whole; b is the number of bit fields, s that of stops

module _ (w : List ℕ) (h : header_sound w ≡ true) where
  ends-in : section_end (stop_section w) ≤ length w
  ends-in = omega (arith, sections-fit w h)

  pub head-there : (i : ℕ) → i < 9 → i < length w
  head-there i l = header-word w h i l

  module _ (b : ℕ) (p : b ≡ get_or w 3 0) where
    pub end-times : length w < 2 ^ 64 → 13 * b < 2 ^ 64
    end-times l = omega (arith, p, ends-in)

    pub end-sum : length w < 2 ^ 64 → 9 + 13 * b < 2 ^ 64
    end-sum l = omega (arith, p, ends-in)

    pub from-times : length w < 2 ^ 64 → 2 * b < 2 ^ 64
    from-times l = omega (arith, p, ends-in)

    pub end-stops : (s : ℕ) → s ≡ get_or w 4 0 → length w < 2 ^ 64 → 3 * s < 2 ^ 64
    end-stops s q l = omega (arith, q, ends-in)

    pub end_whole : (s : ℕ) → s ≡ get_or w 4 0 → length w < 2 ^ 64 → 9 + 13 * b + 3 * s < 2 ^ 64
    end_whole s q l = omega (arith, p, q, ends-in)

pub end_is : (w : List ℕ) (b s : ℕ) → b ≡ get_or w 3 0 → s ≡ get_or w 4 0 → 9 + 13 * b + 3 * s ≡ section_end (stop_section w)
end_is w b s p q = rw (p, q)

pub from_is : (w : List ℕ) (b : ℕ) → b ≡ get_or w 3 0 → 2 * b ≡ stops_from w
from_is w b p = rw p

pub ruleset section = (tests, head-there, end-times, end-sum, from-times, end-stops, end_whole, end_is, from_is)

module _ (w x y : List ℕ) (l : Lends w x y) where
  pub lends-head : header_sound w ≡ true
  lends-head = l.ready.head

  pub lends-word : (i : ℕ) → i < 9 → i < length w
  lends-word i h = header-word w l.ready.head i h

  pub lends-shelved : (places : ℕ) → places ≡ services_from w → Shelved w x places
  lends-shelved places e = record { ready = l.ready; long = l.long; from = e }

  pub lends_some : (m : ℕ) → m ≡ get_or w 0 0 → 0 < m
  lends_some m e = omega (arith, e, (header-says w l.ready.head).used_low)

  module _ (end s from : ℕ) (a : end ≡ section_end (stop_section w)) (b : s ≡ get_or w 4 0) (d : from ≡ stops_from w) where
    pub lends-lent : Lent w x y end s from
    lends-lent = record {
      records = record { some = omega arith; room = rw (a, b) (omega arith); within = rw a (ends-in w l.ready.head) };
      chains = rw (d, b) (omega (arith, l.long));
      heads = rw b l.heads;
    }

    pub lends-along : Along w x y end s from
    lends-along = record { ready = l.ready; lent = lends-lent }

  pub lends-ready : Ready w x
  lends-ready = l.ready

  pub lends-heads : stops# w ≤ length y
  lends-heads = l.heads

pub ruleset tolds = (tests, lends-head, lends-word, lends-shelved, lends-heads, told-first, told-inside, told-some, told-low, told-long, told-last, told-end, told-room, told-turn)

module _ (w x y : List ℕ) (end s from n k t u : ℕ) (c : Cursor) (a : end ≡ section_end (stop_section w)) (b : s ≡ get_or w 4 0) (d : from ≡ stops_from w)
    (m : ℕ) (z : m ≡ get_or w 0 0) (q : left_at w x y end s from n c ≡ take m (calls_by w x y end s from n)) where
  pub whole_is : left_departures w x y end s from n k t u c ≡ departures_by w x y n k t u
  unfolding left_departures departures_by
  whole_is = ap (gathered (entry_departures w x s y n k t u)) q ∙ rw (z, a, b, d)

  pub whole-few : m < 4294967296 → length (left_departures w x y end s from n k t u c) ≤ most
  unfolding left_departures entry_departures
  whole-few h =
      let j : length (left_at w x y end s from n c) ≤ 4294967296 = omega (arith, ap length q, length-take m (calls_by w x y end s from n), h) in
      let o : most_runs ≤ most_runs = omega arith in
      let p : most_runs * length (left_at w x y end s from n c) ≤ most_runs * 4294967296 = mul-le-mul o j in
      omega (arith, p, gathered-few (entry_departures w x s y n k t u) most_runs few (left_at w x y end s from n c))
    where
      few : (e : ℕ) → length (entry_departures w x s y n k t u e) ≤ most_runs
      few e = call-few (steady_in s y) w x n k t u (entry_word s y 1 e) (entry_word s y 3 e)

  pub whole-count : (r : ℕ) → r ≡ length (left_departures w x y end s from n k t u c) → r ≡ length (departures_by w x y n k t u)
  whole-count r e = e ∙ ap length whole_is

  pub whole-rows : (r : ℕ) → r ≡ 4 * length (left_departures w x y end s from n k t u c) → r / 4 ≡ length (departures_by w x y n k t u)
  whole-rows r e = omega (arith, e, ap length whole_is)

  pub whole-low : (r : ℕ) → m < 4294967296 → r ≡ length (left_departures w x y end s from n k t u c) → r ≤ most
  whole-low r h e = rw e (whole-few h)

  pub whole_room : (l : List ℕ) → 4 * length (departures_by w x y n k t u) ≤ length l → 4 * length (left_departures w x y end s from n k t u c) ≤ length l
  whole_room l h = rw whole_is h

  pub whole_words : (l l' : List ℕ) → l' ≡ write l 0 (gathered board_row_words (left_departures w x y end s from n k t u c)) → l' ≡ write l 0 (gathered board_row_words (departures_by w x y n k t u))
  whole_words l l' e = e ∙ ap (λ (es : List Departure). write l 0 (gathered board_row_words es)) whole_is

pub whole-kept : (w x y : List ℕ) (end s from n t u : ℕ) (c : Cursor) → end ≡ section_end (stop_section w) → s ≡ get_or w 4 0 → from ≡ stops_from w → (m : ℕ) → m ≡ get_or w 0 0
    → left_at w x y end s from n c ≡ take m (calls_by w x y end s from n) → (rows : ℕ) (kept : List ℕ) (r : ℕ) → KeptFrom w x y end s from n t u c rows kept r → Kept w x y n t u rows kept r
whole-kept w x y end s from n t u c a b d m z q rows kept r g = record {
  calls = λ h k. ap (λ (s : ℕ). gathered (entry_departures w x s y n k t u) (take r kept)) (sym b) ∙ g.calls h k ∙ whole_is w x y end s from n k t u c a b d m z q;
  room = λ h k. omega (arith, g.room h k, ap length (whole_is w x y end s from n k t u c a b d m z q));
  each = λ h j l. rw b at (g.each h j l);
}

pub ruleset wholes = (tests, lends-head, lends-word, lends-shelved, lends_some, lends-lent, lends-along, whole-few, whole-count, whole-low, whole_room, whole-rows, whole_words, whole-kept)

-- ---- the board

module _ (w x y l kept : List ℕ) (n k t u m : ℕ) (g : Kept w x y n t u (length l / 4) kept m) (h : m ≤ length kept) where
  pub board-enough : 4 * length (departures_by w x y n k t u) ≤ length l
  board-enough = omega (arith, g.room h k)

  pub board-told : Told w x y n k t u kept m
  board-told = record { within = h; calls = g.calls h k; each = g.each h }

module _ (w x y : List ℕ) (n k t u m : ℕ) (e : m ≡ length (departures_by w x y n k t u)) where
  board-long : length (board_by w x y n k t u) ≡ m
  unfolding board_by
  board-long = length-sorted not_after (departures_by w x y n k t u) ∙ sym e

  pub board-fits : m ≤ most → 4 * m < 2 ^ 64
  board-fits h = omega arith

  module _ (l : List ℕ) where
    pub board-short : length l < 4 * m → Refused 29 (4 * m) ≡ boarded_by (board (board_by w x y n k t u)) (length l)
    board-short h = rw (board-long, lt-ltb (length l) (4 * m) h)

    pub board-stays : length l < 4 * m → l ≡ board_into (board (board_by w x y n k t u)) l
    board-stays h = rw (board-long, lt-ltb (length l) (4 * m) h)

    pub board-room : 4 * m ≤ length l → 4 * length (departures_by w x y n k t u) ≤ length l
    board-room h = rw e at h

    module _ (h : 4 * length (departures_by w x y n k t u) ≤ length l) where
      has : 4 * m ≤ length l
      has = rw e h

      pub board-listed : Listed m ≡ boarded_by (board (board_by w x y n k t u)) (length l)
      board-listed = rw (board-long, le-ltb (length l) (4 * m) has)

      module _ (l' : List ℕ) (p : l' ≡ write l 0 (gathered board_row_words (departures_by w x y n k t u))) where
        pub board-sortable : 4 * m ≤ length l'
        board-sortable = omega (arith, has, ap length p, length-write l 0 (gathered board_row_words (departures_by w x y n k t u)) (omega (arith, h, words_long (departures_by w x y n k t u))))

        pub board-sorted : (l'' : List ℕ) → l'' ≡ in_order m l' → l'' ≡ board_into (board (board_by w x y n k t u)) l
        unfolding board_by onto
        board-sorted l'' q =
            written-sorted l l' l'' (departures_by w x y n k t u) m e p q
            ∙ write-front l (gathered board_row_words (sorted_rows (departures_by w x y n k t u)))
            ∙ sym (rw (length-sorted not_after (departures_by w x y n k t u), ← e, le-ltb (length l) (4 * m) has))

pub ruleset lists = (tests, board-enough, board-told)

pub ruleset counted = (tests, board-fits, board-short, board-stays, board-room)

pub ruleset alls = (tests, board-listed, board-sortable, board-sorted)
