-- The needs of the functions of src: each value that code computed stands with its equation. Assumes nothing.
use mathlib.Core.Path.{◌≡◌, refl, ap, ◌∙◌, sym}
use mathlib.Core.List.{List}
use mathlib.Core.Bool.{Bool, true, false, cond, not}
use Prim.Native.Nat.{ℕ, ◌+◌, ◌-◌, ◌*◌, ◌^◌, ◌≤◌, ◌<◌}
use native.Mathlib.Nat.{sub-zero}
use native.Mathlib.Omega.{arith}
use lib.ListN.{length, get_or, take, drop, length-append, length-drop}
use lib.Seq.{take_at, drop_at, get_or-take, length-take-le}
use lib.Dec.{leb}
use borrow.Author.Tests.{not-true, not-false, leb-true}
use Rattle.std.specs.Prelude.{Option, Some, None, Ok, Result, Err, ⊤}
use Rattle.base.proofs.Laws.{tests, apart}
use Rattle.base.proofs.Loops.{and-true}
use Rattle.timetable.specs.Questions.{date_of}
use Rattle.timetable.specs.Table.{used_words, stops#, services#, used, table_of, is_table}
use Rattle.timetable.specs.View.{View, view_of}
use Rattle.timetable.specs.Refusals.{number_of}
use Rattle.timetable.specs.declared.refusal.Refusal.{Refusal}
use Rattle.timetable.specs.declared.refusal.Refusal.TheVariants.{NoTable, NotItsIndex}
use Rattle.table.specs.JustTable.{JustTable, header_sound}
use Rattle.table.proofs.Says.{table-says}
use Rattle.table.specs.Steady.{steady, look_by}
use Rattle.table.proofs.Records.{rest_from, look-table, look-no-table}
use Rattle.table.proofs.JustTable.{just-header, used-just}
use Rattle.chain_check.specs.Tally.{same}
use Rattle.chain_check.proofs.Needs.{same-is}
use Rattle.index.specs.Index.{index_size, index_of, headed, view_in}
use Rattle.index.specs.Inner.Ready.{Ready}
use Rattle.index.specs.Quick.{index_long, lookups_of, quick_refusal}
use Rattle.index.proofs.Agrees.{view-plain}
use Rattle.index.proofs.Shows.{day-low}
use Rattle.index.proofs.Quick.{asked-refused, asked-on, quick-headed, quick-head, quick-long, quick-ready, length-index}
use Rattle.whole_index.specs.Whole.{marked_calls, marked_size, whole_index_of}
use Rattle.whole_index.proofs.Whole.{marked-long}
use Rattle.whole_index.proofs.Answers.{is-steady}
use Rattle.board.specs.Board.{board_of}
use Rattle.board.specs.Question.{BoardFound, refused, board, board_on, board_in, board_asked, boarded_by, board_into}
use Rattle.board.specs.declared.BoardAnswer.{BoardAnswer}
use Rattle.board.specs.declared.BoardAnswer.TheVariants.{Refused}
use Rattle.boards.specs.ByWords.{board_by, Lends}
use Rattle.board_agrees.proofs.Own.{own-marked}
use Rattle.board_questions.specs.Quick.{board_by_day, board_by_words, calls_part, board_quick}

-- ---- any words

module _ (w x : List ℕ) (n day month year t u : ℕ) where
  abbrev own : Bool
  own = same x (whole_index_of (used w))

  abbrev plain : BoardFound
  plain = board_asked w (same x (whole_index_of (used w))) n day month year t u

  module _ (l : Option Bool) (e : l ≡ look_by (is_table w) (steady w)) where
    no_table : l ≡ None → board_asked w (same x (whole_index_of (used w))) n day month year t u ≡ refused NoTable
    unfolding board_asked
    no_table o = sym (asked-refused w (is_table w) refl refused (λ (v : View). board_in v (services# w) (same x (whole_index_of (used w))) n day month year t u) (ap not (look-no-table w l e o)))

    pub plain-refused : (m : ℕ) → l ≡ None → Refused 21 0 ≡ boarded_by (board_asked w (same x (whole_index_of (used w))) n day month year t u) m
    plain-refused m o = rw (no_table o)

    pub plain-stays : (rows : List ℕ) → l ≡ None → rows ≡ board_into (board_asked w (same x (whole_index_of (used w))) n day month year t u) rows
    plain-stays rows o = rw (no_table o)

    module _ (s : Bool) (o : l ≡ Some s) (v : List ℕ) (p : v ≡ used w) (z : List ℕ) (q : length z ≡ 0) where
      pub plain-just : JustTable v
      plain-just = rw p (used-just w (look-table w l e s o))

      services-same : services# v ≡ services# w
      services-same = ap (λ (s : List ℕ). get_or s 6 0) p ∙ get_or-take (used_words w) w 6 0 (omega (arith, (table-says w (look-table w l e s o)).used_low))

      plain-is : board_in (view_in v z) (services# v) (same x (whole_index_of v)) n day month year t u ≡ board_asked w (same x (whole_index_of (used w))) n day month year t u
      unfolding board_asked
      plain-is =
          ap (λ (s : ℕ). board_in (view_in v z) s (same x (whole_index_of v)) n day month year t u) services-same
          ∙ ap (λ (s : List ℕ). board_in (view_in v z) (services# w) (same x (whole_index_of s)) n day month year t u) p
          ∙ asked-on w (is_table w) refl (ap not (look-table w l e s o)) v p z q refused (λ (v : View). board_in v (services# w) (same x (whole_index_of (used w))) n day month year t u)

      pub plain-answer : (r : BoardAnswer) (m : ℕ) → r ≡ boarded_by (board_in (view_in v z) (services# v) (same x (whole_index_of v)) n day month year t u) m → r ≡ boarded_by (board_asked w (same x (whole_index_of (used w))) n day month year t u) m
      plain-answer r m g = g ∙ ap (λ (f : BoardFound). boarded_by f m) plain-is

      pub plain_rows : (l l' : List ℕ) → l' ≡ board_into (board_in (view_in v z) (services# v) (same x (whole_index_of v)) n day month year t u) l → l' ≡ board_into (board_asked w (same x (whole_index_of (used w))) n day month year t u) l
      plain_rows l l' g = g ∙ ap (λ (f : BoardFound). board_into f l) plain-is

pub ruleset plains = (tests, is-steady, look-table, plain-refused, plain-stays, plain-just, plain-answer, plain_rows)

-- ---- the date

pub just-ready : (w z : List ℕ) → JustTable w → length z ≡ 0 → Ready w z
just-ready w z h q = record { head = just-header w h; ends = h.ends; sized = λ k. absurd (k q) }

module _ (w z : List ℕ) (services : ℕ) (own : Bool) (n day month year t u : ℕ) (on : Result ℕ Refusal) (e : on ≡ date_of (view_in w z) day month year) where
  module _ (refusal : Refusal) (g : on ≡ Err refusal) where
    undated-is : board_in (view_in w z) services own n day month year t u ≡ refused refusal
    unfolding board_in
    undated-is = ap (board_on (view_in w z) services own n t u) (sym e ∙ g)

    pub date-refused : (number : ℕ) → number ≡ number_of refusal → (m : ℕ) → Refused number 0 ≡ boarded_by (board_in (view_in w z) services own n day month year t u) m
    date-refused number q m = rw (q, undated-is)

    pub date-stays : (l : List ℕ) → l ≡ board_into (board_in (view_in w z) services own n day month year t u) l
    date-stays l = rw undated-is

  module _ (k : ℕ) (g : on ≡ Ok k) where
    dated-is : board_on (view_in w z) services own n t u (Ok k) ≡ board_in (view_in w z) services own n day month year t u
    unfolding board_in
    dated-is = sym (ap (board_on (view_in w z) services own n t u) (sym e ∙ g))

    pub date-answer : (r : BoardAnswer) (m : ℕ) → r ≡ boarded_by (board_on (view_in w z) services own n t u (Ok k)) m → r ≡ boarded_by (board_in (view_in w z) services own n day month year t u) m
    date-answer r m q = q ∙ ap (λ (f : BoardFound). boarded_by f m) dated-is

    pub date-rows : (l l' : List ℕ) → l' ≡ board_into (board_on (view_in w z) services own n t u (Ok k)) l → l' ≡ board_into (board_in (view_in w z) services own n day month year t u) l
    date-rows l l' q = q ∙ ap (λ (f : BoardFound). board_into f l) dated-is

pub ruleset dates = (tests, just-ready, day-low, date-refused, date-stays, date-answer, date-rows)

-- ---- 27 and 43

module _ (w z x : List ℕ) (n k t u : ℕ) where
  abbrev asks : BoardFound
  asks = board_on (view_in w z) (services# w) (same x (whole_index_of w)) n t u (Ok k)

  module _ (b : Bool) (e : b ≡ (view_in w z).stop n) where
    pub stop-refused : (m : ℕ) → not b ≡ true → Refused 27 0 ≡ boarded_by (board_on (view_in w z) (services# w) (same x (whole_index_of w)) n t u (Ok k)) m
    stop-refused m o = rw (← e, not-true b o)

    pub stop-stays : (l : List ℕ) → not b ≡ true → l ≡ board_into (board_on (view_in w z) (services# w) (same x (whole_index_of w)) n t u (Ok k)) l
    stop-stays l o = rw (← e, not-true b o)

    module _ (o : not b ≡ false) (c : Bool) (d : c ≡ same x (whole_index_of w)) where
      pub index-refused : (m : ℕ) → not c ≡ true → Refused 43 0 ≡ boarded_by (board_on (view_in w z) (services# w) (same x (whole_index_of w)) n t u (Ok k)) m
      index-refused m s = rw (← e, not-false b o, ← d, not-true c s)

      pub index_stays : (l : List ℕ) → not c ≡ true → l ≡ board_into (board_on (view_in w z) (services# w) (same x (whole_index_of w)) n t u (Ok k)) l
      index_stays l s = rw (← e, not-false b o, ← d, not-true c s)

      module _ (h : JustTable w) (q : length z ≡ 0) (s : not c ≡ false) where
        is : board (board_of (view_of (table_of w)) (services# w) n k t u) ≡ board_on (view_in w z) (services# w) (same x (whole_index_of w)) n t u (Ok k)
        is = rw (← e, not-false b o, ← d, not-false c s) (ap (λ (v : View). board (board_of v (services# w) n k t u)) (sym (view-plain w z h q)))

        pub index-answer : (r : BoardAnswer) (m : ℕ) → r ≡ boarded_by (board (board_of (view_of (table_of w)) (services# w) n k t u)) m → r ≡ boarded_by (board_on (view_in w z) (services# w) (same x (whole_index_of w)) n t u (Ok k)) m
        index-answer r m g = g ∙ ap (λ (f : BoardFound). boarded_by f m) is

        pub index-rows : (l l' : List ℕ) → l' ≡ board_into (board (board_of (view_of (table_of w)) (services# w) n k t u)) l → l' ≡ board_into (board_on (view_in w z) (services# w) (same x (whole_index_of w)) n t u (Ok k)) l
        index-rows l l' g = g ∙ ap (λ (f : BoardFound). board_into f l) is

pub index-own : (w x : List ℕ) (c : Bool) → c ≡ same x (whole_index_of w) → not c ≡ false → x ≡ whole_index_of w
index-own w x c e o = same-is x (whole_index_of w) (sym e ∙ not-false c o)

pub ruleset stops = (tests, just-ready, stop-refused, stop-stays, index-refused, index_stays, index-own, index-answer, index-rows)

-- ---- the two parts of an index; a is where the calls begin

module _ (w x : List ℕ) (h : JustTable w) (e : x ≡ whole_index_of w) where
  first_part : take (index_size w) x ≡ index_of w
  unfolding whole_index_of
  first_part = ap (take (index_size w)) e ∙ take_at (index_of w) (marked_calls w) (index_size w) (length-index w)

  last-part : drop (index_size w) x ≡ marked_calls w
  unfolding whole_index_of
  last-part = ap (drop (index_size w)) e ∙ drop_at (index_of w) (marked_calls w) (index_size w) (length-index w)

  whole_long : length x ≡ index_size w + marked_size w
  unfolding whole_index_of
  whole_long = ap length e ∙ length-append (index_of w) (marked_calls w) ∙ omega (arith, length-index w, marked-long w)

  pub just-head : header_sound w ≡ true
  just-head = just-header w h

  module _ (a : ℕ) (q : a ≡ index_size w) where
    pub part-within : a ≤ length x
    part-within = omega (arith, q, whole_long)

    pub part-scaled : length x * 4 < 2 ^ 63 → a * 4 < 2 ^ 64
    part-scaled l = omega (arith, part-within)

    module _ (p y : List ℕ) (f : p ≡ take (a - 0) x) (g : y ≡ take (length x - a) (drop a x)) where
      is-first : p ≡ index_of w
      is-first = f ∙ rw (sub-zero a, q) first_part

      is_last : y ≡ marked_calls w
      is_last = g ∙ rest_from x a a refl ∙ rw q last-part

      pub own-lends : Lends w p y
      own-lends = record {
        ready = record { head = just-header w h; ends = h.ends; sized = λ o. ap length is-first ∙ length-index w };
        long = ap length is-first ∙ length-index w;
        heads = omega (arith, ap length is_last, marked-long w);
      }

      module _ (n k t u : ℕ) where
        pub own-answer : (r : BoardAnswer) (m : ℕ) → r ≡ boarded_by (board (board_by w p y n k t u)) m → r ≡ boarded_by (board (board_of (view_of (table_of w)) (services# w) n k t u)) m
        own-answer r m s = s ∙ ap (λ (es : List _). boarded_by (board es) m) (own-marked w p y h is-first is_last n k t u)

        pub own-rows : (l l' : List ℕ) → l' ≡ board_into (board (board_by w p y n k t u)) l → l' ≡ board_into (board (board_of (view_of (table_of w)) (services# w) n k t u)) l
        own-rows l l' s = s ∙ ap (λ (es : List _). board_into (board es) l) (own-marked w p y h is-first is_last n k t u)

pub ruleset owns = (tests, just-head, part-within, part-scaled, own-lends, own-answer, own-rows)

-- ---- the quick board

module _ (w x : List ℕ) (n day month year t u : ℕ) (m : Result ⊤ Refusal) (e : m ≡ quick_refusal w (length x)) where
  module _ (refusal : Refusal) (z : m ≡ Err refusal) where
    refuses : board_quick w x n day month year t u ≡ refused refusal
    unfolding board_quick
    refuses = go (headed w) (index_long (used w) (length x)) refl refl
      where
        go : (a b : Bool) → headed w ≡ a → index_long (used w) (length x) ≡ b
            → cond a (cond b (board_by_words (used w) (lookups_of (used w) x) (calls_part (used w) x) n day month year t u) (refused NotItsIndex)) (refused NoTable) ≡ refused refusal
        go false b p q =
            let o : ◌≡◌ {A = Result ⊤ Refusal} (Err NoTable) (Err refusal) = sym (e ∙ rw p) ∙ z in
            let y : ◌≡◌ {A = Refusal} NoTable refusal = cc in
            ap refused y
        go true false p q =
            let o : ◌≡◌ {A = Result ⊤ Refusal} (Err NotItsIndex) (Err refusal) = sym (e ∙ rw (p, q)) ∙ z in
            let y : ◌≡◌ {A = Refusal} NotItsIndex refusal = cc in
            ap refused y
        go true true p q =
            let o : ◌≡◌ {A = Result ⊤ Refusal} (Ok tt) (Err refusal) = sym (e ∙ rw (p, q)) ∙ z in
            apart (cc)

    pub quick-refused : (number : ℕ) → number ≡ number_of refusal → (r : ℕ) → Refused number 0 ≡ boarded_by (board_quick w x n day month year t u) r
    quick-refused number q r = rw (q, refuses)

    pub quick-stays : (l : List ℕ) → l ≡ board_into (board_quick w x n day month year t u) l
    quick-stays l = rw refuses

  module _ (z : m ≡ Ok tt) (v : List ℕ) (p : v ≡ used w) (a y : List ℕ) (f : a ≡ lookups_of v x) (g : y ≡ calls_part v x) where
    pub quick-lends : Lends v a y
    quick-lends =
        let l : index_size v + stops# v ≤ length x = leb-true (index_size v + stops# v) (length x) (and-true (leb (index_size v + stops# v) (length x)) _ (quick-long w x m e tt z v p)).0 in
        record {
          ready = quick-ready w x m e tt z v p a f;
          long = ap length f ∙ length-take-le (index_size v) x (omega (arith, l));
          heads = omega (arith, l, ap length g, length-drop (index_size v) x);
        }

    quick-is : board_by_words v a y n day month year t u ≡ board_quick w x n day month year t u
    unfolding board_quick
    quick-is = rw (quick-headed w x m e tt z, rw p at (quick-long w x m e tt z v p), f, g, p)

    pub quick-answer : (r : BoardAnswer) (k : ℕ) → r ≡ boarded_by (board_by_words v a y n day month year t u) k → r ≡ boarded_by (board_quick w x n day month year t u) k
    quick-answer r k s = s ∙ ap (λ (f : BoardFound). boarded_by f k) quick-is

    pub quick-rows : (l l' : List ℕ) → l' ≡ board_into (board_by_words v a y n day month year t u) l → l' ≡ board_into (board_quick w x n day month year t u) l
    quick-rows l l' s = s ∙ ap (λ (f : BoardFound). board_into f l) quick-is

pub ruleset quicks = (tests, quick-headed, quick-head, quick-long, quick-refused, quick-stays, quick-lends, quick-answer, quick-rows)

pub calls-within : (w x : List ℕ) (a : ℕ) → index_long w (length x) ≡ true → a ≡ index_size w → a ≤ length x
calls-within w x a l q = omega (arith, q, leb-true (index_size w + stops# w) (length x) (and-true (leb (index_size w + stops# w) (length x)) _ l).0)

pub calls-scaled : (w x : List ℕ) (a : ℕ) → index_long w (length x) ≡ true → a ≡ index_size w → length x * 4 < 2 ^ 63 → a * 4 < 2 ^ 64
calls-scaled w x a l q m = omega (arith, calls-within w x a l q)

pub calls_is : (w x : List ℕ) (a : ℕ) → a ≡ index_size w → take (length x - a) (drop a x) ≡ calls_part w x
calls_is w x a q = rest_from x a a refl ∙ rw q refl

pub ruleset parts = (tests, calls-within, calls-scaled, calls_is)

pub lends-ready : (w x y : List ℕ) → Lends w x y → Ready w x
lends-ready w x y l = l.ready

module _ (w x y : List ℕ) (n day month year t u : ℕ) (on : Result ℕ Refusal) (e : on ≡ date_of (view_in w x) day month year) where
  module _ (refusal : Refusal) (g : on ≡ Err refusal) where
    by-undated : board_by_words w x y n day month year t u ≡ refused refusal
    unfolding board_by_words
    by-undated = ap (board_by_day w x y n t u) (sym e ∙ g)

    pub by-refused : (number : ℕ) → number ≡ number_of refusal → (m : ℕ) → Refused number 0 ≡ boarded_by (board_by_words w x y n day month year t u) m
    by-refused number q m = rw (q, by-undated)

    pub by-stays : (l : List ℕ) → l ≡ board_into (board_by_words w x y n day month year t u) l
    by-stays l = rw by-undated

  module _ (k : ℕ) (g : on ≡ Ok k) where
    by-dated : board_by_day w x y n t u (Ok k) ≡ board_by_words w x y n day month year t u
    unfolding board_by_words
    by-dated = sym (ap (board_by_day w x y n t u) (sym e ∙ g))

    pub by_answer : (r : BoardAnswer) (m : ℕ) → r ≡ boarded_by (board_by_day w x y n t u (Ok k)) m → r ≡ boarded_by (board_by_words w x y n day month year t u) m
    by_answer r m q = q ∙ ap (λ (f : BoardFound). boarded_by f m) by-dated

    pub by_rows : (l l' : List ℕ) → l' ≡ board_into (board_by_day w x y n t u (Ok k)) l → l' ≡ board_into (board_by_words w x y n day month year t u) l
    by_rows l l' q = q ∙ ap (λ (f : BoardFound). board_into f l) by-dated

pub ruleset bys = (tests, lends-ready, day-low, by-refused, by-stays, by_answer, by_rows)

module _ (w x y : List ℕ) (n k t u : ℕ) (b : Bool) (e : b ≡ (view_in w x).stop n) where
  pub on-refused : (m : ℕ) → not b ≡ true → Refused 27 0 ≡ boarded_by (board_by_day w x y n t u (Ok k)) m
  on-refused m o = rw (← e, not-true b o)

  pub on-stays : (l : List ℕ) → not b ≡ true → l ≡ board_into (board_by_day w x y n t u (Ok k)) l
  on-stays l o = rw (← e, not-true b o)

  pub on-answer : (r : BoardAnswer) (m : ℕ) → not b ≡ false → r ≡ boarded_by (board (board_by w x y n k t u)) m → r ≡ boarded_by (board_by_day w x y n t u (Ok k)) m
  on-answer r m o q = q ∙ rw (← e, not-false b o)

  pub on-rows : (l l' : List ℕ) → not b ≡ false → l' ≡ board_into (board (board_by w x y n k t u)) l → l' ≡ board_into (board_by_day w x y n t u (Ok k)) l
  on-rows l l' o q = q ∙ rw (← e, not-false b o)

pub ruleset ons = (tests, lends-ready, on-refused, on-stays, on-answer, on-rows)
