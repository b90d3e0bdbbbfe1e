-- The making's answer and words: the two parts written, for `search parts`; of just a table, for `search makes`; of any words, for `search any`. Assumes nothing.
use mathlib.Core.Path.{◌≡◌, refl, ap, ◌∙◌, sym}
use mathlib.Core.List.{List, [], ◌∷◌, ◌++◌, append_assoc}
use mathlib.Core.Bool.{Bool, true, false, cond, not}
use Prim.Native.Nat.{ℕ, ◌+◌, ◌-◌, ◌^◌, ◌≤◌, ◌<◌}
use native.Mathlib.Nat.{zero-add}
use native.Mathlib.Omega.{arith}
use lib.ListN.{length, take, drop, set, length-drop, length-append}
use lib.Seq.{length-take-le, drop-drop}
use borrow.Author.Tests.{lt-ltb, le-ltb, not-true, not-false}
use Rattle.std.specs.Prelude.{Option, Some, None}
use Rattle.base.proofs.Laws.{tests}
use Rattle.timetable.specs.Load.{onto}
use Rattle.timetable.specs.Table.{used, is_table}
use Rattle.words.specs.Words.{write}
use Rattle.words.proofs.Laws.{write-write, write-front, length-write}
use Rattle.table.specs.JustTable.{JustTable}
use Rattle.table.specs.Steady.{steady, look_by}
use Rattle.table.proofs.Records.{look-table, look_steady, look-no-table}
use Rattle.table.proofs.JustTable.{used-just, just-header, just-used, used-steady}
use Rattle.index.specs.Index.{index_size, index_of}
use Rattle.calls.specs.Calls.{call_index_size, call_index_of}
use Rattle.calls.proofs.Words.{index-long}
use Rattle.whole_index.specs.Whole.{marked_calls, marked_size, whole_index_size, whole_index_of, made_of, index_into}
use Rattle.whole_index.specs.declared.Made.{Made}
use Rattle.whole_index.specs.declared.Made.TheVariants.{Index, Refused}
use Rattle.index.proofs.Long.{lookups-long}
use Rattle.whole_index.proofs.Whole.{marked-long, whole_long, whole-within}

after_is : (w u m : List ℕ) (a b : ℕ) → b - a ≡ marked_size w → m ≡ marked_calls w → take a u ++ (m ++ drop (b - a) (drop a u)) ≡ write u a (marked_calls w)
unfolding write
after_is w u m a b d f = rw (d, f, drop-drop (marked_size w) a u, marked-long w) (sym (append_assoc (take a u) (marked_calls w) (drop (a + marked_size w) u)))

-- ---- the two parts; t and u are the words before and after the look-ups, m the calls

module _ (w t : List ℕ) (a b : ℕ) (p : a ≡ index_size w) (q : b ≡ whole_index_size w) (l : b ≤ length t) where
  pub room-lookups : index_size w ≤ length t
  room-lookups = omega (arith, q)

  module _ (u : List ℕ) (e : u ≡ write t 0 (index_of w)) where
    as_long : length u ≡ length t
    as_long = rw e (length-write t 0 (index_of w) (omega (arith, lookups-long w, room-lookups)))

    pub part-inside : b ≤ length u
    part-inside = omega (arith, as_long)

    pub part-long : length (take (b - a) (drop a u)) ≡ marked_size w
    part-long =
        let d : b - a ≡ marked_size w = omega (arith, p, q) in
        rw d (length-take-le (marked_size w) (drop a u) (rw length-drop (omega (arith, as_long, p, q))))

    pub part-written : (m : List ℕ) → m ≡ marked_calls w → take a u ++ (m ++ drop (b - a) (drop a u)) ≡ write t 0 (whole_index_of w)
    unfolding whole_index_of
    part-written m f =
        let k : a ≡ 0 + length (index_of w) = p ∙ sym (lookups-long w) ∙ sym (zero-add (length (index_of w))) in
        after_is w u m a b (omega (arith, p, q)) f
        ∙ ap (λ (y : List ℕ). write y a (marked_calls w)) e
        ∙ ap (λ (j : ℕ). write (write t 0 (index_of w)) j (marked_calls w)) k
        ∙ write-write t 0 (index_of w) (marked_calls w) (omega (arith, lookups-long w, room-lookups))

pub part-order : (w : List ℕ) (a b : ℕ) → a ≡ index_size w → b ≡ whole_index_size w → a ≤ b
part-order w a b p q = omega (arith, p, q)

pub ruleset parts = (tests, room-lookups, part-inside, part-long, part-written, part-order)

-- ---- the calls and the mark, into y; z are those words with the calls written, m is the mark

module _ (w y : List ℕ) (l : length y ≡ marked_size w) where
  pub marked-some : 1 ≤ length y
  marked-some = omega (arith, l)

  pub marked-front : length (take (length y - 1 - 0) y) ≡ call_index_size w
  marked-front = length-take-le (length y - 1 - 0) y (omega (arith, l)) ∙ omega (arith, l)

  module _ (c z : List ℕ) (e : c ≡ call_index_of w) (f : z ≡ take 0 y ++ (c ++ drop (length y - 1 - 0) (drop 0 y))) where
    last_one : length (drop (length y - 1 - 0) y) ≡ 1
    last_one = length-drop (length y - 1 - 0) y ∙ omega (arith, l)

    calls-before : z ≡ call_index_of w ++ drop (length y - 1 - 0) y
    calls-before = f ∙ ap (λ (a : List ℕ). a ++ drop (length y - 1 - 0) y) e

    pub marked-inside : length y - 1 < length z
    marked-inside = omega (arith, ap length calls-before, length-append (call_index_of w) (drop (length y - 1 - 0) y), last_one, index-long w, l)

    pub marked-are : (b : Bool) (m : ℕ) → b ≡ steady w → m ≡ cond b 1 0 → set z (length y - 1) m ≡ marked_calls w
    unfolding marked_calls
    marked-are b m g h =
        let n : length y - 1 ≡ length (call_index_of w) = omega (arith, l, index-long w) in
        ap (λ (a : List ℕ). set a (length y - 1) m) calls-before
        ∙ ap (λ (j : ℕ). set (call_index_of w ++ drop (length y - 1 - 0) y) j m) n
        ∙ set_last (call_index_of w) (drop (length y - 1 - 0) y) m last_one
        ∙ ap (λ (v : ℕ). call_index_of w ++ (v ∷ [])) (h ∙ ap (λ (t : Bool). cond t 1 0) g)
      where
        set_last : (a r : List ℕ) (m : ℕ) → length r ≡ 1 → set (a ++ r) (length a) m ≡ a ++ (m ∷ [])
        set_last [] [] m q = absurd (omega (arith, q))
        set_last [] (x ∷ []) m q = refl
        set_last [] (x ∷ (u ∷ v)) m q = absurd (omega (arith, q))
        set_last (x ∷ a) r m q = ap (λ (s : List ℕ). x ∷ s) (set_last a r m q)

pub marked-fits : (w : List ℕ) → JustTable w → (a : ℕ) → a ≡ call_index_size w → length w < 2 ^ 64 → a + 1 < 2 ^ 64
marked-fits w h a q l = omega (arith, q, whole-within w h)

pub marked-is : (w : List ℕ) (a : ℕ) → a ≡ call_index_size w → a + 1 ≡ marked_size w
marked-is w a q = rw q

pub ruleset marks = (tests, just-header, marked-fits, marked-is, marked-some, marked-front, marked-inside, marked-are)

-- ---- of just a table; a and b are the sizes of the two parts

module _ (w : List ℕ) (h : JustTable w) (a b : ℕ) (p : a ≡ index_size w) (q : b ≡ marked_size w) where
  pub whole-fits : length w < 2 ^ 64 → a + b < 2 ^ 64
  whole-fits l = omega (arith, p, q, whole-within w h)

  pub whole_is : a + b ≡ whole_index_size w
  whole_is = rw (p, q)

  module _ (t : List ℕ) where
    module _ (l : length t < a + b) where
      pub short-answer : Refused 29 (a + b) ≡ made_of w (length t)
      unfolding made_of
      short-answer = sym (rw (h.table, just-used w h, lt-ltb (length t) (whole_index_size w) (omega (arith, p, q)), sym p, sym q))

      pub short-kept : t ≡ index_into w t
      unfolding index_into
      short-kept = sym (rw (h.table, just-used w h, lt-ltb (length t) (whole_index_size w) (omega (arith, p, q))))

    module _ (l : a + b ≤ length t) where
      pub made-answer : Index (a + b) ≡ made_of w (length t)
      unfolding made_of
      made-answer = sym (rw (h.table, just-used w h, le-ltb (length t) (whole_index_size w) (omega (arith, p, q)), sym p, sym q))

      pub made-words : (u : List ℕ) → u ≡ write t 0 (whole_index_of w) → u ≡ index_into w t
      unfolding index_into onto
      made-words u e = e ∙ write-front t (whole_index_of w) ∙ sym (rw (h.table, just-used w h, le-ltb (length t) (whole_index_size w) (omega (arith, p, q))))

pub ruleset makes = (tests, just-header, whole-fits, whole_is, short-answer, short-kept, made-answer, made-words)

-- ---- any words; l is what a look at them tells, and u are those that a table uses

module _ (w : List ℕ) (l : Option Bool) (e : l ≡ look_by (is_table w) (steady w)) where
  module _ (b : Bool) (n : l ≡ Some b) where
    pub is-table : is_table w ≡ true
    is-table = look-table w l e b n

    module _ (u : List ℕ) (p : u ≡ used w) where
      pub is-just : JustTable u
      is-just = rw p (used-just w is-table)

      pub is-steady : b ≡ steady u
      is-steady = look_steady w l e b n ∙ rw p (sym (used-steady w is-table))

  module _ (t : List ℕ) where
    pub barred-answer : l ≡ None → Refused 21 0 ≡ made_of w (length t)
    unfolding made_of
    barred-answer n = sym (rw (look-no-table w l e n))

    pub barred-kept : l ≡ None → t ≡ index_into w t
    unfolding index_into
    barred-kept n = sym (rw (look-no-table w l e n))

    module _ (b : Bool) (n : l ≡ Some b) (u : List ℕ) (p : u ≡ used w) where
      used-twice : used u ≡ used w
      used-twice = just-used u (is-just b n u p) ∙ p

      pub same_answer : (r : Made) → r ≡ made_of u (length t) → r ≡ made_of w (length t)
      unfolding made_of
      same_answer r f = f ∙ rw ((is-just b n u p).table, is-table b n, used-twice)

      pub same-words : (y : List ℕ) → y ≡ index_into u t → y ≡ index_into w t
      unfolding index_into
      same-words y f = f ∙ rw ((is-just b n u p).table, is-table b n, used-twice)

pub ruleset any = (tests, barred-answer, barred-kept, is-table, is-just, is-steady, same_answer, same-words)
