-- Laws of the rules, as the functions that test them need, for `search rules`. Assumes nothing.
use mathlib.Core.Path.{◌≡◌, refl, ap, ◌∙◌, sym}
use mathlib.Core.List.{List, [], ◌∷◌}
use mathlib.Core.Bool.{Bool, true, false, not, ◌||◌}
use Prim.Native.Nat.{ℕ, zero, suc, ◌+◌, ◌-◌, ◌≤◌, ◌<◌}
use native.Mathlib.Omega.{arith}
use lib.ListN.{get_or, take, drop}
use lib.Seq.{take-nil, drop-nil}
use lib.Dec.{leb, eqb}
use borrow.Author.Tests.{ne_eqb, le-leb, lt-leb}
use Rattle.base.specs.Lists.{every}
use Rattle.base.proofs.Laws.{tests}
use Rattle.columns.specs.Columns as C
use Rattle.columns.specs.Columns.{pad_to, is_of, is_blank}
use Rattle.columns.specs.declared.ByteClass.TheVariants.{Digit, Byte}
use Rattle.columns.proofs.Laws.{pad-pad}
use Rattle.fields.specs.Fields as F
use Rattle.fields.specs.declared.Time.{Time}
use Rattle.fields.specs.declared.RangeEnd.{RangeEnd}
use Rattle.fields.specs.declared.Detail.{Detail}
use Rattle.forms.specs.declared.Kind.{Kind}
use Rattle.forms.specs.declared.Kind.TheVariants.{Schedule, Other}
use Rattle.forms.specs.Kinds.{starred, kind_of}
use Rattle.forms.specs.Form.{a_date, is_time, a_time, is_end, a_range_end, is_stop, is_detail, detail_of, offset_of, from_one, or_blank, letter_to, transport_flag}

-- ---- one field

module _ (p : List ℕ) (y t : Bool) (et : t ≡ every (is_of (Byte 32)) p) where
  is-blank : C.blank p ≡ t
  is-blank = sym et

  pub or-blank : t ≡ true → true ≡ (C.blank p || y)
  or-blank h = rw (is-blank, h)

  pub or-other : (u : Bool) → t ≡ false → u ≡ y → u ≡ (C.blank p || y)
  or-other u h d = rw (is-blank, h, d)

-- a part reads at each place as its columns do
place-again : (w i : ℕ) (l : List ℕ) → get_or (take w l) i 32 ≡ get_or (pad_to w l) i 32
unfolding pad_to
place-again zero i l = refl
place-again (suc w) zero [] = refl
place-again (suc w) (suc i) [] = ap (λ (m : List ℕ). get_or m i 32) (sym (take-nil w)) ∙ place-again w i []
place-again (suc w) zero (b ∷ l) = refl
place-again (suc w) (suc i) (b ∷ l) = place-again w i l

columns-again : (v w i : ℕ) (l : List ℕ) → pad_to v (drop i (take w l)) ≡ pad_to v (drop i (pad_to w l))
unfolding pad_to
columns-again v w zero l = pad-pad v w l
columns-again v zero (suc i) l = refl
columns-again v (suc w) (suc i) [] = ap (λ (m : List ℕ). pad_to v m) (sym (drop-nil i) ∙ ap (drop i) (sym (take-nil w))) ∙ columns-again v w i []
columns-again v (suc w) (suc i) (b ∷ l) = columns-again v w i l

module _ (q line : List ℕ) (a b : ℕ) (e : q ≡ take (b - (a - 1)) (drop (a - 1) line)) where
  same_place : (i : ℕ) → get_or q i 32 ≡ get_or (C.columns a b line) i 32
  unfolding C.columns
  same_place i = rw e (place-again (b - (a - 1)) i (drop (a - 1) line))

  same-columns : (i j : ℕ) → C.columns i j q ≡ C.columns i j (C.columns a b line)
  unfolding C.columns
  same-columns i j = rw e (columns-again (j - (i - 1)) (b - (a - 1)) (i - 1) (drop (a - 1) line))

  pub first_byte : (x : ℕ) → x ≡ get_or q 0 32 → x ≡ get_or (C.columns a b line) 0 32
  first_byte x d = d ∙ same_place 0

  pub date-part : (r : Bool) → r ≡ a_date q q → r ≡ a_date line (C.columns a b line)
  date-part r d = rw (d, same-columns 1 2, same_place 2, same-columns 4 5, same_place 5, same-columns 7 10)

pub first_filled : (p : List ℕ) (x : ℕ) → x ≡ get_or p 0 32 → not (eqb x 32) ≡ not (is_blank (get_or p 0 32))
first_filled p x d = rw d

-- t: whether the column is blank; x: its byte
module _ (line p : List ℕ) (t : Bool) (x : ℕ) (et : t ≡ every (is_of (Byte 32)) p) (h : t ≡ false) (ex : x ≡ get_or p 0 32) where
  pub letter-low : (m : ℕ) → x < 65 → false ≡ or_blank (letter_to m) line p
  letter-low m k = or-other p _ t et false h (rw (← ex, lt-leb 65 x k))

  pub letter-to : (m : ℕ) → 65 ≤ x → leb x m ≡ or_blank (letter_to m) line p
  letter-to m k = or-other p _ t et _ h (rw (← ex, le-leb 65 x k))

  pub flag-read : (u : Bool) → u ≡ (eqb x 78 || (eqb x 66 || eqb x 70)) → u ≡ or_blank transport_flag line p
  flag-read u d = or-other p _ t et u h (rw (← ex) d)

module _ (p : List ℕ) (t : Bool) (et : t ≡ every (is_of Digit) (C.columns 1 2 p)) where
  day : C.digits (C.columns 1 2 p) ≡ t
  day = sym et

  pub date-day : t ≡ false → false ≡ a_date p p
  date-day h = rw (day, h)

  module _ (x : ℕ) (h : t ≡ true) (ex : x ≡ C.column 3 p) where
    pub date-dot : (x ≡ 46 → ⊥) → false ≡ a_date p p
    date-dot k = rw (day, h, sym ex, ne_eqb x 46 k)

    module _ (u : Bool) (k : x ≡ 46) (eu : u ≡ every (is_of Digit) (C.columns 4 5 p)) where
      month : C.digits (C.columns 4 5 p) ≡ u
      month = sym eu

      pub date-month : u ≡ false → false ≡ a_date p p
      date-month g = rw (day, h, sym ex, k, month, g)

      module _ (z : ℕ) (g : u ≡ true) (ez : z ≡ C.column 6 p) where
        pub date-second-dot : (z ≡ 46 → ⊥) → false ≡ a_date p p
        date-second-dot l = rw (day, h, sym ex, k, month, g, sym ez, ne_eqb z 46 l)

        pub date-year : (r : Bool) → z ≡ 46 → r ≡ every (is_of Digit) (C.columns 7 10 p) → r ≡ a_date p p
        date-year r l d = d ∙ sym (rw (day, h, sym ex, k, month, g, sym ez, l))

pub time-rule : (line p : List ℕ) (t : Time) (r : Bool) → t ≡ F.time p → r ≡ is_time t → r ≡ a_time line p
time-rule line p t r e d = rw (d, e)

pub end-rule : (line p : List ℕ) (x : RangeEnd) (r : Bool) → x ≡ F.range_end p → r ≡ is_end x → r ≡ a_range_end line p
end-rule line p x r e d = rw (d, e)

-- ---- two fields

module _ (line p : List ℕ) (c : ℕ) (x : RangeEnd) (t : Bool) (ex : x ≡ F.range_end (C.columns c (c + 6) line)) (et : t ≡ is_stop x) where
  stop : is_stop (F.range_end (C.columns c (c + 6) line)) ≡ t
  stop = rw (sym ex, et)

  pub detail-unread : t ≡ false → true ≡ detail_of c line p
  detail-unread h = rw (stop, h)

  pub detail-read : (d : Detail) (r : Bool) → t ≡ true → d ≡ F.detail p → r ≡ is_detail d → r ≡ detail_of c line p
  detail-read d r h ed er = rw (stop, h, er, ed)

module _ (line p : List ℕ) (c : ℕ) (t : Bool) (et : t ≡ every (is_of (Byte 32)) (C.columns c (c + 2) line)) where
  none : C.blank (C.columns c (c + 2) line) ≡ t
  none = sym et

  pub offset-blank : (u : Bool) → t ≡ true → u ≡ every (is_of (Byte 32)) p → u ≡ offset_of c line p
  offset-blank u h d = rw (none, h, d)

  module _ (u : Bool) (h : t ≡ false) (eu : u ≡ every (is_of Digit) p) where
    digs : C.digits p ≡ u
    digs = sym eu

    pub offset-bad : u ≡ false → false ≡ offset_of c line p
    offset-bad k = rw (none, h, digs, k)

    module _ (z : Bool) (k : u ≡ true) (ez : z ≡ every (is_of (Byte 48)) (C.columns c (c + 2) line)) where
      no-repeats : every (λ (b : ℕ). eqb b 48) (C.columns c (c + 2) line) ≡ z
      no-repeats = sym ez

      pub offset-any : z ≡ true → true ≡ offset_of c line p
      offset-any g = rw (none, h, digs, k, no-repeats, g)

      pub offset-some : (y : Bool) → z ≡ false → y ≡ every (is_of (Byte 48)) p → not y ≡ offset_of c line p
      offset-some y g d = rw (none, h, digs, k, no-repeats, g, d)

module _ (line p : List ℕ) (t : Bool) (et : t ≡ every (is_of Digit) p) where
  are-digits : C.digits p ≡ t
  are-digits = sym et

  pub from-one-bad : t ≡ false → false ≡ from_one line p
  from-one-bad h = rw (are-digits, h)

  pub from-one : (y : Bool) → t ≡ true → y ≡ every (is_of (Byte 48)) p → not y ≡ from_one line p
  from-one y h d = rw (are-digits, h, d)

pub ruleset rules = (tests, from-one-bad, from-one, or-blank, or-other, first_byte, first_filled, date-part, time-rule, end-rule, detail-unread, detail-read, offset-blank, offset-bad, offset-any, offset-some)

pub ruleset letters = (tests, or-blank, letter-low, letter-to, flag-read)

pub ruleset dates = (tests, date-day, date-dot, date-month, date-second-dot, date-year)

-- ---- kinds, for `search kinds`

module _ (line : List ℕ) (a : ℕ) (ea : a ≡ C.column 1 line) where
  pub kind-star : (b c : ℕ) (r : Kind) → b ≡ C.column 2 line → c ≡ C.column 3 line → a ≡ 42 → r ≡ starred b c → r ≡ kind_of line
  unfolding kind_of
  kind-star b c r eb ec h d = rw (d, eb, ec, sym ea, h)

  pub kind-digit : 48 ≤ a → a ≤ 57 → Schedule ≡ kind_of line
  unfolding kind_of
  kind-digit l h = rw (sym ea, ne_eqb a 42 (λ e. omega arith), le-leb 48 a l, le-leb a 57 h)

  pub kind-low : (a ≡ 42 → ⊥) → a < 48 → Other ≡ kind_of line
  unfolding kind_of
  kind-low k h = rw (sym ea, ne_eqb a 42 k, lt-leb 48 a h)

  pub kind-high : 57 < a → Other ≡ kind_of line
  unfolding kind_of
  kind-high h = rw (sym ea, ne_eqb a 42 (λ e. omega arith), le-leb 48 a (omega arith), lt-leb a 57 h)

pub ruleset kinds = (tests, kind-star, kind-digit, kind-low, kind-high)
