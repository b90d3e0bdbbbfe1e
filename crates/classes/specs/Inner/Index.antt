-- The index of ZUGART's lines in lent words. The first word is a place in the file: the lines from there on are not in the index. The others are slots: a
-- slot holds one more than the place where a line starts, or 0. A code's line stands in one of the code's own slots, and all of them before that one are
-- taken. Nobody has to believe this file: what is answered by the index is promised over the file itself. Assumes nothing.
use Rattle.std.specs.Prelude.{ℕ, ◌+◌, ◌-◌, ◌/◌, ◌≤◌, ◌<◌, ◌≡◌, List, ◌++◌, Bool, true, false, cond, not, ◌&&◌, length, get_or, drop, set, eqb, ltb, Result, Ok}
use Rattle.columns.specs.LineFields.{class_code}
use Rattle.lines.specs.Lines.{lines_of, lines_from, skipped}
use Rattle.chains.specs.Chains.{bucket_of}
use Rattle.timetable.specs.Layout.{most_file_bytes, helper_head}
use Rattle.timetable.specs.Files.{held_in, class_of, has_class}
use Rattle.timetable.specs.Plan.{three_bytes}
use Rattle.classes.specs.Inner.Passes.{before, sound}
use Rattle.timetable.specs.declared.Offence.{Offence}

-- of a line that is skipped or has its form: whether it holds a category of this code
abbrev pub holds_code : ℕ → List ℕ → Bool
holds_code code text = eqb (three_bytes class_code.from text) code && not (skipped text)

-- ---- a code's slots, of so many words: the first of them, and the place behind the last

unfoldable pub first_slot : ℕ → ℕ → ℕ
first_slot words code = 1 + bucket_of (words - words / 8 - 1) code

unfoldable pub end_slot : ℕ → ℕ → ℕ
end_slot words code = cond (ltb (first_slot words code + 512) words) (first_slot words code + 512) words

-- ---- what they hold

-- slot word w, which is not 0: the three bytes at the place before it are a code of the file
pub record Entry (f : List ℕ) (w : ℕ) : Type 0 where
  pub room : w + 2 ≤ length f
  pub listed : has_class (three_bytes class_code.from (drop (w - 1) f)) (held_in class_of (lines_of f)) ≡ true

-- a code stands in one of its slots
pub record Slot (f : List ℕ) (code : ℕ) (m : List ℕ) : Type 0 where
  pub slot : ℕ
  pub low : first_slot (length m) code ≤ slot
  pub high : slot < end_slot (length m) code
  pub taken : (i : ℕ) → first_slot (length m) code ≤ i → i ≤ slot → get_or m i 0 ≡ 0 → ⊥
  pub is : three_bytes class_code.from (drop (get_or m slot 0 - 1) f) ≡ code

-- the lines of file f before a place are in the index
pub record Entered (f : List ℕ) (at : ℕ) (m : List ℕ) : Type 0 where
  pub enough : helper_head ≤ length m
  pub small : length m < 4294967296
  pub entries : (i : ℕ) → 0 < i → (get_or m i 0 ≡ 0 → ⊥) → Entry f (get_or m i 0)
  pub slots : (code : ℕ) → has_class code (held_in class_of (before f at)) ≡ true → Slot f code m

-- they are the lines before a line, whose number does not matter
pub record FilledTo (f : List ℕ) (at : ℕ) (m : List ℕ) : Type 0 where
  pub inside : at ≤ length f
  pub number : ℕ
  pub split : lines_of f ≡ before f at ++ lines_from number at (drop at f)
  pub entered : Entered f at m

-- the words are the index of file f, whose lines are all sound
pub record IndexOf (f m : List ℕ) : Type 0 where
  pub short : length f ≤ most_file_bytes
  pub lines_sound : sound (lines_of f) ≡ true
  pub filled : FilledTo f (get_or m 0 0) m

-- what is said of a code by its slots: it is listed, or it does not stand before the first word's place
pub record SlotSays (code : ℕ) (f m : List ℕ) (r : Bool) : Type 0 where
  pub yes : r ≡ true → has_class code (held_in class_of (lines_of f)) ≡ true
  pub no : r ≡ false → has_class code (held_in class_of (before f (get_or m 0 0))) ≡ false

-- ---- a line put into it

-- i is the first of a code's slots that is free, or the place behind them
pub record FreeSlot (code : ℕ) (m : List ℕ) (i : ℕ) : Type 0 where
  pub low : first_slot (length m) code ≤ i
  pub taken : (j : ℕ) → first_slot (length m) code ≤ j → j < i → get_or m j 0 ≡ 0 → ⊥
  pub free : i < end_slot (length m) code → get_or m i 0 ≡ 0

-- a code's line that starts at a place is put into slot i, or there is none
pub record EnteredOn (code at : ℕ) (r : Bool) (m m' : List ℕ) : Type 0 where
  pub slot : ℕ
  pub free : FreeSlot code m slot
  pub yes : r ≡ true → (slot < end_slot (length m) code) × (m' ≡ set m slot (at + 1))
  pub no : r ≡ false → m' ≡ m

pub record PutOn (text : List ℕ) (at : ℕ) (r : Bool) (m m' : List ℕ) : Type 0 where
  pub skip : skipped text ≡ true → (r ≡ true) × (m' ≡ m)
  pub put : skipped text ≡ false → EnteredOn (three_bytes class_code.from text) at r m m'

-- words lent for the index: enough of them
pub record IndexRoom (m : List ℕ) : Type 0 where
  pub enough : helper_head ≤ length m
  pub small : length m < 4294967296

-- what the words hold after the check of file f, unless it was refused
pub record ClassesAfter (f : List ℕ) (r : Result (ℕ × ℕ) Offence) (m : List ℕ) : Type 0 where
  pub held : (count next : ℕ) → r ≡ Ok (count, next) → IndexOf f m
