-- The helper words while the files are checked: how many each map and the index take, and what they hold between the checks. Nobody has to believe
-- this file. Assumes nothing.
use Rattle.std.specs.Prelude.{ℕ, ◌+◌, ◌*◌, ◌≤◌, ◌<◌, ◌≡◌, List, length, take, drop, replicate, Result, Ok}
use Rattle.lines.specs.Lines.{lines_of}
use Rattle.timetable.specs.Layout.{helper_head, helper_line, most_file_bytes}
use Rattle.reading.specs.Inner.Maps.{FieldMap, StopMap, ClassIndex}
use Rattle.table_words.specs.declared.Header.{Header}
use Rattle.load.specs.declared.Needed.{Needed}
use Rattle.load.specs.declared.FileOffence.{FileOffence}
use Rattle.timetable.specs.declared.Offence.{Offence}

-- no file is too long
pub record Short (e b s u p z : List ℕ) : Type 0 where
  pub eckdaten : length e ≤ most_file_bytes
  pub bitfeld : length b ≤ most_file_bytes
  pub bahnhof : length s ≤ most_file_bytes
  pub umsteigb : length u ≤ most_file_bytes
  pub fplan : length p ≤ most_file_bytes
  pub zugart : length z ≤ most_file_bytes

-- the words for the lines of BITFELD and of BAHNHOF, and all words needed
abbrev pub needed_of : List ℕ → List ℕ → List ℕ → Needed
needed_of b s u = record {
  fields = helper_line * length (lines_of b);
  stops = helper_line * length (lines_of s);
  words = helper_head + helper_line * (length (lines_of b) + length (lines_of s) + length (lines_of u));
}

-- the words for the three maps and the index, all 0
pub record Emptied (b s u : List ℕ) (needed : Needed) (m : List ℕ) : Type 0 where
  pub is : needed ≡ needed_of b s u
  pub words : m ≡ replicate needed.words 0

-- so many words of m from a place on are lent for the map of a file: enough, and all 0
pub record LentAt (f : List ℕ) (at words : ℕ) (m : List ℕ) : Type 0 where
  pub room : helper_line * length (lines_of f) ≤ words
  pub inside : at + words ≤ length m
  pub small : length m < 4294967296
  pub zeros : take words (drop at m) ≡ replicate words 0

-- the words of m behind so many from a place on are lent for the index of ZUGART: enough
pub record IndexLent (at words : ℕ) (m : List ℕ) : Type 0 where
  pub inside : at + words + helper_head ≤ length m
  pub small : length m < 4294967296

-- what is left of m after the check of BITFELD with its first words, so many
pub record FieldsAfter (b : List ℕ) (r : Result (ℕ × ℕ) Offence) (words : ℕ) (m m' : List ℕ) : Type 0 where
  pub held : (count next : ℕ) → r ≡ Ok (count, next) → FieldMap b (take words m')
  pub same : length m' ≡ length m
  pub rest : drop words m' ≡ drop words m

-- what is left of m after the check of BAHNHOF with so many words from a place on
pub record StopsAfter (s : List ℕ) (r : Result (ℕ × ℕ) Offence) (at words : ℕ) (m m' : List ℕ) : Type 0 where
  pub held : (count next : ℕ) → r ≡ Ok (count, next) → StopMap s (take words (drop at m'))
  pub same : length m' ≡ length m
  pub front : take at m' ≡ take at m
  pub rest : drop (at + words) m' ≡ drop (at + words) m

-- what is left of m after the check of ZUGART with those words
pub record IndexAfter (z : List ℕ) (r : Result (ℕ × ℕ) Offence) (at words : ℕ) (m m' : List ℕ) : Type 0 where
  pub held : (count next : ℕ) → r ≡ Ok (count, next) → ClassIndex z (drop (at + words) m')
  pub same : length m' ≡ length m
  pub front : take (at + words) m' ≡ take (at + words) m

-- where the checks of a delivery answer d and it holds, the map of BAHNHOF stands in so many words of m from a place on
pub record StopsStand (s : List ℕ) (at words : ℕ) (d : Result Header FileOffence) (m : List ℕ) : Type 0 where
  pub inside : (h : Header) → d ≡ Ok h → at + words ≤ length m
  pub small : (h : Header) → d ≡ Ok h → at + words < 4294967296
  pub held : (h : Header) → d ≡ Ok h → StopMap s (take words (drop at m))
