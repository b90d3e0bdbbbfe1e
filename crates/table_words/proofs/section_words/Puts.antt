-- The needs of writing a record (`search record-puts`), a line (`search line-puts`) and a section (`search section-puts`). Assumes nothing.
use mathlib.Core.Path.{◌≡◌, refl, ap, sym, ◌∙◌}
use mathlib.Core.List.{List, [], ◌∷◌, ◌++◌}
use mathlib.Core.Bool.{Bool, true, false}
use Prim.Native.Nat.{ℕ, ◌+◌, ◌-◌, ◌≤◌, ◌<◌}
use native.Mathlib.Nat.{add-zero}
use native.Mathlib.Omega.{arith}
use lib.ListN.{length, get_or, take, drop, set, length-append, length-set}
use borrow.Author.Rules.{rules}
use Rattle.base.specs.Lists.{every, gathered}
use Rattle.base.proofs.Laws.{len-trans, tests}
use Rattle.columns.specs.Columns.{columns, is_hex, number}
use Rattle.lines.specs.Lines.{lines_at, cut_at, skipped}
use Rattle.lines.specs.Inner.Skips.{past_skipped}
use Rattle.lines.specs.declared.Cut.{Cut}
use Rattle.lines.proofs.Laws.{cutting, lines_none, walk}
use Rattle.lines.proofs.Pieces.{cut-empty}
use Rattle.lines.proofs.reader.Skipping.{passed-text, passed-next}
use Rattle.bitfield.specs.BitField.{bit_words, bits_in}
use Rattle.words.specs.Words.{write}
use Rattle.words.proofs.Laws.{write-none, write-one, write-write}
use Rattle.timetable.specs.Layout.{most_file_bytes, bit_field_size, stop_size, interchange_size, class_size}
use Rattle.names.specs.NameField.{name_length}
use Rattle.sections.specs.Inner.Sections.{key_on, number_on, is_sound}
use Rattle.sections.proofs.Held.{skipped-number, empty-skipped}
use Rattle.sections.proofs.Walk.{number_small}
use Rattle.sections.proofs.Scans.{passed-less}
use Rattle.sections.proofs.Offences.{line-hex}
use Rattle.sections.proofs.Sound.{sound-number, sound-here, sound-next, sound_empty, sound-passed}
use Rattle.sections.specs.declared.Section.{Section}
use Rattle.sections.specs.declared.Section.TheVariants.{BitFields, Stops, Interchanges, Classes}
use Rattle.sections.specs.declared.Numbered.TheVariants.{Number, Skipped}
use Rattle.table_words.specs.Inner.SectionWords.{record_words, words_on, section_words}
use Rattle.table_words.proofs.section_words.Words.{words-skipped, words-number, size_of, length-record}

-- ---- a record

pub bits-room : (t : List ℕ) (q n : ℕ) → q + bit_field_size ≤ length t → q + 1 + bit_words ≤ length (set t q n)
bits-room t q n h = rw length-set (omega arith)

-- the number, and the twelve words behind it
pub bits-written : (t r bits : List ℕ) (q n : ℕ) → q + bit_field_size ≤ length t → length bits ≡ bit_words → r ≡ write (set t q n) (q + 1) bits → r ≡ write t q (n ∷ bits)
bits-written t r bits q n h l e = e ∙ rw (write-one t q n (omega arith)) (write-write t q (n ∷ []) bits (omega arith))

pub bits-kept : (t r : List ℕ) (q n : ℕ) → length r ≡ length (set t q n) → length r ≡ length t
bits-kept t r q n e = e ∙ length-set t q n

pub stop-written : (t r text : List ℕ) (q n at k m : ℕ) → k ≡ at + 12 → m ≡ name_length (columns 13 62 text) → r ≡ write t q (n ∷ k ∷ m ∷ []) → r ≡ write t q (n ∷ (at + 12) ∷ name_length (columns 13 62 text) ∷ [])
stop-written t r text q n at k m d e v = rw (← d, ← e) v

pub interchange-written : (t r text : List ℕ) (q n a b : ℕ) → a ≡ number (columns 9 10 text) → b ≡ number (columns 12 13 text) → r ≡ write t q (n ∷ a ∷ b ∷ []) → r ≡ write t q (n ∷ number (columns 9 10 text) ∷ number (columns 12 13 text) ∷ [])
interchange-written t r text q n a b d e v = rw (← d, ← e) v

pub class-inside : (t : List ℕ) (q n : ℕ) → q + class_size ≤ length t → q + 1 < length (set t q n)
class-inside t q n h = rw length-set (omega arith)

pub class-written : (t text : List ℕ) (q n a : ℕ) → q + class_size ≤ length t → a ≡ number (columns 5 6 text) → set (set t q n) (q + 1) a ≡ write t q (n ∷ number (columns 5 6 text) ∷ [])
class-written t text q n a h d = rw (← d) (write-one (set t q n) (q + 1) a (class-inside t q n h) ∙ rw (write-one t q n (omega arith)) (write-write t q (n ∷ []) (a ∷ []) (omega arith)))

pub ruleset record-puts = (tests, bits-room, bits-written, bits-kept, stop-written, interchange-written, class-inside, class-written)

-- ---- a line: t is whether it is skipped

-- a bit field's line has hex digits
pub field-hex : (s : Section) (text : List ℕ) (t : Bool) → t ≡ skipped text → t ≡ false → is_sound (number_on s text) ≡ true → s ≡ BitFields → every is_hex (columns 8 103 text) ≡ true
field-hex s text t d y m z = line-hex s text (Number (key_on s text)) (key_on s text) z (sound-number s text m (sym d ∙ y)) refl

module _ (s : Section) (start : ℕ) (text : List ℕ) (q : ℕ) (t : Bool) (d : t ≡ skipped text) where
  -- one that is skipped has no words
  none_here : t ≡ true → words_on s start text ≡ []
  none_here y = words-skipped s start text Skipped (skipped-number s text (sym d ∙ y)) refl

  pub skipped-place : t ≡ true → q ≡ q + length (words_on s start text)
  skipped-place y = sym (rw (none_here y) (add-zero q))

  pub skipped-written : (w : List ℕ) → t ≡ true → w ≡ write w q (words_on s start text)
  skipped-written w y = sym (rw (none_here y) (write-none w q))

  -- a record of number k: t is the table, r the table afterwards, p the place after it
  module _ (y : t ≡ false) (m : is_sound (number_on s text) ≡ true) (k : ℕ) (g : k ≡ key_on s text) where
    number_is : Number k ≡ number_on s text
    number_is = ap Number g ∙ sound-number s text m (sym d ∙ y)

    size_is : length (words_on s start text) ≡ size_of s
    size_is = ap length (words-number s start text (Number k) number_is k refl) ∙ length-record s start text k

    record-put : (t r ws : List ℕ) → record_words s start text k ≡ ws → r ≡ write t q ws → r ≡ write t q (words_on s start text)
    record-put t r ws z x = x ∙ sym (ap (write t q) (words-number s start text (Number k) number_is k refl ∙ z))

    module _ (z : s ≡ BitFields) where
      pub field_room : (t : List ℕ) → q + length (words_on s start text) ≤ length t → q + bit_field_size ≤ length t
      field_room t h = rw (size_is, z) at h

      pub field-place : (p : ℕ) → p ≡ q + bit_field_size → p ≡ q + length (words_on s start text)
      field-place p d = d ∙ sym (rw (size_is, z) refl)

      pub field_put : (t r b : List ℕ) → b ≡ bits_in text → r ≡ write t q (k ∷ b) → r ≡ write t q (words_on s start text)
      field_put t r b x d = record-put t r (k ∷ b) (rw (z, x) refl) d

    module _ (z : s ≡ Stops) where
      pub stop-room : (t : List ℕ) → q + length (words_on s start text) ≤ length t → q + stop_size ≤ length t
      stop-room t h = rw (size_is, z) at h

      pub stop-place : (p : ℕ) → p ≡ q + stop_size → p ≡ q + length (words_on s start text)
      stop-place p d = d ∙ sym (rw (size_is, z) refl)

      pub stop-put : (t r : List ℕ) → r ≡ write t q (k ∷ (start + 12) ∷ name_length (columns 13 62 text) ∷ []) → r ≡ write t q (words_on s start text)
      stop-put t r d = record-put t r _ (rw z refl) d

    module _ (z : s ≡ Interchanges) where
      pub interchange-room : (t : List ℕ) → q + length (words_on s start text) ≤ length t → q + interchange_size ≤ length t
      interchange-room t h = rw (size_is, z) at h

      pub interchange-place : (p : ℕ) → p ≡ q + interchange_size → p ≡ q + length (words_on s start text)
      interchange-place p d = d ∙ sym (rw (size_is, z) refl)

      pub interchange-put : (t r : List ℕ) → r ≡ write t q (k ∷ number (columns 9 10 text) ∷ number (columns 12 13 text) ∷ []) → r ≡ write t q (words_on s start text)
      interchange-put t r d = record-put t r _ (rw z refl) d

    module _ (z : s ≡ Classes) where
      pub class-room : (t : List ℕ) → q + length (words_on s start text) ≤ length t → q + class_size ≤ length t
      class-room t h = rw (size_is, z) at h

      pub class-place : (p : ℕ) → p ≡ q + class_size → p ≡ q + length (words_on s start text)
      class-place p d = d ∙ sym (rw (size_is, z) refl)

      pub class-put : (t r : List ℕ) → r ≡ write t q (k ∷ number (columns 5 6 text) ∷ []) → r ≡ write t q (words_on s start text)
      class-put t r d = record-put t r _ (rw z refl) d

pub ruleset line-puts = (tests, skipped-place, skipped-written, field-hex, field_room, field-place, field_put, stop-room, stop-place, stop-put, interchange-room, interchange-place, interchange-put, class-room, class-place, class-put)

-- ---- a section: t₀ and p are the table and the place at entry, n the words of the file; r is the line cut at the place `at`

pub start_small : (f : List ℕ) (at : ℕ) → at < length f → length f ≤ most_file_bytes → at ≤ most_file_bytes
start_small f at h l = omega arith

module _ (f : List ℕ) (at no : ℕ) (r : Cut) (h : at < length f) (e : r ≡ cut_at f at no) (s : Section) where
  -- the words of this line, and those of the lines after it
  abbrev here : List ℕ
  here = words_on s at (take (r.stop - at) (drop at f))

  abbrev after : List ℕ
  after = section_words s (lines_at f r.next r.no)

  words_step : section_words s (lines_at f at no) ≡ here ++ after
  unfolding section_words gathered
  words_step = ap (section_words s) (cutting f at no r h e).step

  module _ (t t₀ : List ℕ) (p q n : ℕ) (len : length t ≡ length t₀) (cnt : q + length (section_words s (lines_at f at no)) ≡ p + n) (room : p + n ≤ length t₀) where
    line-cnt : q + length here + length after ≡ p + n
    line-cnt = sym (ap (λ (ws : List ℕ). q + length ws) words_step ∙ omega (arith, length-append here after)) ∙ cnt

    pub put-room : q + length (words_on s at (take (r.stop - at) (drop at f))) ≤ length t
    put-room = omega (arith, line-cnt)

    module _ (q' : ℕ) (next : q' ≡ q + length (words_on s at (take (r.stop - at) (drop at f)))) where
      pub put_count : q' + length (section_words s (lines_at f r.next r.no)) ≡ p + n
      put_count = rw next line-cnt

      pub put-again : (t' w : List ℕ) → t' ≡ write t q (words_on s at (take (r.stop - at) (drop at f))) → write t q (section_words s (lines_at f at no)) ≡ w
          → write t' q' (section_words s (lines_at f r.next r.no)) ≡ w
      put-again t' w k v = rw (k, next) (write-write t q here after put-room ∙ sym (ap (write t q) words_step) ∙ v)

-- a line that is skipped, passed at once: r is the line as it would be cut
skip-words : (f : List ℕ) (at line : ℕ) (r : Cut) (h : at < length f) (e : r ≡ cut_at f at line) (s : Section) → Skipped ≡ number_on s (take (r.stop - at) (drop at f))
    → section_words s (lines_at f at line) ≡ section_words s (lines_at f r.next r.no)
skip-words f at line r h e s y =
    words_step f at line r h e s
    ∙ ap (λ (ws : List ℕ). ws ++ section_words s (lines_at f r.next r.no)) (words-skipped s at (take (r.stop - at) (drop at f)) Skipped y refl)

module _ (f : List ℕ) (at no : ℕ) (h : at < length f) (b : get_or f at 0 ≡ 10) (s : Section) (q : ℕ) where
  empty-words : section_words s (lines_at f at no) ≡ section_words s (lines_at f (at + 1) (no + 1))
  empty-words = skip-words f at no _ h (cut-empty f at no h b) s (empty-skipped s f at)

  pub empty-count : (m : ℕ) → q + length (section_words s (lines_at f at no)) ≡ m → q + length (section_words s (lines_at f (at + 1) (no + 1))) ≡ m
  empty-count m v = rw empty-words at v

  pub empty-again : (t w : List ℕ) → write t q (section_words s (lines_at f at no)) ≡ w → write t q (section_words s (lines_at f (at + 1) (no + 1))) ≡ w
  empty-again t w v = rw empty-words at v

module _ (f : List ℕ) (at no p : ℕ) (h : at < length f) (e : p ≡ past_skipped f at) (l : at < p) (s : Section) (q : ℕ) where
  passed_words : section_words s (lines_at f at no) ≡ section_words s (lines_at f p (no + 1))
  passed_words =
      skip-words f at no (cut_at f at no) h refl s (skipped-number s (take ((cut_at f at no).stop - at) (drop at f)) (passed-text f at no p e l))
      ∙ rw (passed-next f at no p e l, (cutting f at no (cut_at f at no) h refl).count) refl

  pub passed-count : (m : ℕ) → q + length (section_words s (lines_at f at no)) ≡ m → q + length (section_words s (lines_at f p (no + 1))) ≡ m
  passed-count m v = rw passed_words at v

  pub passed-again : (t w : List ℕ) → write t q (section_words s (lines_at f at no)) ≡ w → write t q (section_words s (lines_at f p (no + 1))) ≡ w
  passed-again t w v = rw passed_words at v

module _ (f : List ℕ) (at no : ℕ) (h : length f ≤ at) (s : Section) (q : ℕ) where
  pub put_last : (m : ℕ) → q + length (section_words s (lines_at f at no)) ≡ m → q ≡ m
  unfolding section_words gathered
  put_last m v = sym (add-zero q) ∙ (rw (lines_none f at no h) at v)

  pub put-done : (t w : List ℕ) → write t q (section_words s (lines_at f at no)) ≡ w → t ≡ w
  unfolding section_words gathered
  put-done t w v = sym (write-none t q) ∙ (rw (lines_none f at no h) at v)

pub ruleset section-puts = (tests, walk, start_small, number_small, sound-here, sound-next, put-room, put_count, put-again, put_last, put-done, len-trans)

pub ruleset empty-puts = (tests, sound_empty, empty-count, empty-again, sound-passed, passed-less, passed-count, passed-again)

-- what a line asks for, each by its own law: there are many facts before it
pub ruleset Line-small = (rules, start_small)

pub ruleset line-sound = (rules, sound-here)
