-- The needs of `write_table` and `write_plan`, for `search answers` and `search asked`. Assumes nothing.
use Rattle.std.specs.Prelude.{Result, Ok}
use mathlib.Core.Path.{◌≡◌, ap, sym, ◌∙◌}
use mathlib.Core.List.{List}
use mathlib.Core.Bool.{Bool, true, false, not, cond}
use Prim.Native.Nat.{ℕ, ◌*◌, ◌≤◌, ◌<◌}
use native.Mathlib.Omega.{arith}
use lib.ListN.{length}
use lib.Dec.{ltb}
use borrow.Author.Tests.{not-true, not-false, lt-ltb, le-ltb}
use Rattle.base.specs.Lists.{every}
use Rattle.base.proofs.Laws.{tests}
use Rattle.timetable.specs.Load.{onto}
use Rattle.timetable.specs.Table.{used, table_of, is_table}
use Rattle.timetable.specs.declared.refusal.Refusal.TheVariants.{NoTable, NotWritable, TextTooShort}
use Rattle.words.specs.Words.{write}
use Rattle.words.proofs.Laws.{write-front}
use Rattle.table.specs.JustTable.{JustTable}
use Rattle.table.proofs.JustTable.{used-just, used-same}
use Rattle.plan_services.specs.Services.{plan_lines}
use Rattle.plan_services.proofs.Services.{plan-length}
use Rattle.writable.specs.Writable.{service_writable}
use Rattle.plan_writing.specs.Writing.{table_text, table_writable, refused, plan_answer, bytes_by, plan_bytes}
use Rattle.plan_writing.specs.declared.WriteRefusal.{WriteRefusal}

-- ---- just a table: x says whether it can be written, n is how many lines it has

-- the bytes follow from the answer
by_answer : (w t : List ℕ) (a : Result ℕ WriteRefusal) → plan_answer w (length t) ≡ a → plan_bytes w t ≡ bytes_by a (table_text w) t
unfolding plan_bytes
by_answer w t a e = ap (λ (b : Result ℕ WriteRefusal). bytes_by b (table_text w) t) e

pub text-size : (w : List ℕ) (n : ℕ) → n ≡ length (plan_lines (table_of w).services) → length (table_text w) ≡ 60 * n
unfolding table_text
text-size w n e = plan-length (table_of w).services ∙ ap (λ (k : ℕ). 60 * k) (sym e)

module _ (w : List ℕ) (j : JustTable w) (x : Bool) (e : x ≡ every service_writable (table_of w).services) where
  not-held : not x ≡ true → (room : ℕ) → plan_answer w room ≡ refused NotWritable 0
  unfolding plan_answer table_writable
  not-held h room = rw (j.table, sym e ∙ not-true x h)

  pub refused-44 : not x ≡ true → (room : ℕ) → refused NotWritable 0 ≡ plan_answer w room
  refused-44 h room = sym (not-held h room)

  pub bytes-44 : not x ≡ true → (t : List ℕ) → t ≡ plan_bytes w t
  bytes-44 h t = sym (by_answer w t (refused NotWritable 0) (not-held h (length t)))

  module _ (h : not x ≡ false) (n : ℕ) (f : n ≡ length (plan_lines (table_of w).services)) where
    held : (room : ℕ) → plan_answer w room ≡ cond (ltb room (60 * n)) (refused TextTooShort (60 * n)) (Ok (60 * n))
    unfolding plan_answer table_writable
    held room = rw (j.table, sym e ∙ not-false x h, text-size w n f)

    short : (room : ℕ) → room < 60 * n → plan_answer w room ≡ refused TextTooShort (60 * n)
    short room k = held room ∙ rw (lt-ltb room (60 * n) k)

    pub refused-45 : (room : ℕ) → room < 60 * n → refused TextTooShort (60 * n) ≡ plan_answer w room
    refused-45 room k = sym (short room k)

    pub bytes-45 : (t : List ℕ) → length t < 60 * n → t ≡ plan_bytes w t
    bytes-45 t k = sym (by_answer w t (refused TextTooShort (60 * n)) (short (length t) k))

    enough : (room : ℕ) → 60 * n ≤ room → plan_answer w room ≡ Ok (60 * n)
    enough room k = held room ∙ rw (le-ltb room (60 * n) k)

    pub written : (room : ℕ) → 60 * n ≤ room → Ok (60 * n) ≡ plan_answer w room
    written room k = sym (enough room k)

    pub bytes-written : (t t' : List ℕ) → 60 * n ≤ length t → t' ≡ write t 0 (table_text w) → t' ≡ plan_bytes w t
    unfolding onto
    bytes-written t t' k g = g ∙ write-front t (table_text w) ∙ sym (by_answer w t (Ok (60 * n)) (enough (length t) k))

pub text-room : (w t : List ℕ) (n : ℕ) → n ≡ length (plan_lines (table_of w).services) → 60 * n ≤ length t → length (table_text w) ≤ length t
text-room w t n e h = omega (arith, text-size w n e)

pub ruleset answers = (tests, refused-44, bytes-44, refused-45, bytes-45, written, bytes-written, text-room)

-- ---- any words: x says whether they are a table, u are the words used

module _ (w : List ℕ) (x : Bool) (e : x ≡ is_table w) where
  no_table : not x ≡ true → (room : ℕ) → plan_answer w room ≡ refused NoTable 0
  unfolding plan_answer
  no_table h room = rw (sym e ∙ not-true x h)

  pub refused-21 : not x ≡ true → (room : ℕ) → refused NoTable 0 ≡ plan_answer w room
  refused-21 h room = sym (no_table h room)

  pub bytes-21 : not x ≡ true → (t : List ℕ) → t ≡ plan_bytes w t
  bytes-21 h t = sym (by_answer w t (refused NoTable 0) (no_table h (length t)))

  module _ (h : not x ≡ false) where
    pub is-table : is_table w ≡ true
    is-table = sym e ∙ not-false x h

    module _ (u : List ℕ) (f : u ≡ used w) where
      pub just-used : JustTable u
      just-used = rw f (used-just w is-table)

      same_answer : (room : ℕ) → plan_answer u room ≡ plan_answer w room
      unfolding plan_answer table_writable table_text
      same_answer room = rw (just-used.table, is-table, f, used-same w is-table)

      pub used-answer : (room : ℕ) (a : Result ℕ WriteRefusal) → a ≡ plan_answer u room → a ≡ plan_answer w room
      used-answer room a g = g ∙ same_answer room

      same_text : table_text u ≡ table_text w
      unfolding table_text
      same_text = rw (f, used-same w is-table)

      pub used-bytes : (t t' : List ℕ) → t' ≡ plan_bytes u t → t' ≡ plan_bytes w t
      unfolding plan_bytes
      used-bytes t t' g = g ∙ rw (same_answer (length t), same_text)

pub ruleset asked = (tests, refused-21, bytes-21, is-table, just-used, used-answer, used-bytes)
