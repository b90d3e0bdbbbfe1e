-- FPLAN written from a table (document 02, No. 11): the text, the answer, and the lent bytes afterwards. Assumes nothing.
use Rattle.std.specs.Prelude.{ℕ, List, Bool, cond, length, ltb, Result, Ok, Err}
use Rattle.base.specs.Lists.{every}
use Rattle.timetable.specs.Load.{onto}
use Rattle.timetable.specs.Table.{table_of, is_table}
use Rattle.timetable.specs.declared.refusal.Refusal.{Refusal}
use Rattle.timetable.specs.declared.refusal.Refusal.TheVariants.{NoTable, NotWritable, TextTooShort}
use Rattle.plan_services.specs.Services.{plan_text}
use Rattle.writable.specs.Writable.{service_writable}
use Rattle.plan_writing.specs.declared.WriteRefusal.{WriteRefusal}

-- "From a table write, per service, the opening line, all *G, all *A VE, other *A, then calls"; the calls' stops by their numbers
unfoldable pub table_text : List ℕ → List ℕ
table_text w = plan_text (table_of w).services

-- "44 for a value that its columns cannot hold or that would answer 4 when read": it is not told where this is true
unfoldable pub table_writable : List ℕ → Bool
table_writable w = every service_writable (table_of w).services

-- a refusal, and the bytes needed
abbrev pub refused : Refusal → ℕ → Result ℕ WriteRefusal
refused refusal needed = Err (record { refusal = refusal; needed = needed })

-- "45 text buffer too short, with the bytes needed"; else how many bytes are written
abbrev pub text_or_short : List ℕ → ℕ → Result ℕ WriteRefusal
text_or_short text room = cond (ltb room (length text)) (refused TextTooShort (length text)) (Ok (length text))

-- "Refusals: 21; 44 ..; 45 .."
unfoldable pub plan_answer : List ℕ → ℕ → Result ℕ WriteRefusal
plan_answer w room = cond (is_table w) (cond (table_writable w) (text_or_short (table_text w) room) (refused NotWritable 0)) (refused NoTable 0)

-- the text from the front of the bytes lent, later bytes stay; "the buffer then stays"
abbrev pub bytes_by : Result ℕ WriteRefusal → List ℕ → List ℕ → List ℕ
bytes_by (Ok n) text t = onto text t
bytes_by (Err r) text t = t

unfoldable pub plan_bytes : List ℕ → List ℕ → List ℕ
plan_bytes w t = bytes_by (plan_answer w (length t)) (table_text w) t
