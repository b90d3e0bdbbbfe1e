-- A whole delivery: what it holds, its first offence, and what load answers and leaves. (Its words: Table.) Assumes nothing.
use Rattle.std.specs.Prelude.{ℕ, ◌+◌, ◌*◌, List, [], ◌∷◌, ◌++◌, map, Bool, true, false, cond, length, drop, replicate, ltb}
use Rattle.std.proofs.Math.Option.{Option, none, some}
use Rattle.lines.specs.Lines.{lines_of}
use Rattle.timetable.specs.Layout.{helper_head, helper_line, most_file_bytes}
use Rattle.timetable.specs.Delivery.{Files, Delivery}
use Rattle.timetable.specs.Offences.{◌<|>◌, given}
use Rattle.timetable.specs.Files.{period_first, period_in, bit_fields_in, bit_fields_first, stops_in, stops_first, interchanges_in, interchanges_first, classes_in, classes_first}
use Rattle.timetable.specs.Service.{service_of, blocks}
use Rattle.timetable.specs.Checks.{plan_first}
use Rattle.timetable.specs.Table.{table_words}
use Rattle.timetable.specs.declared.Offence.{Offence}
use Rattle.timetable.specs.declared.Loaded.{Loaded}
use Rattle.timetable.specs.declared.Loaded.TheVariants.{Accepted, Refused}

-- ---- what a delivery holds, read from any files

unfoldable pub delivered : Files → Delivery
delivered f = record {
  period = period_in (lines_of f.eckdaten);
  fields = bit_fields_in f.bitfeld;
  stops = stops_in f.bahnhof;
  interchanges = interchanges_in f.umsteigb;
  classes = classes_in f.zugart;
  services = map service_of (blocks (lines_of f.fplan));
}

-- ---- "First, lengths in file order; then files 1 to 5, each by line; .. Last, 20." Document 02, No. 1: "ZUGART is file 6, its lengths and lines checked
-- after UMSTEIGB's", so before FPLAN's

-- an offence with its file
pub record Where : Type 0 where
  pub file : ℕ
  pub offence : Offence

abbrev pub in_file : ℕ → Option Offence → Option Where
in_file f none = none
in_file f (some o) = some (record { file = f; offence = o })

-- "1 file over 16,777,216 bytes", line 0
abbrev pub too_long : ℕ → List ℕ → Option Where
too_long f s = in_file f (given (ltb most_file_bytes (length s)) 1 0)

-- "First, lengths in file order" (No. 1: 6 after 4)
unfoldable pub length_offence : Files → Option Where
length_offence f =
    too_long 1 f.eckdaten <|> too_long 2 f.bitfeld <|> too_long 3 f.bahnhof <|> too_long 4 f.umsteigb <|> too_long 6 f.zugart
    <|> too_long 5 f.fplan

-- "then files 1 to 5, each by line" (No. 1: 6 after 4)
unfoldable pub content_offence : Files → Option Where
content_offence f =
    in_file 1 (period_first (lines_of f.eckdaten))
    <|> in_file 2 (bit_fields_first (delivered f).period.n (lines_of f.bitfeld))
    <|> in_file 3 (stops_first (lines_of f.bahnhof))
    <|> in_file 4 (interchanges_first (delivered f).stops (lines_of f.umsteigb))
    <|> in_file 6 (classes_first (lines_of f.zugart))
    <|> in_file 5 (plan_first (delivered f).fields (delivered f).stops (delivered f).classes (delivered f).period.n (lines_of f.fplan))

-- the first offence of the files; 51 and 20, which are no file's, `loaded` puts between and behind
unfoldable pub offence : Files → Option Where
offence f = length_offence f <|> content_offence f

-- ---- load: its answer, and the table and the helper words afterwards

-- words from the front of those lent; "later words stay"
unfoldable pub onto : List ℕ → List ℕ → List ℕ
onto ws t = ws ++ drop (length ws) t

-- No. 13: "helper words are lent: 64, and four for each line of BITFELD, BAHNHOF and UMSTEIGB"
unfoldable pub helper_needed : Files → ℕ
helper_needed f = helper_head + helper_line * (length (lines_of f.bitfeld) + length (lines_of f.bahnhof) + length (lines_of f.umsteigb))

-- "A refusal returns number, file, line, and the words needed (0 unless 20)" (or 51, by No. 13).
-- No. 6: "A refusal 4 also returns the column where the leftmost field or unnamed column that breaks the form starts ..; all other refusals return 0
-- there." (The offence's own: `form_offence` has it from the form, every other offence is made by `offence_at`.)
abbrev pub refused_or : Option Where → Loaded → Loaded
refused_or (some w) later = Refused w.offence.number w.file w.offence.line w.offence.column 0
refused_or none later = later

-- fewer words lent than are needed: file 0, line 0, "with the words needed"
abbrev pub short_or : ℕ → ℕ → ℕ → Loaded → Loaded
short_or number lent needed later = cond (ltb lent needed) (Refused number 0 0 0 needed) later

-- Lengths; No. 13: "51, directly after 1, for fewer helper words, file 0, line 0, with the words needed"; the files' lines; "Last, 20": "20 table lent too
-- short", file 0, line 0. "Acceptance returns words used".
unfoldable pub loaded : Files → ℕ → ℕ → Loaded
loaded f room helper =
    refused_or (length_offence f)
    (short_or 51 helper (helper_needed f)
    (refused_or (content_offence f)
    (short_or 20 room (length (table_words (delivered f)))
    (Accepted (length (table_words (delivered f)))))))

-- "the table stays as lent"
abbrev pub written_by : Loaded → List ℕ → List ℕ → List ℕ
written_by (Accepted used) ws t = onto ws t
written_by (Refused number file line column needed) ws t = t

unfoldable pub written : Files → List ℕ → ℕ → List ℕ
written f t helper = written_by (loaded f (length t) helper) (table_words (delivered f)) t

-- No. 13: "Those words hold 0 afterwards; any further ones stay. .. after 1 and 51 all helper words stay." (The offence 1, if any, and whether 51 is told.)
abbrev pub helped_by : Option Where → Bool → ℕ → List ℕ → List ℕ
helped_by (some w) few needed h = h
helped_by none few needed h = cond few h (onto (replicate needed 0) h)

unfoldable pub helped : Files → List ℕ → List ℕ
helped f h = helped_by (length_offence f) (ltb (length h) (helper_needed f)) (helper_needed f) h
