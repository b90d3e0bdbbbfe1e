-- What the checks of a delivery answer: what was counted, for the header of its table, or its first offence. Assumes nothing.
use Rattle.std.specs.Prelude.{ℕ, ◌+◌, ◌≤◌, ◌≡◌, List, cond, length, ltb, Result, Ok, Err}
use Rattle.std.proofs.Math.Option.{Option, none, some}
use Rattle.timetable.specs.Layout.{header_size, most_file_bytes, first_service}
use Rattle.timetable.specs.Delivery.{Files, Delivery}
use Rattle.timetable.specs.Table.{sections, table_words}
use Rattle.timetable.specs.Load.{Where, delivered, content_offence, refused_or, short_or, written_by}
use Rattle.timetable.specs.declared.Loaded.{Loaded}
use Rattle.timetable.specs.declared.Loaded.TheVariants.{Accepted}
use Rattle.table_words.specs.declared.Header.{Header}
use Rattle.load.specs.declared.FileOffence.{FileOffence}
use Rattle.load.specs.declared.Counted.{Counted}
use Rattle.reading.specs.Inner.Services.{most_plan_words}
use Rattle.timetable.specs.declared.Offence.{Offence}

-- the first of six files that is too long, by their sizes, ZUGART's before FPLAN's; 0 where none is
abbrev pub long_in : ℕ → ℕ → ℕ → ℕ → ℕ → ℕ → ℕ
long_in e b s u z p =
    cond (ltb most_file_bytes e) 1 (cond (ltb most_file_bytes b) 2 (cond (ltb most_file_bytes s) 3 (cond (ltb most_file_bytes u) 4
    (cond (ltb most_file_bytes z) 6 (cond (ltb most_file_bytes p) 5 0)))))

-- the header, from what was counted: so many records, and w words of services
abbrev pub header_by : ℕ → ℕ → ℕ → ℕ → ℕ → ℕ → ℕ → ℕ → Header
header_by start days b s u k v w = record {
  words = first_service b s u k + w;
  start = start;
  n = days;
  fields = b;
  stops = s;
  interchanges = u;
  services = v;
  first = first_service b s u k;
  classes = k;
}

-- what was counted fits the numbers of a header
pub record Few (c : Counted) : Type 0 where
  pub fields : c.fields ≤ most_file_bytes
  pub stops : c.stops ≤ most_file_bytes
  pub interchanges : c.interchanges ≤ most_file_bytes
  pub classes : c.classes ≤ most_file_bytes
  pub words : c.words ≤ most_plan_words

-- where no file offends
pub record FewHeld (r : Result Counted FileOffence) : Type 0 where
  pub few : (c : Counted) → r ≡ Ok c → Few c

-- the header of what was counted, or the first offence
abbrev pub header_or_offence : Result Counted FileOffence → Result Header FileOffence
header_or_offence (Err first) = Err first
header_or_offence (Ok c) = Ok (header_by c.start c.days c.fields c.stops c.interchanges c.classes c.services c.words)

-- the header of a delivery's table
abbrev pub header_of : Delivery → Header
header_of d = record {
  words = header_size + length (sections d);
  start = d.period.start;
  n = d.period.n;
  fields = length d.fields;
  stops = length d.stops;
  interchanges = length d.interchanges;
  services = length d.services;
  first = first_service (length d.fields) (length d.stops) (length d.interchanges) (length d.classes);
  classes = length d.classes;
}

-- what the check of a file says, its offence with the file
abbrev pub refused_in : ℕ → Result (ℕ × ℕ) Offence → Result (ℕ × ℕ) FileOffence
refused_in file (Err o) = Err (record { file = file; offence = o })
refused_in file (Ok held) = Ok held

abbrev pub delivered_by : Option Where → Header → Result Header FileOffence
delivered_by none h = Ok h
delivered_by (some w) h = Err (record { file = w.file; offence = w.offence })

-- ---- a load that is past 1 and 51: what it answers, by the room lent, and the table that it leaves

unfoldable pub answered : Files → ℕ → Loaded
answered f room = refused_or (content_offence f) (short_or 20 room (length (table_words (delivered f))) (Accepted (length (table_words (delivered f)))))

unfoldable pub left : Files → List ℕ → List ℕ
left f t = written_by (answered f (length t)) (table_words (delivered f)) t
