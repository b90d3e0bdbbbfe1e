-- The words of a delivery, with its records as they are, read back as that delivery, whatever words follow: `words_back`, and for what files hold
-- `table-back`. These are the words of the old table (specs/OldTable.antt); a table's are the same of the delivery with its calls pointing (Places).
-- Assumes nothing.
use mathlib.Core.Path.{◌≡◌, refl, sym, ap, ◌∙◌}
use mathlib.Core.List.{List, [], ◌∷◌, ◌++◌, append-nil}
use mathlib.Core.Bool.{Bool, true, false, cond}
use Prim.Native.Nat.{ℕ, ◌+◌, ◌*◌}
use native.Mathlib.Omega.{arith}
use lib.ListN.{length, take, drop, length-append}
use lib.Seq.{take_at}
use Rattle.base.specs.Lists.{All, nil, cons, gathered}
use Rattle.columns.specs.Columns.{columns, number}
use Rattle.bitfield.specs.BitField.{bits_in}
use Rattle.bitfield.proofs.Hex.{length-bits}
use Rattle.lines.specs.Lines.{Line, lines_of, skipped}
use Rattle.forms.specs.Form.{form_of, Form, Fits, Broken}
use Rattle.forms.specs.Columns.{bit_field_columns}
use Rattle.timetable.specs.Delivery.{Files, Delivery}
use Rattle.timetable.specs.Files.{skip, listed, held_in, held_by, bit_field_of}
use Rattle.timetable.specs.Load.{delivered}
use Rattle.timetable.specs.Table.{bit_field_words, stop_words, interchange_words, class_words, service_words, used_words}
use Rattle.timetable.specs.Layout.{header_size, bit_field_size, stop_size, interchange_size, class_size, first_service}
use Rattle.timetable.specs.Table.{rows_in, bit_field_at, stop_at, interchange_at, class_at, services_in, used}
use Rattle.whole_runs.specs.OldTable.{old_sections as sections, old_table_words as table_words, old_table_of as table_of}
use Rattle.whole_runs.proofs.Lists.{all_append}
use Rattle.timetable.proofs.Records.{past, twelve, fields_back, fields-length, stops-back, stops-length, interchanges-back, interchanges-length, classes-back, classes-length, services-back}

-- ---- the table

pub words-length : (d : Delivery) → length (table_words d) ≡ header_size + length (sections d)
unfolding table_words
words-length d = omega arith

count_word : (d : Delivery) (rest : List ℕ) → used_words (table_words d ++ rest) ≡ header_size + length (sections d)
unfolding table_words
count_word d rest = refl

-- the words used are those of the delivery, whatever follows
pub used-back : (d : Delivery) (rest : List ℕ) → used (table_words d ++ rest) ≡ table_words d
used-back d rest = ap (λ (n : ℕ). take n (table_words d ++ rest)) (count_word d rest) ∙ take_at (table_words d) rest (header_size + length (sections d)) (words-length d)

module _ (d : Delivery) (h : All twelve d.fields) where
  S : List ℕ
  S = gathered stop_words d.stops

  U : List ℕ
  U = gathered interchange_words d.interchanges

  K : List ℕ
  K = gathered class_words d.classes

  Z : List ℕ
  Z = gathered service_words d.services

  b : ℕ
  b = header_size + bit_field_size * length d.fields

  to-stops : drop b (table_words d) ≡ S ++ (U ++ (K ++ Z))
  unfolding table_words S U K Z b
  to-stops = past (table_words d) (gathered bit_field_words d.fields) (S ++ (U ++ (K ++ Z))) header_size (bit_field_size * length d.fields) refl (fields-length h)

  to-interchanges : drop (b + stop_size * length d.stops) (table_words d) ≡ U ++ (K ++ Z)
  unfolding S
  to-interchanges = past (table_words d) S (U ++ (K ++ Z)) b (stop_size * length d.stops) to-stops (stops-length d.stops)

  to-classes : drop (b + stop_size * length d.stops + interchange_size * length d.interchanges) (table_words d) ≡ K ++ Z
  unfolding U
  to-classes = past (table_words d) U (K ++ Z) (b + stop_size * length d.stops) (interchange_size * length d.interchanges) to-interchanges (interchanges-length d.interchanges)

  -- the services stand from their place on
  pub to-services : drop (first_service (length d.fields) (length d.stops) (length d.interchanges) (length d.classes)) (table_words d) ≡ gathered service_words d.services
  unfolding K Z b
  to-services = past (table_words d) K Z (b + stop_size * length d.stops + interchange_size * length d.interchanges) (class_size * length d.classes) to-classes (classes-length d.classes)

  pub sections-length : length (sections d) ≡ bit_field_size * length d.fields + stop_size * length d.stops + interchange_size * length d.interchanges + class_size * length d.classes + length (gathered service_words d.services)
  sections-length = simp length-append (omega (arith, fields-length h, stops-length d.stops, interchanges-length d.interchanges, classes-length d.classes))

  pub words_back : (rest : List ℕ) → table_of (table_words d ++ rest) ≡ d
  unfolding table_of table_words S U K Z b
  words_back rest =
      let u = used-back d rest in
      λ i. record {
        period = d.period;
        fields = (ap (λ (w : List ℕ). rows_in bit_field_at bit_field_size (length d.fields) (drop header_size w)) u ∙ fields_back (S ++ (U ++ (K ++ Z))) h) i;
        stops = (ap (λ (w : List ℕ). rows_in stop_at stop_size (length d.stops) (drop b w)) u ∙ (ap (rows_in stop_at stop_size (length d.stops)) to-stops ∙ stops-back d.stops (U ++ (K ++ Z)))) i;
        interchanges = (ap (λ (w : List ℕ). rows_in interchange_at interchange_size (length d.interchanges) (drop (b + stop_size * length d.stops) w)) u ∙ (ap (rows_in interchange_at interchange_size (length d.interchanges)) to-interchanges ∙ interchanges-back d.interchanges (K ++ Z))) i;
        classes = (ap (λ (w : List ℕ). rows_in class_at class_size (length d.classes) (drop (b + stop_size * length d.stops + interchange_size * length d.interchanges) w)) u ∙ (ap (rows_in class_at class_size (length d.classes)) to-classes ∙ classes-back d.classes Z)) i;
        services = (ap (λ (w : List ℕ). services_in (length d.services) (drop (first_service (length d.fields) (length d.stops) (length d.interchanges) (length d.classes)) w)) u ∙ (ap (services_in (length d.services)) (to-services ∙ sym (append-nil Z)) ∙ services-back d.services [])) i;
      }

-- ---- what files hold

-- a bit field has twelve words, whatever its line
line-twelve : (l : Line) → All twelve (listed (bit_field_of l))
line-twelve l = go (skipped l.text) (form_of bit_field_columns l.text)
  where
    go : (s : Bool) (t : Form) → All twelve (listed (cond s skip (held_by t (record { number = number (columns 1 6 l.text); words = bits_in l.text }))))
    go true t = nil
    go false Fits = cons (length-bits l.text) nil
    go false (Broken c) = nil

pub fields-twelve : (ls : List Line) → All twelve (held_in bit_field_of ls)
unfolding held_in
fields-twelve [] = nil
fields-twelve (l ∷ ls) = all_append twelve (line-twelve l) (fields-twelve ls)

-- What files hold is read back from its words, whatever words follow.
pub table-back : (f : Files) (rest : List ℕ) → table_of (table_words (delivered f) ++ rest) ≡ delivered f
unfolding delivered
table-back f rest = words_back (delivered f) (fields-twelve (lines_of f.bitfeld)) rest
