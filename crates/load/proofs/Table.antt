-- The header and the files' words are the table's words. Assumes nothing.
use mathlib.Core.Path.{◌≡◌, refl, ap, ◌∙◌}
use mathlib.Core.List.{List, ◌++◌, append_assoc}
use Prim.Native.Nat.{ℕ, ◌+◌}
use native.Mathlib.Omega.{arith}
use lib.ListN.{length, length-append, length-map}
use Rattle.lines.specs.Lines.{lines_of}
use Rattle.timetable.specs.Layout.{header_size, first_service}
use Rattle.timetable.specs.Delivery.{files_of, Delivery}
use Rattle.timetable.specs.Files.{period_in, bit_fields_in, stops_in, interchanges_in, classes_in}
use Rattle.timetable.specs.Service.{blocks, service_of}
use Rattle.timetable.specs.Table.{sections, table_words}
use Rattle.timetable.specs.Load.{delivered}
use Rattle.sections.specs.declared.Section.TheVariants.{BitFields, Stops, Interchanges, Classes}
use Rattle.table_words.specs.Inner.SectionWords.{section_words}
use Rattle.table_words.proofs.section_words.Words.{words-fields, words-stops, words-interchanges, words-classes, length_fields, length-stops, length-interchanges, length-classes}
use Rattle.reading.specs.Inner.Services.{block_words}
use Rattle.plan_words.specs.Inner.Services.{placed_words}
use Rattle.plan_words.proofs.Putting.{placed-size}
use Rattle.table_words.specs.Inner.Words.{header_words, sections_words, body_words}
use Rattle.table_words.specs.declared.Header.{Header}
use Rattle.load.specs.Inner.Delivered.{header_by, header_of}

-- ---- the words of a delivery

same-header : (w w' start days b s u v v' first k : ℕ) → w ≡ w' → v ≡ v'
    → ◌≡◌ {A = Header} (record { words = w; start = start; n = days; fields = b; stops = s; interchanges = u; services = v; first = first; classes = k }) (record { words = w'; start = start; n = days; fields = b; stops = s; interchanges = u; services = v'; first = first; classes = k })
same-header w w' start days b s u v v' first k e d = rw (e, d) refl

module _ (e b s u p z : List ℕ) where
  -- what the files hold
  abbrev whole : Delivery
  whole = delivered (files_of e b s u p z)

  -- the words of FPLAN, as they were counted
  abbrev plan : List ℕ
  plan = block_words (blocks (lines_of p))

  sections-are : sections whole ≡ body_words b s u z p
  unfolding delivered placed_words sections_words
  sections-are = rw (← words-fields (lines_of b), ← words-stops (lines_of s), ← words-interchanges (lines_of u), ← words-classes (lines_of z), append_assoc, append_assoc, append_assoc) refl

  body-length : header_size + length (body_words b s u z p) ≡ first_service (length (bit_fields_in b)) (length (stops_in s)) (length (interchanges_in u)) (length (classes_in z)) + length plan
  unfolding sections_words
  body-length =
      omega (
        arith,
        length_fields (lines_of b),
        length-stops (lines_of s),
        length-interchanges (lines_of u),
        length-classes (lines_of z),
        length-append (sections_words b s u z) (placed_words (stops_in s) (blocks (lines_of p))),
        placed-size (stops_in s) (blocks (lines_of p)),
        length-append (section_words BitFields (lines_of b)) (section_words Stops (lines_of s) ++ (section_words Interchanges (lines_of u) ++ section_words Classes (lines_of z))),
        length-append (section_words Stops (lines_of s)) (section_words Interchanges (lines_of u) ++ section_words Classes (lines_of z)),
        length-append (section_words Interchanges (lines_of u)) (section_words Classes (lines_of z)),
      )

  pub header_is : header_of whole ≡ header_by (period_in (lines_of e)).start (period_in (lines_of e)).n (length (bit_fields_in b)) (length (stops_in s)) (length (interchanges_in u)) (length (classes_in z)) (length (blocks (lines_of p))) (length plan)
  unfolding delivered
  header_is = same-header _ _ _ _ _ _ _ _ _ _ _ (ap (λ (ws : List ℕ). header_size + length ws) sections-are ∙ body-length) (length-map (blocks (lines_of p)) service_of)

  pub words-needed : (header_of whole).words ≡ header_size + length (body_words b s u z p)
  words-needed = ap (λ (ws : List ℕ). header_size + length ws) sections-are

  pub words-used : length (table_words whole) ≡ (header_of whole).words
  unfolding table_words
  words-used = omega arith

  pub table_is : table_words whole ≡ header_words (header_of whole) ++ body_words b s u z p
  unfolding table_words
  table_is = ap (λ (ws : List ℕ). header_words (header_of whole) ++ ws) sections-are
