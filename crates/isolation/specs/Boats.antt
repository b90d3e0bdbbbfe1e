-- Two boats in the trial week, for the worked examples of No. 14: Coast Boats' and, behind it in FPLAN, the ferry of document 01. Assumes nothing.
use Rattle.std.specs.Prelude.{ℕ, List, [], ◌∷◌, ◌++◌, cond, eqb}
use Rattle.base.specs.Text.{bytes}
use Rattle.timetable.specs.Delivery.{Files}
use Rattle.examples.specs.Trial.{line, route_r, opening, category_over_all, bit_field, trial}

-- a line that ends with CR LF
abbrev pub line_cr : List ℕ → List ℕ
line_cr text = text ++ (13 ∷ 10 ∷ [])

-- *A VE over all, of a bit field number
abbrev pub days_of : List ℕ → List ℕ
days_of number = bytes "*A VE                 " ++ number ++ line "                              %"

-- the ferry's block, as the trial week has it but for its bit field's number; and Coast Boats'
unfoldable pub ferry_block : List ℕ → List ℕ
ferry_block number = opening ++ category_over_all ++ days_of number ++ route_r

unfoldable pub coast_block : List ℕ → List ℕ
coast_block number =
    line "% Coast Boats"
    ++ line "*Z 00007 COAST_                                           %"
    ++ category_over_all
    ++ days_of number
    ++ line "1000033                              00900                %"
    ++ line "1000011                       00930                       %"

-- Coast Boats' block after an edit: a line fewer in front, three repeats, daily (the bit field is blank), later, one call more, a line skipped, CR LF
unfoldable pub coast_edited : List ℕ
coast_edited =
    line "*Z 00007 COAST_       003 060                             %"
    ++ category_over_all
    ++ line "*A VE                                                     %"
    ++ line_cr (bytes "1000033                              01000                %")
    ++ line_cr (bytes "1000022                       01010  01015                %")
    ++ line ""
    ++ line "1000011                       01040                       %"

-- the trial week with this BITFELD and FPLAN
unfoldable pub boats : List ℕ → List ℕ → Files
boats bitfeld fplan = record {
  eckdaten = trial.eckdaten;
  bitfeld = bitfeld;
  bahnhof = trial.bahnhof;
  umsteigb = trial.umsteigb;
  fplan = fplan;
  zugart = trial.zugart;
}

-- 000001 runs from Monday to Friday, 000002 at the weekend; the ferry on 000001, Coast Boats on 000002
unfoldable pub before : Files
before = boats (bit_field "000001" "FE6" ++ bit_field "000002" "C1E") (coast_block (bytes "000002") ++ ferry_block (bytes "000001"))

-- with Coast Boats' edit
unfoldable pub edited : Files
edited = boats (bit_field "000001" "FE6" ++ bit_field "000002" "C1E") (coast_edited ++ ferry_block (bytes "000001"))

-- with the two numbers exchanged, "in BITFELD and in every place of FPLAN"
unfoldable pub exchanged_files : Files
exchanged_files = boats (bit_field "000002" "FE6" ++ bit_field "000001" "C1E") (coast_block (bytes "000001") ++ ferry_block (bytes "000002"))

-- the accident's night: exchanged in BITFELD alone
unfoldable pub half_exchanged : Files
half_exchanged = boats (bit_field "000002" "FE6" ++ bit_field "000001" "C1E") before.fplan

-- 000001 for 000002 and 000002 for 000001
unfoldable pub exchanged : ℕ → ℕ
exchanged n = cond (eqb n 1) 2 (cond (eqb n 2) 1 n)
