-- Worked lines of every kind, computed, with the column where the form breaks. Assumes nothing.
use mathlib.Core.Path.{◌≡◌, refl}
use mathlib.Core.Bool.{true}
use mathlib.Core.List.{List, [], ◌∷◌}
use Prim.Native.Nat.{ℕ}
use Prim.Native.String.{String, ◌++◌}
use Rattle.base.specs.Lists.{every}
use Rattle.base.specs.Text.{bytes}
use Rattle.columns.specs.Columns as C
use Rattle.fields.specs.Fields as F
use Rattle.fields.proofs.Cases.{Case, ◌⇒◌, Says}
use Rattle.forms.specs.Form.{Form, Fits, Broken, stray_from, unnamed, row_form, form_from, form_of}
use Rattle.forms.specs.declared.Kind.{Kind}
use Rattle.forms.specs.declared.Kind.TheVariants.{Opening, Frequency, Category, Attribute, Schedule, Other}
use Rattle.forms.specs.Kinds.{kind_of}
use Rattle.forms.proofs.Laws.{row-holds}
use Rattle.forms.specs.Columns.{date_columns, bit_field_columns, stop_columns, interchange_columns, class_columns, service_columns, frequency_columns, category_columns, attribute_columns, call_columns}

abbrev pub kinds : List (Case Kind)
kinds =
    "*Z 00042 FERRY_" ⇒ Opening
    ∷ "*Z" ⇒ Opening
    ∷ "*G BAT" ⇒ Category
    ∷ "*A VE" ⇒ Attribute
    ∷ "1000011" ⇒ Schedule
    ∷ "*T 01554 80____" ⇒ Frequency
    ∷ "*T" ⇒ Frequency
    ∷ "*Zx" ⇒ Other
    ∷ "*TT" ⇒ Other
    ∷ "*E 1" ⇒ Other
    ∷ " 1000011" ⇒ Other
    ∷ "" ⇒ Other
    ∷ []

-- the text, and 93 zeros behind it
abbrev zeros : String → String
zeros s = s ++ "000000000000000000000000000000000000000000000000000000000000000000000000000000000000000000000"

abbrev pub bit_fields : List (Case Form)
bit_fields =
    zeros "000001 FE6" ⇒ Fits
    ∷ (zeros "000001 FE6" ++ "  ") ⇒ Fits
    ∷ zeros "00001  FE6" ⇒ Broken 1
    ∷ zeros "0000010FE6" ⇒ Broken 7
    ∷ zeros "000001 fe6" ⇒ Broken 8
    ∷ zeros "000001 FE" ⇒ Broken 8
    ∷ zeros "000001 FE60" ⇒ Broken 104
    ∷ []

abbrev pub dates : List (Case Form)
dates =
    "01.12.2025" ⇒ Fits
    ∷ "07.12.2025 last day" ⇒ Fits
    ∷ "1.12.2025" ⇒ Broken 1
    ∷ "01-12-2025" ⇒ Broken 1
    ∷ "01.12.25" ⇒ Broken 1
    ∷ []

abbrev pub stops : List (Case Form)
stops =
    "1000011     Quay" ⇒ Fits
    ∷ "1000011 +++ Quay" ⇒ Fits
    ∷ "100001      Quay" ⇒ Broken 1
    ∷ "1000011x    Quay" ⇒ Broken 8
    ∷ "1000011    x_quay" ⇒ Broken 12
    ∷ "1000011" ⇒ Broken 13
    ∷ "1000011                                                       52.1 13.4" ⇒ Broken 13
    ∷ []

abbrev pub interchanges : List (Case Form)
interchanges =
    "9999999  2  3" ⇒ Fits
    ∷ "9999999 60 99 ferry" ⇒ Fits
    ∷ "9999999 61  3" ⇒ Broken 9
    ∷ "9999999     3" ⇒ Broken 9
    ∷ "9999999  2" ⇒ Broken 12
    ∷ "9999999  2 3 " ⇒ Broken 12
    ∷ "9999999  2  3x" ⇒ Broken 14
    ∷ []

-- 001, 5.5's example in its columns (printed with single blanks) and as it is printed; 5.5.1's lines
abbrev pub classes : List (Case Form)
classes =
    "N    3 A 0 N        0 N Nahverkehrs zug" ⇒ Fits
    ∷ "BAT 13   7          2 B" ⇒ Fits
    ∷ "ICE 00 H 0 -        1" ⇒ Fits
    ∷ "N 3 A 0 N 0 N Nahverkehrs zug" ⇒ Broken 5
    ∷ "<text>" ⇒ Broken 4
    ∷ "<German>" ⇒ Broken 4
    ∷ "class00 Ferries" ⇒ Broken 4
    ∷ "option00 Boats only" ⇒ Broken 4
    ∷ "tariff00 Quay" ⇒ Broken 4
    ∷ "category001 Ferry" ⇒ Broken 4
    ∷ " AT  3 A 0 N        0 N" ⇒ Broken 1
    ∷ "BATx 3 A 0 N        0 N" ⇒ Broken 4
    ∷ "BAT 14 A 0 N        0 N" ⇒ Broken 5
    ∷ "BAT    A 0 N        0 N" ⇒ Broken 5
    ∷ "BAT  3xA 0 N        0 N" ⇒ Broken 7
    ∷ "BAT  3 I 0 N        0 N" ⇒ Broken 8
    ∷ "BAT  3 a 0 N        0 N" ⇒ Broken 8
    ∷ "BAT  3 @ 0 N        0 N" ⇒ Broken 8
    ∷ "BAT  3 A 8 N        0 N" ⇒ Broken 10
    ∷ "BAT  3 A   N        0 N" ⇒ Broken 10
    ∷ "BAT  3 A 0 N        3 N" ⇒ Broken 21
    ∷ "BAT  3 A 0 N          N" ⇒ Broken 21
    ∷ "BAT  3 A 0 N        0 X" ⇒ Broken 23
    ∷ "BAT  3 A 0 N        0 Nx" ⇒ Broken 24
    ∷ []

abbrev pub services : List (Case Form)
services =
    "*Z 00042 FERRY_                                           %" ⇒ Fits
    ∷ "*Z 00042 FERRY_       023 010                             % 24 runs" ⇒ Fits
    ∷ "*Z 00042 FERRY_       000 000                             %" ⇒ Fits
    ∷ "*Z 0042  FERRY_                                           %" ⇒ Broken 4
    ∷ "*Z 00042 FERRY                                            %" ⇒ Broken 10
    ∷ "*Z 00042 FERRY_    x                                      %" ⇒ Broken 20
    ∷ "*Z 00042 FERRY_       23  010                             %" ⇒ Broken 23
    ∷ "*Z 00042 FERRY_       023                                 %" ⇒ Broken 27
    ∷ "*Z 00042 FERRY_           010                             %" ⇒ Broken 27
    ∷ "*Z 00042 FERRY_       023 000                             %" ⇒ Broken 27
    ∷ "*Z 00042 FERRY_" ⇒ Broken 59
    ∷ []

-- 001, 5.3.3's example (its administration has seven bytes: the last is taken away), and 5.3.17's, whose density is negative
abbrev pub frequencies : List (Case Form)
frequencies =
    "*T 01554 80____ 0240 0450                                 %" ⇒ Fits
    ∷ "*T 01554 80____ 0000 0001                                 % one run" ⇒ Fits
    ∷ "*T 1554  80____ 0240 0450                                 %" ⇒ Broken 4
    ∷ "*T 01554x80____ 0240 0450                                 %" ⇒ Broken 9
    ∷ "*T 01554 80___  0240 0450                                 %" ⇒ Broken 10
    ∷ "*T 01554 80_____0240 0450                                 %" ⇒ Broken 16
    ∷ "*T 01554 80____  240 0450                                 %" ⇒ Broken 17
    ∷ "*T 01554 80____ 0240x0450                                 %" ⇒ Broken 21
    ∷ "*T 00001 VGS___ 0720 -0900 %" ⇒ Broken 22
    ∷ "*T 01554 80____ 0240 0000                                 %" ⇒ Broken 22
    ∷ "*T 01554 80____ 0240                                      %" ⇒ Broken 22
    ∷ "*T 01554 80____ 0240 0450 010                             %" ⇒ Broken 27
    ∷ "*T 01554 80____ 0240 0450" ⇒ Broken 59
    ∷ "*T" ⇒ Broken 4
    ∷ []

abbrev pub categories : List (Case Form)
categories =
    "*G BAT                                                    %" ⇒ Fits
    ∷ "*G BAT 1000022 1000022 #0      00855                      %" ⇒ Fits
    ∷ "*G BAT #1          #3  unread unread                      %" ⇒ Fits
    ∷ "*G  AT                                                    %" ⇒ Broken 4
    ∷ "*G BAT 100002                                             %" ⇒ Broken 8
    ∷ "*G BAT         #                                          %" ⇒ Broken 16
    ∷ "*G BAT 1000022         unread                             %" ⇒ Broken 24
    ∷ "*G BAT         1000022         00860                      %" ⇒ Broken 31
    ∷ []

abbrev pub attributes : List (Case Form)
attributes =
    "*A VE                 000001                              %" ⇒ Fits
    ∷ "*A F  1000011 1000022         00800 #1                    %" ⇒ Fits
    ∷ "*A  E                                                     %" ⇒ Broken 4
    ∷ "*A VE                 00001                               %" ⇒ Broken 23
    ∷ "*A VE 1000011         000001 x                            %" ⇒ Broken 30
    ∷ "*A VE         1000022               #                     %" ⇒ Broken 37
    ∷ []

abbrev pub calls : List (Case Form)
calls =
    "1000022 Quay                  00810 -00812 00042 FERRY_ X %anything" ⇒ Fits
    ∷ "1000022                                                   %" ⇒ Fits
    ∷ "100002                                                    %" ⇒ Broken 1
    ∷ "1000022x                                                  %" ⇒ Broken 8
    ∷ "1000022                       00860                       %" ⇒ Broken 30
    ∷ "1000022                             +00812                %" ⇒ Broken 37
    ∷ "1000022                                    0042           %" ⇒ Broken 44
    ∷ "1000022                                          FERRY    %" ⇒ Broken 50
    ∷ "1000022                                                 Y %" ⇒ Broken 57
    ∷ "1000022                                                  x%" ⇒ Broken 58
    ∷ "1000022" ⇒ Broken 59
    ∷ []

pub worked :
    Says kind_of kinds
    × Says (form_of date_columns) dates
    × Says (form_of bit_field_columns) bit_fields
    × Says (form_of stop_columns) stops
    × Says (form_of interchange_columns) interchanges
    × Says (form_of class_columns) classes
    × Says (form_of service_columns) services
    × Says (form_of frequency_columns) frequencies
    × Says (form_of category_columns) categories
    × Says (form_of attribute_columns) attributes
    × Says (form_of call_columns) calls
unfolding bytes every kind_of stray_from unnamed row_form form_from C.pad_to C.columns C.count C.number_from F.hash_digits F.hash F.time_in F.range_end_in F.detail_in
worked = (refl, refl, refl, refl, refl, refl, refl, refl, refl, refl, refl)

-- a use of `row-holds`: the number of a stop's line is digits
pub stop-number : (line : List ℕ) → form_of stop_columns line ≡ Fits → C.digits (C.columns 1 7 line) ≡ true
stop-number line e = row-holds stop_columns line 0 e
