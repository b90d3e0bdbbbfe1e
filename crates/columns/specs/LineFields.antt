-- The fields of each kind of line by name: the paper's table of columns, each range of columns said once of what has to be believed. What is asked of a field stands in
-- forms/specs/Columns, what it says in calendar, bitfield and timetable, what is written there in plan_text. Assumes nothing.
use Rattle.std.specs.Prelude.{ℕ, List}
use Rattle.columns.specs.Columns.{columns}

-- columns `from` to `to` of a line
pub record LineField : Type 0 where
  pub from : ℕ
  pub to : ℕ

infix 80 ◌⋯◌
abbrev pub ◌⋯◌ : ℕ → ℕ → LineField
a ⋯ b = record { from = a; to = b }

-- what a line has there
abbrev pub field_in : LineField → List ℕ → List ℕ
field_in f line = columns f.from f.to line

-- ---- "1 ECKDATEN, lines 1, 2: 1-10 DD.MM.YYYY, rest free"

abbrev pub date_whole : LineField
date_whole = 1 ⋯ 10

abbrev pub date_day : LineField
date_day = 1 ⋯ 2

abbrev pub date_month : LineField
date_month = 4 ⋯ 5

abbrev pub date_year : LineField
date_year = 7 ⋯ 10

abbrev pub date_rest : ℕ
date_rest = 11

-- ---- "2 BITFELD: 1-6 digits, 8-103 hex digits 0-9 A-F"

abbrev pub bit_field_number : LineField
bit_field_number = 1 ⋯ 6

abbrev pub bit_field_bits : LineField
bit_field_bits = 8 ⋯ 103

-- ---- "3 BAHNHOF: 1-7 digits, 9-11 free, 13-62 name not all blank, from 63 free"; 001, 5.1: 9-11 "transport authority information"

abbrev pub stop_number : LineField
stop_number = 1 ⋯ 7

abbrev pub stop_authority : LineField
stop_authority = 9 ⋯ 11

abbrev pub stop_names : LineField
stop_names = 13 ⋯ 62

abbrev pub stop_rest : ℕ
stop_rest = 63

-- ---- "4 UMSTEIGB: 1-7 digits, 9-10 count to 60, 12-13 count, from 15 free"

abbrev pub interchange_stop : LineField
interchange_stop = 1 ⋯ 7

abbrev pub interchange_first : LineField
interchange_first = 9 ⋯ 10

abbrev pub interchange_second : LineField
interchange_second = 12 ⋯ 13

abbrev pub interchange_rest : ℕ
interchange_rest = 15

-- ---- document 02, No. 1, "the sixth file by section 5.5: code 1-3 .., class 5-6 .., tariff group 8 .., output control 10 .., output text 12-19 ..,
-- supplement 21 .., flag 23 .., and from 25 free"

abbrev pub class_code : LineField
class_code = 1 ⋯ 3

abbrev pub class_number : LineField
class_number = 5 ⋯ 6

abbrev pub class_tariff : LineField
class_tariff = 8 ⋯ 8

abbrev pub class_control : LineField
class_control = 10 ⋯ 10

abbrev pub class_text : LineField
class_text = 12 ⋯ 19

abbrev pub class_supplement : LineField
class_supplement = 21 ⋯ 21

abbrev pub class_flag : LineField
class_flag = 23 ⋯ 23

abbrev pub class_rest : ℕ
class_rest = 25

-- ---- FPLAN. "Which kind a line is follows from its first bytes: "*Z ", "*G ", "*A " or a digit."; document 02, No. 8, adds "*T ". "In FPLAN column 59 is "%"
-- and anything may follow." `plan_kind` is of starred lines only: a schedule line has its stop number there.

abbrev pub plan_kind : LineField
plan_kind = 1 ⋯ 3

abbrev pub plan_mark : LineField
plan_mark = 59 ⋯ 59

abbrev pub plan_rest : ℕ
plan_rest = 60

-- ---- "5 FPLAN *Z: 4-8 digits, 10-15 six non-blank bytes, 23-25 repeats and 27-29 offset"; a *T has the first two where a *Z has them (001, 5.3.3)

abbrev pub opening_number : LineField
opening_number = 4 ⋯ 8

abbrev pub opening_administration : LineField
opening_administration = 10 ⋯ 15

abbrev pub opening_repeats : LineField
opening_repeats = 23 ⋯ 25

abbrev pub opening_offset : LineField
opening_offset = 27 ⋯ 29

-- ---- document 02, No. 8: "*T (section 5.3.3): running time in minutes 17-20, density in seconds 22-25"

abbrev pub frequency_time : LineField
frequency_time = 17 ⋯ 20

abbrev pub frequency_density : LineField
frequency_density = 22 ⋯ 25

-- ---- "*G: 4-6 category (4 not blank), 8-14 from, 16-22 to, 24-29 from-detail, 31-36 to-detail"

abbrev pub category_name : LineField
category_name = 4 ⋯ 6

abbrev pub category_from : LineField
category_from = 8 ⋯ 14

abbrev pub category_to : LineField
category_to = 16 ⋯ 22

abbrev pub category_from_detail : LineField
category_from_detail = 24 ⋯ 29

abbrev pub category_to_detail : LineField
category_to_detail = 31 ⋯ 36

-- ---- "*A: 4-5 code .., 7-13 from, 15-21 to, 23-28 bit field digits or blank, 30-35 and 37-42 details"

abbrev pub attribute_code : LineField
attribute_code = 4 ⋯ 5

abbrev pub attribute_from : LineField
attribute_from = 7 ⋯ 13

abbrev pub attribute_to : LineField
attribute_to = 15 ⋯ 21

abbrev pub attribute_bit_field : LineField
attribute_bit_field = 23 ⋯ 28

abbrev pub attribute_from_detail : LineField
attribute_from_detail = 30 ⋯ 35

abbrev pub attribute_to_detail : LineField
attribute_to_detail = 37 ⋯ 42

-- ---- "schedule: 1-7 digits, 9-29 free, 30-35 arrival, 37-42 departure, 44-48 digits or blank, 50-55 all or no blanks, 57 X or blank"; 001, 5.3.14:
-- 9-29 "stop name", 44-48 "service number applicable from the stop", 50-55 "administration applicable from the stop", 57 ""X", if this stop is given on
-- the destination board of the service"

abbrev pub call_stop : LineField
call_stop = 1 ⋯ 7

abbrev pub call_stop_name : LineField
call_stop_name = 9 ⋯ 29

abbrev pub call_arrival : LineField
call_arrival = 30 ⋯ 35

abbrev pub call_departure : LineField
call_departure = 37 ⋯ 42

abbrev pub call_number : LineField
call_number = 44 ⋯ 48

abbrev pub call_administration : LineField
call_administration = 50 ⋯ 55

abbrev pub call_destination_board : LineField
call_destination_board = 57 ⋯ 57
