-- The paper's table of columns, row by row. Columns 1 to 3 of *Z, *T, *G and *A say the kind, which was looked at before.
-- Assumes nothing.
use Rattle.std.specs.Prelude.{List, [], ◌∷◌}
use Rattle.columns.specs.LineFields.{date_whole, date_rest, bit_field_number, bit_field_bits, stop_number, stop_authority, stop_names, stop_rest, interchange_stop, interchange_first, interchange_second, interchange_rest}
use Rattle.columns.specs.LineFields.{class_code, class_number, class_tariff, class_control, class_text, class_supplement, class_flag, class_rest, plan_kind, plan_mark, plan_rest}
use Rattle.columns.specs.LineFields.{opening_number, opening_administration, opening_repeats, opening_offset, frequency_time, frequency_density}
use Rattle.columns.specs.LineFields.{category_name, category_from, category_to, category_from_detail, category_to_detail}
use Rattle.columns.specs.LineFields.{attribute_code, attribute_from, attribute_to, attribute_bit_field, attribute_from_detail, attribute_to_detail}
use Rattle.columns.specs.LineFields.{call_stop, call_stop_name, call_arrival, call_departure, call_number, call_administration, call_destination_board}
use Rattle.forms.specs.declared.LineKind.{LineKind}
use Rattle.forms.specs.declared.LineKind.TheVariants.{Date, BitField, Stop, Interchange, CategoryClass, Opening, Frequency, Category, Attribute, Schedule}
use Rattle.forms.specs.Form.{FieldRule, ◌is◌, rest_rule, free, digits_only, hex_digits, non_blank, byte, or_blank, not_all_blank, first_not_blank, a_count, a_date, a_time, a_range_end, detail_of, offset_of, from_one, letter_to, transport_flag}

-- "1 ECKDATEN, lines 1, 2: 1-10 DD.MM.YYYY, rest free"
abbrev pub date_columns : List FieldRule
date_columns =
    date_whole is a_date
    ∷ rest_rule date_rest free
    ∷ []

-- "2 BITFELD: 1-6 digits, 8-103 hex digits 0-9 A-F"
abbrev pub bit_field_columns : List FieldRule
bit_field_columns =
    bit_field_number is digits_only
    ∷ bit_field_bits is hex_digits
    ∷ []

-- "3 BAHNHOF: 1-7 digits, 9-11 free, 13-62 name not all blank, from 63 free"
abbrev pub stop_columns : List FieldRule
stop_columns =
    stop_number is digits_only
    ∷ stop_authority is free
    ∷ stop_names is not_all_blank
    ∷ rest_rule stop_rest free
    ∷ []

-- "4 UMSTEIGB: 1-7 digits, 9-10 count to 60, 12-13 count, from 15 free" (two columns count to 99)
abbrev pub interchange_columns : List FieldRule
interchange_columns =
    interchange_stop is digits_only
    ∷ interchange_first is a_count 60
    ∷ interchange_second is a_count 99
    ∷ rest_rule interchange_rest free
    ∷ []

-- document 02, No. 1, "the sixth file by section 5.5: code 1-3 (column 1 not blank), class 5-6 (count to 13), tariff group 8 (A to H or blank), output
-- control 10 (0 to 7), output text 12-19 (any), supplement 21 (0 to 2), flag 23 (N, B, F or blank), and from 25 free" (H is byte 72; a count of one column is
-- a digit). "Section 5.5.1's extra lines answer 4": by their own columns.
abbrev pub class_columns : List FieldRule
class_columns =
    class_code is first_not_blank
    ∷ class_number is a_count 13
    ∷ class_tariff is or_blank (letter_to 72)
    ∷ class_control is a_count 7
    ∷ class_text is free
    ∷ class_supplement is a_count 2
    ∷ class_flag is or_blank transport_flag
    ∷ rest_rule class_rest free
    ∷ []

-- "5 FPLAN *Z: 4-8 digits, 10-15 six non-blank bytes, 23-25 repeats and 27-29 offset: digits, both or neither blank"
-- "In FPLAN column 59 is "%" and anything may follow." (% is byte 37)
abbrev pub service_columns : List FieldRule
service_columns =
    plan_kind is free
    ∷ opening_number is digits_only
    ∷ opening_administration is non_blank
    ∷ opening_repeats is or_blank digits_only
    ∷ opening_offset is offset_of opening_repeats.from
    ∷ plan_mark is byte 37
    ∷ rest_rule plan_rest free
    ∷ []

-- document 02, No. 8: "*T (section 5.3.3): running time in minutes 17-20, density in seconds 22-25. Both are digits; density is at least 1."; 001, 5.3.3:
-- 4-8 service number, 10-15 "Administration (6 digits); There must not be any blanks", as *Z has them
abbrev pub frequency_columns : List FieldRule
frequency_columns =
    plan_kind is free
    ∷ opening_number is digits_only
    ∷ opening_administration is non_blank
    ∷ frequency_time is digits_only
    ∷ frequency_density is from_one
    ∷ plan_mark is byte 37
    ∷ rest_rule plan_rest free
    ∷ []

-- "*G: 4-6 category (4 not blank), 8-14 from, 16-22 to, 24-29 from-detail, 31-36 to-detail"
abbrev pub category_columns : List FieldRule
category_columns =
    plan_kind is free
    ∷ category_name is first_not_blank
    ∷ category_from is a_range_end
    ∷ category_to is a_range_end
    ∷ category_from_detail is detail_of category_from.from
    ∷ category_to_detail is detail_of category_to.from
    ∷ plan_mark is byte 37
    ∷ rest_rule plan_rest free
    ∷ []

-- "*A: 4-5 code (4 not blank; "VE" means operating days), 7-13 from, 15-21 to, 23-28 bit field digits or blank, 30-35 and 37-42 details"
abbrev pub attribute_columns : List FieldRule
attribute_columns =
    plan_kind is free
    ∷ attribute_code is first_not_blank
    ∷ attribute_from is a_range_end
    ∷ attribute_to is a_range_end
    ∷ attribute_bit_field is or_blank digits_only
    ∷ attribute_from_detail is detail_of attribute_from.from
    ∷ attribute_to_detail is detail_of attribute_to.from
    ∷ plan_mark is byte 37
    ∷ rest_rule plan_rest free
    ∷ []

-- "schedule: 1-7 digits, 9-29 free, 30-35 arrival, 37-42 departure, 44-48 digits or blank, 50-55 all or no blanks, 57 X or blank" (X is byte 88)
abbrev pub call_columns : List FieldRule
call_columns =
    call_stop is digits_only
    ∷ call_stop_name is free
    ∷ call_arrival is a_time
    ∷ call_departure is a_time
    ∷ call_number is or_blank digits_only
    ∷ call_administration is or_blank non_blank
    ∷ call_destination_board is or_blank (byte 88)
    ∷ plan_mark is byte 37
    ∷ rest_rule plan_rest free
    ∷ []

-- the columns of each kind of line
abbrev pub columns_of : LineKind → List FieldRule
columns_of Date = date_columns
columns_of BitField = bit_field_columns
columns_of Stop = stop_columns
columns_of Interchange = interchange_columns
columns_of CategoryClass = class_columns
columns_of Opening = service_columns
columns_of Frequency = frequency_columns
columns_of Category = category_columns
columns_of Attribute = attribute_columns
columns_of Schedule = call_columns
