-- What the forms of lines of BITFELD, BAHNHOF, UMSTEIGB and ZUGART ask, in the order of their columns, for the contracts of src. Nobody has to believe
-- this file: the lines are promised over their tables of columns. Assumes nothing.
use Rattle.std.specs.Prelude.{ℕ, List, Bool, not, ◌&&◌, get_or}
use Rattle.base.specs.Lists.{every}
use Rattle.columns.specs.Columns.{column, is_blank, is_hex, blank, digits, count_to}
use Rattle.columns.specs.LineFields.{field_in, bit_field_number, bit_field_bits, stop_number, stop_names, interchange_stop, interchange_first, interchange_second, class_code, class_number, class_tariff, class_control, class_supplement, class_flag}
use Rattle.forms.specs.Form.{or_blank, letter_to, transport_flag}

unfoldable pub bit_field_fits : List ℕ → Bool
bit_field_fits l = digits (field_in bit_field_number l) && (is_blank (column 7 l) && every is_hex (field_in bit_field_bits l))

unfoldable pub stop_fits : List ℕ → Bool
stop_fits l = digits (field_in stop_number l) && (is_blank (column 8 l) && (is_blank (column 12 l) && not (blank (field_in stop_names l))))

unfoldable pub interchange_fits : List ℕ → Bool
interchange_fits l =
    digits (field_in interchange_stop l) && (is_blank (column 8 l) && (count_to 60 (field_in interchange_first l) && (is_blank (column 11 l)
    && (count_to 99 (field_in interchange_second l) && is_blank (column 14 l)))))

-- its columns from 20 on
unfoldable pub supplement_fits : List ℕ → Bool
supplement_fits l =
    is_blank (column 20 l) && (count_to 2 (field_in class_supplement l) && (is_blank (column 22 l)
    && (or_blank transport_flag l (field_in class_flag l) && is_blank (column 24 l))))

-- those from 8 on
unfoldable pub tariff_fits : List ℕ → Bool
tariff_fits l =
    or_blank (letter_to 72) l (field_in class_tariff l) && (is_blank (column 9 l) && (count_to 7 (field_in class_control l) && (is_blank (column 11 l) && supplement_fits l)))

unfoldable pub class_fits : List ℕ → Bool
class_fits l =
    not (is_blank (get_or (field_in class_code l) 0 32)) && (is_blank (column 4 l) && (count_to 13 (field_in class_number l) && (is_blank (column 7 l) && tariff_fits l)))
