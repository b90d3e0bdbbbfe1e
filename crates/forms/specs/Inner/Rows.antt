-- The code's tables: a row is one number, from * 2 ^ 48 + to * 2 ^ 16 + what goes with the rule * 2 ^ 8 + the rule's number.
-- Nobody has to believe this file: `forms::form_of` is promised over it, and the form of each line kind over `Columns`.
-- Assumes nothing.
use Rattle.std.specs.Prelude.{ℕ, ◌/◌, ◌%◌, List, [], ◌∷◌, cond, eqb}
use Rattle.forms.specs.Form.{Rule, FieldRule, field_rule, free, digits_only, hex_digits, non_blank, byte, or_blank, not_all_blank, first_not_blank, a_count, a_date, a_time, a_range_end, detail_of, offset_of, from_one, letter_to, transport_flag}

unfoldable pub rule_of : ℕ → ℕ → Rule
rule_of k m line p =
    cond (eqb k 0) (free line p)
    (cond (eqb k 1) (digits_only line p)
    (cond (eqb k 2) (or_blank digits_only line p)
    (cond (eqb k 3) (hex_digits line p)
    (cond (eqb k 4) (not_all_blank line p)
    (cond (eqb k 5) (first_not_blank line p)
    (cond (eqb k 6) (non_blank line p)
    (cond (eqb k 7) (or_blank non_blank line p)
    (cond (eqb k 8) (a_count m line p)
    (cond (eqb k 9) (a_date line p)
    (cond (eqb k 10) (a_time line p)
    (cond (eqb k 11) (a_range_end line p)
    (cond (eqb k 12) (detail_of m line p)
    (cond (eqb k 13) (offset_of m line p)
    (cond (eqb k 14) (or_blank (byte m) line p)
    (cond (eqb k 15) (from_one line p)
    (cond (eqb k 16) (or_blank (letter_to m) line p)
    (cond (eqb k 17) (or_blank transport_flag line p)
    (byte m line p))))))))))))))))))

abbrev pub from_of : ℕ → ℕ
from_of x = x / 281474976710656

abbrev pub to_of : ℕ → ℕ
to_of x = x / 65536 % 4294967296

abbrev pub rule_number : ℕ → ℕ
rule_number x = x % 256

abbrev pub with_rule : ℕ → ℕ
with_rule x = x / 256 % 256

abbrev pub row_of : ℕ → FieldRule
row_of x = field_rule (from_of x) (to_of x) (rule_of (rule_number x) (with_rule x))

unfoldable pub rows_of : List ℕ → List FieldRule
rows_of [] = []
rows_of (x ∷ t) = row_of x ∷ rows_of t
