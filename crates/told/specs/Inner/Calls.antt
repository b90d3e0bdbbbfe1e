-- What a schedule line's form asks, in the order of its columns, for the contracts of src. Nobody has to believe this file:
-- `call_told` is promised over `form_of call_columns`. Assumes nothing.
use Rattle.std.specs.Prelude.{ℕ, ◌+◌, ◌-◌, ◌/◌, List, Bool, not, None, ◌&&◌, ◌||◌, eqb}
use Rattle.base.specs.Lists.{every}
use Rattle.columns.specs.Columns.{column, is_blank, blank, digits, number}
use Rattle.columns.specs.LineFields.{LineField, ◌⋯◌, field_in, plan_mark, call_stop, call_arrival, call_departure, call_number, call_administration, call_destination_board}
use Rattle.fields.specs.Fields.{time, time_in}
use Rattle.fields.specs.declared.Time.{Time}
use Rattle.byte_words.specs.Inner.Words.{bytes_of}
use Rattle.forms.specs.Form.{is_time, Form, Fits, Broken}
use Rattle.timetable.specs.declared.CallLine.{CallLine}
use Rattle.timetable.specs.Plan.{minutes_of, flags_of, number_said, administration_said}

-- the column that a form says is broken, 0 where none is
abbrev pub column_of : Form → ℕ
column_of Fits = 0
column_of (Broken c) = c

-- what stands behind its times, up to the mark
abbrev pub call_tail : LineField
call_tail = (call_departure.to + 1) ⋯ (plan_mark.from - 1)

-- columns 1 to 42
unfoldable pub head_fits : List ℕ → Bool
head_fits l =
    digits (field_in call_stop l) && (is_blank (column 8 l) && (is_time (time (field_in call_arrival l)) && (is_blank (column 36 l) && is_time (time (field_in call_departure l)))))

-- columns 56 to 59
unfoldable pub end_fits : List ℕ → Bool
end_fits l =
    is_blank (column 56 l) && ((blank (field_in call_destination_board l) || every (λ (b : ℕ). eqb b 88) (field_in call_destination_board l))
    && (is_blank (column 58 l) && every (λ (b : ℕ). eqb b 37) (field_in plan_mark l)))

-- columns 43 to 59
unfoldable pub tail_fits : List ℕ → Bool
tail_fits l =
    is_blank (column 43 l) && ((blank (field_in call_number l) || digits (field_in call_number l))
    && (is_blank (column 49 l) && ((blank (field_in call_administration l) || every (λ (b : ℕ). not (is_blank b)) (field_in call_administration l)) && end_fits l)))

-- the time in the last six bytes of a word
abbrev pub last_time : ℕ → Time
last_time w = time_in (bytes_of 6 (w / 65536))

-- what a line with blank columns 43 to 58 says, where columns 1 to 7 stand in a word
abbrev pub blank_call : ℕ → Time → Time → CallLine
blank_call stop arrival departure = record {
  stop = number (bytes_of 7 stop);
  arrival = minutes_of arrival;
  departure = minutes_of departure;
  flags = flags_of 1 arrival + flags_of 2 departure;
  number = None;
  administration = None;
}

-- the same call with the number and the administration of a line
abbrev pub filled_call : List ℕ → CallLine → CallLine
filled_call l said = record {
  stop = said.stop;
  arrival = said.arrival;
  departure = said.departure;
  flags = said.flags;
  number = number_said l;
  administration = administration_said l;
}
