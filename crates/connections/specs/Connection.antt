-- Document 02, No. 12: "Check a proposed connection." Its parts one after another: each a stage along its day's run, and from the second on a change from the
-- stage before. A function of a view. Assumes nothing.
use Rattle.std.specs.Prelude.{ℕ, ◌+◌, ◌-◌, ◌*◌, ◌/◌, ◌%◌, List, [], ◌∷◌, Bool, cond, ◌&&◌, length, ltb, leb, eqb, Result, Ok, Err}
use Rattle.std.proofs.Math.Option.{Option, none, some}
use Rattle.std.proofs.Math.ListN.{get_elem?}
use Rattle.timetable.specs.Delivery.{Service}
use Rattle.timetable.specs.Table.{word, rows_in}
use Rattle.timetable.specs.View.{View}
use Rattle.timetable.specs.Run.{category_on, Run, RunFound, no_run, at_rest, a_run, run_of}
use Rattle.timetable.specs.Questions.{date_of, minutes_for, asked}
use Rattle.timetable.specs.declared.Call.{Call}
use Rattle.timetable.specs.declared.refusal.Refusal.{Refusal}
use Rattle.timetable.specs.declared.refusal.Refusal.TheVariants.{PartsNotWhole, CallNotListed, NotBoardable, CategoryUnlisted, OtherStop, WaitTooShort}
use Rattle.connections.specs.declared.Part.{Part}
use Rattle.connections.specs.declared.Stage.{Stage}
use Rattle.connections.specs.declared.ConnectionRefusal.{ConnectionRefusal}

-- ---- "It proposes 1 to 10 parts: service, repeat, date, boarding call, alighting call": seven words each, three of them for the date

abbrev pub part_size : ℕ
part_size = 7

abbrev pub most_parts : ℕ
most_parts = 10

abbrev pub part_at : List ℕ → Part
part_at w = record {
  service = word w 0;
  repeat = word w 1;
  day = word w 2;
  month = word w 3;
  year = word w 4;
  board = word w 5;
  alight = word w 6;
}

abbrev pub parts_of : List ℕ → List Part
parts_of ws = rows_in part_at part_size (length ws / part_size) ws

-- "46 not 1 to 10 whole parts", said as what so many words keep
abbrev pub whole_parts : ℕ → Bool
whole_parts n = eqb (n % part_size) 0 && (leb 1 (n / part_size) && leb (n / part_size) most_parts)

-- ---- the answers: a stage, or a refusal; that a connection holds, or a refusal and the part that it names

abbrev pub Staged : Type 0
Staged = Result Stage Refusal

abbrev pub connection_refusal : Refusal → ℕ → ConnectionRefusal
connection_refusal refusal part = record { refusal = refusal; part = part }

abbrev pub ConnectionAnswer : Type 0
ConnectionAnswer = Result (Unit {0}) ConnectionRefusal

abbrev pub bad_part : Refusal → ℕ → ConnectionAnswer
bad_part refusal part = Err (connection_refusal refusal part)

-- ---- a stage: "each part lies in that day's rows, boards before it alights, boarding and alighting are allowed"

-- "calls counted from 0 along the route": the call at a place of the route, where it is among the rows of the run
abbrev pub row_call : Run → ℕ → Option Call
row_call x k = cond (leb x.start k && leb k (x.start + x.legs)) (get_elem? x.service.calls k) none

-- flags 8 and 4 are clear
abbrev pub boarding_allowed : Call → Bool
boarding_allowed c = eqb (c.flags / 8 % 2) 0

abbrev pub alighting_allowed : Call → Bool
alighting_allowed c = eqb (c.flags / 4 % 2) 0

abbrev pub day_minutes : ℕ
day_minutes = 1440

-- "over date and minutes together": a minute of a run that starts on day k of the period, counted from the period's first day on. (Document 01: "The date is
-- that of the start; minutes may pass 1,440.")
abbrev pub moment : ℕ → ℕ → ℕ
moment k minutes = day_minutes * k + minutes

-- where and when a run of service s, so late, boards at b and alights at a, with "the categories of the leg arriving and the leg departing": of the leg into the call where it alights, and
-- of the leg out of the call where it boards
abbrev pub stage_along : Service → ℕ → ℕ → Part → Call → Call → Stage
stage_along s late k p b a = record {
  from = b.stop;
  departs = moment k (b.departure + late);
  departing = category_on s p.board;
  to = a.stop;
  arrives = moment k (a.arrival + late);
  arriving = category_on s (p.alight - 1);
}

-- "47 not among the rows, 48 order or permission"
abbrev pub stage_between : Service → ℕ → ℕ → Part → Option Call → Option Call → Staged
stage_between s late k p none a = Err CallNotListed
stage_between s late k p (some b) none = Err CallNotListed
stage_between s late k p (some b) (some a) =
    cond (ltb p.board p.alight && (boarding_allowed b && alighting_allowed a)) (Ok (stage_along s late k p b a)) (Err NotBoardable)

-- "per part the walk's own refusals except 29" (which is of room); on a day without a run there are no rows
abbrev pub stage_by : ℕ → Part → RunFound → Staged
stage_by k p (no_run refusal) = Err refusal
stage_by k p at_rest = Err CallNotListed
stage_by k p (a_run x) = stage_between x.service x.late k p (row_call x p.board) (row_call x p.alight)

abbrev pub stage_dated : View → Part → Result ℕ Refusal → Staged
stage_dated v p (Err refusal) = Err refusal
stage_dated v p (Ok k) = stage_by k p (run_of v p.service p.repeat k)

unfoldable pub stage_of : View → Part → Staged
stage_of v p = stage_dated v p (date_of v p.day p.month p.year)

-- ---- a change: "the next part boards at the same stop, and the wait, over date and minutes together, is at least the interchange time between the categories of
-- the leg arriving and the leg departing"

abbrev pub change_time : View → Stage → Stage → ℕ
change_time v s t = minutes_for (v.times t.from) (v.class s.arriving) (v.class t.departing)

-- "49 other stop, 38, 50 wait too short". The wait may be negative, so the interchange time is added to the arrival.
unfoldable pub change_to : View → Stage → Stage → Staged
change_to v s t =
    cond (eqb s.to t.from)
    (cond (v.listed s.arriving && v.listed t.departing)
    (cond (leb (s.arrives + change_time v s t) t.departs) (Ok t) (Err WaitTooShort))
    (Err CategoryUnlisted))
    (Err OtherStop)

-- the next part after a stage: its own refusals, then the change's
abbrev pub changed_to : View → Stage → Staged → Staged
changed_to v s (Err refusal) = Err refusal
changed_to v s (Ok t) = change_to v s t

-- ---- the connection: "number of the first bad part"; "parts count from 1; 21 and 46 name 0"; 49, 38 and 50 "name the later part"

-- part n is bad, or from its stage on
abbrev pub onward : ℕ → Staged → (Stage → ConnectionAnswer) → ConnectionAnswer
onward n (Err refusal) next = bad_part refusal n
onward n (Ok s) next = next s

-- part n and those after it, after a stage
unfoldable pub parts_after : View → Stage → ℕ → List Part → ConnectionAnswer
parts_after v s n [] = Ok tt
parts_after v s n (p ∷ ps) = onward n (changed_to v s (stage_of v p)) (λ (t : Stage). parts_after v t (n + 1) ps)

-- (there is a first part: 46)
abbrev pub parts_hold : View → List Part → ConnectionAnswer
parts_hold v [] = Ok tt
parts_hold v (p ∷ ps) = onward 1 (stage_of v p) (λ (s : Stage). parts_after v s 2 ps)

unfoldable pub connection_in : View → List ℕ → ConnectionAnswer
connection_in v ws = cond (whole_parts (length ws)) (parts_hold v (parts_of ws)) (bad_part PartsNotWhole 0)

-- of any words: 21 first
abbrev pub no_connection : Refusal → ConnectionAnswer
no_connection refusal = bad_part refusal 0

unfoldable pub connection_asked : List ℕ → List ℕ → ConnectionAnswer
connection_asked w ws = asked no_connection (λ (v : View). connection_in v ws) w
