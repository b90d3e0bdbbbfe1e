-- The table before document 02's No. 10, and the questions on it: a call had its stop's number, 21 did not look at it, and a walk asked for 32. All else
-- is as it is now: records, header and what is read back stand letter for letter. Only the theorems speak of it: "Prove that for every accepted delivery
-- each question answers as it did on the old table. .. show that 32 can no longer occur". Proved in proofs/OldTable.antt: `as_before`, `load-as-before`;
-- `no-32` (of a definition that asks for no 32; why it "can no longer occur" is said by `stops-found`: each call of a table has one of its stops, and
-- `test-passes`: so the old test would refuse no walk); in proofs/Places.antt: `table-by-places`. Assumes nothing.
use Rattle.std.specs.Prelude.{◌≡◌, List, [], ◌∷◌, ◌++◌, Bool, true, false, cond, not, ◌&&◌, ℕ, zero, suc, ◌+◌, ◌*◌, length, drop, ltb, leb, eqb, Result, Ok, Err}
use Rattle.std.proofs.Math.Option.{Option, none, some}
use Rattle.std.proofs.Math.ListN.{get_elem?}
use Rattle.base.specs.Lists.{every, below, gathered}
use Rattle.names.specs.Names.{askable, wanted_by}
use Rattle.timetable.specs.Layout.{header_size, bit_field_size, stop_size, interchange_size, class_size, first_service, most_class, latest_time, all_flags}
use Rattle.timetable.specs.Delivery.{Files, CategoryRange, DayRange, ExtraRange, Service, Delivery}
use Rattle.timetable.specs.Offences.{◌<|>◌}
use Rattle.timetable.specs.Files.{has_stop, has_class}
use Rattle.timetable.specs.Legs.{stretches, leg_count, operated_legs}
use Rattle.timetable.specs.Runs.{opening_sound, has_run, lateness}
use Rattle.timetable.specs.Table.{bit_field_words, stop_words, interchange_words, class_words, service_words, table_words, rows_in, bit_field_at, stop_at, interchange_at, class_at, service_at, services_in}
use Rattle.timetable.specs.Table.{word_count_in, used_words, first_day, period_days, bit_fields#, stops#, interchanges#, services#, services_place, classes#, used}
use Rattle.timetable.specs.Table.{legs_sound, sizes_sound, head_sound, class_sound, table_of, is_table}
use Rattle.timetable.specs.Load.{length_offence, content_offence, helper_needed, refused_or, short_or, loaded, written_by, written, delivered}
use Rattle.timetable.specs.View.{View, view_of}
use Rattle.timetable.specs.Run.{Course, runs_along, not_running, leg_refusal, first_refusal, Stretch, stretch_of, stretch_calls, needed_last, call_refusal, course_by, RunFound, no_run, run_along}
use Rattle.timetable.specs.Questions.{date_of, day_in, day_asked, interchange_in, interchange_asked, between_in, between_asked}
use Rattle.timetable.specs.Questions.{Journey, refused, rows_along, Walked, walked_by, walked, rows_by, walk_rows}
use Rattle.timetable.specs.StopNames.{stop_name_in, stop_name_asked}
use Rattle.timetable.specs.declared.Call.{Call}
use Rattle.timetable.specs.declared.Loaded.{Loaded}
use Rattle.timetable.specs.declared.Loaded.TheVariants.{Accepted}
use Rattle.timetable.specs.declared.NamePart.{NamePart}
use Rattle.timetable.specs.declared.refusal.Refusal.{Refusal}
use Rattle.timetable.specs.declared.refusal.Refusal.TheVariants.{NoTable, NoSuchService, NoSuchRun, TwoStretches}

-- ---- its words: the services as the delivery has them

abbrev pub old_sections : Delivery → List ℕ
old_sections d =
    gathered bit_field_words d.fields
    ++ (gathered stop_words d.stops
    ++ (gathered interchange_words d.interchanges
    ++ (gathered class_words d.classes
    ++ gathered service_words d.services)))

unfoldable pub old_table_words : Delivery → List ℕ
old_table_words d =
    (header_size + length (old_sections d))
    ∷ d.period.start
    ∷ d.period.n
    ∷ length d.fields
    ∷ length d.stops
    ∷ length d.interchanges
    ∷ length d.services
    ∷ first_service (length d.fields) (length d.stops) (length d.interchanges) (length d.classes)
    ∷ length d.classes
    ∷ old_sections d

-- ---- any words read back

unfoldable pub old_table_of : List ℕ → Delivery
old_table_of w = record {
  period = record { start = first_day w; n = period_days w };
  fields = rows_in bit_field_at bit_field_size (bit_fields# w) (drop header_size (used w));
  stops = rows_in stop_at stop_size (stops# w) (drop (header_size + bit_field_size * bit_fields# w) (used w));
  interchanges = rows_in interchange_at interchange_size (interchanges# w) (drop (header_size + bit_field_size * bit_fields# w + stop_size * stops# w) (used w));
  classes = rows_in class_at class_size (classes# w) (drop (header_size + bit_field_size * bit_fields# w + stop_size * stops# w + interchange_size * interchanges# w) (used w));
  services = services_in (services# w) (drop (services_place w) (used w));
}

-- ---- not a table (21)

abbrev pub old_call_sound : Call → Bool
old_call_sound c = leb c.arrival latest_time && (leb c.departure latest_time && leb c.flags all_flags)

abbrev pub old_service_sound : Service → Bool
old_service_sound s =
    opening_sound s.opening
    && (every old_call_sound s.calls
    && (every (λ (r : CategoryRange). legs_sound false (length s.calls) r.legs) s.categories
    && (every (λ (r : DayRange). legs_sound false (length s.calls) r.legs) s.days
    && every (λ (r : ExtraRange). legs_sound true (length s.calls) r.legs) s.extras)))

unfoldable pub old_record_sound : List ℕ → Bool
old_record_sound w = sizes_sound w && old_service_sound (service_at w)

unfoldable pub old_records_sound : ℕ → List ℕ → Bool
old_records_sound zero w = eqb (length w) 0
old_records_sound (suc v) w = old_record_sound w && old_records_sound v (drop (word_count_in w) w)

unfoldable pub old_is_table : List ℕ → Bool
old_is_table w =
    leb header_size (length w)
    && (head_sound (length w) (used_words w) (first_day w) (period_days w) (bit_fields# w) (stops# w) (interchanges# w) (services_place w) (classes# w)
    && (every class_sound (old_table_of w).classes
    && old_records_sound (services# w) (drop (services_place w) (used w))))

-- "21 additionally refuses a place not below S": each call of a service points below n. (`table-by-places`: words are a table exactly if they are an old
-- one and this holds of each service, S being n.)
abbrev pub points_below : ℕ → Service → Bool
points_below n s = every (λ (c : Call). ltb c.stop n) s.calls

-- ---- load, with that table

unfoldable pub old_loaded : Files → ℕ → ℕ → Loaded
old_loaded f room helper =
    refused_or (length_offence f)
    (short_or 51 helper (helper_needed f)
    (refused_or (content_offence f)
    (short_or 20 room (length (old_table_words (delivered f)))
    (Accepted (length (old_table_words (delivered f)))))))

unfoldable pub old_written : Files → List ℕ → ℕ → List ℕ
old_written f t helper = written_by (old_loaded f (length t) helper) (old_table_words (delivered f)) t

-- ---- the questions

-- 21, then the question of what these words hold, as it stands today
abbrev pub old_asked : {X : Type 0} → (Refusal → X) → (View → X) → List ℕ → X
old_asked refusal question w = cond (old_is_table w) (question (view_of (old_table_of w))) (refusal NoTable)

unfoldable pub old_day_asked : List ℕ → ℕ → ℕ → ℕ → ℕ → Result Bool Refusal
old_day_asked w day month year b = old_asked Err (λ (v : View). day_in v day month year b) w

unfoldable pub old_interchange_asked : List ℕ → ℕ → ℕ → ℕ → Result ℕ Refusal
old_interchange_asked w n a b = old_asked Err (λ (v : View). interchange_in v n a b) w

unfoldable pub old_between_asked : List ℕ → ℕ → ℕ → ℕ → Result ℕ Refusal
old_between_asked w n a b = old_asked Err (λ (v : View). between_in v n a b) w

unfoldable pub old_stop_name_asked : List ℕ → List ℕ → ℕ → ℕ → ℕ → Result NamePart Refusal
old_stop_name_asked w bahnhof stop language type = old_asked Err (λ (v : View). stop_name_in v bahnhof stop language type) w

-- the walk: the same course, but for the calls' test for 32

-- 32 is retired: no refusal has that number today. So the old walk gives what a walk gives now, or a number that is retired.
pub data Old (X : Type 0) : Type 0 where
  as_now : X → Old X
  retired : ℕ → Old X

-- carried on, where no retired number was given
abbrev pub old_by : {X Y : Type 0} → (X → Y) → Old X → Old Y
old_by f (as_now x) = as_now (f x)
old_by f (retired number) = retired number

-- a refusal of today's
abbrev pub refusal_now : Option Refusal → Option (Old Refusal)
refusal_now none = none
refusal_now (some refusal) = some (as_now refusal)

-- "Each call of the stretch: 32 stop unknown, 36 .., 33 .."
abbrev pub old_call_refusal : Delivery → Service → ℕ → ℕ → ℕ → ℕ → Call → Option (Old Refusal)
old_call_refusal d s a n i before c = cond (not (has_stop c.stop d.stops)) (some (retired 32)) none <|> refusal_now (call_refusal s a n i before c)

unfoldable pub old_calls_refusal : Delivery → Service → ℕ → ℕ → ℕ → ℕ → List Call → Option (Old Refusal)
old_calls_refusal d s a n i before [] = none
old_calls_refusal d s a n i before (c ∷ cs) = old_call_refusal d s a n i before c <|> old_calls_refusal d s a n (i + 1) (needed_last n i c) cs

-- a refusal, or the course
abbrev pub old_course_by : Option (Old Refusal) → Old Course → Old Course
old_course_by none c = c
old_course_by (some refusal) c = old_by Err refusal

abbrev pub old_stretch_course : Delivery → Service → Stretch → Old Course
old_stretch_course d s t = old_course_by (old_calls_refusal d s t.start t.legs 0 0 (stretch_calls s t)) (as_now (runs_along t.start t.legs))

abbrev pub old_service_course : Delivery → Service → ℕ → List Bool → Old Course
old_service_course d s r bs =
    cond (not (has_run s.opening r)) (as_now (Err NoSuchRun))
    (old_course_by (refusal_now (first_refusal (leg_refusal (view_of d) s) (below (leg_count s))))
    (cond (eqb (stretches false bs) 0) (as_now not_running) (cond (leb 2 (stretches false bs)) (as_now (Err TwoStretches)) (old_stretch_course d s (stretch_of bs)))))

abbrev pub old_run_by : Delivery → Option Service → ℕ → ℕ → Old RunFound
old_run_by d none r k = as_now (no_run NoSuchService)
old_run_by d (some s) r k = old_by (run_along s (lateness s.opening r)) (old_service_course d s r (operated_legs d.fields s k))

abbrev pub old_dated_run : Delivery → ℕ → ℕ → Result ℕ Refusal → Old RunFound
old_dated_run d i r (Err refusal) = as_now (no_run refusal)
old_dated_run d i r (Ok k) = old_run_by d (get_elem? d.services i) r k

unfoldable pub old_journey : Delivery → ℕ → ℕ → ℕ → ℕ → ℕ → Old Journey
old_journey d i r day month year = old_by (rows_along (view_of d)) (old_dated_run d i r (date_of (view_of d) day month year))

unfoldable pub old_walk_of : List ℕ → ℕ → ℕ → ℕ → ℕ → ℕ → Old Journey
old_walk_of w i r day month year = cond (old_is_table w) (old_journey (old_table_of w) i r day month year) (as_now (refused NoTable))

abbrev pub old_walked : List ℕ → ℕ → ℕ → ℕ → ℕ → ℕ → ℕ → Old Walked
old_walked w i r day month year room = old_by (λ (j : Journey). walked_by j room) (old_walk_of w i r day month year)

-- Refusals "leave the rows as lent".
abbrev pub old_rows_by : Old Journey → List ℕ → List ℕ
old_rows_by (as_now j) t = rows_by j t
old_rows_by (retired number) t = t

abbrev pub old_walk_rows : List ℕ → ℕ → ℕ → ℕ → ℕ → ℕ → List ℕ → List ℕ
old_walk_rows w i r day month year t = old_rows_by (old_walk_of w i r day month year) t

-- ---- "each question answers as it did on the old table": of a table's words, and the old table's

pub record AsBefore (w old : List ℕ) : Type 0 where
  pub day : (day month year b : ℕ) → day_asked w day month year b ≡ old_day_asked old day month year b
  pub interchange : (n a b : ℕ) → interchange_asked w n a b ≡ old_interchange_asked old n a b
  pub between : (n a b : ℕ) → between_asked w n a b ≡ old_between_asked old n a b
  pub stop_name : (bahnhof : List ℕ) (stop language type : ℕ) → stop_name_asked w bahnhof stop language type ≡ old_stop_name_asked old bahnhof stop language type
  -- rows and refusals alike, with any room
  pub walk : (i r day month year room : ℕ) → as_now (walked w i r day month year room) ≡ old_walked old i r day month year room
  pub rows_walked : (i r day month year : ℕ) (lent : List ℕ) → walk_rows w i r day month year lent ≡ old_walk_rows old i r day month year lent

-- of an accepted delivery: either table is one, of as many words, and holds that same delivery (`same_load` and `same_length` hold of every delivery:
-- `load-as-before`, `words_same`)
pub record TwoTables (f : Files) (t : List ℕ) (helper : ℕ) : Type 0 where
  pub same_load : loaded f (length t) helper ≡ old_loaded f (length t) helper
  pub same_length : length (table_words (delivered f)) ≡ length (old_table_words (delivered f))
  pub is : is_table (written f t helper) ≡ true
  pub old_is : old_is_table (old_written f t helper) ≡ true
  pub holds : table_of (written f t helper) ≡ delivered f
  pub old_holds : old_table_of (old_written f t helper) ≡ delivered f
  pub answers : AsBefore (written f t helper) (old_written f t helper)
