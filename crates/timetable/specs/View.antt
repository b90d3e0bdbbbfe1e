-- What a question looks up, as one record: the period; a service by its index; a bit field, a stop, its interchange times and a category's class by their
-- numbers. Every question is a function of a view. The view of a delivery stands here; what any words and any index show is another (crate index), and one
-- equation between two views carries every question at once. Assumes nothing.
use Rattle.std.specs.Prelude.{ℕ, List, [], ◌∷◌, Bool, eqb, Result, Ok, Err}
use Rattle.std.proofs.Math.Option.{Option, none, some}
use Rattle.std.proofs.Math.ListN.{get_elem?}
use Rattle.base.specs.Lists.{find}
use Rattle.timetable.specs.Delivery.{Period, StopRecord, Interchange, CategoryClass, Service, Delivery}
use Rattle.timetable.specs.Files.{has_stop, has_class}
use Rattle.timetable.specs.Legs.{field_known, field_runs}
use Rattle.timetable.specs.Table.{stop_number_at}
use Rattle.timetable.specs.declared.refusal.Refusal.{Refusal}
use Rattle.timetable.specs.declared.refusal.Refusal.TheVariants.{NoSuchService}

-- ---- look-ups in a delivery: "Lookups take the first match."

-- not met: words with no interchange record are not a table (21)
abbrev pub no_interchange : Interchange
no_interchange = record { number = 0; first_time = 0; second_time = 0 }

abbrev pub first_interchange : List Interchange → Interchange
first_interchange [] = no_interchange
first_interchange (c ∷ cs) = c

abbrev pub interchange_by : Option Interchange → List Interchange → Interchange
interchange_by none cs = first_interchange cs
interchange_by (some c) cs = c

-- "the stop's record, else the first record"
unfoldable pub interchange_at_stop : Delivery → ℕ → Interchange
interchange_at_stop d n = interchange_by (find (λ (c : Interchange). eqb c.number n) d.interchanges) d.interchanges

abbrev pub class_by : Option CategoryClass → ℕ
class_by none = 0
class_by (some c) = c.class

-- the class of a category that is listed
unfoldable pub class_for : Delivery → ℕ → ℕ
class_for d code = class_by (find (λ (c : CategoryClass). eqb c.code code) d.classes)

abbrev pub stop_numbered : ℕ → List StopRecord → Option StopRecord
stop_numbered n stops = find (λ (s : StopRecord). eqb s.number n) stops

-- a service by its index, or what refuses it: "24 service index not below V" (by words beside a table also 43, where no sound record stands: crate index)
abbrev pub service_by : Option Service → Result Service Refusal
service_by none = Err NoSuchService
service_by (some s) = Ok s

-- ---- the view

pub record View : Type 0 where
  pub period : Period
  -- the service of an index, its calls' stops by their numbers
  pub service : ℕ → Result Service Refusal
  -- whether a bit field number is known (0 always is), and whether it runs on a day of the period
  pub known : ℕ → Bool
  pub runs : ℕ → ℕ → Bool
  -- the number of the stop at a place
  pub shown : ℕ → ℕ
  -- of a stop's number: its interchange record, whether it is known, and its record
  pub times : ℕ → Interchange
  pub stop : ℕ → Bool
  pub named : ℕ → Option StopRecord
  -- whether a category is listed, and its class
  pub listed : ℕ → Bool
  pub class : ℕ → ℕ

-- what a delivery holds
abbrev pub view_of : Delivery → View
view_of d = record {
  period = d.period;
  service = λ (i : ℕ). service_by (get_elem? d.services i);
  known = λ (b : ℕ). field_known b d.fields;
  runs = field_runs d.fields;
  shown = stop_number_at d.stops;
  times = interchange_at_stop d;
  stop = λ (n : ℕ). has_stop n d.stops;
  named = λ (n : ℕ). stop_numbered n d.stops;
  listed = λ (c : ℕ). has_class c d.classes;
  class = class_for d;
}
