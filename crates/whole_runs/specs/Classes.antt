-- Request No. 1: what ZUGART says of a category. "Demand 3 adds that every category a walk lists has a class" (`OwnClass`, of the rows of a walk in
-- specs/Promise.antt); and "the interchange time between two services" is then always answered (`Between`); of the refusals two are left (`BetweenRefused`).
-- Proved in proofs/ClassLines.antt: `rows-classed`; in proofs/Classes.antt: `between-rows`, `between-classes`, `between-refusals`, `between-refused`. Assumes nothing.
use Rattle.std.specs.Prelude.{◌≡◌, true, false, ◌&&◌, ℕ, ◌≤◌, eqb, Result, Ok}
use Rattle.std.proofs.Math.Option.{some}
use Rattle.std.proofs.Math.ListN.{get_elem?}
use Rattle.base.specs.Lists.{count_if}
use Rattle.lines.specs.Lines.{Line, lines_of}
use Rattle.timetable.specs.Layout.{most_class}
use Rattle.timetable.specs.Delivery.{Files, CategoryClass, Delivery}
use Rattle.timetable.specs.Files.{held, has_stop, class_of, has_class}
use Rattle.timetable.specs.Load.{delivered}
use Rattle.timetable.specs.View.{interchange_at_stop, class_for}
use Rattle.timetable.specs.Questions.{minutes_for}
use Rattle.timetable.specs.declared.refusal.Refusal.{Refusal}
use Rattle.timetable.specs.declared.refusal.Refusal.TheVariants.{StopUnknown, CategoryUnlisted}

-- a category has exactly one class, and it is that of the line of ZUGART that has its code
pub record OwnClass (f : Files) (code : ℕ) : Type 0 where
  pub index : ℕ
  pub line : Line
  pub there : get_elem? (lines_of f.zugart) index ≡ some line
  pub class : ℕ
  pub holds : class_of line ≡ held (record { code = code; class = class })
  pub once : count_if (λ (c : CategoryClass). eqb c.code code) (delivered f).classes ≡ 1
  pub is : class_for (delivered f) code ≡ class
  pub most : class ≤ most_class

-- the answer a, for a stop and the categories of an arriving and a departing service, is the stop's interchange time between their own classes
pub record Between (f : Files) (stop arriving departing : ℕ) (a : Result ℕ Refusal) : Type 0 where
  pub arrives : OwnClass f arriving
  pub departs : OwnClass f departing
  pub answer : a ≡ Ok (minutes_for (interchange_at_stop (delivered f) stop) arrives.class departs.class)

-- what it is refused by, of a delivery whose table is asked: "38 for a *G category not listed, .. in the question, after 27"
pub data BetweenRefused (d : Delivery) (stop arriving departing : ℕ) : Refusal → Type 0 where
  unknown_stop : has_stop stop d.stops ≡ false → BetweenRefused d stop arriving departing StopUnknown
  unlisted : has_stop stop d.stops ≡ true → has_class arriving d.classes && has_class departing d.classes ≡ false → BetweenRefused d stop arriving departing CategoryUnlisted
