-- The needs of the questions, a ruleset for each: `days`, `interchanges`, `categories`, and `plain` where they are asked of any words. Assumes nothing.
use mathlib.Core.Path.{◌≡◌, ◌∙◌, sym, ap}
use mathlib.Core.List.{List}
use mathlib.Core.Bool.{Bool, true, false, cond, not, ◌&&◌}
use Prim.Native.Nat.{ℕ, ◌≤◌, ◌<◌}
use lib.ListN.{length}
use lib.Dec.{leb}
use borrow.Author.Tests.{not-true, not-false, le-leb, lt-leb}
use Rattle.std.specs.Prelude.{Ok, Result, Err}
use Rattle.base.proofs.Laws.{tests}
use Rattle.bitfield.specs.BitField.{runs_on}
use Rattle.timetable.specs.Layout.{most_period_days, most_class}
use Rattle.timetable.specs.Table.{used, is_table}
use Rattle.timetable.specs.View.{View}
use Rattle.timetable.specs.Questions.{date_of, day_by, day_in, day_asked, first_time_class, minutes_for, interchange_in, interchange_asked, between_in, between_asked}
use Rattle.timetable.specs.declared.refusal.Refusal.{Refusal}
use Rattle.timetable.specs.declared.refusal.Refusal.TheVariants.{NoTable, ClassTooHigh, StopUnknown, NoSuchBitField, CategoryUnlisted}
use Rattle.lookups.specs.Lookups.{times_of}
use Rattle.lookups.specs.declared.Times.{Times}
use Rattle.index.specs.Index.{view_in}
use Rattle.index.proofs.Shows.{day-low}
use Rattle.index.proofs.Quick.{asked-refused, asked-on, plain-words}

-- ---- day k; known and ws are what the look-up of bit field b gave

module _ (v : View) (b k : ℕ) (known : Bool) (e : known ≡ v.known b) where
  pub day-unknown : not known ≡ true → Err NoSuchBitField ≡ day_by v b (Ok k)
  day-unknown n = rw (sym e ∙ not-true known n)

  module _ (n : not known ≡ false) (l : k < most_period_days) (ws : List ℕ) (f : (d : ℕ) → d < most_period_days → runs_on ws d ≡ v.runs b d) (x : Bool) (g : x ≡ runs_on ws k) where
    runs-is : v.runs b k ≡ x
    runs-is = sym (g ∙ f k l)

    pub day-runs : Ok x ≡ day_by v b (Ok k)
    day-runs = rw (sym e ∙ not-false known n, runs-is)

-- ---- a date; on is the day that it is

module _ (v : View) (day month year b : ℕ) (on : Result ℕ Refusal) (e : on ≡ date_of v day month year) where
  pub day-refused : (refusal : Refusal) → on ≡ Err refusal → Err refusal ≡ day_in v day month year b
  unfolding day_in
  day-refused refusal g = ap (day_by v b) (sym (sym e ∙ g))

  pub day-on : (k : ℕ) → on ≡ Ok k → (r : Result Bool Refusal) → r ≡ day_by v b (Ok k) → r ≡ day_in v day month year b
  unfolding day_in
  day-on k g r f = f ∙ ap (day_by v b) (sym (sym e ∙ g))

pub ruleset days = (tests, day-low, day-unknown, day-runs, day-refused, day-on)

-- ---- an interchange; y says whether the classes are known, z whether the stop is

module _ (a b : ℕ) (times : Times) where
  pub second-first : 2 < a → times.second ≡ cond (first_time_class a && first_time_class b) times.first times.second
  second-first h = rw (lt-leb a 2 h)

  pub second-second : a ≤ 2 → 2 < b → times.second ≡ cond (first_time_class a && first_time_class b) times.first times.second
  second-second g h = rw (le-leb a 2 g, lt-leb b 2 h)

  pub both_first : a ≤ 2 → b ≤ 2 → times.first ≡ cond (first_time_class a && first_time_class b) times.first times.second
  both_first g h = rw (le-leb a 2 g, le-leb b 2 h)

module _ (v : View) (stop a b : ℕ) (y : Bool) (f : y ≡ (leb a most_class && leb b most_class)) where
  pub interchange-class : not y ≡ true → Err ClassTooHigh ≡ interchange_in v stop a b
  unfolding interchange_in
  interchange-class m = rw (sym f ∙ not-true y m)

  module _ (m : not y ≡ false) (z : Bool) (g : z ≡ v.stop stop) where
    pub interchange-unknown : not z ≡ true → Err StopUnknown ≡ interchange_in v stop a b
    unfolding interchange_in
    interchange-unknown o = rw (sym f ∙ not-false y m, sym g ∙ not-true z o)

    pub interchange-minutes : not z ≡ false → (t : Times) → t ≡ times_of (v.times stop) → (r : ℕ) → r ≡ cond (first_time_class a && first_time_class b) t.first t.second → Ok r ≡ interchange_in v stop a b
    unfolding interchange_in
    interchange-minutes o t i r j = rw (sym f ∙ not-false y m, sym g ∙ not-false z o, j, i)

pub ruleset interchanges = (tests, second-first, second-second, both_first, interchange-class, interchange-unknown, interchange-minutes)

-- ---- between two categories; x says whether the first is listed

module _ (v : View) (a b : ℕ) (x : Bool) (e : x ≡ v.listed a) where
  pub first-unlisted : not x ≡ true → false ≡ (v.listed a && v.listed b)
  first-unlisted n = rw (sym e ∙ not-true x n)

  pub second-listed : not x ≡ false → (y : Bool) → y ≡ v.listed b → y ≡ (v.listed a && v.listed b)
  second-listed n y f = f ∙ rw (sym e ∙ not-false x n)

-- i and j are their classes
pub minutes-are : (v : View) (stop a b : ℕ) (t : Times) → t ≡ times_of (v.times stop) → (i j : ℕ) → i ≡ v.class a → j ≡ v.class b
    → (r : ℕ) → r ≡ cond (first_time_class i && first_time_class j) t.first t.second → r ≡ minutes_for (v.times stop) (v.class a) (v.class b)
minutes-are v stop a b t f i j g h r k = rw (k, f, g, h)

-- y says whether the stop is known, z whether both are listed

module _ (v : View) (stop a b : ℕ) (y : Bool) (f : y ≡ v.stop stop) where
  pub between-unknown : y ≡ false → Err StopUnknown ≡ between_in v stop a b
  unfolding between_in
  between-unknown o = rw (sym f ∙ o)

  module _ (o : y ≡ true) (z : Bool) (g : z ≡ (v.listed a && v.listed b)) where
    pub between-unlisted : z ≡ false → Err CategoryUnlisted ≡ between_in v stop a b
    unfolding between_in
    between-unlisted q = rw (sym f ∙ o, sym g ∙ q)

    pub between-minutes : z ≡ true → (r : ℕ) → r ≡ minutes_for (v.times stop) (v.class a) (v.class b) → Ok r ≡ between_in v stop a b
    unfolding between_in
    between-minutes q r i = rw (sym f ∙ o, sym g ∙ q, i)

pub ruleset categories = (tests, first-unlisted, second-listed, minutes-are, between-unknown, between-unlisted, between-minutes)

-- ---- any words; t says whether they are a table

module _ (w : List ℕ) (t : Bool) (e : t ≡ is_table w) where
  module _ (n : not t ≡ true) where
    pub day-bare : (day month year b : ℕ) → Err NoTable ≡ day_asked w day month year b
    unfolding day_asked
    day-bare day month year b = asked-refused w t e Err (λ (v : View). day_in v day month year b) n

    pub interchange-bare : (stop a b : ℕ) → Err NoTable ≡ interchange_asked w stop a b
    unfolding interchange_asked
    interchange-bare stop a b = asked-refused w t e Err (λ (v : View). interchange_in v stop a b) n

    pub between-bare : (stop a b : ℕ) → Err NoTable ≡ between_asked w stop a b
    unfolding between_asked
    between-bare stop a b = asked-refused w t e Err (λ (v : View). between_in v stop a b) n

  module _ (n : not t ≡ false) (u : List ℕ) (p : u ≡ used w) (x : List ℕ) (z : length x ≡ 0) where
    pub day-plain : (day month year b : ℕ) (r : Result Bool Refusal) → r ≡ day_in (view_in u x) day month year b → r ≡ day_asked w day month year b
    unfolding day_asked
    day-plain day month year b r f = f ∙ asked-on w t e n u p x z Err (λ (v : View). day_in v day month year b)

    pub interchange-plain : (stop a b : ℕ) (r : Result ℕ Refusal) → r ≡ interchange_in (view_in u x) stop a b → r ≡ interchange_asked w stop a b
    unfolding interchange_asked
    interchange-plain stop a b r f = f ∙ asked-on w t e n u p x z Err (λ (v : View). interchange_in v stop a b)

    pub between-plain : (stop a b : ℕ) (r : Result ℕ Refusal) → r ≡ between_in (view_in u x) stop a b → r ≡ between_asked w stop a b
    unfolding between_asked
    between-plain stop a b r f = f ∙ asked-on w t e n u p x z Err (λ (v : View). between_in v stop a b)

pub ruleset plain = (tests, plain-words, day-bare, interchange-bare, between-bare, day-plain, interchange-plain, between-plain)
