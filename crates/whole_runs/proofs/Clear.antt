-- "No offence" taken apart: what is then true of each file, each service and each line. Assumes nothing.
use mathlib.Core.Path.{◌≡◌, refl, sym, ap, ◌∙◌, subst}
use mathlib.Core.List.{List, [], ◌∷◌, ◌++◌, append_assoc, append-nil}
use mathlib.Core.Bool.{true, false}
use mathlib.Core.Option.{Option, none}
use lib.ListN.{length}
use lib.Dec.{ltb}
use borrow.Author.Tests.{not-false}
use Rattle.base.specs.Lists.{All, nil, cons, gathered}
use Rattle.lines.specs.Lines.{Line, lines_of}
use Rattle.timetable.specs.Delivery.{Files, CategoryRange, DayRange, Delivery}
use Rattle.timetable.specs.Offences.{first}
use Rattle.timetable.specs.Files.{Held, listed, held_in, period_first, bit_fields_first, stops_first, interchanges_first, classes_first}
use Rattle.timetable.specs.Plan.{told_in, tolds, as_range, said_on}
use Rattle.timetable.specs.Service.{blocks, called_on, calls_of, service_of}
use Rattle.timetable.specs.Checks.{own_offence, times_first, ends_first, each_once, torn, service_checks, service_first, services_first, head_first, plan_first}
use Rattle.timetable.specs.Legs.{leg_count}
use Rattle.timetable.specs.Load.{delivered, content_offence, offence}
use Rattle.timetable.specs.declared.Offence.{Offence}
use Rattle.timetable.specs.declared.Told.{Told}
use Rattle.timetable.proofs.Lines.{said_more}
use Rattle.timetable.proofs.Offences.{then-none, given-none, in-none, first-none}
use Rattle.whole_runs.proofs.Lists.{all_append}

-- ---- none at any line

module _ (off : List Line → Line → Option Offence) where
  -- what holds of no line, and goes on to hold with each line that has no offence, holds of all the lines
  module _ (P : List Line → Type 0) (more : (before : List Line) (l : Line) → off before l ≡ none → P before → P (before ++ (l ∷ []))) where
    keeps : (before ls : List Line) → first off before ls ≡ none → P before → P (before ++ ls)
    keeps before [] e h = rw append-nil h
    keeps before (l ∷ ls) e h =
        let n = first-none off before l ls e in
        rw append_assoc at (keeps (before ++ (l ∷ [])) ls n.1 (more before l n.0 h))

    pub first-keeps : (ls : List Line) → first off [] ls ≡ none → P [] → P ls
    first-keeps ls e h = keeps [] ls e h

-- ---- one line more

held-append : {X : Type 0} (f : Line → Held X) (a b : List Line) → held_in f (a ++ b) ≡ held_in f a ++ held_in f b
unfolding held_in
held-append f [] b = refl
held-append f (l ∷ a) b = ap (λ (r : List _). listed (f l) ++ r) (held-append f a b) ∙ sym (append_assoc (listed (f l)) (held_in f a) (held_in f b))

pub held_more : {X : Type 0} (f : Line → Held X) (before : List Line) (l : Line) → held_in f (before ++ (l ∷ [])) ≡ held_in f before ++ listed (f l)
unfolding held_in
held_more f before l = held-append f before (l ∷ []) ∙ ap (λ (r : List _). held_in f before ++ r) (append-nil (listed (f l)))

-- what holds of all that a line without offence says, of one kind, holds of all that the lines say
pub all_said : {X : Type 0} (ok : X → Type 0) (say : Told → List X) (off : List Line → Line → Option Offence) → ((before : List Line) (l : Line) → off before l ≡ none → All ok (say (told_in l.text)))
    → (ls : List Line) → first off [] ls ≡ none → All ok (gathered say (tolds ls))
unfolding tolds gathered
all_said ok say off one ls e =
    first-keeps off (λ (b : List Line). All ok (gathered say (tolds b)))
    (λ before l o h. subst (All ok) (sym (said_more say before l)) (all_append ok h (one before l o)))
    ls e nil

-- ---- a service without an offence

pub record Fair (d : Delivery) (ls : List Line) : Type 0 where
  pub own : first (own_offence d.fields d.stops d.classes) [] ls ≡ none
  pub two : ltb (length (calls_of ls)) 2 ≡ false
  pub times : times_first (length (calls_of ls)) 0 0 (called_on ls) ≡ none
  pub ranges : ends_first (calls_of ls) (said_on as_range ls) ≡ none
  pub categories : each_once (λ (r : CategoryRange). r.legs) (leg_count (service_of ls)) (service_of ls).categories ≡ true
  pub days : each_once (λ (r : DayRange). r.legs) (leg_count (service_of ls)) (service_of ls).days ≡ true
  pub whole : torn d.fields d.period.n (service_of ls) ≡ false

fair : (d : Delivery) (ls : List Line) → service_first d.fields d.stops d.classes d.period.n ls ≡ none → Fair d ls
unfolding service_first service_checks
fair d ls e =
    let o = then-none _ _ e in
    let a = then-none _ _ o.1 in let b = then-none _ _ a.1 in let c = then-none _ _ b.1 in let g = then-none _ _ c.1 in let v = then-none _ _ g.1 in
    record {
      own = o.0;
      two = given-none _ 14 _ a.0;
      times = b.0;
      ranges = c.0;
      categories = not-false _ (given-none _ 17 _ g.0);
      days = not-false _ (given-none _ 18 _ v.0);
      whole = given-none _ 19 _ v.1;
    }

all_fair : (d : Delivery) (bs : List (List Line)) → services_first d.fields d.stops d.classes d.period.n bs ≡ none → All (Fair d) bs
unfolding services_first
all_fair d [] e = nil
all_fair d (b ∷ bs) e =
    let o = then-none (service_first d.fields d.stops d.classes d.period.n b) (services_first d.fields d.stops d.classes d.period.n bs) e in
    cons (fair d b o.0) (all_fair d bs o.1)

-- ---- a delivery without an offence

pub record Clear (f : Files) : Type 0 where
  pub period : period_first (lines_of f.eckdaten) ≡ none
  pub fields : bit_fields_first (delivered f).period.n (lines_of f.bitfeld) ≡ none
  pub stops : stops_first (lines_of f.bahnhof) ≡ none
  pub interchanges : interchanges_first (delivered f).stops (lines_of f.umsteigb) ≡ none
  pub classes : classes_first (lines_of f.zugart) ≡ none
  pub head : head_first (lines_of f.fplan) ≡ none
  pub services : All (Fair (delivered f)) (blocks (lines_of f.fplan))

pub clear : (f : Files) → offence f ≡ none → Clear f
unfolding content_offence offence plan_first
clear f e =
    let o1 = then-none _ _ (then-none _ _ e).1 in let o2 = then-none _ _ o1.1 in let o3 = then-none _ _ o2.1 in let o4 = then-none _ _ o3.1 in let o5 = then-none _ _ o4.1 in
    record {
      period = in-none 1 _ o1.0;
      fields = in-none 2 _ o2.0;
      stops = in-none 3 _ o3.0;
      interchanges = in-none 4 _ o4.0;
      classes = in-none 6 _ o5.0;
      head = (then-none _ _ (in-none 5 _ o5.1)).0;
      services = all_fair (delivered f) _ (then-none _ _ (in-none 5 _ o5.1)).1;
    }
