-- A delivery without an offence is its own text's: every line of its files was read, and numbers find their own lines. specs/Text.antt states it.
-- Assumes nothing.
use mathlib.Core.Path.{◌≡◌, refl, sym, ap, ◌∙◌}
use mathlib.Core.List.{List, [], ◌∷◌, ◌++◌}
use mathlib.Core.Bool.{Bool, true, false, cond, not}
use mathlib.Core.Option.{Option, none}
use Prim.Native.Nat.{ℕ}
use lib.ListN.{length-map}
use borrow.Author.Tests.{not-false}
use Rattle.base.specs.Lists.{All, nil, cons, gathered}
use Rattle.base.proofs.Laws.{apart}
use Rattle.forms.specs.Form.{FieldRule, form_of, Form, Fits, Broken}
use Rattle.lines.specs.Lines.{Line, lines_of, skipped}
use Rattle.timetable.specs.Delivery.{Files, BitField}
use Rattle.timetable.specs.Offences.{given, first}
use Rattle.timetable.specs.Files.{Held, skip, broken, listed, held_in, held_by, held_line, held_offence, bit_fields_first, stops_first, interchanges_first, classes_first}
use Rattle.timetable.specs.Plan.{opens_service}
use Rattle.timetable.specs.Service.{head_lines, blocks, service_of}
use Rattle.timetable.specs.Legs.{field_runs}
use Rattle.timetable.specs.Load.{delivered}
use Rattle.timetable.specs.declared.Offence.{Offence}
use Rattle.timetable.proofs.Offences.{then-none, given-none, form-none, first-none}
use Rattle.whole_runs.specs.Text.{Records, no_line, skips, gives, EveryLine, OwnText}
use Rattle.whole_runs.proofs.Clear.{Clear}
use Rattle.whole_runs.proofs.Period.{three-lines}
use Rattle.whole_runs.proofs.Right.{from-text}
use Rattle.whole_runs.proofs.Once.{fields-run, stops-own, interchanges-own, classes-own}

-- ---- BITFELD, BAHNHOF, UMSTEIGB, ZUGART

-- a line without an offence is not broken
whole-line : {X : Type 0} (own : X → Option Offence) (line : ℕ) (h : Held X) → held_offence own line h ≡ none → (c : ℕ) → h ≡ broken c → ⊥
whole-line own line h e c q = let z = form-none (Broken c) line (sym (ap (held_offence own line) q) ∙ e) in apart (cc)

module _ {X : Type 0} (rows : List FieldRule) (read : Line → X) where
  one_line : (l : Line) → ((c : ℕ) → held_line rows read l ≡ broken c → ⊥) → {ls : List Line} {xs : List X} → Records (held_line rows read) ls xs
      → Records (held_line rows read) (l ∷ ls) (listed (held_line rows read l) ++ xs)
  one_line l unbroken {ls} {xs} rest = go (skipped l.text) refl (form_of rows l.text) refl
    where
      go : (t : Bool) → skipped l.text ≡ t → (f : Form) → form_of rows l.text ≡ f → Records (held_line rows read) (l ∷ ls) (listed (cond t skip (held_by f (read l))) ++ xs)
      go true q f p = skips {l = l} q rest
      go false q Fits p = gives {l = l} {x = read l} q (rw (q, p)) rest
      go false q (Broken c) p = absurd (unbroken c (rw (q, p)))

  records : (off : List Line → Line → Option Offence) → ((before : List Line) (l : Line) → off before l ≡ none → (c : ℕ) → held_line rows read l ≡ broken c → ⊥)
      → (before ls : List Line) → first off before ls ≡ none → Records (held_line rows read) ls (held_in (held_line rows read) ls)
  unfolding held_in
  records off one before [] e = no_line
  records off one before (l ∷ ls) e =
      let n = first-none off before l ls e in
      one_line l (one before l n.0) (records off one (before ++ (l ∷ [])) ls n.1)

-- ---- FPLAN

-- each line stands in the head or in one block
pub blocks-whole : (ls : List Line) → head_lines ls ++ gathered (λ (b : List Line). b) (blocks ls) ≡ ls
unfolding head_lines blocks gathered
blocks-whole [] = refl
blocks-whole (l ∷ ls) = go (opens_service l) (blocks-whole ls)
  where
    go : (t : Bool) → head_lines ls ++ gathered (λ (b : List Line). b) (blocks ls) ≡ ls
        → cond t [] (l ∷ head_lines ls) ++ gathered (λ (b : List Line). b) (cond t ((l ∷ head_lines ls) ∷ blocks ls) (blocks ls)) ≡ l ∷ ls
    go true e = ap (λ (r : List Line). l ∷ r) e
    go false e = ap (λ (r : List Line). l ∷ r) e

-- 12
head-skipped : (before ls : List Line) → first (λ before l. given (not (skipped l.text)) 12 l.no) before ls ≡ none → All (λ (l : Line). skipped l.text ≡ true) ls
head-skipped before [] e = nil
head-skipped before (l ∷ ls) e =
    let n = first-none (λ before l. given (not (skipped l.text)) 12 l.no) before l ls e in
    cons {x = l} (not-false _ (given-none _ 12 l.no n.0)) (head-skipped (before ++ (l ∷ [])) ls n.1)

-- ---- the delivery

pub every_line : (f : Files) → Clear f → EveryLine f
unfolding delivered bit_fields_first stops_first interchanges_first classes_first
every_line f h = record {
  eckdaten = three-lines (lines_of f.eckdaten) h.period;
  bitfeld = records _ _ _ (λ before l o. whole-line _ _ _ o) [] (lines_of f.bitfeld) h.fields;
  bahnhof = records _ _ _ (λ before l o. whole-line _ _ _ o) [] (lines_of f.bahnhof) h.stops;
  umsteigb = records _ _ _ (λ before l o. whole-line _ _ _ o) [] (lines_of f.umsteigb) (then-none _ _ h.interchanges).0;
  zugart = records _ _ _ (λ before l o. whole-line _ _ _ o) [] (lines_of f.zugart) h.classes;
  fplan = blocks-whole (lines_of f.fplan);
  before = head-skipped [] (head_lines (lines_of f.fplan)) h.head;
  blocks_read = length-map (blocks (lines_of f.fplan)) service_of;
  services = from-text f h;
}

daily : (fields : List BitField) (k : ℕ) → field_runs fields 0 k ≡ true
unfolding field_runs
daily fields k = refl

pub own-text : (f : Files) → Clear f → OwnText f
own-text f h = record {
  every_line = every_line f h;
  field_days = fields-run f h;
  daily = daily (delivered f).fields;
  own_stop = stops-own f h;
  own_interchange = interchanges-own f h;
  own_class = classes-own f h;
}
