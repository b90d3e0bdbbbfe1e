-- Worked examples of No. 14, from bytes: Coast Boats edit their block, and the ferry's walks stay; the two bit field numbers are exchanged, and all walks stay.
-- So neither theorem is empty. Assumes nothing.
use mathlib.Core.Path.{◌≡◌, refl, sym, ap, ◌∙◌, subst}
use mathlib.Core.Logic.{inr}
use mathlib.Core.List.{List, [], ◌∷◌, ◌++◌}
use mathlib.Core.Bool.{cond, true, false}
use Prim.Native.Nat.{ℕ, ◌≤◌, ◌<◌}
use native.Mathlib.Omega.{arith}
use lib.ListN.{length}
use lib.Dec.{ltb, eqb}
use borrow.Author.Tests.{le-ltb}
use Rattle.std.specs.Prelude.{Ok, Some, None}
use Rattle.base.specs.Text.{bytes}
use Rattle.base.proofs.Laws.{apart, by_eqb}
use Rattle.timetable.specs.Delivery.{Files}
use Rattle.timetable.specs.Load.{delivered, loaded, written}
use Rattle.timetable.specs.View.{view_of}
use Rattle.timetable.specs.Questions.{day_in, Journey, rows, idle, journey, walked_by, Walked}
use Rattle.timetable.specs.declared.Loaded.TheVariants.{Accepted, Refused as LoadRefused}
use Rattle.whole_runs.proofs.Accepted.{walk-accepted}
use Rattle.examples.specs.Trial.{line, friday_rows}
use Rattle.examples.proofs.Computing.{computing}
use Rattle.line_text.specs.Text.{decimal}
use Rattle.isolation.specs.Alike.{WalksAlike}
use Rattle.isolation.specs.Edit.{ends_line, Edited, place}
use Rattle.isolation.specs.Rename.{OneToOne, renumbered, plan_line, each_line, renamed, AnswersAlike}
use Rattle.isolation.specs.Boats.{ferry_block, coast_block, coast_edited, boats, before, edited, exchanged_files, half_exchanged, line_cr, exchanged}
use Rattle.isolation.proofs.Isolated.{isolated}
use Rattle.isolation.proofs.Renamed.{renamed-again}

unfoldable boating : Unit {0}
unfolding computing ends_line decimal renumbered plan_line each_line renamed ferry_block coast_block coast_edited boats before edited exchanged_files half_exchanged exchanged
boating = tt

kept_text : List ℕ
unfolding boating
kept_text =
    line "*A VE                                                     %" ++ line "*G BAT                000001                              %" ++ line "1000022               000001  00810  00812                %"
    ++ line "% A VE                000001"

-- ---- accepted, with helper words enough: 64, and four for each of the six lines of BITFELD, BAHNHOF and UMSTEIGB

accepted-by : (a : ℕ) (helper : ℕ) → 88 ≤ helper → cond (ltb helper 88) (LoadRefused 51 0 0 0 88) (Accepted a) ≡ Accepted a
accepted-by a helper h = rw (le-ltb helper 88 h) refl

module _ (helper : ℕ) (enough : 88 ≤ helper) where
  before-accepted : loaded before 4096 helper ≡ Accepted 127
  unfolding boating
  before-accepted = accepted-by 127 helper enough

  edited-accepted : loaded edited 4096 helper ≡ Accepted 134
  unfolding boating
  edited-accepted = accepted-by 134 helper enough

-- ---- Coast Boats edit their block, the first; the ferry, the second, begins a line later than before

coast-edit : Edited before edited
unfolding boating
coast-edit = record {
  pre = [];
  x = coast_block (bytes "000002");
  y = coast_edited;
  post = ferry_block (bytes "000001");
  before = refl;
  after = refl;
  x_service = record { starts = refl; once = refl };
  y_service = record { starts = refl; once = refl };
  post_service = refl;
  pre_ends = refl;
  block_ends = inr (refl, refl);
  eckdaten = refl;
  bitfeld = refl;
  bahnhof = refl;
  umsteigb = refl;
  zugart = refl;
}

other-boat : 1 ≡ place coast-edit → ⊥
unfolding boating coast-edit
other-boat e = omega (arith, e)

ferry-friday : journey (view_of (delivered before)) 1 0 5 12 2025 ≡ rows friday_rows
unfolding boating
ferry-friday = refl

module _ (t t' : List ℕ) (lent : length t ≡ 4096) (lent' : length t' ≡ 4096) (helper : ℕ) (enough : 88 ≤ helper) where
  coast-before : loaded before (length t) helper ≡ Accepted 127
  coast-before = ap (λ (n : ℕ). loaded before n helper) lent ∙ before-accepted helper enough

  coast-after : loaded edited (length t') helper ≡ Accepted 134
  coast-after = ap (λ (n : ℕ). loaded edited n helper) lent' ∙ edited-accepted helper enough

  -- the ferry's walks are alike, by the theorem
  pub ferry-alike : WalksAlike (written before t helper) (written edited t' helper) 1
  ferry-alike = isolated before edited coast-edit t t' helper helper 127 134 coast-before coast-after 1 other-boat

-- Coast Boats' own walks are not: on Friday the boat did not run before, and runs after the edit
coast-friday : journey (view_of (delivered before)) 0 0 5 12 2025 ≡ idle
unfolding boating
coast-friday = refl

coast-edited-friday : journey (view_of (delivered edited)) 0 0 5 12 2025
    ≡ rows
    (1000033 ∷ 0 ∷ 600 ∷ 2 ∷ 7 ∷ 4411201 ∷ 5461087 ∷ 4342100 ∷ 2 ∷ 3
    ∷ 1000022 ∷ 610 ∷ 615 ∷ 3 ∷ 7 ∷ 4411201 ∷ 5461087 ∷ 4342100 ∷ 2 ∷ 3
    ∷ 1000011 ∷ 640 ∷ 0 ∷ 1 ∷ 7 ∷ 4411201 ∷ 5461087 ∷ 0 ∷ 2 ∷ 3
    ∷ [])
unfolding boating
coast-edited-friday = refl

-- ---- 000001 and 000002 exchanged

exchange-is : renamed exchanged before ≡ exchanged_files
unfolding boating
exchange-is = refl

exchange-one-to-one : OneToOne exchanged
unfolding exchanged
exchange-one-to-one = record { six_digits = λ n. six n; apart = λ n m h k. two n m; kept = refl }
  where
    six : (n : ℕ) → n < 1000000 → cond (eqb n 1) 2 (cond (eqb n 2) 1 n) < 1000000
    six n h = by_eqb (λ t. cond t 2 (cond (eqb n 2) 1 n) < 1000000) n 1 (λ e. omega arith) (λ e. by_eqb (λ t. cond t 1 n < 1000000) n 2 (λ e. omega arith) (λ e. h))

    two : (n m : ℕ) → exchanged n ≡ exchanged m → n ≡ m
    two n m = by_eqb (λ t. cond t 2 (cond (eqb n 2) 1 n) ≡ exchanged m → n ≡ m) n 1
        (λ a. by_eqb (λ t. 2 ≡ cond t 2 (cond (eqb m 2) 1 m) → n ≡ m) m 1 (λ b q. a ∙ sym b) (λ b. by_eqb (λ t. 2 ≡ cond t 1 m → n ≡ m) m 2 (λ c q. absurd (omega (arith, q))) (λ c q. absurd (c (sym q)))))
        (λ a. by_eqb (λ t. cond t 1 n ≡ exchanged m → n ≡ m) n 2
        (λ d. by_eqb (λ t. 1 ≡ cond t 2 (cond (eqb m 2) 1 m) → n ≡ m) m 1 (λ b q. absurd (omega (arith, q))) (λ b. by_eqb (λ t. 1 ≡ cond t 1 m → n ≡ m) m 2 (λ c q. d ∙ sym c) (λ c q. absurd (b (sym q)))))
        (λ d. by_eqb (λ t. n ≡ cond t 2 (cond (eqb m 2) 1 m) → n ≡ m) m 1 (λ b q. absurd (d q)) (λ b. by_eqb (λ t. n ≡ cond t 1 m → n ≡ m) m 2 (λ c q. absurd (a q)) (λ c q. q))))

module _ (t : List ℕ) (lent : length t ≡ 4096) (helper : ℕ) (enough : 88 ≤ helper) where
  -- accepted again with as many words, and all walks alike: by the theorem
  pub exchanged-alike : (loaded exchanged_files (length t) helper ≡ Accepted 127) × AnswersAlike exchanged (written before t helper) (written exchanged_files t helper)
  exchanged-alike =
      subst (λ (f : Files). (loaded f (length t) helper ≡ Accepted 127) × AnswersAlike exchanged (written before t helper) (written f t helper)) exchange-is
      (renamed-again exchanged exchange-one-to-one before t helper 127 (ap (λ (n : ℕ). loaded before n helper) lent ∙ before-accepted helper enough))

-- computed from the changed bytes: on Friday the ferry has its four rows, at the weekend it does not run
exchanged-friday : journey (view_of (delivered exchanged_files)) 1 0 5 12 2025 ≡ rows friday_rows
unfolding boating
exchanged-friday = refl

exchanged-saturday : journey (view_of (delivered exchanged_files)) 1 0 6 12 2025 ≡ idle
unfolding boating
exchanged-saturday = refl

-- the accident: exchanged in BITFELD alone, the ferry stands still on Friday
half-friday : journey (view_of (delivered half_exchanged)) 1 0 5 12 2025 ≡ idle
unfolding boating
half-friday = refl

-- ---- which lines of FPLAN are changed, byte by byte: CR LF and a last line without LF stay as they are

-- *A, "VE" and another code
changed-lines : each_line (plan_line exchanged) [] (line_cr (bytes "*A VE                 000001                              %") ++ bytes "*A R  #0      #1      000002                              %")
    ≡ line_cr (bytes "*A VE                 000002                              %") ++ bytes "*A R  #0      #1      000001                              %"
unfolding boating
changed-lines = refl

-- a blank bit field, *G, a schedule line whose free columns hold digits, a line that is skipped
kept-lines : each_line (plan_line exchanged) [] kept_text ≡ kept_text
unfolding boating kept_text
kept-lines = refl

-- ---- what the theorems do not say, by these deliveries: no premise can go

-- the edited service's own walks (above: `coast-friday`, `coast-edited-friday`) are not alike
own-walk : (t t' : List ℕ) → length t ≡ 4096 → length t' ≡ 4096 → WalksAlike (written before t 88) (written edited t' 88) 0 → ⊥
own-walk t t' lent lent' h =
    let a = walk-accepted before t 88 127 (coast-before t t' lent lent' 88 (omega arith)) 0 0 5 12 2025 ∙ coast-friday in
    let b = walk-accepted edited t' 88 134 (coast-after t t' lent lent' 88 (omega arith)) 0 0 5 12 2025 ∙ coast-edited-friday in
    let z : ◌≡◌ {A = Walked} (Ok None) (Ok (Some 3)) = ap (λ (j : Journey). walked_by j 30) (sym a) ∙ (h.answers 0 5 12 2025 30 ∙ ap (λ (j : Journey). walked_by j 30) b) in
    apart (cc)

-- with 000000 exchanged for 000001: 7
zero-moved : loaded (renamed (λ (n : ℕ). cond (eqb n 0) 1 (cond (eqb n 1) 0 n)) before) 4096 88 ≡ LoadRefused 7 2 1 0 0
unfolding boating
zero-moved = refl

-- with 000001 for 000002 too: 6
not-one-to-one : loaded (renamed (λ (n : ℕ). cond (eqb n 2) 1 n) before) 4096 88 ≡ LoadRefused 6 2 2 0 0
unfolding boating
not-one-to-one = refl

-- the day question by number is another bit field's, after the exchange
old-number : (day_in (view_of (delivered before)) 5 12 2025 1 ≡ Ok true) × (day_in (view_of (delivered exchanged_files)) 5 12 2025 1 ≡ Ok false) × (day_in (view_of (delivered exchanged_files)) 5 12 2025 2 ≡ Ok true)
unfolding boating
old-number = (refl, refl, refl)
