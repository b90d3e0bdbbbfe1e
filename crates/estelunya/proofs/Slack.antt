-- No slack: two outcomes that the contract of an exported function allows coincide, its answer and all words that it leaves. Stated of the contract itself (`Learnt`
-- is what a caller learns of a call, from its `ensures`), so that a clause that goes is missed here. Assumes nothing.
use mathlib.Core.Path.{◌≡◌, sym, ◌∙◌}
use mathlib.Core.List.{List}
use Prim.Native.Nat.{ℕ}
use Rattle.estelunya.proofs.estelunya_version.Reads.{Learnt as version-allows}
use Rattle.estelunya.proofs.estelunya_room.Reads.{Learnt as room-allows}
use Rattle.estelunya.proofs.estelunya_load.Reads.{Learnt as load-allows}
use Rattle.estelunya.proofs.estelunya_day.Reads.{Learnt as day-allows}
use Rattle.estelunya.proofs.estelunya_interchange.Reads.{Learnt as interchange-allows}
use Rattle.estelunya.proofs.estelunya_interchange_between.Reads.{Learnt as between-allows}
use Rattle.estelunya.proofs.estelunya_stop_name.Reads.{Learnt as name-allows}
use Rattle.estelunya.proofs.estelunya_walk.Reads.{Learnt as walk-allows}
use Rattle.estelunya.proofs.estelunya_days_union.Reads.{Learnt as union-allows}
use Rattle.estelunya.proofs.estelunya_days_intersection.Reads.{Learnt as intersection-allows}
use Rattle.estelunya.proofs.estelunya_days_difference.Reads.{Learnt as difference-allows}
use Rattle.estelunya.proofs.estelunya_days_complement.Reads.{Learnt as complement-allows}
use Rattle.estelunya.proofs.estelunya_days_count.Reads.{Learnt as count-allows}
use Rattle.estelunya.proofs.estelunya_index.Reads.{Learnt as index-allows}
use Rattle.estelunya.proofs.estelunya_check_index.Reads.{Learnt as check-index-allows}
use Rattle.estelunya.proofs.estelunya_quick_day.Reads.{Learnt as quick-day-allows}
use Rattle.estelunya.proofs.estelunya_quick_interchange.Reads.{Learnt as quick-interchange-allows}
use Rattle.estelunya.proofs.estelunya_quick_interchange_between.Reads.{Learnt as quick-between-allows}
use Rattle.estelunya.proofs.estelunya_quick_stop_name.Reads.{Learnt as quick-name-allows}
use Rattle.estelunya.proofs.estelunya_quick_walk.Reads.{Learnt as quick-walk-allows}
use Rattle.estelunya.proofs.estelunya_write.Reads.{Learnt as write-allows}
use Rattle.estelunya.proofs.estelunya_connection.Reads.{Learnt as connection-allows}
use Rattle.estelunya.proofs.estelunya_quick_connection.Reads.{Learnt as quick-connection-allows}
use Rattle.estelunya.proofs.estelunya_board.Reads.{Learnt as board-allows}
use Rattle.estelunya.proofs.estelunya_quick_board.Reads.{Learnt as quick-board-allows}

-- What a contract allows: of the lent arguments a, an answer, and what the arguments hold at exit (κ are their lifetimes). Two answers that it allows are one.
abbrev pub OneAnswer : {K : Type 0} {A X S : K → Type 0} → ((κ : K) → A κ → X κ → S κ → Type 0) → Type 0
OneAnswer {K} {A} {X} {S} allows = (κ : K) (a : A κ) (x y : X κ) (s t : S κ) → allows κ a x s → allows κ a y t → x ≡ y

-- and two contents of the words that it leaves: `left` picks them
abbrev pub OneOutcome : {K : Type 0} {A X S : K → Type 0} → ((κ : K) → A κ → X κ → S κ → Type 0) → ((κ : K) → S κ → List ℕ) → Type 0
OneOutcome {K} {A} {X} {S} allows left = (κ : K) (a : A κ) (x y : X κ) (s t : S κ) → allows κ a x s → allows κ a y t → (x ≡ y) × (left κ s ≡ left κ t)

pub version-no-slack : OneAnswer version-allows
version-no-slack κ a x y s t p q = p ∙ sym q

-- its answer, and that it is enough
pub room-no-slack : OneAnswer room-allows
room-no-slack κ a x y s t p q = p.0 ∙ sym q.0

-- the table, and the helper words
pub load-table-no-slack : OneOutcome load-allows (λ κ s. s.1.1.1.1.1.1.0.now)
load-table-no-slack κ a x y s t p q = (p.0 ∙ sym q.0, p.1.0 ∙ sym q.1.0)

pub load-helper-no-slack : OneOutcome load-allows (λ κ s. s.1.1.1.1.1.1.1.0.now)
load-helper-no-slack κ a x y s t p q = (p.0 ∙ sym q.0, p.1.1 ∙ sym q.1.1)

pub day-no-slack : OneAnswer day-allows
day-no-slack κ a x y s t p q = p ∙ sym q

pub interchange-no-slack : OneAnswer interchange-allows
interchange-no-slack κ a x y s t p q = p ∙ sym q

pub between-no-slack : OneAnswer between-allows
between-no-slack κ a x y s t p q = p ∙ sym q

pub name-no-slack : OneAnswer name-allows
name-no-slack κ a x y s t p q = p ∙ sym q

pub walk-no-slack : OneOutcome walk-allows (λ κ s. s.1.1.1.1.1.1.0.now)
walk-no-slack κ a x y s t p q = (p.0 ∙ sym q.0, p.1 ∙ sym q.1)

pub union-no-slack : OneOutcome union-allows (λ κ s. s.1.1.1.0.now)
union-no-slack κ a x y s t p q = (p.0 ∙ sym q.0, p.1 ∙ sym q.1)

pub intersection-no-slack : OneOutcome intersection-allows (λ κ s. s.1.1.1.0.now)
intersection-no-slack κ a x y s t p q = (p.0 ∙ sym q.0, p.1 ∙ sym q.1)

pub difference-no-slack : OneOutcome difference-allows (λ κ s. s.1.1.1.0.now)
difference-no-slack κ a x y s t p q = (p.0 ∙ sym q.0, p.1 ∙ sym q.1)

pub complement-no-slack : OneOutcome complement-allows (λ κ s. s.1.1.0.now)
complement-no-slack κ a x y s t p q = (p.0 ∙ sym q.0, p.1 ∙ sym q.1)

pub count-no-slack : OneAnswer count-allows
count-no-slack κ a x y s t p q = p ∙ sym q

pub index-no-slack : OneOutcome index-allows (λ κ s. s.1.0.now)
index-no-slack κ a x y s t p q = (p.0 ∙ sym q.0, p.1 ∙ sym q.1)

pub check-index-no-slack : OneAnswer check-index-allows
check-index-no-slack κ a x y s t p q = p ∙ sym q

pub quick-day-no-slack : OneAnswer quick-day-allows
quick-day-no-slack κ a x y s t p q = p ∙ sym q

pub quick-interchange-no-slack : OneAnswer quick-interchange-allows
quick-interchange-no-slack κ a x y s t p q = p ∙ sym q

pub quick-between-no-slack : OneAnswer quick-between-allows
quick-between-no-slack κ a x y s t p q = p ∙ sym q

pub quick-name-no-slack : OneAnswer quick-name-allows
quick-name-no-slack κ a x y s t p q = p ∙ sym q

pub quick-walk-no-slack : OneOutcome quick-walk-allows (λ κ s. s.1.1.1.1.1.1.1.0.now)
quick-walk-no-slack κ a x y s t p q = (p.0 ∙ sym q.0, p.1 ∙ sym q.1)

pub write-no-slack : OneOutcome write-allows (λ κ s. s.1.0.now)
write-no-slack κ a x y s t p q = (p.0 ∙ sym q.0, p.1 ∙ sym q.1)

pub connection-no-slack : OneAnswer connection-allows
connection-no-slack κ a x y s t p q = p ∙ sym q

pub quick-connection-no-slack : OneAnswer quick-connection-allows
quick-connection-no-slack κ a x y s t p q = p ∙ sym q

pub board-no-slack : OneOutcome board-allows (λ κ s. s.1.1.1.1.1.1.1.1.0.now)
board-no-slack κ a x y s t p q = (p.0 ∙ sym q.0, p.1 ∙ sym q.1)

pub quick-board-no-slack : OneOutcome quick-board-allows (λ κ s. s.1.1.1.1.1.1.1.1.0.now)
quick-board-no-slack κ a x y s t p q = (p.0 ∙ sym q.0, p.1 ∙ sym q.1)
