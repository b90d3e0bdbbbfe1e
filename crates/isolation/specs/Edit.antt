-- Document 02, No. 14: "If two accepted deliveries differ only inside one service's block of FPLAN, which is one service in both, every other service's walk
-- gives the same answer and rows, given the same service index, repeat, date and room." What such deliveries are, by their bytes.
-- Whole it is `Isolation`, proved in proofs/Isolated.antt: `isolated`. Assumes nothing.
use Rattle.std.specs.Prelude.{◌≡◌, ◌⊎◌, List, [], ◌∷◌, ◌++◌, Bool, true, ℕ, length, eqb}
use Rattle.base.specs.Lists.{every}
use Rattle.lines.specs.Lines.{Line, lines_of, skipped}
use Rattle.timetable.specs.Delivery.{Files}
use Rattle.timetable.specs.Service.{head_lines, blocks}
use Rattle.timetable.specs.Load.{loaded, written}
use Rattle.timetable.specs.declared.Loaded.TheVariants.{Accepted}
use Rattle.isolation.specs.Alike.{WalksAlike}

-- bytes that are none or end with an LF (byte 10): what follows them starts a line
unfoldable pub ends_line : List ℕ → Bool
ends_line [] = true
ends_line (b ∷ []) = eqb b 10
ends_line (b ∷ c ∷ s) = ends_line (c ∷ s)

-- how many services bytes of FPLAN have
abbrev pub service_count : List ℕ → ℕ
service_count s = length (blocks (lines_of s))

-- the first line that is not skipped, if there is one, opens a service
abbrev pub starts_service : List ℕ → Bool
starts_service s = every (λ (l : Line). skipped l.text) (head_lines (lines_of s))

-- one service, with the lines skipped before it
pub record OneService (s : List ℕ) : Type 0 where
  pub starts : starts_service s ≡ true
  pub once : service_count s ≡ 1

-- FPLAN is pre, x, post in f and pre, y, post in g
pub record Edited (f g : Files) : Type 0 where
  pub pre : List ℕ
  pub x : List ℕ
  pub y : List ℕ
  pub post : List ℕ
  pub before : f.fplan ≡ pre ++ (x ++ post)
  pub after : g.fplan ≡ pre ++ (y ++ post)
  -- "which is one service in both": x and y each are one service, and the next begins behind them
  pub x_service : OneService x
  pub y_service : OneService y
  pub post_service : starts_service post ≡ true
  -- cut at line ends (the last line of a file may lack its LF)
  pub pre_ends : ends_line pre ≡ true
  pub block_ends : (post ≡ []) ⊎ ((ends_line x ≡ true) × (ends_line y ≡ true))
  -- "differ only inside": the other files are the same
  pub eckdaten : f.eckdaten ≡ g.eckdaten
  pub bitfeld : f.bitfeld ≡ g.bitfeld
  pub bahnhof : f.bahnhof ≡ g.bahnhof
  pub umsteigb : f.umsteigb ≡ g.umsteigb
  pub zugart : f.zugart ≡ g.zugart

-- the index of the service that is edited: as many stand before it
abbrev pub place : {f g : Files} → Edited f g → ℕ
place e = service_count e.pre

-- "every other service's walk gives the same answer and rows": both accepted, with any tables and helper words lent, of the words that load left
abbrev pub Isolation : Type 0
Isolation =
    (f g : Files) (e : Edited f g) (t t' : List ℕ) (helper helper' u u' : ℕ) → loaded f (length t) helper ≡ Accepted u → loaded g (length t') helper' ≡ Accepted u'
    → (i : ℕ) → (i ≡ place e → ⊥) → WalksAlike (written f t helper) (written g t' helper') i
