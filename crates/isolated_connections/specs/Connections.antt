-- Connections (document 02, No. 12) after an edit inside one service's block, and after bit field numbers were changed one-to-one: what No. 14 says of walks, said of them.
-- Proved in proofs/Connections.antt: `isolated-connections`, `renamed-connections`. Assumes nothing.
use Rattle.std.specs.Prelude.{◌≡◌, List, ℕ, length}
use Rattle.base.specs.Lists.{All}
use Rattle.timetable.specs.Delivery.{Files}
use Rattle.timetable.specs.Load.{loaded, written}
use Rattle.timetable.specs.declared.Loaded.TheVariants.{Accepted}
use Rattle.connections.specs.Connection.{parts_of, connection_asked}
use Rattle.connections.specs.declared.Part.{Part}
use Rattle.isolation.specs.Edit.{Edited, place}
use Rattle.isolation.specs.Rename.{OneToOne, renamed}

-- no part of the proposed connection is of the service with this index
abbrev pub Without : ℕ → List ℕ → Type 0
Without i proposed = All (λ (p : Part). p.service ≡ i → ⊥) (parts_of proposed)

-- the answer, the number of the first bad part too, is the same
abbrev pub IsolatedConnections : Type 0
IsolatedConnections =
    (f g : Files) (e : Edited f g) (t t' : List ℕ) (helper helper' u u' : ℕ) → loaded f (length t) helper ≡ Accepted u → loaded g (length t') helper' ≡ Accepted u'
    → (proposed : List ℕ) → Without (place e) proposed → connection_asked (written f t helper) proposed ≡ connection_asked (written g t' helper') proposed

abbrev pub RenamedConnections : Type 0
RenamedConnections =
    (σ : ℕ → ℕ) → OneToOne σ → (f : Files) (t : List ℕ) (helper u : ℕ) → loaded f (length t) helper ≡ Accepted u
    → (proposed : List ℕ) → connection_asked (written (renamed σ f) t helper) proposed ≡ connection_asked (written f t helper) proposed
