-- What 44 lets through: a text of which no line is broken and each service is read back as it is but for its line (document 02, No. 11). Proved in proofs/Back.antt, both ways:
-- `no-44`, `back-no-44`. Assumes nothing.
use Rattle.std.specs.Prelude.{ℕ, ◌≡◌, List, map}
use Rattle.base.specs.Lists.{All}
use Rattle.lines.specs.Lines.{lines_of}
use Rattle.timetable.specs.Delivery.{Service}
use Rattle.timetable.specs.Plan.{tolds}
use Rattle.timetable.specs.Service.{blocks, service_of}
use Rattle.timetable.specs.declared.Told.{Told}
use Rattle.timetable.specs.declared.Told.TheVariants.{Other, Broken}
use Rattle.plan_services.specs.Services.{plan_text, relined}

-- neither of another kind (11) nor broken (4)
abbrev pub Formed : Told → Type 0
Formed t = (t ≡ Other → ⊥) × ((c : ℕ) → t ≡ Broken c → ⊥)

-- services whose text is read back as they are, but for their opening lines' numbers
pub record ReadBack (ss : List Service) : Type 0 where
  pub formed : All Formed (tolds (lines_of (plan_text ss)))
  pub services : map service_of (blocks (lines_of (plan_text ss))) ≡ relined 1 ss
