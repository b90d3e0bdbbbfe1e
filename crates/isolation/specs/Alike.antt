-- When two tables' words answer alike: "gives the same answer and rows, given the same service index, repeat, date and room" (document 02, No. 14).
-- Assumes nothing.
use Rattle.std.specs.Prelude.{◌≡◌, List, ℕ}
use Rattle.timetable.specs.Questions.{interchange_asked, between_asked, walked, walk_rows}
use Rattle.timetable.specs.StopNames.{stop_name_asked}

-- the walks of the i-th service, whatever repeat, date and room: the answer (refusals as well), and the rows afterwards
pub record WalksAlike (w v : List ℕ) (i : ℕ) : Type 0 where
  pub answers : (r day month year room : ℕ) → walked w i r day month year room ≡ walked v i r day month year room
  pub rows : (r day month year : ℕ) (lent : List ℕ) → walk_rows w i r day month year lent ≡ walk_rows v i r day month year lent

-- beyond what No. 14 asks: the questions that are not of a service or a bit field
pub record StopsAlike (w v : List ℕ) : Type 0 where
  pub interchange : (n a b : ℕ) → interchange_asked w n a b ≡ interchange_asked v n a b
  pub between : (n a b : ℕ) → between_asked w n a b ≡ between_asked v n a b
  pub stop_name : (bahnhof : List ℕ) (stop language type : ℕ) → stop_name_asked w bahnhof stop language type ≡ stop_name_asked v bahnhof stop language type
