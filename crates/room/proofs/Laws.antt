-- The arithmetic of `room_for`. Assumes nothing.
use mathlib.Core.Path.{◌≡◌, refl, sym, ap, ◌∙◌}
use mathlib.Core.Bool.{Bool, true, false, cond}
use Prim.Native.Nat.{ℕ, ◌+◌, ◌*◌, ◌/◌, ◌≤◌, ◌<◌}
use native.Mathlib.Omega.{arith}
use borrow.Author.Tests.{lt-ltb, le-ltb}
use Rattle.base.proofs.Laws.{tests}
use Rattle.timetable.specs.Layout.{header_size, bit_field_size, stop_size, interchange_size, class_size, most_file_bytes}
use Rattle.room.proofs.Enough.{enough}
use Rattle.room.specs.Room.{counted, share, room_for, Enough, bit_field_least, stop_least, interchange_least, class_least, plan_least, plan_line_size}

pub counted-most : (n : ℕ) → most_file_bytes < n → most_file_bytes ≡ counted n
counted-most n h = rw (lt-ltb most_file_bytes n h) refl

pub counted-whole : (n : ℕ) → n ≤ most_file_bytes → n ≡ counted n
counted-whole n h = rw (le-ltb most_file_bytes n h) refl

module _ (b s u p z cb cs cu cp cz r : ℕ) (eb : cb ≡ counted b) (es : cs ≡ counted s) (eu : cu ≡ counted u) (ep : cp ≡ counted p) (ez : cz ≡ counted z)
    (e : r ≡ header_size + bit_field_size * cb / bit_field_least + stop_size * cs / stop_least + interchange_size * cu / interchange_least + class_size * cz / class_least + plan_line_size * cp / plan_least) where
  pub room-is : r ≡ room_for b s u p z
  unfolding room_for
  room-is = e ∙ rw (eb, es, eu, ep, ez) refl

  pub room-enough : Enough b s u p z r
  room-enough = enough b s u p z r room-is

pub ruleset counting = (tests, counted-most, counted-whole)

pub ruleset sums = (tests, room-is, room-enough)
