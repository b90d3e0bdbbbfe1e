use mathlib.Core.Path.{◌≡◌}
use mathlib.Core.List.{map}
use Prim.Native.Nat.{◌+◌, ◌-◌, ◌*◌, ◌^◌, ◌≤◌, ◌<◌}
use Rattle.base.specs.Lists.{upto}
use Rattle.day_sets.specs.DaySets.{bits_from, word_of, bit_in}
use Rattle.day_sets.proofs.framed_word.Given as goal

abbrev pub invariant-loop-k : goal.invariant-loop-k
invariant-loop-k l = (l.i * 32 ≤ l.k) × (l.k ≤ l.i * 32 + 32) × (l.word < 2 ^ (l.k - l.i * 32)) × (bits_from l.word (map (bit_in l.n l.days) (upto (l.i * 32 + 32 - l.k) l.k)) ≡ word_of (bit_in l.n l.days) l.i)
