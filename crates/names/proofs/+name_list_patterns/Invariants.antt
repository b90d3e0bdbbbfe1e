use Prim.Native.Nat.{◌-◌}
use lib.ListN.{length}
use Rattle.names.proofs.+name_list_patterns.Given as goal

abbrev pub decreases-name_list : goal.decreases-name_list
decreases-name_list l = length l.field.now - l.at

abbrev pub decreases-patterns : goal.decreases-patterns
decreases-patterns l = length l.field.now - l.at
