use Rattle.boards.specs.ByWords.{PuttingKept}
use Rattle.boards.proofs.put_kept.Given as goal

abbrev pub invariant-loop-j : goal.invariant-loop-j
invariant-loop-j l = PuttingKept l.w l.x l.y l.n l.k l.first l.last l.kept l.m l.initial.list l.list l.j l.to
