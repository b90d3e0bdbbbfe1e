use Rattle.table.proofs.Records.{classes}
use Rattle.table.proofs.classes_within.Goals as goal

pub returns-then-w-p-gt-MOST_CLASS : goal.returns-then-w-p-gt-MOST_CLASS
returns-then-w-p-gt-MOST_CLASS c = search classes

pub loop-preserved : goal.loop-preserved
loop-preserved c = search classes

pub returns : goal.returns
returns c = search classes
