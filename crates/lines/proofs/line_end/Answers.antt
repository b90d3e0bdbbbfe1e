use mathlib.Core.Path.{refl}
use Rattle.lines.proofs.Pieces.{usual-end}
use Rattle.lines.proofs.line_end.Goals as goal

pub returns-then-no_lf-2 : goal.returns-then-no_lf-2
returns-then-no_lf-2 c =
    usual-end c.args.file.now c.args.at _ _ _ c.if-file-at-gt-USUAL_WIDTH.true refl c.if-file-at-eq10.true c.no_lf.ensures c.if-no_lf.true c.no_lf-then-no_lf.ensures c.if-no_lf-2.true
