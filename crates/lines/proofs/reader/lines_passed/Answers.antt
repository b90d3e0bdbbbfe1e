use mathlib.Core.Path.{ap, ◌∙◌}
use mathlib.Core.List.{List}
use Prim.Native.Nat.{ℕ}
use Rattle.lines.specs.Lines.{cut_at}
use Rattle.lines.proofs.reader.Count.{kept_next, kept-last}
use Rattle.lines.proofs.Laws.{cut-less}
use Rattle.lines.proofs.reader.lines_passed.Goals as goal

pub loop-reader-smaller : goal.loop-reader-smaller
loop-reader-smaller c =
    let r = c.loop-reader.reader in
    rw c.next_line.ensures.1 (cut-less _ _ _ _ c.loop-reader-test.true
    (c.next_line.ensures.0 ∙ ap (λ (f : List ℕ). cut_at f r.at r.no) c.loop-reader.invariant.0))

pub loop-reader-preserved : goal.loop-reader-preserved
loop-reader-preserved c =
    let r = c.loop-reader.reader in
    rw c.next_line.ensures.1 (
      c.loop-reader.invariant.0,
      kept_next _ _ _ c.loop-reader.invariant.1 _ c.loop-reader-test.true
          (c.next_line.ensures.0 ∙ ap (λ (f : List ℕ). cut_at f r.at r.no) c.loop-reader.invariant.0),
    )

pub returns : goal.returns
returns c = kept-last _ _ _ c.loop-reader.invariant.1 c.loop-reader-test.false
