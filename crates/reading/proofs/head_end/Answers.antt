use mathlib.Core.Path.{◌≡◌, sym, ap, ◌∙◌}
use mathlib.Core.List.{List}
use Prim.Native.Nat.{ℕ}
use Rattle.lines.specs.Lines.{cut_at}
use Rattle.lines.specs.declared.Cut.{Cut}
use Rattle.lines.proofs.Laws.{Cutting, cutting, cut-less}
use Rattle.reading.proofs.Heads.{head_passed, head-answer, head-none}
use Rattle.reading.proofs.head_end.Goals as goal

-- the line that the reader cut is the one that stands at its place of f
here : (f g : List ℕ) (at n : ℕ) (r : Cut) → g ≡ f → r ≡ cut_at g at n → r ≡ cut_at f at n
here f g at n r e h = h ∙ ap (λ (x : List ℕ). cut_at x at n) e

pub ends_head-requires : goal.ends_head-requires
ends_head-requires c =
    let r = c.loop-reader.reader in
    let k : Cutting c.args.f.now r.at r.no c.next_line-cut.result = cutting _ _ _ _ c.loop-reader-test.true (here _ _ _ _ _ c.loop-reader.invariant.0 c.next_line-cut.ensures.0) in
    (k.low, k.high)

pub head_at-requires : goal.head_at-requires
head_at-requires c =
    let r = c.loop-reader.reader in
    let k : Cutting c.args.f.now r.at r.no c.next_line-cut.result = cutting _ _ _ _ c.loop-reader-test.true (here _ _ _ _ _ c.loop-reader.invariant.0 c.next_line-cut.ensures.0) in
    (k.low, k.high)

pub returns-then-ends_head : goal.returns-then-ends_head
returns-then-ends_head c =
    head-answer _ _ _ c.loop-reader.invariant.1 _ c.loop-reader-test.true (here _ _ _ _ _ c.loop-reader.invariant.0 c.next_line-cut.ensures.0)
    _ c.requires (sym c.if-ends_head.true ∙ c.ends_head.ensures) c.head_at.ensures

pub loop-reader-smaller : goal.loop-reader-smaller
loop-reader-smaller c =
    rw c.next_line-cut.ensures.1 (cut-less _ _ _ _ c.loop-reader-test.true (here _ _ _ _ _ c.loop-reader.invariant.0 c.next_line-cut.ensures.0))

pub loop-reader-preserved : goal.loop-reader-preserved
loop-reader-preserved c =
    rw c.next_line-cut.ensures.1 (
      c.loop-reader.invariant.0,
      head_passed _ _ _ c.loop-reader.invariant.1 _ c.loop-reader-test.true (here _ _ _ _ _ c.loop-reader.invariant.0 c.next_line-cut.ensures.0)
          (sym c.if-ends_head.false ∙ c.ends_head.ensures),
    )

pub returns : goal.returns
returns c = head-none _ _ _ c.loop-reader.invariant.1 c.requires c.loop-reader-test.false
