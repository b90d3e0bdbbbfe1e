use Rattle.base.proofs.Laws.{tests}
use Rattle.reading.proofs.Checking.{clean-first, refused-first, clean-within, clean-more, checking}
use Rattle.reading.proofs.read_checked.Goals as goal

pub slice_bounds-told_first-count : goal.slice_bounds-told_first-count
slice_bounds-told_first-count c = search checking

pub slice_bounds-told_first-start : goal.slice_bounds-told_first-start
slice_bounds-told_first-start c = search checking

pub slice_bounds-told_first-end : goal.slice_bounds-told_first-end
slice_bounds-told_first-end c = search checking

pub told_first-first-requires : goal.told_first-first-requires
told_first-first-requires c = search checking

pub loop-after-init : goal.loop-after-init
loop-after-init c = (
  search tests,
  search tests,
  search (
    clean-first,
    c.requires.boundary.0,
    c.requires.boundary.1,
    c.requires.calls_lent_in_bounds.0,
    c.requires.calls_lent_in_bounds.1,
    c.line_from-cut.ensures,
    c.told_first-first.ensures,
    c.no_counts-counts.ensures,
    c.first_offence.ensures,
    c.in_default.is,
    c.opening_of-opening.ensures,
  ),
  c.requires.field_map,
)

pub draft_line-counts-requires-clause-within : goal.draft_line-counts-requires-clause-within
draft_line-counts-requires-clause-within c =
    search (
      clean-within,
      c.loop-after.invariant.2,
      c.next_line.ensures,
      c.in-Some.is,
      c.offence_after.ensures,
      c.in_default-offence_after.is,
    )

pub loop-after-preserved : goal.loop-after-preserved
loop-after-preserved c = (
  search checking,
  search checking,
  search (
    clean-more,
    c.loop-after.invariant.2,
    c.next_line.ensures,
    c.in-Some.is,
    c.offence_after.ensures,
    c.in_default-offence_after.is,
    c.draft_line-counts.ensures,
    c.draft_line-counts.auto,
  ),
  c.loop-after.invariant.3,
)

pub returns : goal.returns
returns c = search checking

pub returns-in-Err-offence_after : goal.returns-in-Err-offence_after
returns-in-Err-offence_after c = search checking
