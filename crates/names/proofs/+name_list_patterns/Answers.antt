use Rattle.names.proofs.Turns.{turning-names, turning-patterns, patterns-more, patterns-next}
use Rattle.names.proofs.+name_list_patterns.Goals as goal

pub name_list-returns-then-end-at : goal.name_list-returns-then-end-at
name_list-returns-then-end-at t c = search turning-names

pub name_list-returns-then-end-field : goal.name_list-returns-then-end-field
name_list-returns-then-end-field t c = search turning-names

pub name_list-bounds-field-end : goal.name_list-bounds-field-end
name_list-bounds-field-end t c = search turning-names

pub name_list-returns-then-field-end-ne36 : goal.name_list-returns-then-field-end-ne36
name_list-returns-then-field-end-ne36 t c = search turning-names

pub name_list-returns-then-byte_at-eq60 : goal.name_list-returns-then-byte_at-eq60
name_list-returns-then-byte_at-eq60 t c = search turning-names

pub name_list-returns : goal.name_list-returns
name_list-returns t c = search turning-names

pub patterns-returns-in_err-read : goal.patterns-returns-in_err-read
patterns-returns-in_err-read t c = search turning-patterns

pub patterns-returns-then-end-field : goal.patterns-returns-then-end-field
patterns-returns-then-end-field t c = search turning-patterns

pub patterns-bounds-field-end : goal.patterns-bounds-field-end
patterns-bounds-field-end t c = search turning-patterns

pub patterns-patterns-requires : goal.patterns-patterns-requires
patterns-patterns-requires t c = search turning-patterns

pub patterns-returns-then-field-end-eq60 : goal.patterns-returns-then-field-end-eq60
patterns-returns-then-field-end-eq60 t c =
    patterns-more _ _ _ _ c.pattern_at.ensures _ c.in_ok-read.was _ _ c.if-end-field.false _ c.first_of-then-field-end-eq60.ensures c.if-field-end-eq60.true c.patterns.ensures

pub patterns-next_name-requires : goal.patterns-next_name-requires
patterns-next_name-requires t c = search turning-patterns

pub patterns-name_list-requires : goal.patterns-name_list-requires
patterns-name_list-requires t c = search turning-patterns

pub patterns-returns : goal.patterns-returns
patterns-returns t c =
    patterns-next _ _ _ _ c.pattern_at.ensures _ c.in_ok-read.was _ _ c.if-end-field.false _ c.first_of-2.ensures c.if-field-end-eq60.false _ c.next_name.ensures c.name_list.ensures
