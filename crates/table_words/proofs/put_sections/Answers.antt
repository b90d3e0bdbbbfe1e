use Rattle.table_words.proofs.Laws.{sounds, sections}
use Rattle.table_words.proofs.put_sections.Goals as goal

pub shape_of-t : goal.shape_of-t
shape_of-t c = search sections

pub returns : goal.returns
returns c = search sections

pub put_section-stops-requires-clause-f_in_bounds : goal.put_section-stops-requires-clause-f_in_bounds
put_section-stops-requires-clause-f_in_bounds c = search sections

pub put_section-interchanges-requires-clause-f_in_bounds : goal.put_section-interchanges-requires-clause-f_in_bounds
put_section-interchanges-requires-clause-f_in_bounds c = search sections

pub put_section-requires-clause-f_in_bounds : goal.put_section-requires-clause-f_in_bounds
put_section-requires-clause-f_in_bounds c = search sections

pub put_section-classes-requires-clause-f_in_bounds : goal.put_section-classes-requires-clause-f_in_bounds
put_section-classes-requires-clause-f_in_bounds c = search sections
