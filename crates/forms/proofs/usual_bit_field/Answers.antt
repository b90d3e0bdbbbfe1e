use Rattle.forms.proofs.Straight.{usual}
use Rattle.forms.proofs.usual_bit_field.Goals as goal

pub bit_field_fits-requires : goal.bit_field_fits-requires
bit_field_fits-requires c = search usual

pub returns-then-line-eq-BITS_END : goal.returns-then-line-eq-BITS_END
returns-then-line-eq-BITS_END c = search usual

pub returns : goal.returns
returns c = search usual
