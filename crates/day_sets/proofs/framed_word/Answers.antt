use native.Mathlib.Omega.{arith}
use Rattle.day_sets.proofs.Loops.{bits}
use Rattle.day_sets.proofs.framed_word.Goals as goal

pub loop-k-init : goal.loop-k-init
loop-k-init c = (omega arith, omega arith, search bits, search bits)

pub overflow_mul-word : goal.overflow_mul-word
overflow_mul-word c = search bits

pub framed_bit-requires : goal.framed_bit-requires
framed_bit-requires c = search bits

pub overflow_add-word : goal.overflow_add-word
overflow_add-word c = search bits

pub loop-k-preserved : goal.loop-k-preserved
loop-k-preserved c = (omega arith, omega arith, search bits, search bits)

pub returns : goal.returns
returns c = search bits
