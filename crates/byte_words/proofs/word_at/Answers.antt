use native.Mathlib.Omega.{arith}
use Rattle.byte_words.proofs.Words.{word_read}
use Rattle.byte_words.proofs.word_at.Goals as goal

pub returns : goal.returns
returns c = word_read c.args.t.now c.args.i _ (omega arith) (λ j. omega (arith, c.type_inv.t j)) c.from_le_bytes.ensures
