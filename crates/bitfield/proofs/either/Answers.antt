use borrow.Author.Rules.{rules}
use Rattle.bitfield.proofs.Sets.{or-bits}
use Rattle.bitfield.proofs.either.Goals as goal

pub returns : goal.returns
returns c = or-bits _ _ _ (λ k h. search (rules, c.words_by.ensures.each k h))
