use borrow.Author.Rules.{rules}
use Rattle.bitfield.proofs.Sets.{and-bits}
use Rattle.bitfield.proofs.both.Goals as goal

pub returns : goal.returns
returns c = and-bits _ _ _ (λ k h. search (rules, c.words_by.ensures.each k h))
