use borrow.Author.Rules.{rules}
use Rattle.bitfield.proofs.Sets.{less-bits}
use Rattle.bitfield.proofs.without.Goals as goal

pub returns : goal.returns
returns c = less-bits _ _ _ (λ k h. search (rules, c.words_by.ensures.each k h))
