use borrow.Author.Rules.{rules}
use Rattle.bitfield.proofs.Fill.{twelve-copied}
use Rattle.bitfield.proofs.words_at.Goals as goal

pub returns : goal.returns
returns c = twelve-copied c.args.words.now _ c.args.at (search rules) (search rules) (λ k h. search (rules, c.words_by.ensures.each k h))
