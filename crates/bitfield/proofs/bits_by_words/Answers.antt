use borrow.Author.Rules.{rules}
use Rattle.bitfield.proofs.Hex.{words-done}
use Rattle.bitfield.proofs.bits_by_words.Goals as goal

pub returns : goal.returns
returns c = words-done c.args.line.now _ (search rules) (λ k h. search (rules, c.words_by.ensures.each k h))
