use borrow.Author.Rules.{rules}
use Rattle.bitfield.proofs.Hex.{words-done}
use Rattle.bitfield.proofs.Pack.{packing}
use Rattle.bitfield.proofs.hex_words.Goals as goal

pub words_by-requires : goal.words_by-requires
words_by-requires c = search packing

pub returns : goal.returns
returns c = words-done c.args.line.now _ (search rules) (λ k h. search (rules, c.words_by.ensures.each k h))
