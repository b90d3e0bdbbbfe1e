use Rattle.line_text.proofs.Writes.{blanks-filled}
use Rattle.line_text.proofs.put_blanks.Goals as goal

pub returns : goal.returns
returns c = blanks-filled c.args.t.now c.fill.new.self c.args.at c.args.w c.requires (c.fill.ensures.after (λ y e. e))
