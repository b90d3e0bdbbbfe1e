use Rattle.classes.proofs.Once.{rising}
use Rattle.classes.proofs.first_repeat.Goals as goal

pub rises-requires : goal.rises-requires
rises-requires c = search rising

pub returns-then-rises : goal.returns-then-rises
returns-then-rises c = search rising

pub repeat_by_bytes-requires : goal.repeat_by_bytes-requires
repeat_by_bytes-requires c = search rising

pub returns : goal.returns
returns c = search rising
