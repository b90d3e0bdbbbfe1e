use Rattle.boards.proofs.Needs.{behinds}
use Rattle.boards.proofs.next_loud.Goals as goal

pub next_call-c-requires : goal.next_call-c-requires
next_call-c-requires c = search behinds

pub loop-c-init : goal.loop-c-init
loop-c-init c = search behinds

pub gives_none-requires : goal.gives_none-requires
gives_none-requires c = search behinds

pub returns-then-not-gives_none : goal.returns-then-not-gives_none
returns-then-not-gives_none c = search behinds

pub next_call-c-requires-in-loop-c : goal.next_call-c-requires-in-loop-c
next_call-c-requires-in-loop-c c = search behinds

pub loop-c-smaller : goal.loop-c-smaller
loop-c-smaller c = search behinds

pub loop-c-preserved : goal.loop-c-preserved
loop-c-preserved c = search behinds

pub returns : goal.returns
returns c = search behinds
