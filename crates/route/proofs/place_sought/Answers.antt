use Rattle.route.proofs.place_sought.Goals as goal

pub returns : goal.returns
returns c = rw c.if-last.false c.first_place.ensures
