use Rattle.index.proofs.Shows.{field-days-of}
use Rattle.index.proofs.field_day.Goals as goal

pub returns-then-number-eq0-clause-known : goal.returns-then-number-eq0-clause-known
returns-then-number-eq0-clause-known c = search field-days-of

pub returns-then-number-eq0-clause-day : goal.returns-then-number-eq0-clause-day
returns-then-number-eq0-clause-day c = search field-days-of

pub find-requires-clause-fits : goal.find-requires-clause-fits
find-requires-clause-fits c = search field-days-of

pub returns-in_default-clause-known : goal.returns-in_default-clause-known
returns-in_default-clause-known c = search field-days-of

pub returns-in_default-clause-day : goal.returns-in_default-clause-day
returns-in_default-clause-day c = search field-days-of

pub overflow_add-p : goal.overflow_add-p
overflow_add-p c = search field-days-of

pub bit_at-runs-requires : goal.bit_at-runs-requires
bit_at-runs-requires c = search field-days-of

pub returns-clause-known : goal.returns-clause-known
returns-clause-known c = search field-days-of

pub returns-clause-day : goal.returns-clause-day
returns-clause-day c = search field-days-of
