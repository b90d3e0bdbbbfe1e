use Rattle.service_lines.proofs.Services.{service}
use Rattle.service_lines.proofs.service_writable.Goals as goal

pub opening_at-requires : goal.opening_at-requires
opening_at-requires c = search service

pub opening_writable-requires : goal.opening_writable-requires
opening_writable-requires c = search service

pub returns-then-not-opening_writable : goal.returns-then-not-opening_writable
returns-then-not-opening_writable c = search service

pub ranges_writable-requires : goal.ranges_writable-requires
ranges_writable-requires c = search service

pub returns-then-not-ranges_writable : goal.returns-then-not-ranges_writable
returns-then-not-ranges_writable c = search service

pub ranges_writable-requires-2 : goal.ranges_writable-requires-2
ranges_writable-requires-2 c = search service

pub returns-then-not-ranges_writable-2 : goal.returns-then-not-ranges_writable-2
returns-then-not-ranges_writable-2 c = search service

pub ranges_writable-requires-3 : goal.ranges_writable-requires-3
ranges_writable-requires-3 c = search service

pub returns-then-not-ranges_writable-3 : goal.returns-then-not-ranges_writable-3
returns-then-not-ranges_writable-3 c = search service

pub calls_writable-requires : goal.calls_writable-requires
calls_writable-requires c = search service

pub returns : goal.returns
returns c = search service
