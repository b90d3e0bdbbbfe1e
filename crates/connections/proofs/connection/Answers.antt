use Rattle.connections.proofs.Asked.{plain}
use Rattle.connections.proofs.connection.Goals as goal

pub is_table-requires : goal.is_table-requires
is_table-requires c = search plain

pub returns-then-not-is_table : goal.returns-then-not-is_table
returns-then-not-is_table c = search plain

pub used_words-requires : goal.used_words-requires
used_words-requires c = search plain

pub slice_bounds-connection_by-count : goal.slice_bounds-connection_by-count
slice_bounds-connection_by-count c = search plain

pub slice_bounds-connection_by-start : goal.slice_bounds-connection_by-start
slice_bounds-connection_by-start c = search plain

pub slice_bounds-connection_by-end : goal.slice_bounds-connection_by-end
slice_bounds-connection_by-end c = search plain

pub connection_by-requires : goal.connection_by-requires
connection_by-requires c = search plain

pub returns : goal.returns
returns c = search plain
