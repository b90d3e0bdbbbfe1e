use Rattle.base.proofs.Laws.{tests}
use Rattle.load.proofs.too_long.Goals as goal

pub returns-then-eckdaten-gt-MOST_FILE_BYTES : goal.returns-then-eckdaten-gt-MOST_FILE_BYTES
returns-then-eckdaten-gt-MOST_FILE_BYTES c = search tests

pub returns-then-bitfeld-gt-MOST_FILE_BYTES : goal.returns-then-bitfeld-gt-MOST_FILE_BYTES
returns-then-bitfeld-gt-MOST_FILE_BYTES c = search tests

pub returns-then-bahnhof-gt-MOST_FILE_BYTES : goal.returns-then-bahnhof-gt-MOST_FILE_BYTES
returns-then-bahnhof-gt-MOST_FILE_BYTES c = search tests

pub returns-then-umsteigb-gt-MOST_FILE_BYTES : goal.returns-then-umsteigb-gt-MOST_FILE_BYTES
returns-then-umsteigb-gt-MOST_FILE_BYTES c = search tests

pub returns-then-zugart-gt-MOST_FILE_BYTES : goal.returns-then-zugart-gt-MOST_FILE_BYTES
returns-then-zugart-gt-MOST_FILE_BYTES c = search tests

pub returns-then-fplan-gt-MOST_FILE_BYTES : goal.returns-then-fplan-gt-MOST_FILE_BYTES
returns-then-fplan-gt-MOST_FILE_BYTES c = search tests

pub returns : goal.returns
returns c = search tests
