use Rattle.chains.specs.Chains.{bucket_of}
use Rattle.chains.proofs.Follow.{spreads}
use Rattle.chains.proofs.bucket.Goals as goal

pub overflow_mul-spread : goal.overflow_mul-spread
overflow_mul-spread c = search spreads

pub overflow_mul-result : goal.overflow_mul-result
overflow_mul-result c = search spreads

pub returns : goal.returns
unfolding bucket_of
returns c = search spreads
