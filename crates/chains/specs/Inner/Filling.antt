-- Chains while they are filled, for the contracts of inner functions: nobody has to believe this file. Assumes nothing.
use Rattle.std.specs.Prelude.{ℕ, ◌+◌, ◌*◌, ◌≤◌, ◌<◌, ◌≡◌, List, length, get_or}
use Rattle.chains.specs.Chains.{head_for, link_for}

-- the words with no record in the first n buckets
pub record Headless (m : List ℕ) (n : ℕ) : Type 0 where
  pub none : (b : ℕ) → b < n → get_or m (2 * b) 0 ≡ 0

-- the words with the records up to k chained
pub record Linked (w : List ℕ) (end size n k : ℕ) (m : List ℕ) : Type 0 where
  pub long : length m ≡ 2 * n
  pub upto : k ≤ n
  pub heads : (b : ℕ) → b < n → get_or m (2 * b) 0 ≡ head_for w end size n k b
  pub links : (i : ℕ) → i < k → get_or m (2 * i + 1) 0 ≡ link_for w end size n (i + 1)
