-- A count of bytes at the front of a buffer. Nobody has to believe this file: it states the contracts of the program's own functions. Assumes nothing.
use Rattle.std.specs.Prelude.{◌≡◌, ℕ, ◌≤◌, List, length, take}

-- the first n of xs are in bounds, and are n; the second part follows from the first, and spares a caller's slice a proof
abbrev pub IsPrefixLen : ℕ → List ℕ → Type 0
IsPrefixLen n xs = (n ≤ length xs) × (n ≡ length (take n xs))
