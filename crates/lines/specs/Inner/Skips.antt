-- A line that is skipped, passed without being handed on. Nobody has to believe this file: it states the contract of `past_skipped`. Assumes nothing.
use Rattle.std.specs.Prelude.{ℕ, ◌-◌, List, cond, take, drop}
use Rattle.lines.specs.Lines.{cut_at, skipped}

-- the place after the line that starts at a place, where that line is skipped; else the place itself
unfoldable pub past_skipped : List ℕ → ℕ → ℕ
past_skipped f at = cond (skipped (take ((cut_at f at 1).stop - at) (drop at f))) (cut_at f at 1).next at
