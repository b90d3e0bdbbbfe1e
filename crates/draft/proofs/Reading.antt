-- Drafts read back: the needs of the readers. Assumes nothing.
use mathlib.Core.Path.{◌≡◌, refl, sym}
use mathlib.Core.List.{List}
use Prim.Native.Nat.{ℕ, ◌+◌}
use native.Mathlib.Nat.{add-zero, add_assoc}
use lib.ListN.{get_or, drop}
use lib.Seq.{get_or-drop}
use Rattle.base.proofs.Laws.{tests}
use Rattle.timetable.specs.declared.End.{End}
use Rattle.timetable.specs.declared.RangeKind.{RangeKind}
use Rattle.timetable.specs.declared.RangeKind.TheVariants.{Category, Days}
use Rattle.fields.specs.declared.RangeEnd.TheVariants.{Outer, Index, Stop}
use Rattle.fields.specs.declared.Detail.TheVariants.{Plain, Nth, Timed}
use Rattle.draft.specs.Inner.Draft.{call_back, place_back, detail_back, part_back, end_back, line_back, range_back}

pub call_line : (w : List ℕ) (at : ℕ) → get_or w (at + 7) 0 ≡ (call_back (drop at w)).0
call_line w at = sym (get_or-drop at w 7 0)

pub range-line : (w : List ℕ) (at : ℕ) → get_or w at 0 ≡ (range_back (drop at w)).0
range-line w at = rw (get_or-drop at w 0 0, add-zero at) refl

-- the end four words on
end_on : (w : List ℕ) (at k : ℕ) → end_back 0 (drop (at + k) w) ≡ end_back k (drop at w)
end_on w at k =
    rw (
      get_or-drop (at + k) w 0 0,
      add-zero (at + k),
      get_or-drop (at + k) w 1 0,
      get_or-drop (at + k) w 2 0,
      get_or-drop (at + k) w 3 0,
      get_or-drop at w k 0,
      get_or-drop at w (k + 1) 0,
      get_or-drop at w (k + 2) 0,
      get_or-drop at w (k + 3) 0,
      add_assoc at k 1,
      add_assoc at k 2,
      add_assoc at k 3,
    ) refl

pub end_read : (w : List ℕ) (at : ℕ) (e : End)
    → e.place ≡ place_back (get_or w at 0) (get_or w (at + 1) 0) → e.detail ≡ detail_back (get_or w (at + 2) 0) (get_or w (at + 3) 0) → e ≡ end_back 0 (drop at w)
end_read w at e p d = rw (get_or-drop at w 0 0, add-zero at, get_or-drop at w 1 0, get_or-drop at w 2 0, get_or-drop at w 3 0, ← p, ← d) refl

pub range-read : (w : List ℕ) (at : ℕ) (p : RangeKind) (from to : End)
    → p ≡ part_back (get_or w (at + 1) 0) → from ≡ end_back 0 (drop (at + 4) w) → to ≡ end_back 0 (drop (at + 8) w)
    → record { part = p; name = get_or w (at + 2) 0; field = get_or w (at + 3) 0; ends = record { from = from; to = to } } ≡ line_back (drop at w)
range-read w at p from to a b c =
    rw (a, b, c, end_on w at 4, end_on w at 8, get_or-drop at w 1 0, get_or-drop at w 2 0, get_or-drop at w 3 0) refl

-- ---- the words that stand for an end, a detail and a part

module _ (k x : ℕ) where
  pub place-0 : k ≡ 0 → Outer ≡ place_back k x
  place-0 e = rw e refl

  pub place-1 : k ≡ 1 → Index (record { 0 = x }) ≡ place_back k x
  place-1 e = rw e refl

  pub place-2 : k ≡ 2 → Stop (record { 0 = x }) ≡ place_back k x
  place-2 e = rw e refl

  pub detail-0 : k ≡ 0 → Plain ≡ detail_back k x
  detail-0 e = rw e refl

  pub detail-1 : k ≡ 1 → Nth (record { 0 = x }) ≡ detail_back k x
  detail-1 e = rw e refl

  pub detail-2 : k ≡ 2 → Timed x ≡ detail_back k x
  detail-2 e = rw e refl

pub part-0 : (k : ℕ) → k ≡ 0 → Category ≡ part_back k
part-0 k e = rw e refl

pub part-1 : (k : ℕ) → k ≡ 1 → Days ≡ part_back k
part-1 k e = rw e refl

pub ruleset readers = (tests, call_line, range-line, end_read, range-read, place-0, place-1, place-2, detail-0, detail-1, detail-2, part-0, part-1)
