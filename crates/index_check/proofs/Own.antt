-- What the check's answer means: words are found right exactly if they are the table's own index, and those that `make_index` writes are. Assumes nothing.
use mathlib.Core.Path.{◌≡◌, refl, ap, ◌∙◌, sym}
use mathlib.Core.List.{List}
use mathlib.Core.Bool.{Bool, true, false, cond}
use Prim.Native.Nat.{ℕ, ◌≤◌}
use lib.ListN.{length, take, drop}
use lib.Seq.{take_at}
use borrow.Author.Tests.{le-ltb}
use Rattle.base.proofs.Laws.{apart}
use Rattle.timetable.specs.Load.{onto}
use Rattle.timetable.specs.Table.{used, is_table}
use Rattle.chain_check.specs.Tally.{same}
use Rattle.chain_check.proofs.Needs.{same_refl, same-is}
use Rattle.whole_index.specs.Whole.{whole_index_size, whole_index_of, index_into}
use Rattle.whole_index.proofs.Whole.{whole_long}
use Rattle.index_check.specs.Check.{checked_of}
use Rattle.index_check.specs.declared.IndexCheck.{IndexCheck}
use Rattle.index_check.specs.declared.IndexCheck.TheVariants.{Right, Refused}

module _ (w x : List ℕ) where
  pub right-own : checked_of w x ≡ Right → (is_table w ≡ true) × (x ≡ whole_index_of (used w))
  unfolding checked_of
  right-own e = go (is_table w) (same x (whole_index_of (used w))) refl refl e
    where
      go : (a b : Bool) → is_table w ≡ a → same x (whole_index_of (used w)) ≡ b → cond a (cond b Right (Refused 43)) (Refused 21) ≡ Right → (is_table w ≡ true) × (x ≡ whole_index_of (used w))
      go true true p q d = (p, same-is x (whole_index_of (used w)) q)
      go true false p q d = apart (cc)
      go false b p q d = apart (cc)

  pub own-right : is_table w ≡ true → x ≡ whole_index_of (used w) → checked_of w x ≡ Right
  unfolding checked_of
  own-right h q = rw (h, q, same_refl (whole_index_of (used w)))

-- the words that are made, as many as the making says
pub made-right : (w t : List ℕ) → is_table w ≡ true → whole_index_size (used w) ≤ length t → checked_of w (take (whole_index_size (used w)) (index_into w t)) ≡ Right
unfolding index_into onto
made-right w t h l =
    own-right w (take (whole_index_size (used w)) (index_into w t)) h (
    rw (h, le-ltb (length t) (whole_index_size (used w)) l) (take_at (whole_index_of (used w)) (drop (length (whole_index_of (used w))) t) (whole_index_size (used w)) (whole_long (used w)))
    )
