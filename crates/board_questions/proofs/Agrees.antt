-- THE AGREEMENT: of a table and its own index the quick board is the plain one (`quick-agrees`), and the plain one answers no 43 (`own-index`). Assumes nothing.
use mathlib.Core.Path.{◌≡◌, refl, ap, ◌∙◌}
use mathlib.Core.List.{List}
use mathlib.Core.Bool.{true, cond}
use Prim.Native.Nat.{ℕ, ◌+◌, ◌-◌, ◌*◌, ◌%◌}
use native.Mathlib.Omega.{arith}
use lib.ListN.{length, take, drop, length-append}
use lib.Seq.{take_at, drop_at, get_or-take}
use borrow.Author.Tests.{le-leb}
use Rattle.std.specs.Prelude.{Result, Ok, Err}
use Rattle.timetable.specs.declared.refusal.Refusal.TheVariants.{StopUnknown}
use Rattle.timetable.specs.Layout.{header_size}
use Rattle.timetable.specs.Questions.{date_of}
use Rattle.timetable.specs.Table.{used_words, stops#, services#, used, table_of, is_table}
use Rattle.timetable.specs.View.{View, view_of}
use Rattle.timetable.specs.declared.refusal.Refusal.{Refusal}
use Rattle.table.specs.JustTable.{JustTable}
use Rattle.table.proofs.Says.{table-parts, table-says}
use Rattle.table.proofs.JustTable.{used-just, used-same}
use Rattle.chain_check.specs.Tally.{same}
use Rattle.chain_check.proofs.Needs.{same_refl}
use Rattle.index.specs.Index.{index_size, index_of, headed, view_in}
use Rattle.index.specs.Quick.{index_long, lookups_of}
use Rattle.index.proofs.Agrees.{view-agrees}
use Rattle.index.proofs.Quick.{length-index}
use Rattle.calls.specs.Calls.{all_calls}
use Rattle.whole_index.specs.Whole.{marked_calls, whole_index_of}
use Rattle.whole_index.proofs.Whole.{marked-long}
use Rattle.board.specs.Board.{board_of}
use Rattle.board.specs.Question.{refused, board, board_on, board_in, board_asked}
use Rattle.boards.specs.ByWords.{board_by}
use Rattle.board_agrees.proofs.Own.{own-marked}
use Rattle.board_questions.specs.Quick.{board_by_day, board_by_words, calls_part, board_quick}

pub own-index : (w x : List ℕ) → x ≡ whole_index_of w → same x (whole_index_of w) ≡ true
own-index w x e = rw e (same_refl (whole_index_of w))

module _ (w x : List ℕ) (t : is_table w ≡ true) (e : x ≡ whole_index_of (used w)) where
  abbrev u : List ℕ
  u = used w

  just : JustTable (used w)
  just = used-just w t

  table-headed : headed w ≡ true
  table-headed = rw (le-leb header_size (length w) (omega (arith, (table-says w t).used_low, (table-says w t).used_high)), (table-parts w t).header)

  whole_length : length x ≡ index_size (used w) + stops# (used w) + 4 * all_calls (used w) + 1
  unfolding whole_index_of
  whole_length = ap length e ∙ length-append (index_of (used w)) (marked_calls (used w)) ∙ omega (arith, length-index (used w), marked-long (used w))

  whole_long : index_long (used w) (length x) ≡ true
  whole_long =
      let r : (length x - (index_size (used w) + stops# (used w))) % 4 ≡ 1 = omega (arith, whole_length) in
      rw (le-leb (index_size (used w) + stops# (used w)) (length x) (omega (arith, whole_length)), r)

  front : lookups_of (used w) x ≡ index_of (used w)
  unfolding whole_index_of
  front = ap (take (index_size (used w))) e ∙ take_at (index_of (used w)) (marked_calls (used w)) (index_size (used w)) (length-index (used w))

  back : calls_part (used w) x ≡ marked_calls (used w)
  unfolding whole_index_of
  back = ap (drop (index_size (used w))) e ∙ drop_at (index_of (used w)) (marked_calls (used w)) (index_size (used w)) (length-index (used w))

  views : view_in (used w) (lookups_of (used w) x) ≡ view_of (table_of w)
  views = view-agrees (used w) (lookups_of (used w) x) just front ∙ ap view_of (used-same w t)

  services : services# (used w) ≡ services# w
  services = get_or-take (used_words w) w 6 0 (omega (arith, (table-says w t).used_low))

  module _ (n t₁ u₁ : ℕ) where
    on_day : (d : Result ℕ Refusal) → board_by_day (used w) (lookups_of (used w) x) (calls_part (used w) x) n t₁ u₁ d ≡ board_on (view_of (table_of w)) (services# w) true n t₁ u₁ d
    on_day (Err refusal) = refl
    on_day (Ok k) =
        let b : board_by (used w) (lookups_of (used w) x) (calls_part (used w) x) n k t₁ u₁ ≡ board_of (view_of (table_of w)) (services# w) n k t₁ u₁
        = own-marked (used w) (lookups_of (used w) x) (calls_part (used w) x) just front back n k t₁ u₁ ∙ ap (λ (v : View). board_of v (services# (used w)) n k t₁ u₁) (ap view_of (used-same w t)) ∙ ap (λ (s : ℕ). board_of (view_of (table_of w)) s n k t₁ u₁) services in
        ap (λ (v : View). cond (v.stop n) (board (board_by (used w) (lookups_of (used w) x) (calls_part (used w) x) n k t₁ u₁)) (refused StopUnknown)) views
        ∙ ap (λ es. cond ((view_of (table_of w)).stop n) (board es) (refused StopUnknown)) b

    pub quick-agrees : (day month year : ℕ) → board_quick w x n day month year t₁ u₁ ≡ board_asked w (same x (whole_index_of (used w))) n day month year t₁ u₁
    unfolding board_quick board_by_words board_asked board_in
    quick-agrees day month year =
        rw (table-headed, whole_long, t, own-index (used w) x e)
        (ap (λ (v : View). board_by_day (used w) (lookups_of (used w) x) (calls_part (used w) x) n t₁ u₁ (date_of v day month year)) views ∙ on_day (date_of (view_of (table_of w)) day month year))
