-- The length of an index and the words that the look-ups go by, for `search longs`; what makes words and an index ready (`quick-ready`, `plain_ready`); and THE
-- AGREEMENT of every question at once (`quickly-agrees`, `asked-plain`). Assumes nothing.
use mathlib.Core.Path.{◌≡◌, refl, ap, ◌∙◌, sym}
use mathlib.Core.List.{List, [], ◌++◌}
use mathlib.Core.Bool.{Bool, true, false, cond, not}
use Prim.Native.Nat.{ℕ, zero, suc, ◌+◌, ◌-◌, ◌*◌, ◌%◌, ◌^◌, ◌≤◌, ◌<◌}
use native.Mathlib.Nat.{sub-zero}
use native.Mathlib.Omega.{arith}
use lib.ListN.{length, get_or, take, length-append}
use lib.Seq.{get_or-take, length-take-le, take_at}
use lib.Dec.{leb, eqb}
use Rattle.std.specs.Prelude.{Result, Ok, Err, ⊤}
use borrow.Author.Tests.{le-leb, lt-leb, leb-true, not-true, not-false}
use Rattle.base.proofs.Laws.{tests, apart}
use Rattle.base.proofs.Loops.{and-true}
use Rattle.timetable.specs.Layout.{header_size}
use Rattle.timetable.specs.Table.{used_words, first_day, period_days, bit_fields#, stops#, interchanges#, services#, services_place, classes#, used, table_of, is_table}
use Rattle.timetable.specs.View.{View, view_of}
use Rattle.timetable.specs.Questions.{asked}
use Rattle.timetable.specs.declared.refusal.Refusal.{Refusal}
use Rattle.timetable.specs.declared.refusal.Refusal.TheVariants.{NoTable, NotItsIndex}
use Rattle.table.specs.JustTable.{JustTable, header_sound}
use Rattle.table.proofs.Says.{header-says, header-word, table-parts, table-says}
use Rattle.table.proofs.JustTable.{head-alone, used-just, used-same, just-header}
use Rattle.index.specs.Index.{services_from, index_size, field_section, stop_section, interchange_section, class_section, places_from, places_of, chains_of, index_of, headed, view_in}
use Rattle.index.specs.Inner.Ready.{Ready}
use Rattle.index.specs.Quick.{index_long, lookups_of, quickly, quick_refusal}
use Rattle.index.proofs.Sections.{sections-fit}
use Rattle.index.proofs.Agrees.{length-of, view-agrees, view-plain}

-- ---- the length; a, b and c are where the places of the services begin, how many services, how many stops

module _ (w : List ℕ) (e : header_sound w ≡ true) (a b c : ℕ) (p : a ≡ services_from w) where
  pub sum_fits : b < 4294967296 → length w * 4 < 2 ^ 63 → a + b < 2 ^ 64
  sum_fits h l = omega (arith, p, sections-fit w e)

  pub least_fits : b < 4294967296 → c < 4294967296 → length w * 4 < 2 ^ 63 → a + b + c < 2 ^ 64
  least_fits h g l = omega (arith, p, sections-fit w e)

module _ (w : List ℕ) (a b c n : ℕ) (p : a ≡ services_from w) (q : b ≡ services# w) (r : c ≡ stops# w) where
  least-is : a + b + c ≡ index_size w + stops# w
  least-is = rw (p, q, r)

  pub too_short : n < a + b + c → false ≡ index_long w n
  too_short h = rw (lt-leb (index_size w + stops# w) n (omega (arith, least-is)))

  pub long-enough : a + b + c ≤ n → (m : ℕ) → m ≡ (n - (a + b + c)) % 4 → eqb m 1 ≡ index_long w n
  long-enough h m i = rw (le-leb (index_size w + stops# w) n (omega (arith, least-is)), i, least-is)

module _ (w x : List ℕ) (e : index_long w (length x) ≡ true) where
  pub part-within : index_size w ≤ length x
  part-within = omega (arith, leb-true (index_size w + stops# w) (length x) (and-true (leb (index_size w + stops# w) (length x)) _ e).0)

  pub part-ends : (y : ℕ) → y ≡ index_size w → y ≤ length x
  part-ends y q = omega (arith, part-within, q)

pub part-is : (w x : List ℕ) (y : ℕ) → y ≡ index_size w → take (y - 0) x ≡ lookups_of w x
part-is w x y q = rw (sub-zero y, q)

pub ruleset longs = (tests, header-word, sum_fits, least_fits, too_short, long-enough, part-ends, part-is)

-- ---- the words used have a sound header, and are as long as it says

module _ (w : List ℕ) (e : headed w ≡ true) where
  sound : header_sound w ≡ true
  sound = (and-true (leb header_size (length w)) (header_sound w) e).1

  word_same : (k : ℕ) → k < header_size → get_or (used w) k 0 ≡ get_or w k 0
  word_same k h = get_or-take (used_words w) w k 0 (omega (arith, (header-says w sound).used_low))

  used-long : length (used w) ≡ used_words w
  used-long = length-take-le (used_words w) w (header-says w sound).used_high

  used_sound : header_sound (used w) ≡ true
  used_sound = rw (used-long, word_same 0 (omega arith), word_same 1 (omega arith), word_same 2 (omega arith), word_same 3 (omega arith), word_same 4 (omega arith), word_same 5 (omega arith), word_same 7 (omega arith), word_same 8 (omega arith)) (head-alone (length w) (used_words w) (first_day w) (period_days w) (bit_fields# w) (stops# w) (interchanges# w) (services_place w) (classes# w) sound)

  module _ (u : List ℕ) (p : u ≡ used w) where
    pub headed-head : header_sound u ≡ true
    headed-head = rw p used_sound

    pub headed-ready : (x y : List ℕ) → index_long u (length x) ≡ true → y ≡ lookups_of u x → Ready u y
    headed-ready x y l q = record {
      head = headed-head;
      ends = rw p (word_same 0 (omega arith) ∙ sym used-long);
      sized = λ o. ap length q ∙ length-take-le (index_size u) x (part-within u x l);
    }

-- ---- a quick question: m is what it refuses before it asks, u are the words used

module _ (w : List ℕ) (n : ℕ) where
  module _ (t : Bool) (e : t ≡ headed w) where
    pub refusal-head : not t ≡ true → Err NoTable ≡ quick_refusal w n
    refusal-head o = rw (sym e ∙ not-true t o)

    module _ (o : not t ≡ false) where
      pub refusal-headed : headed w ≡ true
      refusal-headed = sym e ∙ not-false t o

      module _ (u : List ℕ) (p : u ≡ used w) where
        pub refusal-sound : header_sound u ≡ true
        refusal-sound = headed-head w refusal-headed u p

        module _ (l : Bool) (f : l ≡ index_long u n) where
          pub refusal-short : not l ≡ true → Err NotItsIndex ≡ quick_refusal w n
          refusal-short k = rw (refusal-headed, sym p, sym f ∙ not-true l k)

          pub refusal-none : not l ≡ false → Ok tt ≡ quick_refusal w n
          refusal-none k = rw (refusal-headed, sym p, sym f ∙ not-false l k)

pub ruleset refusals = (tests, refusal-head, refusal-headed, refusal-sound, refusal-short, refusal-none)

module _ (w x : List ℕ) (m : Result ⊤ Refusal) (e : m ≡ quick_refusal w (length x)) where
  abbrev refused_by : Bool → Bool → Result ⊤ Refusal
  refused_by a b = cond a (cond b (Ok tt) (Err NotItsIndex)) (Err NoTable)

  both : (a b : Bool) (v : ⊤) → refused_by a b ≡ Ok v → (a ≡ true) × (b ≡ true)
  both false b v z = apart (cc)
  both true false v z = apart (cc)
  both true true v z = (refl, refl)

  quickly-by : {X : Type 0} (refusal : Refusal → X) (question : View → X) (a b : Bool) (r : Refusal) → refused_by a b ≡ Err r → refusal r ≡ cond a (cond b (question (view_in (used w) (lookups_of (used w) x))) (refusal NotItsIndex)) (refusal NoTable)
  quickly-by refusal question false b r o = let y : r ≡ NoTable = cc in ap refusal y
  quickly-by refusal question true false r o = let y : r ≡ NotItsIndex = cc in ap refusal y
  quickly-by refusal question true true r o = apart (cc)

  pub quickly-refused : {X : Type 0} (refusal : Refusal → X) (question : View → X) (r : Refusal) → m ≡ Err r → refusal r ≡ quickly refusal question w x
  quickly-refused refusal question r o = quickly-by refusal question (headed w) (index_long (used w) (length x)) r (sym e ∙ o)

  module _ (v : ⊤) (z : m ≡ Ok v) where
    pub quick-headed : headed w ≡ true
    quick-headed = (both (headed w) (index_long (used w) (length x)) v (sym e ∙ z)).0

    module _ (u : List ℕ) (p : u ≡ used w) where
      pub quick-head : header_sound u ≡ true
      quick-head = headed-head w quick-headed u p

      pub quick-long : index_long u (length x) ≡ true
      quick-long = rw p (both (headed w) (index_long (used w) (length x)) v (sym e ∙ z)).1

      module _ (y : List ℕ) (q : y ≡ lookups_of u x) where
        pub quick-ready : Ready u y
        quick-ready = headed-ready w quick-headed u p x y quick-long q

        pub quickly-on : {X : Type 0} (refusal : Refusal → X) (question : View → X) → question (view_in u y) ≡ quickly refusal question w x
        quickly-on refusal question = rw (quick-headed, rw p at quick-long, q, p)

-- for the `search` of a quick question
pub ruleset quick-words = (quick-headed, quick-head, quick-long, quick-ready)

-- ---- the plain question: with no index

module _ (w : List ℕ) (t : Bool) (e : t ≡ is_table w) where
  pub asked-refused : {X : Type 0} (refusal : Refusal → X) (question : View → X) → not t ≡ true → refusal NoTable ≡ asked refusal question w
  asked-refused refusal question o = rw (sym e ∙ not-true t o)

  module _ (o : not t ≡ false) where
    pub plain-table : is_table w ≡ true
    plain-table = sym e ∙ not-false t o

    module _ (u : List ℕ) (p : u ≡ used w) (x : List ℕ) (z : length x ≡ 0) where
      plain-just : JustTable u
      plain-just = rw p (used-just w plain-table)

      pub plain_ready : Ready u x
      plain_ready = record { head = just-header u plain-just; ends = plain-just.ends; sized = λ k. absurd (k z) }

      pub asked-on : {X : Type 0} (refusal : Refusal → X) (question : View → X) → question (view_in u x) ≡ asked refusal question w
      asked-on refusal question = rw plain-table (ap question (view-plain u x plain-just z ∙ ap view_of (ap table_of p ∙ used-same w plain-table)))

-- for the `search` of a plain question
pub ruleset plain-words = (plain-table, plain_ready)

-- ---- THE AGREEMENT, of every question at once: of a table and words that begin with its index and go on by the calls' words a quick question answers as the
-- plain one does

length-places : (w : List ℕ) (n p : ℕ) → length (places_from w p n) ≡ n
unfolding places_from
length-places w zero p = refl
length-places w (suc n) p = ap suc (length-places w n (p + get_or w p 0))

pub length-index : (w : List ℕ) → length (index_of w) ≡ index_size w
unfolding index_of
length-index w =
    length-append (chains_of w (field_section w)) (chains_of w (stop_section w) ++ (chains_of w (interchange_section w) ++ (chains_of w (class_section w) ++ places_of w)))
    ∙ rw (length-append (chains_of w (stop_section w)) (chains_of w (interchange_section w) ++ (chains_of w (class_section w) ++ places_of w)), length-append (chains_of w (interchange_section w)) (chains_of w (class_section w) ++ places_of w), length-append (chains_of w (class_section w)) (places_of w), length-of w (field_section w), length-of w (stop_section w), length-of w (interchange_section w), length-of w (class_section w), length-places w (services# w) (services_place w)) (omega arith)

module _ (w x c : List ℕ) (m : ℕ) (t : is_table w ≡ true) (e : x ≡ index_of (used w) ++ c) (l : length c ≡ stops# (used w) + 4 * m + 1) where
  table-headed : headed w ≡ true
  table-headed = rw (le-leb header_size (length w) (omega (arith, (table-says w t).used_low, (table-says w t).used_high)), (table-parts w t).header)

  index-length : length x ≡ index_size (used w) + stops# (used w) + 4 * m + 1
  index-length = ap length e ∙ length-append (index_of (used w)) c ∙ omega (arith, length-index (used w), l)

  index-long : index_long (used w) (length x) ≡ true
  index-long =
      let r : (length x - (index_size (used w) + stops# (used w))) % 4 ≡ 1 = omega (arith, index-length) in
      rw (le-leb (index_size (used w) + stops# (used w)) (length x) (omega (arith, index-length)), r)

  front : lookups_of (used w) x ≡ index_of (used w)
  front = ap (take (index_size (used w))) e ∙ take_at (index_of (used w)) c (index_size (used w)) (length-index (used w))

  pub quickly-agrees : {X : Type 0} (refusal : Refusal → X) (question : View → X) → quickly refusal question w x ≡ asked refusal question w
  quickly-agrees refusal question =
      rw (table-headed, index-long, t)
      (ap question (view-agrees (used w) (lookups_of (used w) x) (used-just w t) front ∙ ap view_of (used-same w t)))
