-- ZUGART's index: the needs of a code's slots (`search slotting`), of a look-up (`search looking`), of the linear search behind it (`search seeking`), of a line
-- put in (`search putting`) and of the walk that puts all (`search filling`). Assumes nothing.
use mathlib.Core.Path.{◌≡◌, refl, ap, sym, subst, ◌∙◌}
use mathlib.Core.List.{List, [], ◌∷◌, ◌++◌, append-nil}
use mathlib.Core.Logic.{◌⊎◌, inl, inr, ⊎_elim}
use mathlib.Core.Bool.{Bool, true, false, cond, not, ◌&&◌, ◌||◌}
use Prim.Native.Nat.{ℕ, ◌+◌, ◌-◌, ◌*◌, ◌/◌, ◌^◌, ◌≤◌, ◌<◌}
use native.Mathlib.Nat.{eq-or-lt_of_le}
use native.Mathlib.Omega.{arith}
use lib.ListN.{length, get_or, take, drop, set, replicate, length-take, length-drop, length-set, length-replicate, get_or-replicate, drop_of_length-le, get_or-eq_default}
use lib.Seq.{take_all, get_or-take, get_or-drop, get_or-set_same, get_or-set_other}
use lib.Dec.{eqb}
use borrow.Author.Tests.{eq-eqb, eqb-true, not-true, not-false, lt-ltb, le-ltb}
use Rattle.base.specs.Lists.{every, some_of}
use Rattle.base.proofs.Laws.{tests, apart, clash, or-false, by-ltb, by_eqb}
use Rattle.base.proofs.Lists.{gathered-append}
use Rattle.columns.specs.Columns.{pad_to, columns, count, number}
use Rattle.lines.specs.Lines.{Line, pieces, no_cr, numbered, lines_from, lines_of, skipped, cut_at}
use Rattle.lines.specs.declared.Cut.{Cut}
use Rattle.lines.proofs.Laws.{cutting, lines_none, walk}
use Rattle.forms.specs.Form.{form_of, Form, Fits, Broken as BrokenForm}
use Rattle.forms.specs.Columns.{class_columns}
use Rattle.forms.proofs.Laws.{row-holds}
use Rattle.chains.specs.Chains.{bucket_of}
use Rattle.timetable.specs.Layout.{most_file_bytes, helper_head}
use Rattle.timetable.specs.Delivery.{CategoryClass}
use Rattle.timetable.specs.Files.{skip, listed, held_in, held_by, class_of, has_class}
use Rattle.timetable.specs.Plan.{three_bytes}
use Rattle.sections.specs.Inner.Sections.{is_sound, numbered_by, number_on, sound_section}
use Rattle.sections.specs.declared.Section.TheVariants.{Classes}
use Rattle.sections.specs.declared.Numbered.TheVariants.{Skipped}
use Rattle.sections.proofs.Held.{held-gathered}
use Rattle.sections.proofs.Walk.{number_small, Walked, walked_lines}
use Rattle.classes.specs.Inner.Passes.{before, sound}
use Rattle.classes.specs.Inner.Index.{holds_code, first_slot, end_slot, Entry, Slot, Entered, FilledTo, IndexOf, SlotSays, FreeSlot, EnteredOn, PutOn, IndexRoom}
use Rattle.classes.proofs.Lines.{some-append, sound-split, sound-first, before-first, before-next, here-split, here-sound}

-- ---- a code's slots

pub slot-first : (words code b : ℕ) → b ≡ bucket_of (words - words / 8 - 1) code → 1 + b ≡ first_slot words code
unfolding first_slot
slot-first words code b e = rw e

first_on : (words code : ℕ) → 0 < first_slot words code
unfolding first_slot
first_on words code = omega arith

module _ (words code x : ℕ) (e : x ≡ first_slot words code) where
  pub end-near : x + 512 < words → x + 512 ≡ end_slot words code
  unfolding end_slot
  end-near h = rw (← e, lt-ltb (x + 512) words h) refl

  pub end-all : words ≤ x + 512 → words ≡ end_slot words code
  unfolding end_slot
  end-all h = rw (← e, le-ltb (x + 512) words h) refl

end-le : (words code : ℕ) → end_slot words code ≤ words
unfolding end_slot
end-le words code = by-ltb (λ t. cond t (first_slot words code + 512) words ≤ words) (first_slot words code + 512) words (λ h. omega arith) (λ h. omega arith)

pub ruleset slotting = (tests, slot-first, end-near, end-all)

-- ---- the first of them that is free, for `search trying`

pub record Trying (code : ℕ) (m : List ℕ) (i : ℕ) : Type 0 where
  pub low : first_slot (length m) code ≤ i
  pub taken : (j : ℕ) → first_slot (length m) code ≤ j → j < i → get_or m j 0 ≡ 0 → ⊥

pub room-words : (m : List ℕ) → IndexRoom m → (helper_head ≤ length m) × (length m < 4294967296)
room-words m k = (k.enough, k.small)

pub end-inside : (m : List ℕ) (code end i : ℕ) → end ≡ end_slot (length m) code → i < end → i < length m
end-inside m code end i e h = omega (arith, e, end-le (length m) code)

pub end-bytes : (m : List ℕ) (code end i : ℕ) → end ≡ end_slot (length m) code → i < end → length m * 4 < 2 ^ 63 → i * 4 < 2 ^ 64
end-bytes m code end i e h l = omega (arith, e, end-le (length m) code)

pub trying-first : (m : List ℕ) (code i : ℕ) → i ≡ first_slot (length m) code → Trying code m i
trying-first m code i e = record { low = omega (arith, e); taken = λ j l h. absurd (omega (arith, e)) }

module _ (m : List ℕ) (code i : ℕ) (t : Trying code m i) where
  pub trying-again : (get_or m i 0 ≡ 0 → ⊥) → Trying code m (i + 1)
  trying-again z = record {
    low = omega (arith, t.low);
    taken = λ j l h. ⊎_elim (λ k q. z (rw k at q)) (λ k. t.taken j l k) (eq-or-lt_of_le (upper j h));
  }
    where
      upper : (j : ℕ) → j < i + 1 → j ≤ i
      upper j h = omega arith

  pub trying-out : get_or m i 0 ≡ 0 → FreeSlot code m i
  trying-out z = record { low = t.low; taken = t.taken; free = λ _. z }

  pub trying-done : (end : ℕ) → end ≡ end_slot (length m) code → end ≤ i → FreeSlot code m i
  trying-done end e h = record { low = t.low; taken = t.taken; free = λ k. absurd (omega (arith, e)) }

pub ruleset trying = (tests, room-words, end-inside, end-bytes, trying-first, trying-again, trying-out, trying-done)

-- ---- a line put in, for `search putting`: i is the slot, x whether it was put

module _ (m : List ℕ) (code at i end : ℕ) (k : FreeSlot code m i) (e : end ≡ end_slot (length m) code) where
  pub put-yes : i < end → EnteredOn code at true m (set m i (at + 1))
  put-yes h = record { slot = i; free = k; yes = λ _. (omega (arith, e), refl); no = λ z. clash (sym z) }

  pub put-not : end ≤ i → EnteredOn code at false m m
  put-not h = record { slot = i; free = k; yes = λ z. clash z; no = λ _. refl }

module _ (text m : List ℕ) (at : ℕ) (t : Bool) (e : t ≡ skipped text) where
  pub put-skip : t ≡ true → PutOn text at true m m
  put-skip y = record { skip = λ _. (refl, refl); put = λ z. clash (sym z ∙ sym e ∙ y) }

  pub put-held : (c : ℕ) (x : Bool) (m' : List ℕ) → t ≡ false → c ≡ three_bytes 1 text → EnteredOn c at x m m' → PutOn text at x m m'
  put-held c x m' y d k = record { skip = λ z. clash (sym y ∙ e ∙ z); put = λ _. subst (λ (j : ℕ). EnteredOn j at x m m') d k }

pub place-fits : (at : ℕ) → at ≤ most_file_bytes → at + 1 < 4294967296
place-fits at h = omega arith

pub ruleset putting = (tests, room-words, end-inside, end-bytes, place-fits, put-yes, put-not, put-skip, put-held)

-- ---- categories of lines one after the other

held-append : (a b : List Line) → held_in class_of (a ++ b) ≡ held_in class_of a ++ held_in class_of b
held-append a b = held-gathered class_of (a ++ b) ∙ gathered-append _ a b ∙ rw (← held-gathered class_of a, ← held-gathered class_of b) refl

has_both : (code : ℕ) (a b : List Line) → has_class code (held_in class_of (a ++ b)) ≡ (has_class code (held_in class_of a) || has_class code (held_in class_of b))
has_both code a b = rw (held-append, some-append) refl

code-held : (l : Line) (code : ℕ) → is_sound (number_on Classes l.text) ≡ true → has_class code (listed (class_of l)) ≡ holds_code code l.text
unfolding number_on some_of
code-held l code z = go (skipped l.text) (form_of class_columns l.text) (record { code = three_bytes 1 l.text; class = number (columns 5 6 l.text) }) (eqb (three_bytes 1 l.text) code) refl z
  where
    go : (t : Bool) (g : Form) (x : CategoryClass) (u : Bool) → eqb x.code code ≡ u → is_sound (cond t Skipped (numbered_by g (three_bytes 1 l.text))) ≡ true
        → has_class code (listed (cond t skip (held_by g x))) ≡ (u && not t)
    go true g x true e z = refl
    go true g x false e z = refl
    go false Fits x true e z = rw e refl
    go false Fits x false e z = rw e refl
    go false (BrokenForm c) x u e z = apart cc

has_one : (l : Line) (code : ℕ) → is_sound (number_on Classes l.text) ≡ true → has_class code (held_in class_of (l ∷ [])) ≡ holds_code code l.text
unfolding held_in
has_one l code z = ap (has_class code) (append-nil (listed (class_of l))) ∙ code-held l code z

-- ---- the linear search, for `search seeking`: r is the line cut at `at`, t whether it holds the code

held_any : (n m at : ℕ) (s : List ℕ) → held_in class_of (lines_from n at s) ≡ held_in class_of (lines_from m at s)
unfolding held_in lines_from numbered
held_any n m at s = go n m at (pieces s)
  where
    go : (n m at : ℕ) (ps : List (List ℕ)) → held_in class_of (numbered n at ps) ≡ held_in class_of (numbered m at ps)
    go n m at [] = refl
    go n m at (p ∷ ps) = ap (λ (cs : List CategoryClass). listed (class_of (record { no = n; start = at; text = no_cr p })) ++ cs) (go (n + 1) (m + 1) (at + length p + 1) ps)

sound-any : (n m at : ℕ) (s : List ℕ) → sound (lines_from n at s) ≡ sound (lines_from m at s)
unfolding sound sound_section every lines_from numbered
sound-any n m at s = go n m at (pieces s)
  where
    go : (n m at : ℕ) (ps : List (List ℕ)) → every (λ (l : Line). is_sound (number_on Classes l.text)) (numbered n at ps) ≡ every (λ (l : Line). is_sound (number_on Classes l.text)) (numbered m at ps)
    go n m at [] = refl
    go n m at (p ∷ ps) = ap (λ (u : Bool). is_sound (number_on Classes (no_cr p)) && u) (go (n + 1) (m + 1) (at + length p + 1) ps)

module _ (f : List ℕ) (at n : ℕ) (r : Cut) (h : at < length f) (e : r ≡ cut_at f at n) (v : sound (lines_from n at (drop at f)) ≡ true) where
  abbrev line : Line
  line = record { no = n; start = at; text = take (r.stop - at) (drop at f) }

  abbrev more : List Line
  more = lines_from r.no r.next (drop r.next f)

  both : (is_sound (number_on Classes line.text) ≡ true) × (sound more ≡ true)
  both = sound-first line more (rw (cutting f at n r h e).step at v)

  pub sound-next : sound (lines_from r.no r.next (drop r.next f)) ≡ true
  sound-next = both.1

  module _ (code : ℕ) (q t : Bool) (u : has_class code (held_in class_of (lines_from n at (drop at f))) ≡ q) (d : t ≡ holds_code code (take (r.stop - at) (drop at f))) where
    code_step : (t || has_class code (held_in class_of more)) ≡ q
    code_step = rw (d, ← (has_one line code both.0)) (sym (has_both code (line ∷ []) more) ∙ sym (ap (λ (ls : List Line). has_class code (held_in class_of ls)) (cutting f at n r h e).step) ∙ u)

    pub code-found : t ≡ true → true ≡ q
    code-found y = rw y at code_step

    pub code-again : t ≡ false → has_class code (held_in class_of (lines_from r.no r.next (drop r.next f))) ≡ q
    code-again y = rw y at code_step

pub code-none : (f : List ℕ) (at n code : ℕ) (q : Bool) → length f ≤ at → has_class code (held_in class_of (lines_from n at (drop at f))) ≡ q → false ≡ q
unfolding held_in some_of
code-none f at n code q h u = rw (lines_none f at n h) at u

pub ruleset seeking = (tests, walk, number_small, sound-next, code-found, code-again, code-none)

-- ---- a look-up, for `search looking`: the slots before i are taken, and none of them has the code

pub record Missed (code : ℕ) (f m : List ℕ) (i : ℕ) : Type 0 where
  pub low : first_slot (length m) code ≤ i
  pub missed : (j : ℕ) → first_slot (length m) code ≤ j → j < i → three_bytes 1 (drop (get_or m j 0 - 1) f) ≡ code → ⊥

module _ (f m : List ℕ) (k : IndexOf f m) where
  pub index-words : (helper_head ≤ length m) × (length m < 4294967296)
  index-words = (k.filled.entered.enough, k.filled.entered.small)

  pub index-head : 0 < length m
  index-head = omega (arith, k.filled.entered.enough)

  pub index_short : length f ≤ most_file_bytes
  index_short = k.short

  module _ (code i : ℕ) where
    pub missed_first : i ≡ first_slot (length m) code → Missed code f m i
    missed_first e = record { low = omega (arith, e); missed = λ j l h. absurd (omega (arith, e)) }

    module _ (q : Missed code f m i) where
      module _ (z : get_or m i 0 ≡ 0 → ⊥) where
        pub entry-on : 0 < get_or m i 0
        entry-on = ⊎_elim (λ y. absurd (z (sym y))) (λ y. y) (eq-or-lt_of_le zero-low)
          where
            zero-low : 0 ≤ get_or m i 0
            zero-low = omega arith

        pub entry_in : get_or m i 0 ≤ length f
        entry_in = omega (arith, (k.filled.entered.entries i (omega (arith, q.low, first_on (length m) code)) z).room)

      pub missed-again : (w c : ℕ) → w ≡ get_or m i 0 → c ≡ three_bytes 1 (drop (w - 1) f) → (c ≡ code → ⊥) → Missed code f m (i + 1)
      missed-again w c e d z = record {
        low = omega (arith, q.low);
        missed = λ j l h. ⊎_elim (λ y v. z (d ∙ ap (λ (a : ℕ). three_bytes 1 (drop (a - 1) f)) e ∙ rw y at v)) (λ y. q.missed j l y) (eq-or-lt_of_le (upper j h));
      }
        where
          upper : (j : ℕ) → j < i + 1 → j ≤ i
          upper j h = omega arith

      pub look-found : (w c : ℕ) → w ≡ get_or m i 0 → (w ≡ 0 → ⊥) → c ≡ three_bytes 1 (drop (w - 1) f) → c ≡ code → SlotSays code f m true
      look-found w c e z d y =
          let x = k.filled.entered.entries i (omega (arith, q.low, first_on (length m) code)) (λ v. z (e ∙ v)) in
          let o : three_bytes 1 (drop (get_or m i 0 - 1) f) ≡ code = rw (← e) (sym d ∙ y) in
          record { yes = λ _. rw o at x.listed; no = λ v. clash (sym v) }

      pub look-free : (w : ℕ) → w ≡ get_or m i 0 → w ≡ 0 → SlotSays code f m false
      look-free w e z = record { yes = λ v. clash v; no = λ _. not_there (has_class code (held_in class_of (before f (get_or m 0 0)))) refl }
        where
          not_there : (t : Bool) → has_class code (held_in class_of (before f (get_or m 0 0))) ≡ t → t ≡ false
          not_there false v = refl
          not_there true v =
              let x = k.filled.entered.slots code v in
              absurd (⊎_elim (λ y. x.taken i q.low y (sym e ∙ z)) (λ y. q.missed x.slot x.low y x.is) (split x.slot))
            where
              split : (s : ℕ) → (i ≤ s) ⊎ (s < i)
              split s = by-ltb (λ _. (i ≤ s) ⊎ (s < i)) s i (λ y. inr y) (λ y. inl y)

      pub look-done : (end : ℕ) → end ≡ end_slot (length m) code → end ≤ i → SlotSays code f m false
      look-done end e h = record { yes = λ v. clash v; no = λ _. not_there (has_class code (held_in class_of (before f (get_or m 0 0)))) refl }
        where
          not_there : (t : Bool) → has_class code (held_in class_of (before f (get_or m 0 0))) ≡ t → t ≡ false
          not_there false v = refl
          not_there true v = let x = k.filled.entered.slots code v in absurd (q.missed x.slot x.low (omega (arith, x.high, e)) x.is)

pub ruleset looking = (tests, index-words, end-inside, end-bytes, missed_first, entry-on, entry_in, missed-again, look-found, look-free, look-done)

-- ---- by the slots, and then by the lines that are not in the index, for `search knowing`

module _ (f m : List ℕ) (k : IndexOf f m) where
  abbrev at : ℕ
  at = get_or m 0 0

  pub rest-sound : sound (lines_from 1 (get_or m 0 0) (drop (get_or m 0 0) f)) ≡ true
  rest-sound =
      sound-any 1 k.filled.number at (drop at f)
      ∙ (sound-split (before f at) (lines_from k.filled.number at (drop at f)) (sym (ap sound k.filled.split) ∙ k.lines_sound)).1

  module _ (code : ℕ) (t : Bool) (q : SlotSays code f m t) where
    pub know-slot : t ≡ true → true ≡ has_class code (held_in class_of (lines_of f))
    know-slot z = sym (q.yes z)

    pub know-rest : (r : Bool) → t ≡ false → r ≡ has_class code (held_in class_of (lines_from 1 (get_or m 0 0) (drop (get_or m 0 0) f))) → r ≡ has_class code (held_in class_of (lines_of f))
    know-rest r z d =
        d ∙ ap (has_class code) (held_any 1 k.filled.number at (drop at f))
        ∙ sym (ap (λ (ls : List Line). has_class code (held_in class_of ls)) k.filled.split ∙ has_both code (before f at) (lines_from k.filled.number at (drop at f)) ∙ rw (q.no z) refl)

pub ruleset knowing = (tests, index-head, index_short, rest-sound, know-slot, know-rest)

-- ---- the code of a line in its file

three-part : (p a : ℕ) (g : List ℕ) → p + 3 ≤ a → three_bytes 1 (drop p (take a g)) ≡ three_bytes 1 (drop p g)
three-part p a g h = pack (byte 0 (omega arith)) (byte 1 (omega arith)) (byte 2 (omega arith))
  where
    byte : (i : ℕ) → i < 3 → get_or (drop p (take a g)) i 32 ≡ get_or (drop p g) i 32
    byte i l = get_or-drop p (take a g) i 32 ∙ get_or-take a g (p + i) 32 (omega arith) ∙ sym (get_or-drop p g i 32)

    pack : {x y z u v w : ℕ} → x ≡ u → y ≡ v → z ≡ w → (x * 256 + y) * 256 + z ≡ (u * 256 + v) * 256 + w
    pack e d k = rw (e, d, k) refl

-- its output control stands in column 10
long-line : (text : List ℕ) → form_of class_columns text ≡ Fits → 10 ≤ length text
unfolding columns pad_to count
long-line text e = by-ltb (λ t. 10 ≤ length text) (length text) 10 short (λ h. h)
  where
    short : length text < 10 → 10 ≤ length text
    short h = clash (rw (drop_of_length-le text {i = 9} (omega arith)) at (row-holds class_columns text 3 e))

long-held : (text : List ℕ) → is_sound (number_on Classes text) ≡ true → skipped text ≡ false → 10 ≤ length text
unfolding number_on
long-held text z e = go (form_of class_columns text) refl (rw e at z)
  where
    go : (g : Form) → form_of class_columns text ≡ g → is_sound (numbered_by g (three_bytes 1 text)) ≡ true → 10 ≤ length text
    go Fits d z = long-line text d
    go (BrokenForm c) d z = apart cc

-- the word of the slot's line: `take (length f - at) (drop at f)` is how the code hands the rest of the file on
pub rest_part : (f : List ℕ) (w c : ℕ) → c ≡ three_bytes 1 (take (length f - (w - 1)) (drop (w - 1) f)) → c ≡ three_bytes 1 (drop (w - 1) f)
rest_part f w c e = e ∙ ap (λ (l : List ℕ). three_bytes 1 l) (take_all (length f - (w - 1)) (drop (w - 1) f) (omega (arith, length-drop (w - 1) f)))

pub word-inside : (f : List ℕ) (w : ℕ) → (0 < w) × (w ≤ length f) → w - 1 ≤ length f
word-inside f w h = let l = h.1 in omega arith

pub ruleset reading = (tests, rest_part, word-inside)

-- ---- the walk that puts every line in, for `search filling`: r is the line cut at `at`, x whether it was put

pub entered-first : (f m : List ℕ) → m ≡ replicate (length m) 0 → IndexRoom m → Entered f 0 m
unfolding held_in some_of
entered-first f m e k = record {
  enough = k.enough;
  small = k.small;
  entries = λ i l z. absurd (z (zero-at i));
  slots = λ code h. clash (sym (ap (λ (ls : List Line). has_class code (held_in class_of ls)) (before-first f)) ∙ h);
}
  where
    zero-at : (i : ℕ) → get_or m i 0 ≡ 0
    zero-at i = by-ltb (λ _. get_or m i 0 ≡ 0) i (length m) (λ h. rw e (get_or-replicate {A = ℕ} (length m) i 0 0 h)) (λ h. get_or-eq_default m 0 {n = i} h)

pub entered-room : (f : List ℕ) (at : ℕ) (m : List ℕ) → Entered f at m → IndexRoom m
entered-room f at m k = record { enough = k.enough; small = k.small }

pub place-small : (f : List ℕ) (at : ℕ) → at < length f → length f ≤ most_file_bytes → at ≤ most_file_bytes
place-small f at h l = omega arith

module _ (f : List ℕ) (at n : ℕ) (r : Cut) (m m' : List ℕ) (x : Bool) (h : at < length f) (e : r ≡ cut_at f at n) (w : Walked f at n) (s : sound (lines_of f) ≡ true) (k : Entered f at m)
    (p : PutOn (take (r.stop - at) (drop at f)) at x m m') where
  abbrev text : List ℕ
  text = take (r.stop - at) (drop at f)

  abbrev here : Line
  here = record { no = n; start = at; text = text }

  abbrev c : ℕ
  c = three_bytes 1 text

  here-is : is_sound (number_on Classes text) ≡ true
  here-is = here-sound f at n w r h e s

  -- a code of the lines with this one
  has-next : (code : ℕ) → has_class code (held_in class_of (before f r.next)) ≡ (has_class code (held_in class_of (before f at)) || holds_code code text)
  has-next code = ap (λ (ls : List Line). has_class code (held_in class_of ls)) (before-next f at n w r h e) ∙ has_both code (before f at) (here ∷ []) ∙ ap (λ (t : Bool). has_class code (held_in class_of (before f at)) || t) (has_one here code here-is)

  module _ (z : skipped text ≡ false) where
    long : at + 10 ≤ length f
    long = omega (arith, long-held text here-is z, length-take (r.stop - at) (drop at f), length-drop at f)

    code_is : three_bytes 1 (drop at f) ≡ c
    code_is = sym (three-part 0 (r.stop - at) (drop at f) (omega (arith, long-held text here-is z, length-take (r.stop - at) (drop at f))))

    code-listed : has_class c (held_in class_of (lines_of f)) ≡ true
    code-listed =
        ap (λ (ls : List Line). has_class c (held_in class_of ls)) (here-split f at n w r h e) ∙ has_both c (before f at) (here ∷ after)
        ∙ ap (λ (t : Bool). has_class c (held_in class_of (before f at)) || t) (has_both c (here ∷ []) after ∙ rw (has_one here c here-is, eq-eqb c c refl, z) refl)
        ∙ go (has_class c (held_in class_of (before f at)))
      where
        after : List Line
        after = lines_from r.no r.next (drop r.next f)

        go : (t : Bool) → (t || true) ≡ true
        go true = refl
        go false = refl

    entry : Entry f (at + 1)
    entry = let o : at + 1 - 1 ≡ at = omega arith in record { room = omega (arith, long); listed = rw (o, code_is) code-listed }

    -- put into slot i
    module _ (i : ℕ) (q : FreeSlot c m i) (l : i < end_slot (length m) c) where
      abbrev m₁ : List ℕ
      m₁ = set m i (at + 1)

      size : length m₁ ≡ length m
      size = length-set m i (at + 1)

      inside : i < length m
      inside = omega (arith, end-le (length m) c)

      mine : get_or m₁ i 0 ≡ at + 1
      mine = get_or-set_same m i (at + 1) 0 inside

      others : (j : ℕ) → (j ≡ i → ⊥) → get_or m₁ j 0 ≡ get_or m j 0
      others j v = get_or-set_other m i j (at + 1) 0 v

      -- what was taken stays so
      stays : (j : ℕ) → (get_or m j 0 ≡ 0 → ⊥) → get_or m₁ j 0 ≡ 0 → ⊥
      stays j v y = by_eqb (λ _. ⊥) j i (λ o. omega (arith, rw o at y, mine)) (λ o. v (sym (others j o) ∙ y))

      entries₁ : (j : ℕ) → 0 < j → (get_or m₁ j 0 ≡ 0 → ⊥) → Entry f (get_or m₁ j 0)
      entries₁ j a v = by_eqb (λ _. Entry f (get_or m₁ j 0)) j i (λ o. rw (o, mine) entry) (λ o. rw (others j o) (k.entries j a (λ y. v (others j o ∙ y))))

      -- a code that has its slot keeps it: that slot was not free
      slot_kept : (code : ℕ) → Slot f code m → Slot f code m₁
      slot_kept code y =
          let o : y.slot ≡ i → ⊥ = λ b. y.taken y.slot y.low (omega arith) (ap (λ (j : ℕ). get_or m j 0) b ∙ q.free l) in
          record {
            slot = y.slot;
            low = rw size y.low;
            high = rw size y.high;
            taken = λ j a b. stays j (y.taken j (rw size at a) b);
            is = rw (others y.slot o) y.is;
          }

      slot-new : Slot f c m₁
      slot-new =
          let o : at + 1 - 1 ≡ at = omega arith in
          record {
            slot = i;
            low = rw size q.low;
            high = rw size l;
            taken = λ j a b. ⊎_elim (λ v y. omega (arith, rw v at y, mine)) (λ v. stays j (q.taken j (rw size at a) v)) (eq-or-lt_of_le b);
            is = rw (mine, o) code_is;
          }

      slots₁ : (code : ℕ) → has_class code (held_in class_of (before f r.next)) ≡ true → Slot f code m₁
      slots₁ code v = go (has_class code (held_in class_of (before f at))) refl (sym (has-next code) ∙ v)
        where
          other : (u : Bool) → eqb c code ≡ u → (u && not (skipped text)) ≡ true → Slot f code m₁
          other true y b = subst (λ (j : ℕ). Slot f j m₁) (eqb-true c code y) slot-new
          other false y b = clash b

          go : (t : Bool) → has_class code (held_in class_of (before f at)) ≡ t → (t || holds_code code text) ≡ true → Slot f code m₁
          go true y b = slot_kept code (k.slots code y)
          go false y b = other (eqb c code) refl b

      put_one : Entered f r.next m₁
      put_one = record { enough = rw size k.enough; small = rw size k.small; entries = entries₁; slots = slots₁ }

  pub entered-next : not x ≡ false → Entered f r.next m'
  entered-next y = go (skipped text) refl
    where
      go : (t : Bool) → skipped text ≡ t → Entered f r.next m'
      go true z =
          let v : m' ≡ m = (p.skip z).1 in
          rw v (record { enough = k.enough; small = k.small; entries = k.entries; slots = λ code b. k.slots code (only code (sym (has-next code) ∙ b)) })
        where
          none : (u : Bool) → (u && not (skipped text)) ≡ false
          none true = rw z refl
          none false = refl

          only : (code : ℕ) → (has_class code (held_in class_of (before f at)) || holds_code code text) ≡ true → has_class code (held_in class_of (before f at)) ≡ true
          only code b = or-false (has_class code (held_in class_of (before f at))) ∙ ap (λ (t : Bool). has_class code (held_in class_of (before f at)) || t) (sym (none (eqb c code))) ∙ b
      go false z =
          let a = p.put z in
          let v = a.yes (not-false x y) in
          rw v.1 (put_one z a.slot a.free v.0)

  pub filled-out : at ≤ length f → not x ≡ true → FilledTo f at m'
  unfolding before
  filled-out l y = record { inside = l; number = n; split = walked_lines f at n w; entered = go (skipped text) refl }
    where
      go : (t : Bool) → skipped text ≡ t → Entered f at m'
      go true z = clash (sym (not-true x y) ∙ (p.skip z).0)
      go false z = let v : m' ≡ m = (p.put z).no (not-true x y) in rw v k

pub filled-done : (f : List ℕ) (at n : ℕ) (m : List ℕ) → length f ≤ at → at ≤ length f → Walked f at n → Entered f at m → FilledTo f at m
unfolding before
filled-done f at n m h l w k = record { inside = l; number = n; split = walked_lines f at n w; entered = k }

pub index_kept : (m' m m₀ : List ℕ) → length m' ≡ length m → length m ≡ length m₀ → length m' ≡ length m₀
index_kept m' m m₀ a b = a ∙ b

pub index_same : (m : List ℕ) → length m ≡ length m
index_same m = refl

pub ruleset filling = (tests, index_kept, index_same, entered-first, entered-room, place-small, entered-next, filled-out, filled-done)

-- ---- the words cleared, filled, and the place of what is left put in front, for `search indexing`

pub cleared : (m m' : List ℕ) → m' ≡ replicate (length m) 0 ++ drop (length m) m → m' ≡ replicate (length m') 0
cleared m m' e =
    let d : m' ≡ replicate (length m) 0 = e ∙ ap (λ (l : List ℕ). replicate (length m) 0 ++ l) (drop_of_length-le m {i = length m} (omega arith)) ∙ append-nil (replicate {A = ℕ} (length m) 0) in
    d ∙ ap (λ (j : ℕ). replicate {A = ℕ} j 0) (sym (ap length d ∙ length-replicate {A = ℕ} (length m) 0))

pub cleared-room : (m m' : List ℕ) → length m' ≡ length m → IndexRoom m → IndexRoom m'
cleared-room m m' e k = record { enough = rw e k.enough; small = rw e k.small }

module _ (f : List ℕ) (at : ℕ) (m : List ℕ) (k : FilledTo f at m) where
  pub rest-fits : length f ≤ most_file_bytes → at < 4294967296
  rest-fits h = omega (arith, k.inside)

  pub rest-place : 0 < length m
  rest-place = omega (arith, k.entered.enough)

  pub index-set : length f ≤ most_file_bytes → sound (lines_of f) ≡ true → IndexOf f (set m 0 at)
  index-set h s = record {
    short = h;
    lines_sound = s;
    filled = rw (get_or-set_same m 0 at 0 rest-place) (record {
      inside = k.inside;
      number = k.number;
      split = k.split;
      entered = record {
        enough = rw (length-set m 0 at) k.entered.enough;
        small = rw (length-set m 0 at) k.entered.small;
        entries = λ i l z. rw (behind i l) (k.entered.entries i l (λ y. z (behind i l ∙ y)));
        slots = λ code y. slot code (k.entered.slots code y);
      };
    });
  }
    where
      behind : (i : ℕ) → 0 < i → get_or (set m 0 at) i 0 ≡ get_or m i 0
      behind i l = get_or-set_other m 0 i at 0 (λ e. omega (arith, e))

      slot : (code : ℕ) → Slot f code m → Slot f code (set m 0 at)
      slot code y = record {
        slot = y.slot;
        low = rw (length-set m 0 at) y.low;
        high = rw (length-set m 0 at) y.high;
        taken = λ j a b z. y.taken j (rw (length-set m 0 at) at a) b (sym (behind j (omega (arith, rw (length-set m 0 at) at a, first_on (length m) code))) ∙ z);
        is = rw (behind y.slot (omega (arith, y.low, first_on (length m) code))) y.is;
      }

pub ruleset indexing = (tests, index_kept, cleared, cleared-room, rest-fits, rest-place, index-set)
