-- The helper words: how many are needed, and the parts of them that the maps and the index take. Assumes nothing.
use Rattle.std.specs.Prelude.{Result, Ok, Err}
use mathlib.Core.Path.{◌≡◌, refl, sym, ap, subst, ◌∙◌}
use mathlib.Core.List.{List, ◌++◌, append-nil}
use Prim.Native.Nat.{ℕ, ◌+◌, ◌*◌, ◌-◌, ◌^◌, ◌≤◌, ◌<◌}
use native.Mathlib.Nat.{sub-zero}
use native.Mathlib.Omega.{arith}
use lib.ListN.{length, take, drop, replicate, length-replicate, length-drop, drop_of_length-le, replicate-append-replicate}
use lib.Seq.{length-take-le, length_front, take_all, take_at, drop_at, take-take, take-add, drop-drop, take-append-le}
use borrow.Rule.Slice.PartMut.{same_len_mid, take_put, drop_put}
use Rattle.base.proofs.Laws.{apart, tests}
use Rattle.lines.specs.Lines.{lines_of}
use Rattle.lines.proofs.Laws.{lines-le}
use Rattle.timetable.specs.Layout.{helper_head, helper_line, most_file_bytes}
use Rattle.sections.specs.Inner.SectionMap.{MapOf, Lent, MapAfter}
use Rattle.classes.specs.Inner.Index.{IndexOf, IndexRoom, ClassesAfter}
use Rattle.sections.specs.declared.Section.TheVariants.{BitFields, Stops}
use Rattle.reading.specs.Inner.Maps.{FieldMap, StopMap, ClassIndex}
use Rattle.table_words.specs.declared.Header.{Header}
use Rattle.load.specs.Inner.Helper.{Short, needed_of, Emptied, LentAt, IndexLent, FieldsAfter, StopsAfter, IndexAfter, StopsStand}
use Rattle.load.specs.declared.FileOffence.{FileOffence}
use Rattle.load.specs.declared.Needed.{Needed}
use Rattle.timetable.specs.declared.Offence.{Offence}

-- ---- how many are needed

module _ (b s u : List ℕ) (r : Needed) (q : r ≡ needed_of b s u) where
  words_are : r.words ≡ helper_head + helper_line * (length (lines_of b) + length (lines_of s) + length (lines_of u))
  words_are = ap (λ (x : Needed). x.words) q

  fields-are : r.fields ≡ helper_line * length (lines_of b)
  fields-are = ap (λ (x : Needed). x.fields) q

  stops-are : r.stops ≡ helper_line * length (lines_of s)
  stops-are = ap (λ (x : Needed). x.stops) q

  pub needed-small : length b ≤ most_file_bytes → length s ≤ most_file_bytes → length u ≤ most_file_bytes → r.words < 4294967296
  needed-small x y z = omega (arith, words_are, lines-le 1 0 b, lines-le 1 0 s, lines-le 1 0 u)

pub needed-counted : (b s u : List ℕ) (x y z : ℕ) → x ≡ length (lines_of b) → y ≡ length (lines_of s) → z ≡ length (lines_of u)
    → ◌≡◌ {A = Needed} (record { fields = helper_line * x; stops = helper_line * y; words = helper_head + helper_line * (x + y + z) }) (needed_of b s u)
needed-counted b s u x y z i j k = rw (i, j, k) refl

-- ---- words that are all 0

split-zeros : (n k : ℕ) → k ≤ n → replicate {A = ℕ} n 0 ≡ replicate k 0 ++ replicate (n - k) 0
split-zeros n k h = let e : k + (n - k) ≡ n = omega arith in sym (replicate-append-replicate {A = ℕ} k (n - k) 0 ∙ ap (λ (j : ℕ). replicate {A = ℕ} j 0) e)

take-zeros : (n k : ℕ) → k ≤ n → take k (replicate {A = ℕ} n 0) ≡ replicate k 0
take-zeros n k h = ap (take k) (split-zeros n k h) ∙ take_at (replicate {A = ℕ} k 0) (replicate (n - k) 0) k (length-replicate {A = ℕ} k 0)

drop-zeros : (n k : ℕ) → k ≤ n → drop k (replicate {A = ℕ} n 0) ≡ replicate (n - k) 0
drop-zeros n k h = ap (drop k) (split-zeros n k h) ∙ drop_at (replicate {A = ℕ} k 0) (replicate (n - k) 0) k (length-replicate {A = ℕ} k 0)

-- ---- a part of the words, lent for the map of a file

part_length : (m : List ℕ) (at words : ℕ) → at + words ≤ length m → length (take words (drop at m)) ≡ words
part_length m at words h = length-take-le words (drop at m) (omega (arith, length-drop at m))

lent : (f : List ℕ) (at words : ℕ) (m : List ℕ) → LentAt f at words m → Lent f (take words (drop at m))
lent f at words m h =
    let n = part_length m at words h.inside in
    record { room = omega (arith, n, h.room); size = omega (arith, n, h.inside, h.small); zeros = h.zeros ∙ ap (λ (j : ℕ). replicate {A = ℕ} j 0) (sym n) }

pub lent-first : (f : List ℕ) (words : ℕ) (m : List ℕ) → LentAt f 0 words m → Lent f (take (words - 0) m)
lent-first f words m h = rw (sub-zero words) (lent f 0 words m h)

pub lent-part : (f : List ℕ) (at words : ℕ) (m : List ℕ) → LentAt f at words m → Lent f (take (at + words - at) (drop at m))
lent-part f at words m h = let e : at + words - at ≡ words = omega arith in rw e (lent f at words m h)

-- m' is what is left in the first words
pub fields-after : (b : List ℕ) (r : Result (ℕ × ℕ) Offence) (words : ℕ) (m m' : List ℕ) → LentAt b 0 words m → length m' ≡ length (take (words - 0) m) → MapAfter BitFields b r m'
    → FieldsAfter b r words m (m' ++ drop (words - 0) m)
unfolding FieldMap
fields-after b r words m m' h l a =
    let n : length m' ≡ words = l ∙ ap (λ (j : ℕ). length (take j m)) (sub-zero words) ∙ part_length m 0 words h.inside in
    record {
      held = λ count next e. subst (MapOf BitFields b) (sym (take_at m' (drop (words - 0) m) words n)) (a.held count next e);
      same = length_front m m' (words - 0) l;
      rest = drop_at m' (drop (words - 0) m) words n ∙ ap (λ (j : ℕ). drop j m) (sub-zero words);
    }

-- m' is what is left in so many words from a place on
pub stops-after : (s : List ℕ) (r : Result (ℕ × ℕ) Offence) (at words : ℕ) (m m' : List ℕ) → LentAt s at words m → length m' ≡ length (take (at + words - at) (drop at m)) → MapAfter Stops s r m'
    → StopsAfter s r at words m (take at m ++ (m' ++ drop (at + words - at) (drop at m)))
unfolding StopMap
stops-after s r at words m m' h l a =
    let e : at + words - at ≡ words = omega arith in
    let n : length m' ≡ words = l ∙ ap (λ (j : ℕ). length (take j (drop at m))) e ∙ part_length m at words h.inside in
    let i = h.inside in
    record {
      held = λ count next y. subst (MapOf Stops s)
          (sym (ap (take words) (drop_at (take at m) (m' ++ drop (at + words - at) (drop at m)) at (length-take-le at m (omega arith))) ∙ take_at m' (drop (at + words - at) (drop at m)) words n))
          (a.held count next y);
      same = same_len_mid at (at + words - at) m m' l;
      front = take_put at (at + words - at) m m' (omega arith);
      rest = drop_put at (at + words) m m' (omega arith) i (omega arith);
    }

-- ---- the words from a place on, to their end

to_end : (m : List ℕ) (at : ℕ) → take (length m - at) (drop at m) ≡ drop at m
to_end m at = take_all (length m - at) (drop at m) (omega (arith, length-drop at m))

-- the words behind a place, from those before another
middle : (m : List ℕ) (x y : ℕ) → x ≤ length m → drop x (take (x + y) m) ≡ take y (drop x m)
middle m x y h = ap (drop x) (take-add x y m) ∙ drop_at (take x m) (take y (drop x m)) x (length-take-le x m h)

-- the maps and the index, cut from them
pub map_first : (b : List ℕ) (at : ℕ) (m : List ℕ) → FieldMap b (take at m) → FieldMap b (take (at - 0) m)
map_first b at m h = rw (sub-zero at) h

pub map-part : (s : List ℕ) (at words : ℕ) (m : List ℕ) → StopMap s (take words (drop at m)) → StopMap s (take (at + words - at) (drop at m))
map-part s at words m h = let e : at + words - at ≡ words = omega arith in rw e h

pub index-part : (z : List ℕ) (at words : ℕ) (m : List ℕ) → ClassIndex z (drop (at + words) m) → ClassIndex z (take (length m - (at + words)) (drop (at + words) m))
index-part z at words m h = subst (ClassIndex z) (sym (to_end m (at + words))) h

-- the words of UMSTEIGB's map leave the last ones free
module _ (u : List ℕ) (at words : ℕ) (m : List ℕ) (i : at + words + helper_head ≤ length m) where
  -- how many words stand between
  abbrev n : ℕ
  n = length m - helper_head - at

  pub split-inside : words ≤ length (take (length m - helper_head - at) (drop at m))
  split-inside = omega (arith, length-take-le n (drop at m) (omega (arith, length-drop at m)))

  front_same : take words (take n (drop at m)) ≡ take words (drop at m)
  front_same = take-take words n (drop at m) (omega arith)

  pub split-stops : (s : List ℕ) → StopMap s (take words (drop at m)) → MapOf Stops s (take words (take (length m - helper_head - at) (drop at m)))
  unfolding StopMap
  split-stops s g = subst (MapOf Stops s) (sym front_same) g

  pub split-lent : LentAt u (at + words) (length m - helper_head - (at + words)) m → Lent u (drop words (take (length m - helper_head - at) (drop at m)))
  split-lent h =
      let k : ℕ = length m - helper_head - (at + words) in
      let e : n ≡ words + k = omega arith in
      let d : drop words (take n (drop at m)) ≡ take k (drop (at + words) m) =
      ap (λ (j : ℕ). drop words (take j (drop at m))) e ∙ middle (drop at m) words k (omega (arith, length-drop at m)) ∙ ap (take k) (drop-drop words at m) in
      subst (Lent u) (sym d) (lent u (at + words) k m h)

  -- m' is what is left of them: the first words, so many, stay
  module _ (m' : List ℕ) (l : length m' ≡ length (take (length m - helper_head - at) (drop at m))) where
    pub front-stays : take words m' ≡ take words (take (length m - helper_head - at) (drop at m))
        → take (at + words) (take at m ++ (m' ++ drop (length m - helper_head - at) (drop at m))) ≡ take (at + words) m
    front-stays e =
        let after : List ℕ = drop n (drop at m) in
        let long : words ≤ length m' = let j = split-inside in omega (arith, l) in
        take-add at words (take at m ++ (m' ++ after))
        ∙ (ap (λ (x : List ℕ). x ++ take words (drop at (take at m ++ (m' ++ after)))) (take_put at n m m' (omega arith))
        ∙ ap (λ (x : List ℕ). take at m ++ x)
        (ap (take words) (drop_at (take at m) (m' ++ after) at (length-take-le at m (omega arith))) ∙ take-append-le words m' after long ∙ e ∙ front_same)
        ∙ sym (take-add at words m))

-- ---- the words behind a place, lent for the index

pub index-room : (at words : ℕ) (m : List ℕ) → IndexLent at words m → IndexRoom (take (length m - (at + words)) (drop (at + words) m))
index-room at words m h =
    let n : length (take (length m - (at + words)) (drop (at + words) m)) ≡ length m - (at + words) = ap length (to_end m (at + words)) ∙ length-drop (at + words) m in
    record { enough = omega (arith, n, h.inside); small = omega (arith, n, h.small) }

module _ (at words : ℕ) (m : List ℕ) (h : IndexLent at words m) where
  pub index-start : at + words ≤ length m
  index-start = omega (arith, h.inside)

  pub index-place : at + words < 2 ^ 64
  index-place = omega (arith, h.inside, h.small)

  pub index-bytes : (at + words) * 4 < 2 ^ 64
  index-bytes = omega (arith, h.inside, h.small)

pub ruleset index-fits = (tests, index-start, index-place, index-bytes)

-- m' is what is left in them
pub index-after : (z : List ℕ) (r : Result (ℕ × ℕ) Offence) (at words : ℕ) (m m' : List ℕ) → IndexLent at words m → length m' ≡ length (take (length m - (at + words)) (drop (at + words) m)) → ClassesAfter z r m'
    → IndexAfter z r at words m (take (at + words) m ++ (m' ++ drop (length m - (at + words)) (drop (at + words) m)))
unfolding ClassIndex
index-after z r at words m m' h l a =
    let p : ℕ = at + words in
    let i = h.inside in
    let after : List ℕ = drop (length m - p) (drop p m) in
    let nothing : m' ++ after ≡ m' = ap (λ (x : List ℕ). m' ++ x) (drop_of_length-le (drop p m) {i = length m - p} (omega (arith, length-drop p m))) ∙ append-nil m' in
    let own : drop p (take p m ++ (m' ++ after)) ≡ m' = drop_at (take p m) (m' ++ after) p (length-take-le p m (omega arith)) ∙ nothing in
    record {
      held = λ count next e. subst (IndexOf z) (sym own) (a.held count next e);
      same = same_len_mid p (length m - p) m m' l;
      front = take_put p (length m - p) m m' (omega arith);
    }

-- ---- from file to file

module _ (e b s u p z : List ℕ) (r : Needed) (m : List ℕ) (h : Short e b s u p z) (q : Emptied b s u r m) where
  size : length m ≡ r.words
  size = ap length q.words ∙ length-replicate {A = ℕ} r.words 0

  small : r.words < 4294967296
  small = needed-small b s u r q.is h.bitfeld h.bahnhof h.umsteigb

  pub lent-fields : LentAt b 0 r.fields m
  lent-fields =
      let x = fields-are b s u r q.is in let w = words_are b s u r q.is in
      record {
        room = omega (arith, x);
        inside = omega (arith, x, w, size);
        small = omega (arith, size, small);
        zeros = ap (take r.fields) q.words ∙ take-zeros r.words r.fields (omega (arith, x, w));
      }

  module _ (x : Result (ℕ × ℕ) Offence) (m₁ : List ℕ) (a : FieldsAfter b x r.fields m m₁) where
    pub lent-stops : LentAt s r.fields r.stops m₁
    lent-stops =
        let f = fields-are b s u r q.is in let g = stops-are b s u r q.is in let w = words_are b s u r q.is in let l = a.same in
        record {
          room = omega (arith, g);
          inside = omega (arith, f, g, w, size, l);
          small = omega (arith, size, small, l);
          zeros = ap (take r.stops) (a.rest ∙ ap (drop r.fields) q.words ∙ drop-zeros r.words r.fields (omega (arith, f, w)))
              ∙ take-zeros (r.words - r.fields) r.stops (omega (arith, f, g, w));
        }

    module _ (y : Result (ℕ × ℕ) Offence) (m₂ : List ℕ) (c : StopsAfter s y r.fields r.stops m₁ m₂) where
      behind : drop (r.fields + r.stops) m₂ ≡ replicate (r.words - (r.fields + r.stops)) 0
      behind =
          let f = fields-are b s u r q.is in let g = stops-are b s u r q.is in let w = words_are b s u r q.is in
          c.rest ∙ (sym (drop-drop r.stops r.fields m₁) ∙ ap (drop r.stops) a.rest ∙ drop-drop r.stops r.fields m)
          ∙ ap (drop (r.fields + r.stops)) q.words ∙ drop-zeros r.words (r.fields + r.stops) (omega (arith, f, g, w))

      size₂ : length m₂ ≡ r.words
      size₂ = c.same ∙ a.same ∙ size

      pub stops-inside : r.fields + r.stops + helper_head ≤ length m₂
      stops-inside =
          let f = fields-are b s u r q.is in let g = stops-are b s u r q.is in let w = words_are b s u r q.is in
          omega (arith, f, g, w, size₂)

      pub lent-interchanges : LentAt u (r.fields + r.stops) (length m₂ - helper_head - (r.fields + r.stops)) m₂
      lent-interchanges =
          let f = fields-are b s u r q.is in let g = stops-are b s u r q.is in let w = words_are b s u r q.is in let n = size₂ in
          let k : ℕ = length m₂ - helper_head - (r.fields + r.stops) in
          record {
            room = omega (arith, f, g, w, n);
            inside = omega (arith, f, g, w, n);
            small = omega (arith, small, n);
            zeros = ap (take k) behind ∙ take-zeros (r.words - (r.fields + r.stops)) k (omega (arith, f, g, w, n));
          }

      module _ (m₃ : List ℕ) (l : length m₃ ≡ length m₂) (d : take (r.fields + r.stops) m₃ ≡ take (r.fields + r.stops) m₂) where
        pub lent-index : IndexLent r.fields r.stops m₃
        lent-index = let i = stops-inside in let n = size₂ in record { inside = omega (arith, i, l); small = omega (arith, small, n, l) }

        module _ (v : Result (ℕ × ℕ) Offence) (m₄ : List ℕ) (t : IndexAfter z v r.fields r.stops m₃ m₄) where
          pub maps-inside : r.fields + r.stops + helper_head ≤ length m₄
          maps-inside = let i = stops-inside in omega (arith, l, t.same)

          maps-same : take (r.fields + r.stops) m₄ ≡ take (r.fields + r.stops) m₂
          maps-same = t.front ∙ d

          pub fields-held : (k j : ℕ) → x ≡ Ok (k, j) → FieldMap b (take r.fields m₄)
          fields-held k j g =
              let same : take r.fields m₄ ≡ take r.fields m₁ =
              sym (take-take r.fields (r.fields + r.stops) m₄ (omega arith)) ∙ ap (take r.fields) maps-same ∙ take-take r.fields (r.fields + r.stops) m₂ (omega arith) ∙ c.front in
              subst (FieldMap b) (sym same) (a.held k j g)

          pub stops-still : (k j : ℕ) → y ≡ Ok (k, j) → StopMap s (take r.stops (drop r.fields m₄))
          stops-still k j g =
              let i = maps-inside in let i₂ = stops-inside in
              subst (StopMap s) (sym (sym (middle m₄ r.fields r.stops (omega arith)) ∙ ap (drop r.fields) maps-same ∙ middle m₂ r.fields r.stops (omega arith))) (c.held k j g)

          -- so the map of BAHNHOF is there when all is checked, whatever is answered
          pub stops-stand : (k j : ℕ) → y ≡ Ok (k, j) → (o : Result Header FileOffence) → StopsStand s r.fields r.stops o m₄
          stops-stand k j g o = record {
            inside = λ _ _. omega (arith, maps-inside);
            small = λ _ _. omega (arith, stops-inside, size₂, small);
            held = λ _ _. stops-still k j g;
          }

-- a delivery that is refused asks for no map
pub refused-stand : (s : List ℕ) (at words : ℕ) (d : Result Header FileOffence) (m : List ℕ) (x : FileOffence) → d ≡ Err x → StopsStand s at words d m
refused-stand s at words d m x e = record { inside = λ h w. never h (sym e ∙ w); small = λ h w. never h (sym e ∙ w); held = λ h w. never h (sym e ∙ w) }
  where
    never : {X : Type 0} (h : Header) → ◌≡◌ {A = Result Header FileOffence} (Err x) (Ok h) → X
    never h w = apart (cc)

-- what stands, for `search standing`: the part of m that the table is written by
module _ (s : List ℕ) (at words : ℕ) (d : Result Header FileOffence) (m : List ℕ) (k : StopsStand s at words d m) (g : Header) (y : d ≡ Ok g) where
  pub stand-inside : at + words ≤ length m
  stand-inside = k.inside g y

  pub stand-fits : at + words < 2 ^ 64
  stand-fits = omega (arith, k.small g y)

  pub stand-bytes : at * 4 < 2 ^ 64
  stand-bytes = omega (arith, k.small g y)

  pub stand-map : StopMap s (take (at + words - at) (drop at m))
  stand-map = map-part s at words m (k.held g y)

pub ruleset standing = (tests, stand-inside, stand-fits, stand-bytes, stand-map)

-- ---- lent, used and given back: h is lent, h₁ cleared

module _ (b s u : List ℕ) (r : Needed) (q : r ≡ needed_of b s u) (h h₁ : List ℕ) (e : h₁ ≡ replicate r.words 0 ++ drop r.words h) where
  pub emptied : Emptied b s u r (take (r.words - 0) h₁)
  emptied = record {
    is = q;
    words = ap (λ (j : ℕ). take j h₁) (sub-zero r.words) ∙ ap (take r.words) e ∙ take_at (replicate {A = ℕ} r.words 0) (drop r.words h) r.words (length-replicate {A = ℕ} r.words 0);
  }

  -- m' is what is left of the part, h₃ cleared again
  pub given_back : (m' h₃ : List ℕ) → r.words ≤ length h → length h₁ ≡ length h → length m' ≡ length (take (r.words - 0) h₁)
      → h₃ ≡ replicate r.words 0 ++ drop r.words (m' ++ drop (r.words - 0) h₁)
      → h₃ ≡ replicate r.words 0 ++ drop r.words h
  given_back m' h₃ l k n d =
      let j : length m' ≡ r.words = n ∙ ap (λ (i : ℕ). length (take i h₁)) (sub-zero r.words) ∙ length-take-le r.words h₁ (omega (arith, k, l)) in
      d ∙ ap (λ (x : List ℕ). replicate r.words 0 ++ x)
      (drop_at m' (drop (r.words - 0) h₁) r.words j ∙ ap (λ (i : ℕ). drop i h₁) (sub-zero r.words) ∙ ap (drop r.words) e ∙ drop_at (replicate {A = ℕ} r.words 0) (drop r.words h) r.words (length-replicate {A = ℕ} r.words 0))

pub ruleset lends = (tests, emptied, given_back)
