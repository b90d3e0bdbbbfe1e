-- The needs of a bit field's words, found by the map of BITFELD. Assumes nothing.
use mathlib.Core.Path.{◌≡◌, refl, ap, sym, ◌∙◌}
use mathlib.Core.List.{List, [], ◌∷◌, ◌++◌, map}
use mathlib.Core.Bool.{Bool, true, false, cond, ◌||◌}
use mathlib.Core.Option.{none, some}
use Prim.Native.Nat.{ℕ, ◌+◌, ◌*◌, ◌-◌, ◌≤◌, ◌<◌}
use native.Mathlib.Omega.{arith}
use lib.ListN.{length, get_or, take, drop, replicate, length-map, get_or-map, drop_of_length-le}
use lib.Seq.{take-nil}
use lib.Dec.{eqb}
use Rattle.base.specs.Lists.{some_of, find, gathered}
use Rattle.base.proofs.Laws.{tests, clash}
use Rattle.columns.specs.Columns.{columns, number}
use Rattle.lines.specs.Lines.{Line, skipped, lines_of, cut_at}
use Rattle.lines.specs.declared.Cut.{Cut}
use Rattle.lines.proofs.Laws.{walk}
use Rattle.bitfield.specs.BitField.{bit_words, bits_in}
use Rattle.forms.specs.Form.{form_of, Form, Fits, Broken as BrokenForm}
use Rattle.forms.specs.Columns.{bit_field_columns}
use Rattle.map.specs.Inner.Map.{map_record_size, Mapped, Finds, Distinct, numbers_in, places_in}
use Rattle.std.specs.Prelude.{Option, Some, None}
use Rattle.map.proofs.Columns.{length-column}
use Rattle.map.proofs.Meaning.{found_inside, found_number, found-room, first_found, get_d-column}
use Rattle.timetable.specs.Delivery.{BitField}
use Rattle.timetable.specs.Files.{held_in, listed, skip, held_by, bit_field_of, has_field}
use Rattle.sections.specs.Inner.Sections.{numbered_by, number_on, words_by, words_of}
use Rattle.sections.specs.Inner.SectionMap.{text_at, if_held, texts, MapOf}
use Rattle.sections.specs.declared.Section.TheVariants.{BitFields}
use Rattle.sections.specs.declared.Numbered.TheVariants.{Skipped}
use Rattle.sections.proofs.Held.{field-numbers}
use Rattle.sections.proofs.Lookups.{has-field, seen-not, map-seen}

-- ---- the text at a place, for `search cuts`

module _ (f : List ℕ) (at : ℕ) where
  pub text-none : length f ≤ at → [] ≡ text_at f at
  unfolding text_at
  text-none h = rw (drop_of_length-le f {i = at} h) (sym (take-nil ((cut_at f at 1).stop - at)))

  -- whichever number the line has
  pub text-some : (line : ℕ) (r : Cut) → r ≡ cut_at f at line → take (r.stop - at) (drop at f) ≡ text_at f at
  unfolding text_at cut_at
  text-some line r e = rw e refl

pub ruleset cuts = (tests, walk, text-none, text-some)

-- ---- the words, for `search bits`: r is what the map answers

-- the bit field that a text holds
abbrev field_of : List ℕ → BitField
field_of t = record { number = number (columns 1 6 t); words = bits_in t }

fields-texts : (ls : List Line) → held_in bit_field_of ls ≡ map field_of (texts BitFields ls)
unfolding held_in texts gathered number_on
fields-texts [] = refl
fields-texts (l ∷ ls) = go (skipped l.text) (form_of bit_field_columns l.text) (fields-texts ls)
  where
    go : (t : Bool) (g : Form) → held_in bit_field_of ls ≡ map field_of (texts BitFields ls)
        → listed (cond t skip (held_by g (field_of l.text))) ++ held_in bit_field_of ls ≡ map field_of (if_held l.text (cond t Skipped (numbered_by g (number (columns 1 6 l.text)))) ++ texts BitFields ls)
    go true g e = e
    go false Fits e = ap (λ (r : List BitField). field_of l.text ∷ r) e
    go false (BrokenForm c) e = e

find_none : {X : Type 0} (t : X → Bool) (xs : List X) → some_of t xs ≡ false → find t xs ≡ none
unfolding some_of find
find_none t [] e = refl
find_none t (x ∷ xs) e = go (t x) e (find_none t xs)
  where
    go : (u : Bool) → (u || some_of t xs) ≡ false → (some_of t xs ≡ false → find t xs ≡ none) → cond u (some x) (find t xs) ≡ none
    go true d h = clash (sym d)
    go false d h = h d

module _ (f m : List ℕ) (w : MapOf BitFields f m) where
  pub bits-mapped : Mapped m
  bits-mapped = record { count = w.count; chained = w.filled.chained }

  module _ (k : ℕ) (r : Option ℕ) (e : Finds k m r) where
    pub bits_none : r ≡ None → replicate bit_words 0 ≡ words_of k (held_in bit_field_of (lines_of f))
    bits_none d =
        let q : false ≡ has_field k (held_in bit_field_of (lines_of f)) = has-field false k (lines_of f) (seen-not BitFields (lines_of f) m (map-seen BitFields f m w) k r e d) in
        ap words_by (sym (find_none (λ (b : BitField). eqb b.number k) (held_in bit_field_of (lines_of f)) (sym q)))

    module _ (i : ℕ) (d : r ≡ Some i) where
      pub bits-room : map_record_size * i + map_record_size ≤ length m
      bits-room = found-room m w.count k i r w.filled.chained (e.among w.count w.filled.chained) d

      inside : i < w.count
      inside = omega (arith, found_inside k i (numbers_in w.count m) r (e.among w.count w.filled.chained) d, length-column 1 w.count m)

      -- the record found is the one whose text stands at its place
      there : get_or (held_in bit_field_of (lines_of f)) i (field_of (text_at f 0)) ≡ field_of (text_at f (get_or m (4 * i + 2) 0))
      there =
          rw (fields-texts (lines_of f), ← w.filled.texts_held)
          (get_or-map field_of (map (text_at f) (places_in w.count m)) i (text_at f 0)
          ∙ ap field_of (get_or-map (text_at f) (places_in w.count m) i 0 ∙ ap (text_at f) (get_d-column 2 w.count i m inside)))

      -- at the place p
      pub bits-there : (p : ℕ) (t ws : List ℕ) → p ≡ get_or m (map_record_size * i + 2) 0 → t ≡ text_at f p → ws ≡ bits_in t → ws ≡ words_of k (held_in bit_field_of (lines_of f))
      bits-there p t ws x y z =
          let fields : List BitField = held_in bit_field_of (lines_of f) in
          let a : numbers_in w.count m ≡ map (λ (b : BitField). b.number) fields = w.filled.numbers_held ∙ field-numbers (lines_of f) in
          let l : i < length fields = omega (arith, inside, length-column 1 w.count m, ap length a, length-map fields (λ (b : BitField). b.number)) in
          let v : get_or (map (λ (b : BitField). b.number) fields) i 0 ≡ k = rw a at (found_number k i (numbers_in w.count m) r (e.among w.count w.filled.chained) d) in
          let c : Distinct (map (λ (b : BitField). b.number) fields) = rw (field-numbers (lines_of f)) at w.filled.distinct in
          z ∙ ap bits_in (y ∙ ap (text_at f) x) ∙ ap (λ (b : BitField). b.words) (sym there)
          ∙ ap words_by (sym (first_found (λ (b : BitField). b.number) k fields i (field_of (text_at f 0)) c l v))

pub ruleset bits = (tests, bits-mapped, bits_none, bits-room, bits-there)
