-- A header and sections written one after the other are the table's words. Assumes nothing.
use mathlib.Core.Path.{◌≡◌, ◌∙◌}
use mathlib.Core.List.{List, [], ◌∷◌, ◌++◌}
use mathlib.Core.Bool.{true}
use Prim.Native.Nat.{ℕ, ◌+◌, ◌≤◌}
use native.Mathlib.Omega.{arith}
use lib.ListN.{length, length-append}
use borrow.Author.Rules.{rules}
use Rattle.base.proofs.Laws.{len-trans, tests}
use Rattle.lines.specs.Lines.{lines_of}
use Rattle.words.specs.Words.{write}
use Rattle.words.proofs.Laws.{write-write}
use Rattle.timetable.specs.Layout.{header_size}
use Rattle.sections.specs.Inner.Sections.{sound_section}
use Rattle.sections.specs.declared.Section.TheVariants.{BitFields, Stops, Interchanges, Classes}
use Rattle.table_words.specs.Inner.SectionWords.{section_words}
use Rattle.table_words.specs.declared.Header.{Header}
use Rattle.table_words.specs.Inner.Words.{header_words, sections_words, SectionsSound}

-- ---- the header, for `search heading`

pub header-written : (t t₁ t₂ t₃ : List ℕ) (h : Header) → header_size ≤ length t → t₁ ≡ write t 0 (h.words ∷ h.start ∷ h.n ∷ [])
    → t₂ ≡ write t₁ 3 (h.fields ∷ h.stops ∷ h.interchanges ∷ []) → t₃ ≡ write t₂ 6 (h.services ∷ h.first ∷ h.classes ∷ []) → t₃ ≡ write t 0 (header_words h)
header-written t t₁ t₂ t₃ h l e₁ e₂ e₃ =
    let v : t₂ ≡ write t 0 (h.words ∷ h.start ∷ h.n ∷ h.fields ∷ h.stops ∷ h.interchanges ∷ [])
    = e₂ ∙ rw e₁ (write-write t 0 (h.words ∷ h.start ∷ h.n ∷ []) (h.fields ∷ h.stops ∷ h.interchanges ∷ []) (omega arith)) in
    e₃ ∙ rw v (write-write t 0 (h.words ∷ h.start ∷ h.n ∷ h.fields ∷ h.stops ∷ h.interchanges ∷ []) (h.services ∷ h.first ∷ h.classes ∷ []) (omega arith))

pub ruleset heading = (tests, header-written)

-- ---- the sections, for `search sections`: t is the table lent, and the words of each go behind those before them

module _ (b s u z t : List ℕ) (q : ℕ) (room : q + length (sections_words b s u z) ≤ length t) where
  abbrev B : List ℕ
  B = section_words BitFields (lines_of b)

  abbrev S : List ℕ
  S = section_words Stops (lines_of s)

  abbrev U : List ℕ
  U = section_words Interchanges (lines_of u)

  abbrev Z : List ℕ
  Z = section_words Classes (lines_of z)

  room-all : q + (length B + (length S + (length U + length Z))) ≤ length t
  unfolding sections_words
  room-all = omega (arith, room, length-append B (S ++ (U ++ Z)), length-append S (U ++ Z), length-append U Z)

  pub room_fields : q + length (section_words BitFields (lines_of b)) ≤ length t
  room_fields = omega (arith, room-all)

  module _ (q₁ : ℕ) (e₁ : q₁ ≡ q + length (section_words BitFields (lines_of b))) (t₁ : List ℕ) (l₁ : length t₁ ≡ length t) where
    pub room-stops : q₁ + length (section_words Stops (lines_of s)) ≤ length t₁
    room-stops = omega (arith, room-all)

    module _ (q₂ : ℕ) (e₂ : q₂ ≡ q₁ + length (section_words Stops (lines_of s))) (t₂ : List ℕ) (l₂ : length t₂ ≡ length t₁) where
      pub room-interchanges : q₂ + length (section_words Interchanges (lines_of u)) ≤ length t₂
      room-interchanges = omega (arith, room-all)

      module _ (q₃ : ℕ) (e₃ : q₃ ≡ q₂ + length (section_words Interchanges (lines_of u))) (t₃ : List ℕ) (l₃ : length t₃ ≡ length t₂) where
        pub room-classes : q₃ + length (section_words Classes (lines_of z)) ≤ length t₃
        room-classes = omega (arith, room-all)

        pub sections-written : (t₄ : List ℕ) → t₁ ≡ write t q (section_words BitFields (lines_of b)) → t₂ ≡ write t₁ q₁ (section_words Stops (lines_of s))
            → t₃ ≡ write t₂ q₂ (section_words Interchanges (lines_of u)) → t₄ ≡ write t₃ q₃ (section_words Classes (lines_of z)) → t₄ ≡ write t q (sections_words b s u z)
        unfolding sections_words
        sections-written t₄ w₁ w₂ w₃ w₄ =
            let x : t₄ ≡ write t₂ q₂ (U ++ Z) = w₄ ∙ rw (w₃, e₃) (write-write t₂ q₂ U Z room-interchanges) in
            let v : t₄ ≡ write t₁ q₁ (S ++ (U ++ Z)) = x ∙ rw (w₂, e₂) (write-write t₁ q₁ S (U ++ Z) room-stops) in
            v ∙ rw (w₁, e₁) (write-write t q B (S ++ (U ++ Z)) room_fields)

pub sections-end : (b s u z : List ℕ) (q q₁ q₂ q₃ q₄ : ℕ) → q₁ ≡ q + length (section_words BitFields (lines_of b)) → q₂ ≡ q₁ + length (section_words Stops (lines_of s))
    → q₃ ≡ q₂ + length (section_words Interchanges (lines_of u)) → q₄ ≡ q₃ + length (section_words Classes (lines_of z)) → q₄ ≡ q + length (sections_words b s u z)
unfolding sections_words
sections-end b s u z q q₁ q₂ q₃ q₄ e₁ e₂ e₃ e₄ =
    omega (
      arith,
      length-append (section_words BitFields (lines_of b)) (section_words Stops (lines_of s) ++ (section_words Interchanges (lines_of u) ++ section_words Classes (lines_of z))),
      length-append (section_words Stops (lines_of s)) (section_words Interchanges (lines_of u) ++ section_words Classes (lines_of z)),
      length-append (section_words Interchanges (lines_of u)) (section_words Classes (lines_of z)),
    )

-- what is known of each file, for `search sounds`
module _ (b s u z : List ℕ) (w : SectionsSound b s u z) where
  pub sound-fields : sound_section BitFields (lines_of b) ≡ true
  sound-fields = w.fields

  pub sound-stops : sound_section Stops (lines_of s) ≡ true
  sound-stops = w.stops

  pub sound-interchanges : sound_section Interchanges (lines_of u) ≡ true
  sound-interchanges = w.interchanges

  pub sound-classes : sound_section Classes (lines_of z) ≡ true
  sound-classes = w.classes

pub ruleset sounds = (rules, sound-fields, sound-stops, sound-interchanges, sound-classes)

pub ruleset sections = (tests, room_fields, room-stops, room-interchanges, room-classes, sections-written, sections-end, len-trans)

-- ---- the table, for `search joining`: A is what the sections give, P what FPLAN gives

module _ (A P t : List ℕ) (room : header_size + length (A ++ P) ≤ length t) where
  pub room-header : header_size ≤ length t
  room-header = omega arith

  module _ (t₁ : List ℕ) (l₁ : length t₁ ≡ length t) where
    pub room-sections : header_size + length A ≤ length t₁
    room-sections = omega (arith, length-append A P)

    module _ (q : ℕ) (e : q ≡ header_size + length A) (t₂ : List ℕ) (l₂ : length t₂ ≡ length t₁) where
      pub room-plan : q + length P ≤ length t₂
      room-plan = omega (arith, length-append A P)

      pub table-written : (t₃ : List ℕ) (h : Header) → t₁ ≡ write t 0 (header_words h) → t₂ ≡ write t₁ header_size A → t₃ ≡ write t₂ q P → t₃ ≡ write t 0 (header_words h ++ (A ++ P))
      table-written t₃ h w₁ w₂ w₃ =
          let v : t₃ ≡ write t₁ header_size (A ++ P) = w₃ ∙ rw (w₂, e) (write-write t₁ header_size A P room-sections) in
          v ∙ rw w₁ (write-write t 0 (header_words h) (A ++ P) room-header)

pub ruleset joining = (tests, room-header, room-sections, room-plan, table-written, len-trans)
