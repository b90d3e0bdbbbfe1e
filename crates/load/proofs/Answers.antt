-- What `load` and `load_drafting` answer and leave, for `search refusing` and `search loading`: n is the file that is too long, r the helper words needed, d
-- what the checks say of the files, t the table and h the helper words lent. Assumes nothing.
use Rattle.std.specs.Prelude.{Result, Ok, Err}
use mathlib.Core.Path.{◌≡◌, refl, sym, ap, ◌∙◌}
use mathlib.Core.List.{List, ◌++◌}
use mathlib.Core.Bool.{true}
use mathlib.Core.Option.{Option, none, some}
use Prim.Native.Nat.{ℕ, ◌+◌, ◌≤◌, ◌<◌}
use native.Mathlib.Omega.{arith}
use lib.ListN.{length, drop, replicate, length-replicate}
use borrow.Author.Tests.{lt-ltb, le-ltb}
use Rattle.base.proofs.Laws.{apart, tests}
use Rattle.lines.specs.Lines.{lines_of}
use Rattle.words.specs.Words.{write}
use Rattle.words.proofs.Laws.{write-front}
use Rattle.timetable.specs.Layout.{header_size}
use Rattle.timetable.specs.Delivery.{Files, files_of, Delivery}
use Rattle.timetable.specs.Files.{period_in, bit_fields_in, stops_in, classes_in}
use Rattle.timetable.specs.Service.{blocks}
use Rattle.timetable.specs.Checks.{head_first}
use Rattle.timetable.specs.Table.{table_words}
use Rattle.timetable.specs.Load.{Where, delivered, content_offence, onto, helper_needed, written_by, loaded, written, helped}
use Rattle.timetable.specs.declared.Offence.{Offence}
use Rattle.timetable.specs.declared.Loaded.{Loaded}
use Rattle.timetable.specs.declared.Loaded.TheVariants.{Accepted, Refused as LoadRefused}
use Rattle.plan_words.specs.Inner.Services.{all_sound}
use Rattle.plan_words.proofs.Within.{head-none, plan-sound}
use Rattle.table_words.specs.Inner.Words.{header_words, body_words, SectionsSound}
use Rattle.table_words.specs.declared.Header.{Header}
use Rattle.load.specs.Inner.Delivered.{long_in, header_of, delivered_by, answered, left}
use Rattle.load.specs.Inner.Helper.{needed_of}
use Rattle.load.specs.declared.Needed.{Needed}
use Rattle.load.specs.declared.FileOffence.{FileOffence}
use Rattle.sections.proofs.Sound.{fields-sound, stops-sound, interchanges-sound, classes-sound}
use Rattle.load.proofs.Table.{words-needed, words-used, table_is}
use Rattle.load.proofs.Files.{too_long, none-too-long, all_short, sections-none, plan-none}
use Rattle.load.proofs.Helper.{needed-small}

module _ (e b s u p z : List ℕ) (n : ℕ) (k : n ≡ long_in (length e) (length b) (length s) (length u) (length z) (length p)) where
  abbrev files : Files
  files = files_of e b s u p z

  abbrev whole : Delivery
  whole = delivered files

  -- ---- 1

  module _ (y : n ≡ 0 → ⊥) (t h : List ℕ) where
    pub long-refused : LoadRefused 1 n 0 0 0 ≡ loaded files (length t) (length h)
    unfolding loaded
    long-refused = rw (too_long e b s u p z n k y) refl

    pub long-table : t ≡ written files t (length h)
    unfolding written
    long-table = rw (← long-refused) refl

    pub long-helper : h ≡ helped files h
    unfolding helped
    long-helper = rw (too_long e b s u p z n k y) refl

  module _ (y : n ≡ 0) (r : Needed) (q : r ≡ needed_of b s u) where
    words_are : r.words ≡ helper_needed files
    unfolding helper_needed
    words_are = ap (λ (x : Needed). x.words) q

    pub words-fit : r.words < 4294967296
    words-fit = needed-small b s u r q (all_short e b s u p z n k y).bitfeld (all_short e b s u p z n k y).bahnhof (all_short e b s u p z n k y).umsteigb

    -- ---- 51

    module _ (t h : List ℕ) (l : length h < r.words) where
      pub few-refused : LoadRefused 51 0 0 0 r.words ≡ loaded files (length t) (length h)
      unfolding loaded
      few-refused = rw (none-too-long e b s u p z n k y, ← words_are, lt-ltb (length h) r.words l) refl

      pub few-table : t ≡ written files t (length h)
      unfolding written
      few-table = rw (← few-refused) refl

      pub few-helper : h ≡ helped files h
      unfolding helped
      few-helper = rw (none-too-long e b s u p z n k y, ← words_are, lt-ltb (length h) r.words l) refl

    module _ (h : List ℕ) (l : r.words ≤ length h) where
      -- ---- the helper words: h' is left
      pub zeros-left : (h' : List ℕ) → h' ≡ replicate r.words 0 ++ drop r.words h → h' ≡ helped files h
      unfolding helped onto
      zeros-left h' v = v ∙ rw (none-too-long e b s u p z n k y, ← words_are, le-ltb (length h) r.words l, length-replicate {A = ℕ} r.words 0) refl

      -- ---- past both: a is what is answered, t' the table left
      later : (room : ℕ) → loaded files room (length h) ≡ answered files room
      unfolding loaded answered
      later room = rw (none-too-long e b s u p z n k y, ← words_are, le-ltb (length h) r.words l) refl

      module _ (t : List ℕ) where
        pub past-both : (a : Loaded) → a ≡ answered files (length t) → a ≡ loaded files (length t) (length h)
        past-both a v = v ∙ sym (later (length t))

        pub past-table : (t' : List ℕ) → t' ≡ left files t → t' ≡ written files t (length h)
        unfolding written left
        past-table t' v = v ∙ ap (λ (a : Loaded). written_by a (table_words whole) t) (sym (later (length t)))

pub ruleset refusing = (tests, long-refused, long-table, long-helper, words-fit, few-refused, few-table, few-helper, zeros-left, past-both, past-table)

-- ---- past both, for `search loading`

module _ (e b s u p z : List ℕ) (d : Result Header FileOffence)
    (v : d ≡ delivered_by (content_offence (files_of e b s u p z)) (header_of (delivered (files_of e b s u p z)))) where
  abbrev these : Files
  these = files_of e b s u p z

  abbrev held : Delivery
  held = delivered these

  -- ---- an offence

  module _ (o : FileOffence) (y : d ≡ Err o) where
    offence-is : content_offence these ≡ some (record { file = o.file; offence = o.offence })
    offence-is = go (content_offence these) (sym v ∙ y)
      where
        go : (w : Option Where) → delivered_by w (header_of held) ≡ Err o → w ≡ some (record { file = o.file; offence = o.offence })
        go none v = apart (cc)
        go (some w) v =
            let p : ◌≡◌ {A = FileOffence} (record { file = w.file; offence = w.offence }) o = cc in
            rw (← ap (λ (q : FileOffence). q.file) p, ← ap (λ (q : FileOffence). q.offence) p) refl

    pub refused : (t : List ℕ) → LoadRefused o.offence.number o.file o.offence.line o.offence.column 0 ≡ answered these (length t)
    unfolding answered
    refused t = rw offence-is refl

    pub stays : (t : List ℕ) → t ≡ left these t
    unfolding left
    stays t = rw (← refused t) refl

  -- ---- none: g is the header

  module _ (g : Header) (y : d ≡ Ok g) where
    clean : (content_offence these ≡ none) × (header_of held ≡ g)
    clean = go (content_offence these) (sym v ∙ y)
      where
        go : (w : Option Where) → delivered_by w (header_of held) ≡ Ok g → (w ≡ none) × (header_of held ≡ g)
        go none v = (refl, cc)
        go (some w) v = apart (cc)

    pub none-stray : head_first (lines_of p) ≡ none
    none-stray = head-none (bit_fields_in b) (stops_in s) (classes_in z) (period_in (lines_of e)).n (lines_of p) (plan-none e b s u p z clean.0)

    pub none_over : all_sound (blocks (lines_of p)) ≡ true
    none_over = plan-sound (bit_fields_in b) (stops_in s) (classes_in z) (period_in (lines_of e)).n (lines_of p) (plan-none e b s u p z clean.0)

    pub none-broken : SectionsSound b s u z
    none-broken =
        let o = sections-none e b s u p z clean.0 in
        record {
          fields = fields-sound (lines_of b) (period_in (lines_of e)).n o.0;
          stops = stops-sound (lines_of s) o.1;
          interchanges = interchanges-sound (lines_of u) (stops_in s) o.2;
          classes = classes-sound (lines_of z) o.3;
        }

    words-known : g.words ≡ header_size + length (body_words b s u z p)
    words-known = ap (λ (x : Header). x.words) (sym clean.1) ∙ words-needed e b s u p z

    size_is : length (table_words held) ≡ g.words
    size_is = words-used e b s u p z ∙ ap (λ (x : Header). x.words) clean.1

    module _ (t : List ℕ) where
      -- 20
      pub too_short : length t < g.words → LoadRefused 20 0 0 0 g.words ≡ answered these (length t)
      unfolding answered
      too_short m = rw (clean.0, size_is, lt-ltb (length t) g.words m) refl

      pub left_alone : length t < g.words → t ≡ left these t
      unfolding left
      left_alone m = rw (← too_short m) refl

      -- room for all
      module _ (m : g.words ≤ length t) where
        pub room-enough : header_size + length (body_words b s u z p) ≤ length t
        room-enough = omega (arith, words-known)

        pub accepted : Accepted g.words ≡ answered these (length t)
        unfolding answered
        accepted = rw (clean.0, size_is, le-ltb (length t) g.words m) refl

        pub filled : (t' : List ℕ) → t' ≡ write t 0 (header_words g ++ body_words b s u z p) → t' ≡ left these t
        unfolding left onto
        filled t' v =
            let w : header_words g ++ body_words b s u z p ≡ table_words held = sym (table_is e b s u p z ∙ ap (λ (x : Header). header_words x ++ body_words b s u z p) clean.1) in
            v ∙ rw (← accepted, w) (write-front t (table_words held))

pub ruleset loading = (tests, refused, stays, too_short, left_alone, room-enough, accepted, filled)
