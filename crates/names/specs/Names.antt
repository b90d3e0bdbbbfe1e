-- Reading a name field, and the name that a language and a type ask for (request No. 3). What a name list is says Grammar; the reader here finds
-- exactly that, and there is only one reading (`reads-right`, `reads_all`, `one-reading` in proofs/Reading). Assumes nothing.
use Rattle.std.specs.Prelude.{ℕ, zero, suc, ◌+◌, ◌≤◌, List, [], ◌∷◌, Bool, true, false, cond, ◌&&◌, ◌||◌, length, get_or, take, drop, ltb, leb, eqb}
use Rattle.std.proofs.Math.Option.{Option, none, some}
use Rattle.base.specs.Lists.{some_of, find}
use Rattle.names.specs.Grammar.{dollar, opens, closes, is_plain, among, is_language, is_type, Pattern, Named, named, IsName}
use Rattle.names.specs.declared.Name.{Name}
use Rattle.names.specs.declared.Wanted.{Wanted}

-- how many bytes from the front on pass a test
unfoldable pub span : (ℕ → Bool) → List ℕ → ℕ
span t [] = 0
span t (b ∷ text) = cond (t b) (suc (span t text)) 0

-- ---- a pattern at the front of a text

-- what stands behind "<": letters, then digits, and ">", "with at least one letter or digit"
abbrev pub letters_in : List ℕ → ℕ
letters_in body = span is_language body

abbrev pub digits_in : List ℕ → ℕ
digits_in body = span is_type (drop (letters_in body) body)

unfoldable pub closed : List ℕ → Bool
closed body = ltb 0 (letters_in body + digits_in body) && eqb (get_or body (letters_in body + digits_in body) 0) closes

unfoldable pub body_of : List ℕ → Pattern
body_of body = record { letters = take (letters_in body) body; digits = take (digits_in body) (drop (letters_in body) body) }

unfoldable pub body_size : List ℕ → ℕ
body_size body = letters_in body + digits_in body + 1

unfoldable pub has_pattern : List ℕ → Bool
has_pattern text = eqb (get_or text 0 0) opens && closed (drop 1 text)

unfoldable pub pattern_of : List ℕ → Pattern
pattern_of text = body_of (drop 1 text)

unfoldable pub pattern_size : List ℕ → ℕ
pattern_size text = suc (body_size (drop 1 text))

-- ---- the reader; the text begins at place `at` of the field, and `left` bounds how many bytes are left

-- the patterns of a name, and the names after them
pub record Tail : Type 0 where
  pub patterns : List Pattern
  pub names : List Named

abbrev pub mapped : {X Y : Type 0} → (X → Y) → Option X → Option Y
mapped f none = none
mapped f (some x) = some (f x)

unfoldable mutual
  -- a name; then the end, "$" and patterns, or "$" and a further name list
  pub names_from : ℕ → ℕ → List ℕ → Option (List Named)
  names_from zero at text = none
  names_from (suc left) at text =
      let size : ℕ = span is_plain text in
      let patterns : Option Tail = patterns_from left (at + (size + 1)) (drop (size + 1) text) in
      let names : Option (List Named) = names_from left (at + (size + 1)) (drop (size + 1) text) in
      cond (eqb size 0) none
      (cond (eqb size (length text)) (some (named at size [] ∷ []))
      (cond (eqb (get_or text size 0) dollar)
      (cond (eqb (get_or text (size + 1) 0) opens)
      (mapped (λ (t : Tail). named at size t.patterns ∷ t.names) patterns)
      (mapped (λ (ns : List Named). named at size [] ∷ ns) names))
      none))

  -- a pattern; then the end, a further pattern, "$" and a further name list, or a further name list
  pub patterns_from : ℕ → ℕ → List ℕ → Option Tail
  patterns_from zero at text = none
  patterns_from (suc left) at text =
      let size : ℕ = pattern_size text in
      let p : Pattern = pattern_of text in
      let patterns : Option Tail = patterns_from left (at + size) (drop size text) in
      let after : Option (List Named) = names_from left (at + (size + 1)) (drop (size + 1) text) in
      let next : Option (List Named) = names_from left (at + size) (drop size text) in
      cond (has_pattern text)
      (cond (eqb size (length text)) (some (record { patterns = p ∷ []; names = [] }))
      (cond (eqb (get_or text size 0) opens)
      (mapped (λ (t : Tail). record { patterns = p ∷ t.patterns; names = t.names }) patterns)
      (mapped (λ (ns : List Named). record { patterns = p ∷ []; names = ns })
      (cond (eqb (get_or text size 0) dollar) after next))))
      none

-- a text has as many bytes left as it is long
abbrev pub names_of : ℕ → List ℕ → Option (List Named)
names_of at text = names_from (length text) at text

abbrev pub patterns_of : ℕ → List ℕ → Option Tail
patterns_of at text = patterns_from (length text) at text

-- "13-62 name": a longer list cannot stand there
abbrev pub most_name_bytes : ℕ
most_name_bytes = 50

-- the names of a field, or none where it is no name list
unfoldable pub name_list : List ℕ → Option (List Named)
name_list field = cond (leb (length field) most_name_bytes) (names_of 0 field) none

abbrev pub is_read : Option (List Named) → Bool
is_read none = false
is_read (some names) = true

-- whether a field is a name list
abbrev pub is_name_list : List ℕ → Bool
is_name_list field = is_read (name_list field)

-- ---- the question

-- a language by its letter, "0 for any"
abbrev pub language_known : ℕ → Bool
language_known language = eqb language 0 || is_language language

-- "40 language or type outside the standard's list": types by their numbers, 1 to 9, "0 for any"
abbrev pub askable : ℕ → ℕ → Bool
askable language type = language_known language && leb type 9

-- the digit of a type
abbrev pub type_digit : ℕ → ℕ
type_digit type = cond (eqb type 0) 0 (48 + type)

-- what is asked for: a letter and a digit, 0 for any
abbrev pub wanted_by : ℕ → ℕ → Wanted
wanted_by language type = record { letter = language; digit = type_digit type }

-- "no letters fits every language, no digits every type", and 0 fits all
unfoldable pub allows : ℕ → List ℕ → Bool
allows b [] = true
allows b (x ∷ xs) = eqb b 0 || among b (x ∷ xs)

-- one and the same pattern fits both
unfoldable pub fits : Wanted → Pattern → Bool
fits w p = allows w.letter p.letters && allows w.digit p.digits

-- a name "with a fitting pattern"
abbrev pub fitting : Wanted → Named → Bool
fitting w n = some_of (fits w) n.patterns

abbrev pub name_else : Option Named → Named → Name
name_else none first = first.name
name_else (some n) first = n.name

-- "answer the first name with a fitting pattern .., else the first name"
abbrev pub answer_in : Wanted → List Named → Option Name
answer_in w [] = none
answer_in w (n ∷ names) = some (name_else (find (fitting w) (n ∷ names)) n)

abbrev pub answer_by : Wanted → Option (List Named) → Option Name
answer_by w none = none
answer_by w (some names) = answer_in w names

-- the name of a field that is asked for, or none where the field is no name list
unfoldable pub name_for : Wanted → List ℕ → Option Name
name_for w field = answer_by w (name_list field)

-- ---- what an answer is: a part of the field that is a name

pub record IsPart (field : List ℕ) (n : Name) : Type 0 where
  pub inside : n.place + n.size ≤ length field
  pub name : IsName (take n.size (drop n.place field))
