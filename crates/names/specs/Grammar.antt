-- The name field of a stop, as request No. 3 says its grammar; section 5.1 has the letters of languages. Assumes nothing.
use Rattle.std.specs.Prelude.{ℕ, ◌+◌, ◌<◌, ◌≡◌, List, [], ◌∷◌, ◌++◌, Bool, true, false, not, ◌&&◌, ◌||◌, length, leb, eqb}
use Rattle.base.specs.Lists.{every}
use Rattle.names.specs.declared.Name.{Name}

-- ---- bytes

-- "$"
abbrev pub dollar : ℕ
dollar = 36

-- "<"
abbrev pub opens : ℕ
opens = 60

-- ">"
abbrev pub closes : ℕ
closes = 62

-- "has no "$", "<" or ">""
abbrev pub is_plain : ℕ → Bool
is_plain b = not (eqb b dollar) && (not (eqb b opens) && not (eqb b closes))

-- a byte of a list
unfoldable pub among : ℕ → List ℕ → Bool
among b [] = false
among b (x ∷ xs) = eqb x b || among b xs

-- 5.1: d German, e English, f French, h Spanish, i Italian, j Japanese, n Dutch, o Norwegian, p Polish, s Swedish, t Turkish, u Hungarian,
-- w Danish, x Irish
abbrev pub languages : List ℕ
languages = 100 ∷ 101 ∷ 102 ∷ 104 ∷ 105 ∷ 106 ∷ 110 ∷ 111 ∷ 112 ∷ 115 ∷ 116 ∷ 117 ∷ 119 ∷ 120 ∷ []

-- "letters of its list for languages"
abbrev pub is_language : ℕ → Bool
is_language b = among b languages

-- "digits 1 to 9 for types"
abbrev pub is_type : ℕ → Bool
is_type b = leb 49 b && leb b 57

-- ---- what a reading gives

-- the letters and the digits of a pattern
pub record Pattern : Type 0 where
  pub letters : List ℕ
  pub digits : List ℕ

-- a name, by its place and its length in the field, and its patterns
pub record Named : Type 0 where
  pub name : Name
  pub patterns : List Pattern

abbrev pub named : ℕ → ℕ → List Pattern → Named
named at size ps = record { name = record { place = at; size = size }; patterns = ps }

-- ---- the grammar

-- "A name is not empty and has no "$", "<" or ">"."
pub record IsName (text : List ℕ) : Type 0 where
  pub filled : 0 < length text
  pub plain : every is_plain text ≡ true

-- "patterns, each "<", letters of its list for languages, then digits 1 to 9 for types, ">", with at least one letter or digit"
pub record IsPattern (text : List ℕ) (p : Pattern) : Type 0 where
  pub written : text ≡ opens ∷ (p.letters ++ (p.digits ++ (closes ∷ [])))
  pub letters : every is_language p.letters ≡ true
  pub digits : every is_type p.digits ≡ true
  pub filled : 0 < length p.letters + length p.digits

-- "A name list reads on into patterns, and patterns read on into a further name list": the text begins at place `at` of the field
mutual
  pub data IsNames : ℕ → List ℕ → List Named → Type 0 where
    -- the last name
    last_name : {at : ℕ} {n : List ℕ} → IsName n → IsNames at n (named at (length n) [] ∷ [])
    -- "names parted by "$""
    then-name : {at : ℕ} {n rest : List ℕ} {names : List Named} → IsName n → IsNames (at + (length n + 1)) rest names → IsNames at (n ++ (dollar ∷ rest)) (named at (length n) [] ∷ names)
    -- "after a name may come "$" and one or more patterns"
    then-patterns : {at : ℕ} {n rest : List ℕ} {ps : List Pattern} {names : List Named} → IsName n → IsPatterns (at + (length n + 1)) rest ps names → IsNames at (n ++ (dollar ∷ rest)) (named at (length n) ps ∷ names)

  -- the patterns of a name, and the names after them
  pub data IsPatterns : ℕ → List ℕ → List Pattern → List Named → Type 0 where
    -- the last pattern, and no further name
    last-pattern : {at : ℕ} {t : List ℕ} {p : Pattern} → IsPattern t p → IsPatterns at t (p ∷ []) []
    -- a further pattern
    more-patterns : {at : ℕ} {t rest : List ℕ} {p : Pattern} {ps : List Pattern} {names : List Named} → IsPattern t p → IsPatterns (at + length t) rest ps names → IsPatterns at (t ++ rest) (p ∷ ps) names
    -- "After the last pattern a "$" before the next name may be there or not."
    dollar-name : {at : ℕ} {t rest : List ℕ} {p : Pattern} {names : List Named} → IsPattern t p → IsNames (at + (length t + 1)) rest names → IsPatterns at (t ++ (dollar ∷ rest)) (p ∷ []) names
    name-at-once : {at : ℕ} {t rest : List ℕ} {p : Pattern} {names : List Named} → IsPattern t p → IsNames (at + length t) rest names → IsPatterns at (t ++ rest) (p ∷ []) names
