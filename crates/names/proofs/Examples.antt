-- Worked examples: the standard's own (5.1), and the edges of the grammar. Assumes nothing.
use Prim.Native.Nat.{ℕ}
use mathlib.Core.Path.{◌≡◌, refl}
use mathlib.Core.List.{List, [], ◌∷◌, ◌++◌}
use mathlib.Core.Bool.{true, false}
use mathlib.Core.Option.{Option, none, some}
use lib.ListN.{length, take, drop}
use Rattle.base.specs.Lists.{some_of, find}
use Rattle.base.specs.Text.{bytes}
use Rattle.names.specs.Grammar.{among, languages}
use Rattle.names.specs.Names.{span, closed, body_of, body_size, has_pattern, pattern_of, pattern_size, names_from, patterns_from, name_list, is_name_list, askable, wanted_by, allows, fits, name_for}
use Rattle.names.specs.declared.Name.{Name}

-- the bytes of the name that a language and a type ask for; none where the field is no name list
abbrev part : List ℕ → Option Name → List ℕ
part field none = []
part field (some n) = take n.size (drop n.place field)

unfoldable pub asked : ℕ → ℕ → List ℕ → List ℕ
asked language type field = part field (name_for (wanted_by language type) field)

abbrev german : ℕ
german = 100

abbrev english : ℕ
english = 101

abbrev french : ℕ
french = 102

abbrev dutch : ℕ
dutch = 110

abbrev irish : ℕ
irish = 120

-- "Possible language codes"
pub letters : languages ≡ bytes "defhijnopstuwx"
unfolding bytes
letters = refl

-- ---- 8800002: the default is French by no pattern; "ü" is byte 129 of the IBM character set

abbrev bruxelles : List ℕ
bruxelles = bytes "Bruxelles-Nord$Br" ++ (129 ∷ bytes "ssel Nord$<d>$Brussel Noord$<n>")

pub stop-8800002 : (length bruxelles ≡ 49)
    × (asked german 0 bruxelles ≡ bytes "Br" ++ (129 ∷ bytes "ssel Nord"))
    × (asked dutch 0 bruxelles ≡ bytes "Brussel Noord")
    × (asked french 0 bruxelles ≡ bytes "Bruxelles-Nord")
    × (asked dutch 7 bruxelles ≡ bytes "Brussel Noord")
    × (asked 0 0 bruxelles ≡ bytes "Br" ++ (129 ∷ bytes "ssel Nord"))
unfolding asked bytes span closed body_of body_size has_pattern pattern_of pattern_size names_from patterns_from name_list allows fits name_for some_of find among
stop-8800002 = (refl, refl, refl, refl, refl, refl)

-- ---- 8833001: 52 bytes; columns 13 to 62 end in "$<f"

abbrev louvain : List ℕ
louvain = bytes "Louvain [B]$<f>$Leuven [B]$<n>$Louvain$<f2>Louv$<f1>"

pub stop-8833001 : (length louvain ≡ 52)
    × (is_name_list louvain ≡ false)
    × (take 50 louvain ≡ bytes "Louvain [B]$<f>$Leuven [B]$<n>$Louvain$<f2>Louv$<f")
    × (is_name_list (take 50 louvain) ≡ false)
    × (is_name_list (take 47 louvain) ≡ true)
unfolding bytes span closed body_of body_size has_pattern pattern_of pattern_size names_from patterns_from name_list among
stop-8833001 = (refl, refl, refl, refl, refl)

-- ---- 1234567: "AAAA" is German with types 1 and 2, French with 2 and 3; "BBBB" English and French with type 1

abbrev aaaa : List ℕ
aaaa = bytes "AAAA$<d12><f23>$BBBB$<e1><f1>"

-- French with type 1 is "BBBB": of "AAAA" one pattern has the language and another the type
pub stop-1234567 : (asked german 1 aaaa ≡ bytes "AAAA")
    × (asked french 2 aaaa ≡ bytes "AAAA")
    × (asked french 3 aaaa ≡ bytes "AAAA")
    × (asked french 1 aaaa ≡ bytes "BBBB")
    × (asked english 1 aaaa ≡ bytes "BBBB")
    × (asked english 0 aaaa ≡ bytes "BBBB")
    × (asked english 2 aaaa ≡ bytes "AAAA")
    × (asked dutch 0 aaaa ≡ bytes "AAAA")
unfolding asked bytes span closed body_of body_size has_pattern pattern_of pattern_size names_from patterns_from name_list allows fits name_for some_of find among
stop-1234567 = (refl, refl, refl, refl, refl, refl, refl, refl)

-- ---- 7654321: "used in any language, but have different types"

abbrev cccc : List ℕ
cccc = bytes "CCCC$<12>$DDDD$<34>"

pub stop-7654321 : (asked german 1 cccc ≡ bytes "CCCC")
    × (asked irish 2 cccc ≡ bytes "CCCC")
    × (asked german 3 cccc ≡ bytes "DDDD")
    × (asked 0 4 cccc ≡ bytes "DDDD")
    × (asked 0 5 cccc ≡ bytes "CCCC")
unfolding asked bytes span closed body_of body_size has_pattern pattern_of pattern_size names_from patterns_from name_list allows fits name_for some_of find among
stop-7654321 = (refl, refl, refl, refl, refl)

-- ---- the edges of the grammar

pub right : (is_name_list (bytes "A") ≡ true)
    × (is_name_list (bytes "A$<d>B") ≡ true)
    × (is_name_list (bytes "A$<d>$B") ≡ true)
    × (is_name_list (bytes "A$<d><e>B$C$<1>") ≡ true)
    × (is_name_list (bytes "A$<dd>") ≡ true)
    × (is_name_list (bytes "A$<d11>") ≡ true)
    × (is_name_list (bytes "A$ $B") ≡ true)
    × (is_name_list (bytes "A$<d> ") ≡ true)
unfolding bytes span closed body_of body_size has_pattern pattern_of pattern_size names_from patterns_from name_list among
right = (refl, refl, refl, refl, refl, refl, refl, refl)

pub wrong : (is_name_list (bytes "") ≡ false)
    × (is_name_list (bytes "A$") ≡ false)
    × (is_name_list (bytes "$A") ≡ false)
    × (is_name_list (bytes "A$$B") ≡ false)
    × (is_name_list (bytes "A<d>") ≡ false)
    × (is_name_list (bytes "<d>") ≡ false)
    × (is_name_list (bytes "A$<d>$") ≡ false)
    × (is_name_list (bytes "A$<d>$<e>") ≡ false)
    × (is_name_list (bytes "A$<>") ≡ false)
    × (is_name_list (bytes "A$<1d>") ≡ false)
    × (is_name_list (bytes "A$<d0>") ≡ false)
    × (is_name_list (bytes "A$<a>") ≡ false)
    × (is_name_list (bytes "A$<D>") ≡ false)
    × (is_name_list (bytes "A$<d") ≡ false)
    × (is_name_list (bytes "A>") ≡ false)
    × (is_name_list (bytes "A$<d>>") ≡ false)
unfolding bytes span closed body_of body_size has_pattern pattern_of pattern_size names_from patterns_from name_list among
wrong = (refl, refl, refl, refl, refl, refl, refl, refl, refl, refl, refl, refl, refl, refl, refl, refl)

-- a name without patterns is answered only as the first; 0 fits every pattern
pub first-of-several : (asked 0 0 (bytes "A$B$<e>$C") ≡ bytes "B")
    × (asked german 0 (bytes "A$B$<e>$C") ≡ bytes "A")
    × (asked english 9 (bytes "A$B$<d><e>$C$<e>") ≡ bytes "B")
unfolding asked bytes span closed body_of body_size has_pattern pattern_of pattern_size names_from patterns_from name_list allows fits name_for some_of find among
first-of-several = (refl, refl, refl)

-- what may be asked
pub askables : (askable 0 0 ≡ true)
    × (askable irish 9 ≡ true)
    × (askable 97 1 ≡ false)
    × (askable 68 1 ≡ false)
    × (askable german 10 ≡ false)
    × (askable 356 1 ≡ false)
unfolding among
askables = (refl, refl, refl, refl, refl, refl)
