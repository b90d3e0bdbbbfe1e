-- What the code answers, for its contracts. Nobody has to believe this file. Assumes nothing.
use Rattle.std.specs.Prelude.{ℕ, ◌+◌, List, ◌∷◌, Bool, true, false, cond, get_or, eqb, Option as StdOption, Some, None}
use Rattle.std.proofs.Math.Option.{Option, none, some}
use Rattle.base.specs.Lists.{find}
use Rattle.names.specs.Grammar.{dollar, is_plain, is_language, is_type, Named}
use Rattle.names.specs.Names.{closed, body_of, body_size, has_pattern, pattern_of, pattern_size, Tail, askable, wanted_by, fits, fitting}
use Rattle.names.specs.declared.Name.{Name}
use Rattle.names.specs.declared.Wanted.{Wanted}
use Rattle.names.specs.declared.PatternRead.{PatternRead}
use Rattle.names.specs.declared.NameByte.{NameByte}
use Rattle.names.specs.declared.NameByte.TheVariants.{Plain, Letter, Digit}

-- ---- of the crate's public functions

-- the name, if the field is a name list
abbrev pub chosen_by : Option Name → StdOption Name
chosen_by none = None
chosen_by (some n) = Some n

-- what is asked for, if both are on the standard's list
abbrev pub asked_by : ℕ → ℕ → StdOption Wanted
asked_by language type = cond (askable language type) (Some (wanted_by language type)) None

-- ---- of the inner ones

abbrev pub is_of : NameByte → ℕ → Bool
is_of Plain b = is_plain b
is_of Letter b = is_language b
is_of Digit b = is_type b

-- the first fitting name, if one fits: what is read on is right
abbrev pub fit_by : Option Named → StdOption (StdOption Name)
fit_by none = Some None
fit_by (some n) = Some (Some n.name)

-- of names that were read
unfoldable pub found_in : Wanted → Option (List Named) → StdOption (StdOption Name)
found_in w none = None
found_in w (some names) = fit_by (find (fitting w) names)

-- of a name whose patterns were read, and of the names behind them
unfoldable pub found_behind : Wanted → Name → Option Tail → StdOption (StdOption Name)
found_behind w name none = None
found_behind w name (some t) = fit_by (find (fitting w) (record { name = name; patterns = t.patterns } ∷ t.names))

-- a name before what reading on tells, which must be right
abbrev pub before_by : Name → StdOption (StdOption Name) → StdOption (StdOption Name)
before_by name None = None
before_by name (Some later) = Some (Some name)

-- if its pattern fits
abbrev pub first_of : Bool → Name → StdOption (StdOption Name) → StdOption (StdOption Name)
first_of true name onward = before_by name onward
first_of false name onward = onward

-- the pattern at the front of a text that begins at place `at`
unfoldable pub pattern_answer : Wanted → ℕ → List ℕ → StdOption PatternRead
pattern_answer w at text = cond (has_pattern text) (Some (record { end = at + pattern_size text; is_fit = fits w (pattern_of text) })) None

-- what stands behind "<", from place `at` on
unfoldable pub behind_answer : Wanted → ℕ → List ℕ → StdOption PatternRead
behind_answer w at body = cond (closed body) (Some (record { end = at + body_size body; is_fit = fits w (body_of body) })) None

-- where the next name begins behind a pattern that ends at `end`
abbrev pub next_name : List ℕ → ℕ → ℕ
next_name field end = cond (eqb (get_or field end 0) dollar) (end + 1) end
