-- The needs of `is_name_list` and `name_for`, for `search answering`. Assumes nothing.
use mathlib.Core.Path.{◌≡◌, refl, sym, ap, ◌∙◌}
use mathlib.Core.List.{List, [], ◌∷◌}
use mathlib.Core.Bool.{Bool, true, false}
use mathlib.Core.Option.{Option, none, some}
use Prim.Native.Nat.{ℕ, ◌≤◌, ◌<◌}
use lib.ListN.{length, drop}
use borrow.Author.Tests.{le-leb, lt-leb}
use Rattle.base.specs.Lists.{find}
use Rattle.base.proofs.Laws.{tests, apart}
use Rattle.names.specs.Grammar.{dollar, is_plain, Named, IsNames, last_name, then-name, then-patterns}
use Rattle.names.specs.Names.{span, names_of, name_list, is_name_list, is_read, fitting, name_else, answer_by, name_for}
use Rattle.names.specs.Inner.Answers.{fit_by, found_in, chosen_by}
use Rattle.names.specs.declared.Name.{Name}
use Rattle.names.specs.declared.Wanted.{Wanted}
use Rattle.std.specs.Prelude.{Option as StdOption, Some, None, is_some}
use Rattle.names.proofs.Spans.{span-all, span-ends}
use Rattle.names.proofs.Reading.{reads-right}

-- ---- the first name of a reading

abbrev first_name : List Named → Option Name
first_name [] = none
first_name (n ∷ names) = some n.name

names-first : {at : ℕ} {text : List ℕ} {ns : List Named} → IsNames at text ns → first_name ns ≡ some (record { place = at; size = span is_plain text })
names-first (last_name {n = n} h) = rw (span-all is_plain n h.plain)
names-first (then-name {n = n} {rest = rest} h k) = rw (span-ends is_plain n dollar rest h.plain refl)
names-first (then-patterns {n = n} {rest = rest} h k) = rw (span-ends is_plain n dollar rest h.plain refl)

-- ---- what was found, and what is answered

module _ (w : Wanted) where
  fit-not-broken : (o : Option Named) → fit_by o ≡ None → ◌≡◌ {A = StdOption (StdOption Name)} None (Some None)
  fit-not-broken none e = sym e
  fit-not-broken (some n) e = apart (cc)

  broken-none : (o : Option (List Named)) → found_in w o ≡ None → o ≡ none
  unfolding found_in
  broken-none none e = refl
  broken-none (some ns) e = apart (let b : ◌≡◌ {A = StdOption (StdOption Name)} None (Some None) = fit-not-broken (find (fitting w) ns) e in cc)

  fit-some : (o : Option Named) → is_some (fit_by o) ≡ true
  fit-some none = refl
  fit-some (some n) = refl

  read-some : (o : Option (List Named)) → is_read o ≡ is_some (found_in w o)
  unfolding found_in
  read-some none = refl
  read-some (some ns) = sym (fit-some (find (fitting w) ns))

  answer-fits : (o : Option (List Named)) (n : Name) → found_in w o ≡ Some (Some n) → answer_by w o ≡ some n
  unfolding found_in find
  answer-fits none n e = apart (cc)
  answer-fits (some []) n e = apart (cc)
  answer-fits (some (m ∷ ns)) n e = go (find (fitting w) (m ∷ ns)) e
    where
      go : (x : Option Named) → fit_by x ≡ Some (Some n) → some (name_else x m) ≡ some n
      go none k = apart (cc)
      go (some y) k = cc

  answer-first : (o : Option (List Named)) (first : Name) → ((ns : List Named) → o ≡ some ns → first_name ns ≡ some first) → found_in w o ≡ Some None → answer_by w o ≡ some first
  unfolding found_in
  answer-first none first h e = apart (cc)
  answer-first (some []) first h e = h [] refl
  answer-first (some (m ∷ ns)) first h e = go (find (fitting w) (m ∷ ns)) e ∙ h (m ∷ ns) refl
    where
      go : (x : Option Named) → fit_by x ≡ Some None → some (name_else x m) ≡ some m.name
      go none k = refl
      go (some y) k = apart (cc)

-- ---- the field

module _ (f : List ℕ) where
  pub too_long : 50 < length f → false ≡ is_name_list f
  unfolding name_list
  too_long h = rw (lt-leb (length f) 50 h)

  module _ (l : length f ≤ 50) where
    as_read : name_list f ≡ names_of 0 f
    unfolding name_list
    as_read = rw (le-leb (length f) 50 l)

    module _ (w : Wanted) (x : StdOption (StdOption Name)) (e : x ≡ found_in w (names_of 0 (drop 0 f))) where
      pub list-read : (t : Bool) → t ≡ is_some x → t ≡ is_name_list f
      list-read t k = sym (rw as_read (read-some w (names_of 0 f) ∙ ap is_some (sym e) ∙ sym k))

      pub answer-no-list : x ≡ None → None ≡ chosen_by (name_for w f)
      unfolding name_for
      answer-no-list k = sym (rw (as_read, broken-none w (names_of 0 f) (sym e ∙ k)))

      pub answer-fitting : (n : Name) → x ≡ Some (Some n) → Some n ≡ chosen_by (name_for w f)
      unfolding name_for
      answer-fitting n k = sym (rw (as_read, answer-fits w (names_of 0 f) n (sym e ∙ k)))

      pub answer-default : x ≡ Some None → (first : Name) → first ≡ record { place = 0; size = span is_plain f } → Some first ≡ chosen_by (name_for w f)
      unfolding name_for
      answer-default k first g =
          let h : (ns : List Named) → names_of 0 f ≡ some ns → first_name ns ≡ some first = λ ns y. names-first (reads-right 0 f ns y) ∙ ap (λ (n : Name). some n) (sym g) in
          sym (rw (as_read, answer-first w (names_of 0 f) first h (sym e ∙ k)))

pub answer-too-long : (f : List ℕ) (w : Wanted) → 50 < length f → None ≡ chosen_by (name_for w f)
unfolding name_for name_list
answer-too-long f w h = rw (lt-leb (length f) 50 h)

pub ruleset answering = (tests, too_long, list-read, answer-too-long, answer-no-list, answer-fitting, answer-default)
