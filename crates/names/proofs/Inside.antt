-- An answer is a part of the field, and a name (`answer-is-part`); a name list has an answer for every question (`list-answers`). Assumes nothing.
use mathlib.Core.Path.{◌≡◌, refl, sym, ap, ◌∙◌}
use mathlib.Core.List.{List, [], ◌∷◌, ◌++◌, append-nil}
use mathlib.Core.Bool.{Bool, true, false, cond}
use mathlib.Core.Option.{Option, none, some}
use Prim.Native.Nat.{ℕ, zero, suc, ◌+◌, ◌≤◌, ◌<◌}
use native.Mathlib.Omega.{arith}
use lib.ListN.{length, drop, length-append, length-drop}
use lib.Seq.{drop-drop, drop-append-add, drop-append_seam, take-append_seam}
use Rattle.base.specs.Lists.{All, nil, cons, find}
use Rattle.base.proofs.Laws.{apart, clash}
use Rattle.names.specs.Grammar.{dollar, Pattern, Named, IsName, IsNames, IsPatterns, last_name, then-name, then-patterns, last-pattern, more-patterns, dollar-name, name-at-once}
use Rattle.names.specs.Names.{name_list, is_read, is_name_list, fitting, name_else, answer_by, name_for, IsPart}
use Rattle.names.specs.declared.Name.{Name}
use Rattle.names.specs.declared.Wanted.{Wanted}
use Rattle.names.proofs.Spans.{inside}
use Rattle.names.proofs.Reading.{field-right, names-filled, patterns-front, shorter, less}

module _ (f : List ℕ) where
  abbrev Part : Named → Type 0
  Part n = IsPart f n.name

  abbrev NamesIn : ℕ → Type 0
  NamesIn left = (at : ℕ) (text : List ℕ) (ns : List Named) → IsNames at text ns → text ≡ drop at f → length text ≤ left → All Part ns

  abbrev PatternsIn : ℕ → Type 0
  PatternsIn left = (at : ℕ) (text : List ℕ) (ps : List Pattern) (ns : List Named) → IsPatterns at text ps ns → text ≡ drop at f → length text ≤ left → All Part ns

  -- a name at the front of the text from `at` on
  part-is : (at : ℕ) (n rest : List ℕ) → n ++ rest ≡ drop at f → IsName n → IsPart f (record { place = at; size = length n })
  part-is at n rest e h = record {
    inside = omega (arith, h.filled, length-drop at f, length-append n rest, ap length e);
    name = rw (← e, take-append_seam) h;
  }

  behind-dollar : (at : ℕ) (n rest : List ℕ) → n ++ (dollar ∷ rest) ≡ drop at f → rest ≡ drop (at + (length n + 1)) f
  behind-dollar at n rest e = sym (sym (drop-drop (length n + 1) at f) ∙ rw (← e) (drop-append-add n (dollar ∷ rest) 1))

  behind : (at : ℕ) (t rest : List ℕ) → t ++ rest ≡ drop at f → rest ≡ drop (at + length t) f
  behind at t rest e = sym (sym (drop-drop (length t) at f) ∙ rw (← e) (drop-append_seam t rest))

  names_in : (left : ℕ) → NamesIn left → PatternsIn left → NamesIn (suc left)
  names_in left g h at _ _ (last_name {n = n} k) e l = cons (part-is at n [] (append-nil n ∙ e) k) nil
  names_in left g h at _ _ (then-name {n = n} {rest = rest} {names = ns} k m) e l =
      cons (part-is at n (dollar ∷ rest) e k) (g (at + (length n + 1)) rest ns m (behind-dollar at n rest e) (shorter n dollar rest left l))
  names_in left g h at _ _ (then-patterns {n = n} {rest = rest} {ps = ps} {names = ns} k m) e l =
      cons (part-is at n (dollar ∷ rest) e k) (h (at + (length n + 1)) rest ps ns m (behind-dollar at n rest e) (shorter n dollar rest left l))

  patterns-in : (left : ℕ) → NamesIn left → PatternsIn left → PatternsIn (suc left)
  patterns-in left g h at _ _ _ (last-pattern {t = t} {p = p} k) e l = nil
  patterns-in left g h at _ _ _ (more-patterns {t = t} {rest = rest} {p = p} {ps = ps} {names = ns} k m) e l =
      h (at + length t) rest ps ns m (behind at t rest e) (less t rest p k left l)
  patterns-in left g h at _ _ _ (dollar-name {t = t} {rest = rest} {p = p} {names = ns} k m) e l =
      g (at + (length t + 1)) rest ns m (behind-dollar at t rest e) (shorter t dollar rest left l)
  patterns-in left g h at _ _ _ (name-at-once {t = t} {rest = rest} {p = p} {names = ns} k m) e l =
      g (at + length t) rest ns m (behind at t rest e) (less t rest p k left l)

  mutual
    names-parts : (left : ℕ) → NamesIn left
    names-parts zero = λ at text ns k e l. absurd (omega (arith, names-filled k))
    names-parts (suc left) = names_in left (names-parts left) (patterns-parts left)

    patterns-parts : (left : ℕ) → PatternsIn left
    patterns-parts zero = λ at text ps ns k e l. absurd (omega (arith, inside text 0 59 (patterns-front k)))
    patterns-parts (suc left) = patterns-in left (names-parts left) (patterns-parts left)

  -- every name of a reading
  pub names-are-parts : (ns : List Named) → name_list f ≡ some ns → All Part ns
  names-are-parts ns e = names-parts (length f) 0 f ns (field-right f ns e).1 refl (omega arith)

  found_part : (t : Named → Bool) (ns : List Named) → All Part ns → (n : Named) → find t ns ≡ some n → Part n
  unfolding find
  found_part t _ nil n e = apart (cc)
  found_part t _ (cons {x = x} {xs = xs} p ps) n e = go (found_part t xs ps n) (t x) e
    where
      go : (find t xs ≡ some n → Part n) → (s : Bool) → cond s (some x) (find t xs) ≡ some n → Part n
      go ih true k =
          let q : x ≡ n = cc in
          rw (← q) p
      go ih false k = ih k

  -- the answer
  pub answer-is-part : (w : Wanted) (n : Name) → name_for w f ≡ some n → IsPart f n
  unfolding name_for
  answer-is-part w n e = go (name_list f) refl e
    where
      pick : (ns : List Named) (m : Named) → All Part (m ∷ ns) → (o : Option Named) → find (fitting w) (m ∷ ns) ≡ o → IsPart f (name_else o m)
      pick ns m (cons p ps) none k = p
      pick ns m (cons p ps) (some y) k = found_part (fitting w) (m ∷ ns) (cons p ps) y k

      go : (o : Option (List Named)) → name_list f ≡ o → answer_by w o ≡ some n → IsPart f n
      go none k h = apart (cc)
      go (some []) k h = apart (cc)
      go (some (m ∷ ns)) k h =
          let q : name_else (find (fitting w) (m ∷ ns)) m ≡ n = cc in
          rw (← q) (pick ns m (names-are-parts (m ∷ ns) k) (find (fitting w) (m ∷ ns)) refl)

-- ---- a name list has a name for every question

some-name : {at : ℕ} {text : List ℕ} {ns : List Named} → IsNames at text ns → 0 < length ns
some-name (last_name h) = omega arith
some-name (then-name h k) = omega arith
some-name (then-patterns h k) = omega arith

pub list-answers : (w : Wanted) (field : List ℕ) → is_name_list field ≡ true → (n : Name) × (name_for w field ≡ some n)
unfolding name_for
list-answers w field h = go (name_list field) refl h
  where
    go : (o : Option (List Named)) → name_list field ≡ o → is_read o ≡ true → (n : Name) × (answer_by w o ≡ some n)
    go none q h = clash h
    go (some []) q h = absurd (omega (arith, some-name (field-right field [] q).1))
    go (some (m ∷ ns)) q h = (name_else (find (fitting w) (m ∷ ns)) m, refl)
