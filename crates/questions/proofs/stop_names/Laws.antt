-- The needs of the question for a name: those of `name_within` (for `search parts`), `stop_name` (`search stops`), `name_by` (`search names`) and `name` (`search plain`).
-- Assumes nothing.
use mathlib.Core.Path.{◌≡◌, refl, ap, ◌∙◌, sym}
use mathlib.Core.List.{List}
use mathlib.Core.Bool.{Bool, true, false, cond, not}
use mathlib.Core.Option.{none, some}
use mathlib.Core.Option as maybe
use Prim.Native.Nat.{ℕ, ◌+◌, ◌-◌, ◌^◌, ◌≤◌, ◌<◌}
use native.Mathlib.Nat.{add-sub_cancel_left}
use native.Mathlib.Omega.{arith}
use lib.ListN.{length, take, drop, length-take, length-drop}
use borrow.Author.Tests.{le-leb, lt-leb}
use Rattle.std.specs.Prelude.{Option, Some, None, Result, Ok, Err}
use Rattle.base.proofs.Laws.{tests, apart}
use Rattle.names.specs.Names.{askable, wanted_by, name_for}
use Rattle.names.specs.Inner.Answers.{chosen_by, asked_by}
use Rattle.names.specs.declared.Name.{Name}
use Rattle.names.specs.declared.Wanted.{Wanted}
use Rattle.names.proofs.Inside.{answer-is-part}
use Rattle.timetable.specs.Delivery.{StopRecord}
use Rattle.timetable.specs.Table.{used, is_table}
use Rattle.timetable.specs.View.{View}
use Rattle.timetable.specs.StopNames.{part_from, name_within, stop_name, stop_name_in, stop_name_asked}
use Rattle.timetable.specs.declared.NamePart.{NamePart}
use Rattle.timetable.specs.declared.refusal.Refusal.{Refusal}
use Rattle.timetable.specs.declared.refusal.Refusal.TheVariants.{NoTable, StopUnknown, NoNameList, NotAskable, NameOutside}
use Rattle.lookups.specs.Lookups.{name_place, name_in}
use Rattle.lookups.specs.declared.NamePlace.{NamePlace}
use Rattle.index.specs.Index.{view_in}
use Rattle.index.proofs.Quick.{asked-refused, asked-on, plain-words}

-- ---- a name in so many bytes from a place on; c is what the name list there answered

abbrev at : ℕ → ℕ → StopRecord
at offset size = record { number = 0; offset = offset; size = size }

abbrev part_of : ℕ → Option Name → Result NamePart Refusal
part_of offset None = Err NoNameList
part_of offset (Some n) = Ok (record { start = offset + n.place; size = n.size })

part-of : (offset : ℕ) (o : maybe.Option Name) → part_from offset o ≡ part_of offset (chosen_by o)
part-of offset none = refl
part-of offset (some n) = refl

is_some : (n : Name) (o : maybe.Option Name) → Some n ≡ chosen_by o → o ≡ some n
is_some n none k = apart (cc)
is_some n (some m) k = let z : n ≡ m = cc in rw z

module _ (b : List ℕ) (wanted : Wanted) (offset size : ℕ) where
  pub name-outside : length b < offset + size → Err NameOutside ≡ name_within b wanted (at offset size)
  name-outside h = rw (lt-leb (offset + size) (length b) h)

  module _ (h : offset + size ≤ length b) (c : Option Name) (e : c ≡ chosen_by (name_for wanted (take (offset + size - offset) (drop offset b)))) where
    chosen : c ≡ chosen_by (name_for wanted (take size (drop offset b)))
    chosen = rw add-sub_cancel_left at e

    within : name_within b wanted (at offset size) ≡ part_of offset c
    within = rw (le-leb (offset + size) (length b) h) (part-of offset (name_for wanted (take size (drop offset b))) ∙ ap (part_of offset) (sym chosen))

    pub name-no-list : c ≡ None → Err NoNameList ≡ name_within b wanted (at offset size)
    name-no-list g = sym (within ∙ ap (part_of offset) g)

    module _ (n : Name) (g : c ≡ Some n) where
      pub name-part : Ok (record { start = offset + n.place; size = n.size }) ≡ name_within b wanted (at offset size)
      name-part = sym (within ∙ ap (part_of offset) g)

      -- it ends where the bytes end, or before
      pub name_fits : length b < 2 ^ 64 → offset + n.place < 2 ^ 64
      name_fits l =
          let p = (answer-is-part (take size (drop offset b)) wanted n (is_some n (name_for wanted (take size (drop offset b))) (sym g ∙ chosen))).inside in
          omega (arith, p, length-take size (drop offset b), length-drop offset b)

pub ruleset parts = (tests, name-outside, name-no-list, name-part, name_fits)

-- ---- a stop; f is what its record says of its name

module _ (b : List ℕ) (wanted : Wanted) where
  by-record : (o : maybe.Option StopRecord) (p : NamePlace) → name_in o ≡ Some p → stop_name b wanted o ≡ name_within b wanted (at p.offset p.size)
  by-record none p e = apart (cc)
  by-record (some s) p e =
      let q : ◌≡◌ {A = NamePlace} (name_place s) p = cc in
      ap (λ (x : NamePlace). name_within b wanted (at x.offset x.size)) q

  by-none : (o : maybe.Option StopRecord) → name_in o ≡ None → stop_name b wanted o ≡ Err StopUnknown
  by-none none e = refl
  by-none (some s) e = apart (cc)

  -- o is its record
  module _ (o : maybe.Option StopRecord) (f : Option NamePlace) (e : f ≡ name_in o) where
    pub stop-unknown : f ≡ None → Err StopUnknown ≡ stop_name b wanted o
    stop-unknown g = sym (by-none o (sym e ∙ g))

    pub stop-placed : (p : NamePlace) → f ≡ Some p → (r : Result NamePart Refusal) → r ≡ name_within b wanted (at p.offset p.size) → r ≡ stop_name b wanted o
    stop-placed p g r k = k ∙ sym (by-record o p (sym e ∙ g))

pub ruleset stops = (tests, stop-unknown, stop-placed)

-- ---- a view; a is what is asked for

module _ (v : View) (b : List ℕ) (stop language kind : ℕ) (a : Option Wanted) (f : a ≡ asked_by language kind) where
  abbrev here : Wanted → Result NamePart Refusal
  here y = stop_name b y (v.named stop)

  outside : (t : Bool) (y : Wanted) → cond t (Some y) None ≡ None → cond t (here y) (Err NotAskable) ≡ Err NotAskable
  outside true y g = apart (cc)
  outside false y g = refl

  inside : (t : Bool) (y wanted : Wanted) → cond t (Some y) None ≡ Some wanted → cond t (here y) (Err NotAskable) ≡ here wanted
  inside true y wanted g = let z : y ≡ wanted = cc in rw z
  inside false y wanted g = apart (cc)

  pub not-asked : a ≡ None → Err NotAskable ≡ stop_name_in v b stop language kind
  unfolding stop_name_in
  not-asked g = sym (outside (askable language kind) (wanted_by language kind) (sym f ∙ g))

  pub name-asked : (wanted : Wanted) → a ≡ Some wanted → (r : Result NamePart Refusal) → r ≡ stop_name b wanted (v.named stop) → r ≡ stop_name_in v b stop language kind
  unfolding stop_name_in
  name-asked wanted g r k = k ∙ sym (inside (askable language kind) (wanted_by language kind) wanted (sym f ∙ g))

pub ruleset names = (tests, not-asked, name-asked)

-- ---- any words; t says whether they are a table

module _ (w b : List ℕ) (stop language kind : ℕ) (t : Bool) (e : t ≡ is_table w) where
  pub name-bare : not t ≡ true → Err NoTable ≡ stop_name_asked w b stop language kind
  unfolding stop_name_asked
  name-bare n = asked-refused w t e Err (λ (v : View). stop_name_in v b stop language kind) n

  pub name-plain : not t ≡ false → (u : List ℕ) → u ≡ used w → (x : List ℕ) → length x ≡ 0 → (r : Result NamePart Refusal) → r ≡ stop_name_in (view_in u x) b stop language kind → r ≡ stop_name_asked w b stop language kind
  unfolding stop_name_asked
  name-plain n u p x z r f = f ∙ asked-on w t e n u p x z Err (λ (v : View). stop_name_in v b stop language kind)

pub ruleset plain = (tests, plain-words, name-bare, name-plain)
