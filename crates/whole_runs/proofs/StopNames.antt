-- The question for a stop's name: of any words and bytes the answer is a name inside the bytes (`name-in-bytes`), a refusal has a number of at least 1
-- (`name-numbered`); of an accepted delivery the answer is the stop's own line's (`own_name`), and only 40 and 27 are left (`name-refusals`).
-- specs/StopNames.antt states it. Assumes nothing.
use mathlib.Core.Path.{◌≡◌, refl, sym, ap, ◌∙◌, subst}
use mathlib.Core.List.{List, []}
use mathlib.Core.Bool.{Bool, true, false, cond}
use mathlib.Core.Option.{Option, none, some}
use Prim.Native.Nat.{ℕ, ◌+◌, ◌-◌, ◌≤◌}
use native.Mathlib.Omega.{arith}
use lib.ListN.{length, drop, get_elem?, length-take}
use lib.Dec.{eqb}
use borrow.Author.Tests.{leb-true, eqb-true}
use Rattle.std.specs.Prelude.{Ok, Err}
use Rattle.base.proofs.Laws.{apart}
use Rattle.columns.specs.Columns.{columns, number as number_in}
use Rattle.forms.specs.Form.{form_of}
use Rattle.forms.specs.Columns.{stop_columns}
use Rattle.lines.specs.Lines.{Line, lines_of, skipped}
use Rattle.names.specs.Names.{askable, wanted_by, name_for}
use Rattle.names.specs.declared.Name.{Name}
use Rattle.names.specs.declared.Wanted.{Wanted}
use Rattle.names.proofs.Inside.{list-answers, answer-is-part}
use Rattle.timetable.specs.Delivery.{Files, StopRecord}
use Rattle.timetable.specs.Files.{held, has_stop, stop_of, stop_line_offence, stops_first}
use Rattle.names.specs.NameField.{name_length, name_field}
use Rattle.timetable.specs.Load.{delivered, loaded, written}
use Rattle.timetable.specs.Table.{table_of, is_table}
use Rattle.timetable.specs.View.{stop_numbered}
use Rattle.timetable.specs.StopNames.{name_inside, name_bytes, part_from, name_within, stop_name, stop_name_in, stop_name_asked}
use Rattle.timetable.specs.declared.Loaded.TheVariants.{Accepted}
use Rattle.timetable.specs.declared.refusal.Refusal.{Refusal}
use Rattle.timetable.specs.Refusals.{number_of}
use Rattle.timetable.proofs.Numbered.{numbered}
use Rattle.timetable.specs.declared.refusal.Refusal.TheVariants.{NoTable, StopUnknown, NoNameList, NotAskable, NameOutside}
use Rattle.whole_runs.specs.StopNames.{InBytes, OwnName, NameRefused, outside_list, unknown_stop}
use Rattle.whole_runs.proofs.Lists.{all-elem}
use Rattle.whole_runs.proofs.Clear.{clear}
use Rattle.whole_runs.proofs.Accepted.{no-offence, table_is, table-holds}
use Rattle.whole_runs.proofs.StopLines.{part-part, PartOf, lines-parts, few, name-end, in-text, name-is, name-there, find-line, some-found, none_found, each_none, held-is, line-named}

-- ---- any words, any bytes

module _ (w b : List ℕ) (stop language type : ℕ) where
  abbrev wanted : Wanted
  wanted = wanted_by language type

  -- The answer is a name inside the bytes given.
  pub name-in-bytes : InBytes b (stop_name_asked w b stop language type)
  unfolding stop_name_asked stop_name_in
  name-in-bytes = go (is_table w) (askable language type) (stop_numbered stop (table_of w).stops)
    where
      found : (s : StopRecord) (t : Bool) → name_inside b s ≡ t → (o : Option Name) → name_for wanted (name_bytes b s) ≡ o → InBytes b (cond t (part_from s.offset o) (Err NameOutside))
      found s false q o e = tt
      found s true q none e = tt
      found s true q (some n) e =
          let p = answer-is-part (name_bytes b s) wanted n e in
          let h = leb-true (s.offset + s.size) (length b) q in
          let k : n.place + n.size ≤ s.size = omega (arith, p.inside, length-take s.size (drop s.offset b)) in
          (omega arith, rw (part-part n.size n.place s.size s.offset b k) at p.name)

      go : (x y : Bool) (o : Option StopRecord) → InBytes b (cond x (cond y (stop_name b wanted o) (Err NotAskable)) (Err NoTable))
      go false y o = tt
      go true false o = tt
      go true true none = tt
      go true true (some s) = found s (name_inside b s) refl (name_for wanted (name_bytes b s)) refl

  pub name-numbered : (refusal : Refusal) → stop_name_asked w b stop language type ≡ Err refusal → 1 ≤ number_of refusal
  name-numbered refusal e = numbered refusal

-- ---- an accepted delivery

module _ (f : Files) (t : List ℕ) (helper u : ℕ) (e : loaded f (length t) helper ≡ Accepted u) (stop language type : ℕ) where
  asked_of : stop_name_asked (written f t helper) f.bahnhof stop language type ≡ cond (askable language type) (stop_name f.bahnhof (wanted_by language type) (stop_numbered stop (delivered f).stops)) (Err NotAskable)
  unfolding stop_name_asked stop_name_in
  asked_of = rw (table_is f t helper u e, table-holds f t helper u e)

  -- by the line that the stop's record stands on
  by-line : askable language type ≡ true → (s : StopRecord) → stop_numbered stop (delivered f).stops ≡ some s → s.number ≡ stop
      → (i : ℕ) (l : Line) → get_elem? (lines_of f.bahnhof) i ≡ some l → stop_of l ≡ held s → PartOf f.bahnhof l
      → (n : Name) → name_for (wanted_by language type) (name_field l.text) ≡ some n
      → OwnName f.bahnhof stop language type (stop_name_asked (written f t helper) f.bahnhof stop language type)
  by-line a s found numbered i l there holds part n answer =
      let same : record { number = number_in (columns 1 7 l.text); offset = l.start + 12; size = name_length (columns 13 62 l.text) } ≡ s = held-is (skipped l.text) (form_of stop_columns l.text) _ s holds in
      let end = name-end f.bahnhof l part (wanted_by language type) n answer in
      let room = few f.bahnhof l part (wanted_by language type) n answer in
      let inside = in-text f.bahnhof l part (wanted_by language type) n answer in
      record {
        index = i;
        line = l;
        there = there;
        holds = holds ∙ ap held (sym same) ∙ ap (λ (x : ℕ). held (record { number = x; offset = l.start + 12; size = name_length (columns 13 62 l.text) })) (ap (λ (x : StopRecord). x.number) same ∙ numbered);
        name = n;
        asked = answer;
        answer =
            asked_of ∙ ap (λ (x : Bool). cond x (stop_name f.bahnhof (wanted_by language type) (stop_numbered stop (delivered f).stops)) (Err NotAskable)) a ∙ ap (stop_name f.bahnhof (wanted_by language type)) found
            ∙ ap (name_within f.bahnhof (wanted_by language type)) (sym same) ∙ name-is f.bahnhof l part (wanted_by language type) n answer (number_in (columns 1 7 l.text));
        in_columns = omega (arith, end, room);
        in_line = omega (arith, end, inside);
        bytes = name-there f.bahnhof l part (wanted_by language type) n answer;
      }

  -- The answer is the name that the stop's own line has in columns 13-62.
  pub own_name : askable language type ≡ true → has_stop stop (delivered f).stops ≡ true → OwnName f.bahnhof stop language type (stop_name_asked (written f t helper) f.bahnhof stop language type)
  unfolding delivered stops_first
  own_name a k =
      let is : StopRecord → Bool = λ (s : StopRecord). eqb s.number stop in
      let (s, found) = some-found stop_of is (delivered f).stops k in
      let on = find-line stop_of is (lines_of f.bahnhof) s found in
      let part = all-elem (PartOf f.bahnhof) (lines_of f.bahnhof) on.index on.line (lines-parts f.bahnhof) on.there in
      let (before, clean) = all-elem (λ (l : Line). (b : List Line) × (stop_line_offence b l ≡ none)) (lines_of f.bahnhof) on.index on.line (each_none stop_line_offence [] (lines_of f.bahnhof) (clear f (no-offence f t helper u e)).stops) on.there in
      let (n, answer) = list-answers (wanted_by language type) (name_field on.line.text) (line-named before on.line s clean on.holds) in
      by-line a s found (eqb-true s.number stop on.fits) on.index on.line on.there on.holds part n answer

  -- Of the refusals only 40 and 27 are left, each exactly for its reason.
  pub name-refusals : (refusal : Refusal) → stop_name_asked (written f t helper) f.bahnhof stop language type ≡ Err refusal → NameRefused (delivered f).stops stop language type refusal
  name-refusals refusal k = go (askable language type) refl (has_stop stop (delivered f).stops) refl
    where
      go : (a : Bool) → askable language type ≡ a → (h : Bool) → has_stop stop (delivered f).stops ≡ h → NameRefused (delivered f).stops stop language type refusal
      go false p h q =
          let z : Err refusal ≡ Err NotAskable = sym k ∙ asked_of ∙ ap (λ (x : Bool). cond x (stop_name f.bahnhof (wanted_by language type) (stop_numbered stop (delivered f).stops)) (Err NotAskable)) p in
          let y : ◌≡◌ {A = Refusal} NotAskable refusal = cc in
          subst (NameRefused (delivered f).stops stop language type) y (outside_list p)
      go true p false q =
          let z : Err refusal ≡ Err StopUnknown =
          sym k ∙ asked_of ∙ ap (λ (x : Bool). cond x (stop_name f.bahnhof (wanted_by language type) (stop_numbered stop (delivered f).stops)) (Err NotAskable)) p
          ∙ ap (stop_name f.bahnhof (wanted_by language type)) (none_found (λ (s : StopRecord). eqb s.number stop) (delivered f).stops q) in
          let y : ◌≡◌ {A = Refusal} StopUnknown refusal = cc in
          subst (NameRefused (delivered f).stops stop language type) y (unknown_stop p q)
      go true p true q = let z : Err refusal ≡ Ok _ = sym k ∙ (own_name p q).answer in apart (cc)
