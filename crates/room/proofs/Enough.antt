-- So many words are enough: specs/Room.antt states it. Assumes nothing.
use mathlib.Core.Path.{◌≡◌, refl, sym, ap, ◌∙◌}
use mathlib.Core.List.{List, [], ◌∷◌, ◌++◌, map}
use mathlib.Core.Bool.{Bool, true, false, cond}
use mathlib.Core.Option.{Option, none, some}
use Prim.Native.Nat.{ℕ, ◌+◌, ◌-◌, ◌*◌, ◌/◌, ◌≤◌, ◌<◌}
use native.Mathlib.Omega.{arith}
use lib.ListN.{length}
use lib.Dec.{ltb, eqb}
use borrow.Author.Tests.{ltb-true, ltb-false}
use Rattle.base.specs.Lists.{All, every, gathered}
use Rattle.base.proofs.Laws.{apart, clash, by-ltb}
use Rattle.columns.specs.Columns.{columns, is_hex, number}
use Rattle.bitfield.specs.BitField.{bits_in}
use Rattle.columns.proofs.Laws.{every-long}
use Rattle.forms.specs.Form.{form_of, Fits}
use Rattle.forms.specs.Columns.{bit_field_columns, stop_columns, interchange_columns, class_columns}
use Rattle.forms.proofs.Laws.{row-holds}
use Rattle.lines.specs.Lines.{Line, lines_of}
use Rattle.timetable.specs.Layout.{header_size, bit_field_size, stop_size, interchange_size, class_size, most_file_bytes}
use Rattle.timetable.specs.Delivery.{Files, Delivery}
use Rattle.timetable.specs.Files.{bit_fields_in, stops_in, interchanges_in, classes_in}
use Rattle.timetable.specs.Offences.{◌<|>◌}
use Rattle.timetable.specs.Service.{blocks, service_of}
use Rattle.timetable.specs.Table.{service_words, sections, table_words}
use Rattle.timetable.specs.Load.{delivered, Where, length_offence, content_offence, offence, loaded, refused_or, short_or, helper_needed, too_long}
use Rattle.timetable.specs.declared.Loaded.{Loaded}
use Rattle.timetable.specs.declared.Loaded.TheVariants.{Accepted, Refused}
use Rattle.timetable.proofs.Offences.{then-none, given-none, in-none}
use Rattle.whole_runs.proofs.Accepted.{Sound, clear-sound}
use Rattle.whole_runs.proofs.Back.{words-length, sections-length}
use Rattle.whole_runs.proofs.Clear.{Clear, Fair, clear}
use Rattle.whole_runs.proofs.OldTable.{words_same}
use Rattle.whole_runs.proofs.Numbers.{content-not-20, length-not-20}
use Rattle.room.specs.Room.{bit_field_least, stop_least, interchange_least, class_least, plan_least, plan_line_size, counted, share, room_for, Enough}
use Rattle.room.proofs.Bytes.{lines-bytes, count_long, filled-long, file-bytes}
use Rattle.room.proofs.Told.{plan-words}

-- ---- the records of each file

fields-bytes : (f : List ℕ) → bit_field_least * length (bit_fields_in f) ≤ length f
fields-bytes f = file-bytes bit_field_columns _ bit_field_least (λ line e. every-long is_hex refl 8 103 line (omega arith) (omega arith) (row-holds bit_field_columns line 1 e)) f

stops-bytes : (f : List ℕ) → stop_least * length (stops_in f) ≤ length f
stops-bytes f = file-bytes stop_columns _ stop_least (λ line e. filled-long 13 62 line (omega arith) (row-holds stop_columns line 2 e)) f

interchanges-bytes : (f : List ℕ) → interchange_least * length (interchanges_in f) ≤ length f
interchanges-bytes f = file-bytes interchange_columns _ interchange_least (λ line e. count_long 99 12 13 line (omega arith) (omega arith) (row-holds interchange_columns line 2 e)) f

classes-bytes : (f : List ℕ) → class_least * length (classes_in f) ≤ length f
classes-bytes f = file-bytes class_columns _ class_least (λ line e. count_long 2 21 21 line (omega arith) (omega arith) (row-holds class_columns line 5 e)) f

-- ---- all of them

-- a file that is not too long counts whole
counted_is : (n : ℕ) → n ≤ most_file_bytes → counted n ≡ n
counted_is n h = by-ltb (λ (t : Bool). cond t most_file_bytes n ≡ n) most_file_bytes n (λ k. absurd (omega (arith, h, k))) (λ k. refl)

-- each file's share
fields_share : (f : List ℕ) → length f ≤ most_file_bytes → bit_field_size * length (bit_fields_in f) ≤ share bit_field_size bit_field_least (length f)
fields_share f h = let b = fields-bytes f in rw (counted_is (length f) h) (omega (arith, b))

stops-share : (f : List ℕ) → length f ≤ most_file_bytes → stop_size * length (stops_in f) ≤ share stop_size stop_least (length f)
stops-share f h = let b = stops-bytes f in rw (counted_is (length f) h) (omega (arith, b))

interchanges-share : (f : List ℕ) → length f ≤ most_file_bytes → interchange_size * length (interchanges_in f) ≤ share interchange_size interchange_least (length f)
interchanges-share f h = let b = interchanges-bytes f in rw (counted_is (length f) h) (omega (arith, b))

classes-share : (f : List ℕ) → length f ≤ most_file_bytes → class_size * length (classes_in f) ≤ share class_size class_least (length f)
classes-share f h = let b = classes-bytes f in rw (counted_is (length f) h) (omega (arith, b))

plan-share : {d : Delivery} (f : List ℕ) → All (Fair d) (blocks (lines_of f)) → length f ≤ most_file_bytes → length (gathered service_words (map service_of (blocks (lines_of f)))) ≤ share plan_line_size plan_least (length f)
plan-share {d} f c h = let p = plan-words d (lines_of f) c in let q = lines-bytes f in rw (counted_is (length f) h) (omega (arith, p, q))

module _ (f : Files) (c : Clear f) where
  words-enough : length f.bitfeld ≤ most_file_bytes → length f.bahnhof ≤ most_file_bytes → length f.umsteigb ≤ most_file_bytes → length f.fplan ≤ most_file_bytes → length f.zugart ≤ most_file_bytes
      → length (table_words (delivered f)) ≤ room_for (length f.bitfeld) (length f.bahnhof) (length f.umsteigb) (length f.fplan) (length f.zugart)
  unfolding delivered room_for
  words-enough hb hs hu hp hz =
      let l = words_same (delivered f) ∙ words-length (delivered f) in
      let n = sections-length (delivered f) (clear-sound f c).twelves in
      let b = fields_share f.bitfeld hb in let s = stops-share f.bahnhof hs in let u = interchanges-share f.umsteigb hu in let p = plan-share f.fplan c.services hp in let z = classes-share f.zugart hz in
      omega (arith, l, n, b, s, u, p, z)

-- ---- no refusal by 20

not-long : (k : ℕ) (s : List ℕ) → too_long k s ≡ none → length s ≤ most_file_bytes
not-long k s e = ltb-false most_file_bytes (length s) (given-none _ 1 0 (in-none k _ e))

module _ (f : Files) (room helper file line column needed : ℕ) where
  abbrev R : Loaded
  R = Refused 20 file line column needed

  from-length : (o : Option Where) → length_offence f ≡ o → (later : Loaded) → (length_offence f ≡ none → later ≡ R → ⊥) → refused_or o later ≡ R → ⊥
  from-length none p later k e = k p e
  from-length (some w) p later k e = let z : w.offence.number ≡ 20 = cc in length-not-20 f {w = w} p z

  from-content : (o : Option Where) → content_offence f ≡ o → (later : Loaded) → (content_offence f ≡ none → later ≡ R → ⊥) → refused_or o later ≡ R → ⊥
  from-content none p later k e = k p e
  from-content (some w) p later k e = let z : w.offence.number ≡ 20 = cc in content-not-20 f {w = w} p z

  from-helper : (t : Bool) (n : ℕ) (later : Loaded) → (later ≡ R → ⊥) → cond t (Refused 51 0 0 0 n) later ≡ R → ⊥
  from-helper true n later k e = let z : ◌≡◌ {A = ℕ} 51 20 = cc in absurd (omega (arith, z))
  from-helper false n later k e = k e

  from-room : (n : ℕ) → n ≤ room → short_or 20 room n (Accepted n) ≡ R → ⊥
  from-room n h e = go (ltb room n) refl e
    where
      go : (t : Bool) → ltb room n ≡ t → cond t (Refused 20 0 0 0 n) (Accepted n) ≡ R → ⊥
      go true q e = let k = ltb-true room n q in absurd (omega (arith, h, k))
      go false q e = apart (cc)

  no-offence : length_offence f ≡ none → content_offence f ≡ none → offence f ≡ none
  unfolding offence ◌<|>◌
  no-offence p q = rw (p, q) refl

  pub never_20 : room_for (length f.bitfeld) (length f.bahnhof) (length f.umsteigb) (length f.fplan) (length f.zugart) ≤ room → loaded f room helper ≡ R → ⊥
  unfolding loaded length_offence
  never_20 h =
      from-length (length_offence f) refl _ (λ p. from-helper (ltb helper (helper_needed f)) (helper_needed f) _ (from-content (content_offence f) refl _ (λ q.
      let a = then-none _ _ p in let b = then-none _ _ a.1 in let s = then-none _ _ b.1 in let u = then-none _ _ s.1 in let z = then-none _ _ u.1 in
      let n = words-enough f (clear f (no-offence p q)) (not-long 2 f.bitfeld b.0) (not-long 3 f.bahnhof s.0) (not-long 4 f.umsteigb u.0) (not-long 5 f.fplan z.1) (not-long 6 f.zugart z.0) in
      from-room (length (table_words (delivered f))) (omega (arith, n, h)))))

pub enough : (b s u p z words : ℕ) → words ≡ room_for b s u p z → Enough b s u p z words
enough b s u p z words e = record {
  never_20 = λ f eb es eu ep ez room helper file line column needed h r. never_20 f room helper file line column needed (rw (eb, es, eu, ep, ez) (omega (arith, e, h))) r;
}
