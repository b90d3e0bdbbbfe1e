-- Document 02, No. 11, proved of every accepted delivery: `round_trip`. Assumes nothing.
use mathlib.Core.Path.{◌≡◌, refl, ap, sym, ◌∙◌, subst}
use mathlib.Core.List.{List, [], ◌∷◌, ◌++◌}
use mathlib.Core.Bool.{true}
use mathlib.Core.Option.{none}
use Prim.Native.Nat.{ℕ, ◌+◌, ◌≤◌, ◌<◌}
use native.Mathlib.Omega.{arith}
use lib.ListN.{length, drop}
use borrow.Author.Tests.{le-ltb}
use Rattle.base.specs.Lists.{All, nil, cons}
use Rattle.lines.specs.Lines.{lines_of}
use Rattle.timetable.specs.Delivery.{Files, Service, Delivery}
use Rattle.timetable.specs.Load.{delivered, length_offence, content_offence, offence, helper_needed, loaded, written}
use Rattle.timetable.specs.Table.{table_words, table_of, is_table}
use Rattle.timetable.specs.declared.Loaded.TheVariants.{Accepted}
use Rattle.timetable.proofs.Offences.{then-none}
use Rattle.timetable.proofs.Records.{twelve}
use Rattle.whole_runs.proofs.Clear.{Clear, clear}
use Rattle.whole_runs.proofs.Back.{fields-twelve}
use Rattle.whole_runs.proofs.Accepted.{accepted, no-offence, written_is, table_is, table-holds}
use Rattle.plan_services.specs.Services.{service_lines, plan_text, relined, ServiceHeld}
use Rattle.plan_accepted.proofs.Written.{with_plan, accepted-held, delivered-back}
use Rattle.plan_accepted.proofs.Size as size
use Rattle.plan_writing.specs.Writing.{table_text, table_writable, text_or_short, plan_answer, bytes_by, plan_bytes}
use Rattle.round_trip.specs.Lines.{except_lines}
use Rattle.round_trip.specs.RoundTrip.{with_text, table, clean, RoundTrip}
use Rattle.round_trip.proofs.Held.{held-table}
use Rattle.round_trip.proofs.Words.{with_services, length-same, except-same}

-- ---- what a table answers goes by what it holds

holds_text : (w : List ℕ) (d : Delivery) → table_of w ≡ d → table_text w ≡ plan_text d.services
unfolding table_text
holds_text w d e = ap (λ (x : Delivery). plan_text x.services) e

holds-writable : (w : List ℕ) (d : Delivery) → table_of w ≡ d → All ServiceHeld d.services → table_writable w ≡ true
holds-writable w d e h = held-table w (subst (λ (x : Delivery). All ServiceHeld x.services) (sym e) h)

writes : (w : List ℕ) → is_table w ≡ true → table_writable w ≡ true → (room : ℕ) → plan_answer w room ≡ text_or_short (table_text w) room
unfolding plan_answer
writes w e h room = rw (e, h)

-- ---- what is delivered again

delivered-again : (f : Files) → Clear f → All (λ (b : ℕ). b < 256) f.fplan
    → delivered (with_plan f (plan_text (delivered f).services)) ≡ with_services (delivered f) (relined 1 (delivered f).services)
unfolding delivered
delivered-again f c h = ap (with_services (delivered f)) (delivered-back f c h)

held_moved : (n : ℕ) (ss : List Service) → All ServiceHeld ss → All ServiceHeld (relined n ss)
unfolding relined
held_moved n [] nil = nil
held_moved n (s ∷ ss) (cons h t) =
    cons (record { opening_held = h.opening_held; categories_held = h.categories_held; days_held = h.days_held; extras_held = h.extras_held; calls_held = h.calls_held })
    (held_moved (n + length (service_lines s)) ss t)

twelve-words : (f : Files) → All twelve (delivered f).fields
unfolding delivered
twelve-words f = fields-twelve (lines_of f.bitfeld)

-- ---- acceptance, from its parts

loaded-by : (f : Files) (room helper : ℕ) → length_offence f ≡ none → helper_needed f ≤ helper → content_offence f ≡ none → length (table_words (delivered f)) ≤ room
    → loaded f room helper ≡ Accepted (length (table_words (delivered f)))
unfolding loaded
loaded-by f room helper l a c b = rw (l, le-ltb helper (helper_needed f) a, c, le-ltb room (length (table_words (delivered f))) b)

offence-parts : (f : Files) → offence f ≡ none → (length_offence f ≡ none) × (content_offence f ≡ none)
unfolding offence
offence-parts f e = then-none _ _ e

helper-same : (f : Files) (text : List ℕ) → helper_needed (with_plan f text) ≡ helper_needed f
unfolding helper_needed
helper-same f text = refl

module _ (f : Files) (t : List ℕ) (helper u : ℕ) (e : loaded f (length t) helper ≡ Accepted u) (h : All (λ (b : ℕ). b < 256) f.fplan) where
  abbrev d : Delivery
  d = delivered f

  abbrev g : Files
  g = with_plan f (plan_text d.services)

  none-f : offence f ≡ none
  none-f = no-offence f t helper u e

  once_more : size.Again f
  once_more = size.round_trip f none-f h

  moved : delivered g ≡ with_services d (relined 1 d.services)
  moved = delivered-again f (clear f none-f) h

  words-length : length (table_words (delivered g)) ≡ length (table_words d)
  words-length = ap (λ (x : Delivery). length (table_words x)) moved ∙ length-same d 1

  loads : loaded g (length t) helper ≡ Accepted u
  loads =
      let p = offence-parts g once_more.accepted in
      let q = accepted f (length t) helper u e in
      let a : helper_needed g ≤ helper = omega (arith, helper-same f (plan_text d.services), q.helper-room) in
      let b : length (table_words (delivered g)) ≤ length t = omega (arith, words-length, q.table-room) in
      loaded-by g (length t) helper p.0 a p.1 b ∙ ap Accepted (words-length ∙ sym q.used)

  text-is : table_text (table f t helper) ≡ plan_text d.services
  text-is = holds_text (table f t helper) d (table-holds f t helper u e)

  clean_is : clean f t helper ≡ g
  clean_is = ap (with_text f) text-is

  held : All ServiceHeld d.services
  held = accepted-held f (clear f none-f) h

  first-writes : (room : ℕ) → plan_answer (table f t helper) room ≡ text_or_short (table_text (table f t helper)) room
  first-writes = writes (table f t helper) (table_is f t helper u e) (holds-writable (table f t helper) d (table-holds f t helper u e) held)

  text-again : table_text (written g t helper) ≡ table_text (table f t helper)
  text-again = holds_text (written g t helper) (delivered g) (table-holds g t helper u loads) ∙ once_more.bytes ∙ sym text-is

  answers-again : (room : ℕ) → plan_answer (written g t helper) room ≡ plan_answer (table f t helper) room
  answers-again room =
      writes (written g t helper) (table_is g t helper u loads)
      (holds-writable (written g t helper) (delivered g) (table-holds g t helper u loads) (subst (λ (x : Delivery). All ServiceHeld x.services) (sym moved) (held_moved 1 d.services held))) room
      ∙ ap (λ (x : List ℕ). text_or_short x room) text-again ∙ sym (first-writes room)

  bytes-again : (b : List ℕ) → plan_bytes (written g t helper) b ≡ plan_bytes (table f t helper) b
  unfolding plan_bytes
  bytes-again b = λ i. bytes_by (answers-again (length b) i) (text-again i) b

  same-words : except_lines (written g t helper) ≡ except_lines (table f t helper)
  same-words =
      let rest = drop (length (table_words d)) t in
      let a : written g t helper ≡ table_words (with_services d (relined 1 d.services)) ++ rest = written_is g t helper u loads ∙ (λ i. table_words (moved i) ++ drop (words-length i) t) in
      ap except_lines a ∙ except-same d 1 (twelve-words f) rest ∙ sym (ap except_lines (written_is f t helper u e))

  -- "For a table of an accepted delivery, loading the text with the same other files gives the same table except the opening line numbers, and writing
  -- that again gives the same bytes." (A file's bytes are below 256.)
  pub round_trip : RoundTrip f t helper u
  round_trip = record {
    writes = first-writes;
    accepts = ap (λ (x : Files). loaded x (length t) helper) clean_is ∙ loads;
    same = ap (λ (x : Files). except_lines (written x t helper)) clean_is ∙ same-words;
    answers = λ room. ap (λ (x : Files). plan_answer (written x t helper) room) clean_is ∙ answers-again room;
    bytes = λ b. ap (λ (x : Files). plan_bytes (written x t helper) b) clean_is ∙ bytes-again b;
  }
