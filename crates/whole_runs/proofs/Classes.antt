-- The question for the interchange time between two categories (document 02, No. 1), of an accepted delivery: for a stop of it and two categories of its walks' rows
-- it is answered, by these categories' own classes (`between-rows`); only 27 and 38 are left, each exactly for its reason (`between-refusals`,
-- `between-refused`).
-- specs/Classes.antt states it. Assumes nothing.
use mathlib.Core.Path.{◌≡◌, refl, sym, ap, ◌∙◌, subst}
use mathlib.Core.List.{List}
use mathlib.Core.Bool.{Bool, true, false, cond, ◌&&◌}
use mathlib.Core.Option.{some}
use Prim.Native.Nat.{ℕ, ◌<◌}
use native.Mathlib.Omega.{arith}
use lib.ListN.{length, get_elem?}
use lib.Dec.{eqb}
use borrow.Author.Tests.{le-leb}
use Rattle.std.specs.Prelude.{Ok, Err}
use Rattle.base.proofs.Laws.{apart}
use Rattle.timetable.specs.Layout.{most_class}
use Rattle.timetable.specs.Delivery.{Files, CategoryClass, Service}
use Rattle.timetable.specs.Files.{has_stop, has_class}
use Rattle.timetable.specs.Load.{delivered, loaded, written}
use Rattle.timetable.specs.View.{interchange_at_stop, class_for}
use Rattle.timetable.specs.Questions.{minutes_for, interchange_in, interchange_asked, between_in, between_asked}
use Rattle.timetable.specs.declared.refusal.Refusal.{Refusal}
use Rattle.timetable.specs.declared.refusal.Refusal.TheVariants.{StopUnknown, CategoryUnlisted}
use Rattle.timetable.specs.declared.Loaded.TheVariants.{Accepted}
use Rattle.whole_runs.specs.Classes.{OwnClass, Between, BetweenRefused, unknown_stop, unlisted}
use Rattle.whole_runs.specs.Rows.{row_word, Stretched}
use Rattle.whole_runs.proofs.Clear.{clear}
use Rattle.whole_runs.proofs.ClassLines.{counted-some, services-listed, rows-classed}
use Rattle.whole_runs.proofs.Accepted.{no-offence, table_is, table-holds, interchange-accepted}

is-listed : (f : Files) (code : ℕ) → OwnClass f code → has_class code (delivered f).classes ≡ true
is-listed f code x = let e = x.once in counted-some (λ (c : CategoryClass). eqb c.code code) (delivered f).classes (omega arith)

module _ (f : Files) (t : List ℕ) (helper u : ℕ) (e : loaded f (length t) helper ≡ Accepted u) where
  pub between-accepted : (n a b : ℕ) → between_asked (written f t helper) n a b ≡ cond (has_stop n (delivered f).stops) (cond (has_class a (delivered f).classes && has_class b (delivered f).classes) (Ok (minutes_for (interchange_at_stop (delivered f) n) (class_for (delivered f) a) (class_for (delivered f) b))) (Err CategoryUnlisted)) (Err StopUnknown)
  unfolding between_asked between_in
  between-accepted n a b = rw (table_is f t helper u e, table-holds f t helper u e)

  module _ (n : ℕ) (known : has_stop n (delivered f).stops ≡ true) where
    -- two categories that have a class are answered with minutes,
    pub between-answered : (a b : ℕ) → OwnClass f a → OwnClass f b → Between f n a b (between_asked (written f t helper) n a b)
    between-answered a b x y = record {
      arrives = x;
      departs = y;
      answer = between-accepted n a b ∙ rw (known, is-listed f a x, is-listed f b y, x.is, y.is) refl;
    }

    -- as the question between their two classes is
    pub between-classes : (a b : ℕ) (x : OwnClass f a) (y : OwnClass f b) → between_asked (written f t helper) n a b ≡ interchange_asked (written f t helper) n x.class y.class
    unfolding between-answered interchange_in interchange_at_stop
    between-classes a b x y =
        (between-answered a b x y).answer
        ∙ sym (interchange-accepted f t helper u e n x.class y.class ∙ rw (le-leb x.class most_class x.most, le-leb y.class most_class y.most, known) refl)

    -- Any two categories that walks list, of two services or of one.
    pub between-rows : (i j : ℕ) (s v : Service) → get_elem? (delivered f).services i ≡ some s → get_elem? (delivered f).services j ≡ some v
        → {r k : ℕ} {ws : List ℕ} (x : Stretched (delivered f) s r k ws) (q : ℕ) → q < x.legs
        → {o l : ℕ} {us : List ℕ} (y : Stretched (delivered f) v o l us) (p : ℕ) → p < y.legs
        → Between f n (row_word ws q 7) (row_word us p 7) (between_asked (written f t helper) n (row_word ws q 7) (row_word us p 7))
    between-rows i j s v a b {ws = ws} x q h {us = us} y p g =
        let c = clear f (no-offence f t helper u e) in
        between-answered (row_word ws q 7) (row_word us p 7) (rows-classed f c s (services-listed f c i s a) x q h) (rows-classed f c v (services-listed f c j v b) y p g)

  -- Of the refusals 27 and 38 are left, each only for its reason,
  pub between-refusals : (n a b : ℕ) (refusal : Refusal) → between_asked (written f t helper) n a b ≡ Err refusal → BetweenRefused (delivered f) n a b refusal
  between-refusals n a b refusal k = go (has_stop n (delivered f).stops) refl (has_class a (delivered f).classes && has_class b (delivered f).classes) refl (sym (between-accepted n a b) ∙ k)
    where
      go : (h : Bool) → has_stop n (delivered f).stops ≡ h → (c : Bool) → has_class a (delivered f).classes && has_class b (delivered f).classes ≡ c
          → cond h (cond c (Ok (minutes_for (interchange_at_stop (delivered f) n) (class_for (delivered f) a) (class_for (delivered f) b))) (Err CategoryUnlisted)) (Err StopUnknown) ≡ Err refusal
          → BetweenRefused (delivered f) n a b refusal
      go false p c q z = let y : ◌≡◌ {A = Refusal} StopUnknown refusal = cc in subst (BetweenRefused (delivered f) n a b) y (unknown_stop p)
      go true p false q z = let y : ◌≡◌ {A = Refusal} CategoryUnlisted refusal = cc in subst (BetweenRefused (delivered f) n a b) y (unlisted p q)
      go true p true q z = apart (cc)

  -- and each wherever that is so.
  pub between-refused : (n a b : ℕ) {refusal : Refusal} → BetweenRefused (delivered f) n a b refusal → between_asked (written f t helper) n a b ≡ Err refusal
  between-refused n a b (unknown_stop p) = between-accepted n a b ∙ rw p refl
  between-refused n a b (unlisted p q) = between-accepted n a b ∙ rw (p, q) refl
