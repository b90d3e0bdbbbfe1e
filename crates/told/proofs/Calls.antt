-- Schedule lines by words of eight bytes: the same as column by column. Assumes nothing.
use mathlib.Core.Path.{◌≡◌, refl, ap, sym, ◌∙◌}
use mathlib.Core.List.{List, [], ◌∷◌, ◌++◌}
use mathlib.Core.Bool.{Bool, true, false, not, ◌&&◌, ◌||◌}
use Prim.Native.Nat.{ℕ, ◌+◌, ◌*◌, ◌/◌, ◌%◌, ◌^◌, ◌≤◌, ◌<◌}
use native.Mathlib.Nat.{div-one}
use native.Mathlib.Omega.{arith}
use lib.ListN.{length, take, drop}
use Rattle.std.specs.Prelude.{Some, None}
use lib.Dec.{eqb, lit≤, lit<}
use Rattle.base.proofs.Laws.{tests}
use Rattle.base.proofs.Loops.{and-true}
use Rattle.base.specs.Lists.{every}
use Rattle.columns.specs.Columns.{columns, column, is_blank, blank, digits, number}
use Rattle.fields.specs.Fields.{time}
use Rattle.fields.specs.declared.Time.{Time}
use Rattle.byte_words.specs.Inner.Words.{bytes_of, is_figure}
use Rattle.byte_words.proofs.Lines.{blanks, columns-word, column-word, time-word, word-then, two-words, one-column, blank-in, blank-column}
use Rattle.forms.specs.Form.{is_time, has_form}
use Rattle.forms.specs.Columns.{call_columns}
use Rattle.timetable.specs.Plan.{call_in, number_said, administration_said, minutes_of, flags_of, three_bytes}
use Rattle.timetable.specs.declared.CallLine.{CallLine}
use Rattle.timetable.specs.declared.Told.TheVariants.{Calls}
use Rattle.timetable.proofs.Lines.{flags-le}
use Rattle.told.specs.Inner.Marked.{mark_column}
use Rattle.told.specs.Inner.Calls.{last_time, head_fits, tail_fits, end_fits, blank_call, filled_call}
use Rattle.told.proofs.Form.{has-asked, reaches, figures}
use Rattle.told.proofs.Times.{double}

every_append : (t : ℕ → Bool) (a b : List ℕ) → every t (a ++ b) ≡ (every t a && every t b)
unfolding every
every_append t [] b = refl
every_append t (x ∷ a) b = rw (every_append t a b) (assoc (t x) (every t a) (every t b))
  where
    assoc : (x y z : Bool) → (x && (y && z)) ≡ ((x && y) && z)
    assoc true y z = refl
    assoc false y z = refl

-- ---- for `search tails`: v and w are the words at 42 and 50, s and t say whether they are blank

pub tail-first : (l : List ℕ) (v : ℕ) (s : Bool) → mark_column ≤ length l → bytes_of 8 v ≡ take 8 (drop 42 l) → s ≡ blank (bytes_of 8 v) → s ≡ false → false ≡ blank (columns 43 58 l)
tail-first l v s h e es y = rw (ap blank (word-then l 42 v 43 58 e (omega (arith, h)) refl refl), every_append is_blank (bytes_of 8 v) (take 8 (drop 50 l)), ← es, y)

module _ (l : List ℕ) (h : mark_column ≤ length l) (v w : ℕ) (e : bytes_of 8 v ≡ take 8 (drop 42 l)) (f : bytes_of 8 w ≡ take 8 (drop 50 l)) where
  both : blank (columns 43 58 l) ≡ (blank (bytes_of 8 v) && blank (bytes_of 8 w))
  both = ap blank (two-words l 42 v w 43 58 e f (omega (arith, h)) refl refl) ∙ every_append is_blank (bytes_of 8 v) (bytes_of 8 w)

  pub tail-second : (s t : Bool) → s ≡ blank (bytes_of 8 v) → t ≡ blank (bytes_of 8 w) → s ≡ true → t ≡ blank (columns 43 58 l)
  tail-second s t es et y = rw (both, ← es, ← et, y)

-- ---- the tail is blank

module _ (l : List ℕ) (p : blank (columns 43 58 l) ≡ true) where
  at : (c : ℕ) → 43 ≤ c → c ≤ 58 → column c l ≡ 32
  at c h k = blank-column l 43 58 c p (lit≤ tt) h k

  number-blank : columns 44 48 l ≡ blanks 5
  number-blank = blank-in l 43 58 44 48 p (lit≤ tt) (lit≤ tt) (lit≤ tt) (lit≤ tt)

  admin-blank : columns 50 55 l ≡ blanks 6
  admin-blank = blank-in l 43 58 50 55 p (lit≤ tt) (lit≤ tt) (lit≤ tt) (lit≤ tt)

  tail-asks : tail_fits l ≡ (eqb (column 59 l) 37 && true)
  unfolding tail_fits end_fits every
  tail-asks = rw (at 43 (lit≤ tt) (lit≤ tt), number-blank, at 49 (lit≤ tt) (lit≤ tt), admin-blank, at 56 (lit≤ tt) (lit≤ tt), one-column l 57 (lit≤ tt), at 57 (lit≤ tt) (lit≤ tt), at 58 (lit≤ tt) (lit≤ tt), one-column l 59 (lit≤ tt))

  blank-says : (stop : ℕ) (a d : Time) → blank_call stop a d ≡ filled_call l (blank_call stop a d)
  unfolding every
  blank-says stop a d = rw (number-blank, admin-blank)

-- b says whether the tail is blank, x is the byte behind it, for `search tails`
pub tail-mark : (l : List ℕ) (b : Bool) (x : ℕ) → b ≡ blank (columns 43 58 l) → b ≡ true → x ≡ column 59 l → eqb x 37 ≡ tail_fits l
tail-mark l b x e y d = rw (d, tail-asks l (sym e ∙ y)) (go (eqb (column 59 l) 37))
  where
    go : (t : Bool) → t ≡ (t && true)
    go true = refl
    go false = refl

pub ruleset tails = (tests, tail-first, tail-second, tail-mark)

-- ---- a line's columns in words

module _ (l : List ℕ) (h : mark_column ≤ length l) (w : ℕ) where
  seven : bytes_of 8 w ≡ take 8 (drop 0 l) → columns 1 7 l ≡ bytes_of 7 w
  seven e = columns-word l 0 w e (omega (arith, h)) 0 7 1 7 refl refl (lit≤ tt) ∙ ap (bytes_of 7) (div-one w)

  eighth : bytes_of 8 w ≡ take 8 (drop 0 l) → column 8 l ≡ w / 72057594037927936 % 256
  eighth e = column-word l 0 w e (omega (arith, h)) 7 8 refl (lit< tt)

  arrives : bytes_of 8 w ≡ take 8 (drop 27 l) → time (columns 30 35 l) ≡ last_time w
  arrives e = time-word l 27 w e (omega (arith, h)) 2 30 35 refl refl (lit≤ tt)

  departs : bytes_of 8 w ≡ take 8 (drop 34 l) → time (columns 37 42 l) ≡ last_time w
  departs e = time-word l 34 w e (omega (arith, h)) 2 37 42 refl refl (lit≤ tt)

  five : bytes_of 8 w ≡ take 8 (drop 43 l) → columns 44 48 l ≡ bytes_of 5 w
  five e = columns-word l 43 w e (omega (arith, h)) 0 5 44 48 refl refl (lit≤ tt) ∙ ap (bytes_of 5) (div-one w)

  six : bytes_of 8 w ≡ take 8 (drop 49 l) → columns 50 55 l ≡ bytes_of 6 w
  six e = columns-word l 49 w e (omega (arith, h)) 0 6 50 55 refl refl (lit≤ tt) ∙ ap (bytes_of 6) (div-one w)

-- ---- for `search heads`: s, t, g, u are what the tests of `head_fits` said

module _ (l : List ℕ) (h : mark_column ≤ length l) (stop : ℕ) (s : Bool) (e : bytes_of 8 stop ≡ take 8 (drop 0 l)) (es : s ≡ (digits (bytes_of 7 stop) && eqb (stop / 72057594037927936 % 256) 32)) where
  first : (digits (columns 1 7 l) && is_blank (column 8 l)) ≡ s
  first = rw (seven l h stop e, eighth l h stop e, es)

  pub head-stop : s ≡ false → false ≡ head_fits l
  unfolding head_fits
  head-stop y = sym (two (digits (columns 1 7 l)) (is_blank (column 8 l)) _ (first ∙ y))
    where
      two : (a b c : Bool) → (a && b) ≡ false → (a && (b && c)) ≡ false
      two true b c z = rw z
      two false b c z = refl

  opens : (c : Bool) → s ≡ true → (digits (columns 1 7 l) && (is_blank (column 8 l) && c)) ≡ c
  opens c y = let q = and-true (digits (columns 1 7 l)) (is_blank (column 8 l)) (first ∙ y) in rw (q.0, q.1)

  module _ (arrival : ℕ) (t : Bool) (y : s ≡ true) (f : bytes_of 8 arrival ≡ take 8 (drop 27 l)) (et : t ≡ is_time (last_time arrival)) where
    pub head-arrival : t ≡ false → false ≡ head_fits l
    unfolding head_fits
    head-arrival z = sym (opens _ y ∙ rw (arrives l h arrival f, ← et, z))

    module _ (g : Bool) (z : t ≡ true) (eg : g ≡ is_blank (column 36 l)) where
      pub head-gap : g ≡ false → false ≡ head_fits l
      unfolding head_fits
      head-gap q = sym (opens _ y ∙ rw (arrives l h arrival f, ← et, z, ← eg, q))

      pub head-departure : (departure : ℕ) (u : Bool) → g ≡ true → bytes_of 8 departure ≡ take 8 (drop 34 l) → u ≡ is_time (last_time departure) → u ≡ head_fits l
      unfolding head_fits
      head-departure departure u q i eu = eu ∙ sym (opens _ y ∙ rw (arrives l h arrival f, ← et, z, ← eg, q, departs l h departure i))

pub ruleset heads = (tests, head-stop, head-arrival, head-gap, head-departure)

-- ---- for `search wording`: the needs of `number_fits`, `administration_fits`, `number_said` and `administration_said`

module _ (l : List ℕ) (h : mark_column ≤ length l) (w : ℕ) (b : Bool) where
  module _ (e : bytes_of 8 w ≡ take 8 (drop 43 l)) (eb : b ≡ blank (bytes_of 5 w)) where
    pub number-blank-fits : b ≡ true → true ≡ (blank (columns 44 48 l) || digits (columns 44 48 l))
    number-blank-fits y = rw (five l h w e, ← eb, y)

    pub number-digits-fit : (d : Bool) → b ≡ false → d ≡ digits (bytes_of 5 w) → d ≡ (blank (columns 44 48 l) || digits (columns 44 48 l))
    number-digits-fit d y v = rw (five l h w e, ← eb, y, v)

  module _ (e : bytes_of 8 w ≡ take 8 (drop 49 l)) (eb : b ≡ blank (bytes_of 6 w)) where
    pub administration-blank-fits : b ≡ true → true ≡ (blank (columns 50 55 l) || every (λ (b : ℕ). not (is_blank b)) (columns 50 55 l))
    administration-blank-fits y = rw (six l h w e, ← eb, y)

    pub administration-filled-fits : (d : Bool) → b ≡ false → d ≡ every (λ (b : ℕ). not (is_blank b)) (bytes_of 6 w) → d ≡ (blank (columns 50 55 l) || every (λ (b : ℕ). not (is_blank b)) (columns 50 55 l))
    administration-filled-fits d y v = rw (six l h w e, ← eb, y, v)

pub number-figures : (l : List ℕ) (w : ℕ) → mark_column ≤ length l → every is_figure (columns 44 48 l) ≡ true → bytes_of 8 w ≡ take 8 (drop 43 l) → every is_figure (bytes_of 5 w) ≡ true
number-figures l w h y e = ap (every is_figure) (sym (five l h w e)) ∙ y

module _ (l : List ℕ) (h : mark_column ≤ length l) (w : ℕ) (b : Bool) where
  module _ (e : bytes_of 8 w ≡ take 8 (drop 43 l)) (eb : b ≡ blank (bytes_of 5 w)) where
    pub number-unsaid : b ≡ true → None ≡ number_said l
    number-unsaid y = rw (five l h w e, ← eb, y) refl

    pub number-made : (n : ℕ) → b ≡ false → n ≡ number (bytes_of 5 w) → Some n ≡ number_said l
    number-made n y en = rw (five l h w e, ← eb, y, en) refl

  module _ (e : bytes_of 8 w ≡ take 8 (drop 49 l)) (eb : b ≡ blank (bytes_of 6 w)) where
    pub administration-unsaid : b ≡ true → None ≡ administration_said l
    administration-unsaid y = rw (six l h w e, ← eb, y) refl

    pub administration-made : (high low : ℕ) → b ≡ false → high ≡ three_bytes 50 l → low ≡ three_bytes 53 l → Some (record { high = high; low = low }) ≡ administration_said l
    administration-made high low y eh el = rw (six l h w e, ← eb, y, eh, el) refl

pub ruleset wording = (tests, number-blank-fits, number-digits-fit, administration-blank-fits, administration-filled-fits, number-figures, number-unsaid, number-made, administration-unsaid, administration-made)

-- ---- for `search reading`: the needs of `formed_told` and `call_in`, of a line that has the form

module _ (l : List ℕ) (y : has_form call_columns l ≡ true) where
  pub long : mark_column ≤ length l
  long = reaches l (has-asked l y).mark

  pub long-stop : 0 + 8 ≤ length l
  long-stop = omega (arith, long)

  pub long-arrival : 27 + 8 ≤ length l
  long-arrival = omega (arith, long)

  pub long-departure : 34 + 8 ≤ length l
  long-departure = omega (arith, long)

  pub stop-digits : (w : ℕ) → bytes_of 8 w ≡ take 8 (drop 0 l) → digits (bytes_of 7 w) ≡ true
  stop-digits w e = ap digits (sym (seven l long w e)) ∙ (has-asked l y).stop

  pub arrival-time : (w : ℕ) → bytes_of 8 w ≡ take 8 (drop 27 l) → is_time (last_time w) ≡ true
  arrival-time w e = ap is_time (sym (arrives l long w e)) ∙ (has-asked l y).arrival

  pub departure-time : (w : ℕ) → bytes_of 8 w ≡ take 8 (drop 34 l) → is_time (last_time w) ≡ true
  departure-time w e = ap is_time (sym (departs l long w e)) ∙ (has-asked l y).departure

  pub figures-asked : every is_figure (columns 44 48 l) ≡ true
  figures-asked = figures (columns 44 48 l) (has-asked l y).number

  module _ (stop arrival departure : ℕ) (said : CallLine) (e : bytes_of 8 stop ≡ take 8 (drop 0 l)) (f : bytes_of 8 arrival ≡ take 8 (drop 27 l)) (g : bytes_of 8 departure ≡ take 8 (drop 34 l))
      (v : said ≡ blank_call stop (last_time arrival) (last_time departure)) where
    whole : filled_call l said ≡ call_in l
    whole = rw (v, seven l long stop e, arrives l long arrival f, departs l long departure g)

    pub filled-said : (r : CallLine) → r ≡ filled_call l said → r ≡ call_in l
    filled-said r z = z ∙ whole

    module _ (b : Bool) (eb : b ≡ blank (columns 43 58 l)) (z : b ≡ true) where
      pub blank-said : said ≡ call_in l
      blank-said = v ∙ blank-says l (sym eb ∙ z) stop (last_time arrival) (last_time departure) ∙ ap (filled_call l) (sym v) ∙ whole

      pub blank-told : Calls said ≡ Calls (call_in l)
      blank-told = ap Calls blank-said

    pub filled-told : (r : CallLine) → r ≡ filled_call l said → Calls r ≡ Calls (call_in l)
    filled-told r z = ap Calls (filled-said r z)

pub ruleset reading = (tests, long, long-stop, long-arrival, long-departure, stop-digits, arrival-time, departure-time, figures-asked, filled-said, blank-said, blank-told, filled-told)

-- ---- the needs of `blank_call`, for `search blanked`

module _ (a d : Time) (i j : ℕ) (ei : i ≡ flags_of 1 a) (ej : j ≡ flags_of 1 d) where
  pub twice-fits : 2 * j < 2 ^ 32
  twice-fits = omega (arith, ej, flags-le 1 d)

  pub sum_fits : i + 2 * j < 2 ^ 32
  sum_fits = omega (arith, ei, ej, flags-le 1 a, flags-le 1 d)

  pub blank-made : (stop n arrival departure : ℕ) → n ≡ number (bytes_of 7 stop) → arrival ≡ minutes_of a → departure ≡ minutes_of d
      → record { stop = n; arrival = arrival; departure = departure; flags = i + 2 * j; number = None; administration = None } ≡ blank_call stop a d
  blank-made stop n arrival departure en er es = rw (en, er, es, ei, ej, double d)

pub ruleset blanked = (tests, twice-fits, sum_fits, blank-made)
