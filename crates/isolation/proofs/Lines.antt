-- The services of FPLAN but for their opening line numbers: by the texts of its lines alone. Of bytes cut where a line and a service begin they are the
-- services of both parts, one after the other. Assumes nothing.
use mathlib.Core.Path.{◌≡◌, refl, sym, ap, ◌∙◌}
use mathlib.Core.Logic.{◌⊎◌, inl, inr}
use mathlib.Core.List.{List, [], ◌∷◌, ◌++◌, map, append-nil}
use mathlib.Core.Bool.{Bool, true, false, cond}
use Prim.Native.Nat.{ℕ, ◌+◌}
use lib.ListN.{length}
use lib.Dec.{eqb}
use Rattle.base.specs.Lists.{every, gathered}
use Rattle.base.proofs.Laws.{apart}
use Rattle.base.proofs.Lists.{gathered-append}
use Rattle.base.proofs.Loops.{and-true}
use Rattle.lines.specs.Lines.{Line, start_with, pieces, no_cr, numbered, lines_from, lines_of, skipped}
use Rattle.timetable.specs.Delivery.{Service}
use Rattle.timetable.specs.Plan.{told_in, tolds, opens_service, as_call, as_range, ranges_of, said_on}
use Rattle.timetable.specs.Service.{head_lines, blocks, opening_of, opened, announced, call_by, holding, called_on, calls_of, service_of}
use Rattle.timetable.specs.declared.Announced.{Announced}
use Rattle.timetable.specs.declared.Call.{Call}
use Rattle.timetable.specs.declared.CallLine.{CallLine}
use Rattle.timetable.specs.declared.Told.{Told}
use Rattle.timetable.specs.declared.Told.TheVariants.{Skip}
use Rattle.timetable.proofs.Lines.{said-on}
use Rattle.isolation.specs.Edit.{ends_line, starts_service}

-- ---- lists

pub map-append : {X Y : Type 0} (f : X → Y) (a b : List X) → map f (a ++ b) ≡ map f a ++ map f b
map-append f [] b = refl
map-append f (x ∷ a) b = ap (λ (r : List _). f x ∷ r) (map-append f a b)

pub map-map : {X Y Z : Type 0} (f : X → Y) (g : Y → Z) (xs : List X) → map g (map f xs) ≡ map (λ (x : X). g (f x)) xs
map-map f g [] = refl
map-map f g (x ∷ xs) = ap (λ (r : List _). g (f x) ∷ r) (map-map f g xs)

pub map-by : {X Y : Type 0} (f g : X → Y) → ((x : X) → f x ≡ g x) → (xs : List X) → map f xs ≡ map g xs
map-by f g e [] = refl
map-by f g e (x ∷ xs) = rw (e x, map-by f g e xs)

-- ---- pieces of two texts (belongs in lines: the law is there, for its own use)

start-append : (b : ℕ) (ps qs : List (List ℕ)) (p : List ℕ) (rs : List (List ℕ)) → ps ≡ p ∷ rs → start_with b (ps ++ qs) ≡ start_with b ps ++ qs
unfolding start_with
start-append b ps qs p rs e = rw e refl

start-some : (b : ℕ) (ps : List (List ℕ)) → (p : List ℕ) × (rs : List (List ℕ)) × (start_with b ps ≡ p ∷ rs)
unfolding start_with
start-some b [] = (b ∷ [], [], refl)
start-some b (p ∷ ps) = (b ∷ p, ps, refl)

some-piece : (b : ℕ) (s : List ℕ) → (p : List ℕ) × (rs : List (List ℕ)) × (pieces (b ∷ s) ≡ p ∷ rs)
unfolding pieces
some-piece b s = go (eqb b 10)
  where
    go : (t : Bool) → (p : List ℕ) × (rs : List (List ℕ)) × (cond t ([] ∷ pieces s) (start_with b (pieces s)) ≡ p ∷ rs)
    go true = ([], pieces s, refl)
    go false = start-some b (pieces s)

pub pieces-append : (a b : List ℕ) → ends_line a ≡ true → pieces (a ++ b) ≡ pieces a ++ pieces b
unfolding pieces ends_line
pieces-append [] b h = refl
pieces-append (x ∷ []) b h = rw h
pieces-append (x ∷ c ∷ s) b h = go (eqb x 10) (pieces-append (c ∷ s) b h)
  where
    go : (t : Bool) → pieces ((c ∷ s) ++ b) ≡ pieces (c ∷ s) ++ pieces b
        → cond t ([] ∷ pieces ((c ∷ s) ++ b)) (start_with x (pieces ((c ∷ s) ++ b))) ≡ cond t ([] ∷ pieces (c ∷ s)) (start_with x (pieces (c ∷ s))) ++ pieces b
    go true ih = ap (λ (ps : List (List ℕ)). [] ∷ ps) ih
    go false ih = let q = some-piece c s in ap (start_with x) ih ∙ start-append x (pieces (c ∷ s)) (pieces b) q.0 q.1 q.2

-- ---- lines without their numbers and places

abbrev pub unplaced : Line → Line
unplaced l = record { no = 0; start = 0; text = l.text }

abbrev text_only : List ℕ → Line
text_only p = record { no = 0; start = 0; text = no_cr p }

unfoldable pub plain : List ℕ → List Line
plain s = map text_only (pieces s)

unplaced-numbered : (n at : ℕ) (ps : List (List ℕ)) → map unplaced (numbered n at ps) ≡ map text_only ps
unfolding numbered
unplaced-numbered n at [] = refl
unplaced-numbered n at (p ∷ ps) = ap (λ (r : List Line). text_only p ∷ r) (unplaced-numbered (n + 1) (at + length p + 1) ps)

pub unplaced-lines : (n at : ℕ) (s : List ℕ) → map unplaced (lines_from n at s) ≡ plain s
unfolding lines_from plain
unplaced-lines n at s = unplaced-numbered n at (pieces s)

pub plain-append : (a b : List ℕ) → ends_line a ≡ true → plain (a ++ b) ≡ plain a ++ plain b
unfolding plain
plain-append a b h = ap (map text_only) (pieces-append a b h) ∙ map-append text_only (pieces a) (pieces b)

-- ---- blocks of them

-- lines changed, of which the same open a service
module _ (g : Line → Line) (keeps : (l : Line) → opens_service (g l) ≡ opens_service l) where
  pub head-map : (ls : List Line) → head_lines (map g ls) ≡ map g (head_lines ls)
  unfolding head_lines
  head-map [] = refl
  head-map (l ∷ ls) = rw (keeps l) (go (opens_service l) (head-map ls))
    where
      go : (t : Bool) → head_lines (map g ls) ≡ map g (head_lines ls) → cond t [] (g l ∷ head_lines (map g ls)) ≡ map g (cond t [] (l ∷ head_lines ls))
      go true e = refl
      go false e = ap (λ (r : List Line). g l ∷ r) e

  pub blocks-map : (ls : List Line) → blocks (map g ls) ≡ map (map g) (blocks ls)
  unfolding blocks
  blocks-map [] = refl
  blocks-map (l ∷ ls) = rw (keeps l) (go (opens_service l) (head-map ls) (blocks-map ls))
    where
      go : (t : Bool) → head_lines (map g ls) ≡ map g (head_lines ls) → blocks (map g ls) ≡ map (map g) (blocks ls)
          → cond t ((g l ∷ head_lines (map g ls)) ∷ blocks (map g ls)) (blocks (map g ls)) ≡ map (map g) (cond t ((l ∷ head_lines ls) ∷ blocks ls) (blocks ls))
      go true h e = rw (h, e)
      go false h e = e

opens-unplaced : (l : Line) → opens_service (unplaced l) ≡ opens_service l
unfolding opens_service
opens-unplaced l = refl

-- ---- services of them

-- a service without its opening line's number
abbrev pub bare : Service → Service
bare s = record { line = 0; opening = s.opening; calls = s.calls; categories = s.categories; days = s.days; extras = s.extras }

tolds-unplaced : (ls : List Line) → tolds (map unplaced ls) ≡ tolds ls
unfolding tolds
tolds-unplaced [] = refl
tolds-unplaced (l ∷ ls) = ap (λ (r : List Told). told_in l.text ∷ r) (tolds-unplaced ls)

opening-unplaced : (ls : List Line) → opening_of (map unplaced ls) ≡ opening_of ls
opening-unplaced [] = refl
opening-unplaced (l ∷ ls) = refl

-- calls go by what the schedule lines say, not by the lines' numbers
pub held_same : (a : Announced) (ps qs : List (ℕ × CallLine)) → map (λ (p : ℕ × CallLine). p.1) ps ≡ map (λ (p : ℕ × CallLine). p.1) qs
    → map (λ (c : ℕ × Call). c.1) (holding a ps) ≡ map (λ (c : ℕ × Call). c.1) (holding a qs)
unfolding holding
held_same a [] [] e = refl
held_same a [] (q ∷ qs) e = apart (cc)
held_same a (p ∷ ps) [] e = apart (cc)
held_same a (p ∷ ps) (q ∷ qs) e =
    let x : p.1 ≡ q.1 = cc in
    let y : map (λ (p : ℕ × CallLine). p.1) ps ≡ map (λ (p : ℕ × CallLine). p.1) qs = cc in
    rw (held_same (announced (call_by a p.1)) ps qs y, x)

-- a service is what its first line opens, and what all its lines say
pub same-calls : (a b : List Line) → opening_of a ≡ opening_of b → gathered as_call (tolds a) ≡ gathered as_call (tolds b) → calls_of a ≡ calls_of b
unfolding called_on
same-calls a b o e = rw o (held_same (opened (opening_of b)) (said_on as_call a) (said_on as_call b) (said-on as_call a ∙ (e ∙ sym (said-on as_call b))))

pub same-bare : (a b : List Line) → opening_of a ≡ opening_of b → gathered as_call (tolds a) ≡ gathered as_call (tolds b) → ranges_of a ≡ ranges_of b → bare (service_of a) ≡ bare (service_of b)
unfolding service_of
same-bare a b o e r = rw (o, same-calls a b o e, r)

bare-unplaced : (ls : List Line) → bare (service_of (map unplaced ls)) ≡ bare (service_of ls)
bare-unplaced ls = same-bare (map unplaced ls) ls (opening-unplaced ls) (ap (gathered as_call) (tolds-unplaced ls)) (ap (gathered as_range) (tolds-unplaced ls))

abbrev all_bare : List (List Line) → List Service
all_bare bs = map (λ (b : List Line). bare (service_of b)) bs

-- the services of lines, without the opening lines' numbers
abbrev pub services : List Line → List Service
services ls = all_bare (blocks ls)

services-unplaced : (ls : List Line) → services (map unplaced ls) ≡ services ls
services-unplaced ls =
    ap all_bare (blocks-map unplaced opens-unplaced ls)
    ∙ (map-map (map unplaced) (λ (b : List Line). bare (service_of b)) (blocks ls)
    ∙ map-by (λ (b : List Line). bare (service_of (map unplaced b))) (λ (b : List Line). bare (service_of b)) bare-unplaced (blocks ls))

services-plain : (n at : ℕ) (s : List ℕ) → services (lines_from n at s) ≡ services (plain s)
services-plain n at s = sym (services-unplaced (lines_from n at s)) ∙ ap services (unplaced-lines n at s)

-- ---- lines that are skipped say nothing

abbrev pub Skipped : List Line → Type 0
Skipped ls = every (λ (l : Line). skipped l.text) ls ≡ true

skip-says : (l : Line) → skipped l.text ≡ true → told_in l.text ≡ Skip
unfolding told_in
skip-says l e = rw e

said-skipped : {X : Type 0} (say : Told → List X) → say Skip ≡ [] → (ls : List Line) → Skipped ls → gathered say (tolds ls) ≡ []
unfolding gathered tolds every
said-skipped say z [] h = refl
said-skipped say z (l ∷ ls) h = let q = and-true _ _ h in rw (skip-says l q.0, z, said-skipped say z ls q.1)

tolds-append : (a b : List Line) → tolds (a ++ b) ≡ tolds a ++ tolds b
unfolding tolds
tolds-append [] b = refl
tolds-append (l ∷ a) b = ap (λ (r : List Told). told_in l.text ∷ r) (tolds-append a b)

said-before : {X : Type 0} (say : Told → List X) → say Skip ≡ [] → (a b : List Line) → Skipped b → gathered say (tolds (a ++ b)) ≡ gathered say (tolds a)
said-before say z a b h =
    ap (gathered say) (tolds-append a b) ∙ (gathered-append say (tolds a) (tolds b) ∙ (ap (λ (r : List _). gathered say (tolds a) ++ r) (said-skipped say z b h) ∙ append-nil _))

-- behind a service they belong to it, and change nothing
skips-behind : (l : Line) (a b : List Line) → Skipped b → bare (service_of (l ∷ (a ++ b))) ≡ bare (service_of (l ∷ a))
skips-behind l a b h = same-bare (l ∷ (a ++ b)) (l ∷ a) refl (said-before as_call refl (l ∷ a) b h) (said-before as_range refl (l ∷ a) b h)

-- ---- the services of lines after lines

head-then : (a b : List Line) → Skipped (head_lines b) → (r : List Line) × Skipped r × (head_lines (a ++ b) ≡ head_lines a ++ r)
unfolding head_lines every
head-then [] b h = (head_lines b, h, refl)
head-then (l ∷ a) b h = go (opens_service l) (head-then a b h)
  where
    go : (t : Bool) → (r : List Line) × Skipped r × (head_lines (a ++ b) ≡ head_lines a ++ r)
        → (r : List Line) × Skipped r × (cond t [] (l ∷ head_lines (a ++ b)) ≡ cond t [] (l ∷ head_lines a) ++ r)
    go true q = ([], refl, refl)
    go false q = (q.0, q.1, ap (λ (r : List Line). l ∷ r) q.2)

services-append : (a b : List Line) → Skipped (head_lines b) → services (a ++ b) ≡ services a ++ services b
unfolding blocks
services-append [] b h = refl
services-append (l ∷ a) b h = go (opens_service l) (head-then a b h) (services-append a b h)
  where
    go : (t : Bool) → (r : List Line) × Skipped r × (head_lines (a ++ b) ≡ head_lines a ++ r) → services (a ++ b) ≡ services a ++ services b
        → all_bare (cond t ((l ∷ head_lines (a ++ b)) ∷ blocks (a ++ b)) (blocks (a ++ b))) ≡ all_bare (cond t ((l ∷ head_lines a) ∷ blocks a) (blocks a)) ++ services b
    go true q e = rw (q.2, skips-behind l (head_lines a) q.0 q.1, e)
    go false q e = e

head-skipped : (a b : List Line) → Skipped (head_lines a) → Skipped (head_lines b) → Skipped (head_lines (a ++ b))
unfolding every
head-skipped a b h k = let q = head-then a b k in rw q.2 (every_append (head_lines a) q.0 h q.1)
  where
    every_append : (a b : List Line) → Skipped a → Skipped b → Skipped (a ++ b)
    every_append [] b h k = k
    every_append (l ∷ a) b h k = let q = and-true (skipped l.text) (every (λ (l : Line). skipped l.text) a) h in rw q.0 (every_append a b q.1 k)

skipped-unplaced : (ls : List Line) → Skipped ls → Skipped (map unplaced ls)
unfolding every
skipped-unplaced [] h = refl
skipped-unplaced (l ∷ ls) h = let q = and-true (skipped l.text) (every (λ (l : Line). skipped l.text) ls) h in rw q.0 (skipped-unplaced ls q.1)

starts-plain : (s : List ℕ) → starts_service s ≡ true → Skipped (head_lines (plain s))
starts-plain s h = rw (sym (unplaced-lines 1 0 s), head-map unplaced opens-unplaced (lines_of s)) (skipped-unplaced (head_lines (lines_of s)) h)

-- ---- the services of FPLAN cut in three

then-plain : (x post : List ℕ) → (post ≡ []) ⊎ (ends_line x ≡ true) → plain (x ++ post) ≡ plain x ++ plain post
unfolding plain pieces
then-plain x post (inl e) = rw (e, append-nil x, append-nil)
then-plain x post (inr e) = plain-append x post e

pub services-cut : (pre x post : List ℕ) → ends_line pre ≡ true → starts_service x ≡ true → starts_service post ≡ true → (post ≡ []) ⊎ (ends_line x ≡ true)
    → services (lines_of (pre ++ (x ++ post))) ≡ services (lines_of pre) ++ (services (lines_of x) ++ services (lines_of post))
services-cut pre x post ends sx sp cut =
    services-plain 1 0 (pre ++ (x ++ post))
    ∙ (ap services (plain-append pre (x ++ post) ends ∙ ap (λ (r : List Line). plain pre ++ r) (then-plain x post cut))
    ∙ (services-append (plain pre) (plain x ++ plain post) (head-skipped (plain x) (plain post) (starts-plain x sx) (starts-plain post sp))
    ∙ rw (services-append (plain x) (plain post) (starts-plain post sp), services-plain 1 0 pre, services-plain 1 0 x, services-plain 1 0 post)))
