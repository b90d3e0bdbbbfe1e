-- By a table's own index a board is the board of the table (`own-board`): `y` are the words of its calls and a mark m, which is 1 only where the calls of every service are steady.
-- Assumes nothing.
use mathlib.Core.Path.{◌≡◌, refl, ap, ◌∙◌, sym, fun_ext}
use mathlib.Core.List.{List, [], ◌∷◌, ◌++◌, Permᴰ}
use mathlib.Core.Bool.{Bool, true, false, cond}
use mathlib.Core.Option.{Option}
use Prim.Native.Nat.{ℕ, zero, suc, ◌+◌, ◌-◌, ◌*◌, ◌≤◌, ◌<◌}
use native.Mathlib.Omega.{arith}
use lib.ListN.{length, get_or, take, drop, length-append, length-map, get_or-append}
use lib.Seq.{drop-drop, drop_at, get_or-drop, get_or_at, take_all}
use lib.Dec.{eqb, ltb}
use borrow.Author.Tests.{eq-eqb, ne_eqb, eqb-true, le-leb, lt-ltb}
use Rattle.std.specs.Prelude.{Ok}
use Rattle.base.specs.Lists.{All, nil, cons, gathered, below}
use Rattle.base.proofs.Laws.{by_eqb}
use Rattle.base.proofs.Loops.{and-true}
use Rattle.timetable.specs.Delivery.{Service}
use Rattle.timetable.specs.Layout.{stop_size, service_head, call_size}
use Rattle.timetable.specs.Table.{used_words, stops#, services#, calls#, call_at, rows_in, service_at, with_stop, with_stops, resolved, stop_number_at, table_of}
use Rattle.timetable.specs.View.{View, service_by, view_of}
use Rattle.timetable.specs.Run.{course_on}
use Rattle.timetable.specs.declared.Call.{Call}
use Rattle.timetable.proofs.Rows.{length-rows}
use Rattle.table.specs.JustTable.{JustTable, stops_place}
use Rattle.table.proofs.Records.{first_word}
use Rattle.lookups.specs.Lookups.{service_place}
use Rattle.lookups.proofs.Services.{service-is}
use Rattle.chains.specs.Chains.{greatest, has_key, key_of, next_by}
use Rattle.chains.proofs.Agrees.{first-agrees, next-agrees}
use Rattle.index.specs.Index.{stops_from, field_section, stop_section, interchange_section, class_section, section_end, chains_of, places_of, index_of, view_in}
use Rattle.index.proofs.Agrees.{view-agrees, place-agrees, length-of}
use Rattle.calls.specs.Calls.{Stand, stand_at, stands_from, stands_in, all_calls, call_of, stop_place_of, at_stop, last_at, entry_by, entry_of, call_index_of}
use Rattle.calls.proofs.Calls.{call-number, each-inside, all-few}
use Rattle.calls.proofs.Words.{index-long}
use Rattle.calls_at.specs.Inner.Listed.{listed_to, listed_at}
use Rattle.calls_at.proofs.Chain.{head-held, word_held, at-is}
use Rattle.calls_at.proofs.Meaning.{Proper, call-proper}
use Rattle.calls_at.proofs.Boards.{calls-by-service, listed-all}
use Rattle.sort.specs.Rows.{not_after}
use Rattle.sort.proofs.Meaning.{perm-sorted}
use Rattle.sort.proofs.Order.{row-order}
use Rattle.board.specs.Board.{Departure, call_departures, leaves, service_departures, board_of}
use Rattle.board_runs.specs.Batch.{found_at, departures_at, record_of}
use Rattle.table.specs.Steady.{calls_steady}
use Rattle.board_runs.proofs.Goes.{steady-same}
use Rattle.board_runs.proofs.Needs.{call-there}
use Rattle.stop_calls.specs.StopCalls.{chained, entries#, entry_word, calls_on, stops_by, calls_by}
use Rattle.boards.specs.ByWords.{steady_in, departures_by, board_by}
use Rattle.boards.specs.ByWords as B
use Rattle.boards.proofs.Bounds.{gathered-few}
use Rattle.whole_index.specs.Whole.{steady_mark, marked_calls}
use Rattle.board_agrees.proofs.Steady.{marked-steady}
use Rattle.board_agrees.proofs.Gather.{passing, chained-right, passing-each, gathered-map, gathered-twice, gathered-same, all-upto, all-at, gathered-perm, gathered-swap, perm-length, none_of, pick}

module _ (w x y : List ℕ) (m : ℕ) (h : JustTable w) (ex : x ≡ index_of w) (ey : y ≡ call_index_of w ++ (m ∷ []))
    (st : m ≡ 1 → (i : ℕ) → i < services# w → calls_steady (stops# w) (drop (service_place w i) w) ≡ true) where
  abbrev end : ℕ
  end = section_end (stop_section w)

  -- ---- the stops with a number

  module _ (n : ℕ) where
    abbrev numbered : ℕ → Bool
    numbered s = has_key w (section_end (stop_section w)) stop_size n s

    stop-chains : drop (stops_from w) x ≡ chains_of w (stop_section w) ++ (chains_of w (interchange_section w) ++ (chains_of w (class_section w) ++ places_of w))
    unfolding index_of
    stop-chains = ap (drop (stops_from w)) ex ∙ drop_at (chains_of w (field_section w)) (chains_of w (stop_section w) ++ (chains_of w (interchange_section w) ++ (chains_of w (class_section w) ++ places_of w))) (stops_from w) (length-of w (field_section w))

    stops-are : stops_by w x (section_end (stop_section w)) (stops# w) (stops_from w) n ≡ passing (has_key w (section_end (stop_section w)) stop_size n) (stops# w)
    unfolding stops_by chains_of
    stops-are =
        let rest : List ℕ = chains_of w (interchange_section w) ++ (chains_of w (class_section w) ++ places_of w) in
        ap (chained (next_by w x (section_end (stop_section w)) stop_size (stops_from w) n) (stops# w)) (first-agrees w x rest (section_end (stop_section w)) stop_size (stops# w) (stops_from w) stop-chains n)
        ∙ chained-right (has_key w (section_end (stop_section w)) stop_size n) (next_by w x (section_end (stop_section w)) stop_size (stops_from w) n) (stops# w) (stops# w)
        (λ e z l q. next-agrees w x rest (section_end (stop_section w)) stop_size (stops# w) (stops_from w) stop-chains n e z l q) (omega arith)

  -- ---- the words of the calls, and the mark

  length_marked : length y ≡ stops# w + 4 * all_calls w + 1
  length_marked = ap length ey ∙ length-append (call_index_of w) (m ∷ []) ∙ omega (arith, index-long w)

  word-own : (j : ℕ) → j < stops# w + 4 * all_calls w → get_or y j 0 ≡ get_or (call_index_of w) j 0
  word-own j l = ap (λ (z : List ℕ). get_or z j 0) ey ∙ get_or-append (call_index_of w) (m ∷ []) 0 j (omega (arith, index-long w))

  mark-own : get_or y (length y - 1) 0 ≡ m
  mark-own = ap (λ (z : List ℕ). get_or z (length y - 1) 0) ey ∙ get_or_at (call_index_of w) m [] 0 (length y - 1) (omega (arith, length_marked, index-long w))

  -- where the mark is read as steady, every record is
  steady-own : steady_in (stops# w) y ≡ true → (i : ℕ) → i < services# w → calls_steady (stops# w) (record_of w x i) ≡ true
  unfolding steady_in
  steady-own e i l =
      let q : m ≡ 1 = sym mark-own ∙ eqb-true (get_or y (length y - 1) 0) 1 (and-true (ltb (stops# w) (length y)) _ e).1 in
      ap (λ (p : ℕ). calls_steady (stops# w) (drop p w)) (place-agrees w x ex i l) ∙ st q i l

  -- ---- the calls at a stop

  entries-are : entries# (stops# w) y ≡ all_calls w
  unfolding entries#
  entries-are = omega (arith, length_marked)

  entry-word : (k e : ℕ) → 0 < e → e ≤ all_calls w → k < 4 → entry_word (stops# w) y k e ≡ get_or (entry_of w e) k 0
  unfolding entry_word
  entry-word k e z l g = word-own (stops# w + 4 * (e - 1) + k) (omega arith) ∙ word_held w (call_index_of w) refl e k z l g

  before-is : (b e : ℕ) → 0 < e → e ≤ all_calls w → at_stop w b e ≡ true → entry_word (stops# w) y 0 e ≡ greatest (at_stop w b) (e - 1)
  unfolding entry_of entry_by last_at
  before-is b e z l q = entry-word 0 e z l (omega arith) ∙ ap (λ (s : ℕ). greatest (at_stop w s) (e - 1)) (at-is w b e q)

  calls_are : (s : ℕ) → 0 < s → s ≤ stops# w → calls_on (stops# w) y s ≡ passing (at_stop w (stops# w - s)) (all_calls w)
  unfolding calls_on last_at
  calls_are s z l =
      let head : get_or y (stops# w - s) 0 ≡ greatest (at_stop w (stops# w - s)) (all_calls w) = word-own (stops# w - s) (omega arith) ∙ head-held w (call_index_of w) refl (stops# w - s) (omega arith) in
      rw (entries-are, head)
      (chained-right (at_stop w (stops# w - s)) (entry_word (stops# w) y 0) (all_calls w) (all_calls w) (λ e a c q. before-is (stops# w - s) e a c q) (omega arith))

  -- ---- what all calls give, where a call gives nothing unless its stop has the number

  module _ {Y : Type 0} (n : ℕ) (g : Stand → List Y) (off : (c : Stand) → Proper w c → stop_place_of w c < stops# w → has_key w (section_end (stop_section w)) stop_size n (stops# w - stop_place_of w c) ≡ false → g c ≡ []) where
    met : (c : Stand) → Proper w c → stop_place_of w c < stops# w → gathered (λ (s : ℕ). cond (eqb (stop_place_of w c) (stops# w - s)) (g c) []) (passing (numbered n) (stops# w)) ≡ g c
    met c p l =
        gathered-same (λ (e : ℕ). (0 < e) × (e ≤ stops# w) × (numbered n e ≡ true)) (λ (s : ℕ). cond (eqb (stop_place_of w c) (stops# w - s)) (g c) []) (λ (s : ℕ). cond (eqb (stops# w - stop_place_of w c) s) (g c) [])
        (λ s q. ap (λ (u : Bool). cond u (g c) []) (turned s q.0 q.1)) (passing-each (numbered n) (stops# w) (stops# w) (omega arith))
        ∙ pick (numbered n) (stops# w - stop_place_of w c) (g c) (stops# w) (omega arith)
        ∙ rw (le-leb (stops# w - stop_place_of w c) (stops# w) (omega arith)) (told (numbered n (stops# w - stop_place_of w c)) refl)
      where
        turned : (s : ℕ) → 0 < s → s ≤ stops# w → eqb (stop_place_of w c) (stops# w - s) ≡ eqb (stops# w - stop_place_of w c) s
        turned s z q =
            by_eqb (λ u. eqb (stop_place_of w c) (stops# w - s) ≡ u) (stops# w - stop_place_of w c) s
            (λ e. eq-eqb (stop_place_of w c) (stops# w - s) (omega arith)) (λ e. ne_eqb (stop_place_of w c) (stops# w - s) (λ d. e (omega arith)))

        told : (b : Bool) → numbered n (stops# w - stop_place_of w c) ≡ b → cond b (g c) [] ≡ g c
        told true e = refl
        told false e = sym (off c p l e)

    each : All (λ (c : Stand). Proper w c × (stop_place_of w c < stops# w)) (stands_in w)
    each = all-at (λ (c : Stand). Proper w c × (stop_place_of w c < stops# w)) (stand_at 0 0 0) (stands_in w) (λ j l. (rw (call-number w j) at (call-proper w j l), (each-inside w h j l).stop))

    pub all-calls : Permᴰ (gathered (λ (s : ℕ). gathered g (listed_at w (stops# w - s))) (passing (numbered n) (stops# w))) (gathered g (stands_in w))
    all-calls =
        let a : Permᴰ (gathered (λ (s : ℕ). gathered g (listed_at w (stops# w - s))) (passing (numbered n) (stops# w))) (gathered (λ (s : ℕ). gathered (λ (c : Stand). cond (eqb (stop_place_of w c) (stops# w - s)) (g c) []) (stands_in w)) (passing (numbered n) (stops# w)))
        = gathered-perm (λ (s : ℕ). gathered g (listed_at w (stops# w - s))) (λ (s : ℕ). gathered (λ (c : Stand). cond (eqb (stop_place_of w c) (stops# w - s)) (g c) []) (stands_in w)) (λ s. listed-all w (stops# w - s) g) (passing (numbered n) (stops# w)) in
        let b : Permᴰ (gathered (λ (s : ℕ). gathered (λ (c : Stand). cond (eqb (stop_place_of w c) (stops# w - s)) (g c) []) (stands_in w)) (passing (numbered n) (stops# w))) (gathered (λ (c : Stand). gathered (λ (s : ℕ). cond (eqb (stop_place_of w c) (stops# w - s)) (g c) []) (passing (numbered n) (stops# w))) (stands_in w))
        = gathered-swap (λ (s : ℕ) (c : Stand). cond (eqb (stop_place_of w c) (stops# w - s)) (g c) []) (stands_in w) (passing (numbered n) (stops# w)) in
        let e : gathered (λ (c : Stand). gathered (λ (s : ℕ). cond (eqb (stop_place_of w c) (stops# w - s)) (g c) []) (passing (numbered n) (stops# w))) (stands_in w) ≡ gathered g (stands_in w)
        = gathered-same (λ (c : Stand). Proper w c × (stop_place_of w c < stops# w)) (λ (c : Stand). gathered (λ (s : ℕ). cond (eqb (stop_place_of w c) (stops# w - s)) (g c) []) (passing (numbered n) (stops# w))) g (λ c p. met c p.0 p.1) each in
        Permᴰ.trans a (rw e at b)

  -- ---- no more calls than the table has words

  module _ (n : ℕ) where
    abbrev counted : Stand → List Stand
    counted c = cond (has_key w (section_end (stop_section w)) stop_size n (stops# w - stop_place_of w c)) (c ∷ []) []

    counted-one : (c : Stand) → length (counted c) ≤ 1
    counted-one c = go (has_key w (section_end (stop_section w)) stop_size n (stops# w - stop_place_of w c))
      where
        go : (b : Bool) → length (cond b (c ∷ []) []) ≤ 1
        go true = omega arith
        go false = omega arith

    as_many : (b k : ℕ) → has_key w (section_end (stop_section w)) stop_size n (stops# w - b) ≡ true → length (passing (at_stop w b) k) ≡ length (gathered counted (listed_to w b k))
    unfolding passing listed_to gathered
    as_many b zero q = refl
    as_many b (suc k) q = go (at_stop w b (suc k)) refl (as_many b k q)
      where
        go : (t : Bool) → at_stop w b (suc k) ≡ t → length (passing (at_stop w b) k) ≡ length (gathered counted (listed_to w b k))
            → length (cond t (suc k ∷ passing (at_stop w b) k) (passing (at_stop w b) k)) ≡ length (gathered counted (cond t (call_of w (suc k) ∷ listed_to w b k) (listed_to w b k)))
        go true e i =
            let z : has_key w (section_end (stop_section w)) stop_size n (stops# w - stop_place_of w (call_of w (suc k))) ≡ true = ap (λ (s : ℕ). has_key w (section_end (stop_section w)) stop_size n (stops# w - s)) (at-is w b (suc k) e) ∙ q in
            rw z (ap suc i)
        go false e i = i

    calls_same : calls_by w x y (section_end (stop_section w)) (stops# w) (stops_from w) n ≡ gathered (λ (s : ℕ). passing (at_stop w (stops# w - s)) (all_calls w)) (passing (numbered n) (stops# w))
    unfolding calls_by
    calls_same =
        ap (gathered (calls_on (stops# w) y)) (stops-are n)
        ∙ gathered-same (λ (e : ℕ). (0 < e) × (e ≤ stops# w) × (numbered n e ≡ true)) (calls_on (stops# w) y) (λ (s : ℕ). passing (at_stop w (stops# w - s)) (all_calls w)) (λ s q. calls_are s q.0 q.1) (passing-each (numbered n) (stops# w) (stops# w) (omega arith))

    lengths : {X Y Z : Type 0} (P : X → Type 0) (f : X → List Y) (g : X → List Z) → ((s : X) → P s → length (f s) ≡ length (g s)) → {l : List X} → All P l → length (gathered f l) ≡ length (gathered g l)
    unfolding gathered
    lengths P f g q nil = refl
    lengths P f g q (cons {x = s} {xs = l} p a) = length-append (f s) (gathered f l) ∙ omega (arith, q s p, lengths P f g q a, length-append (g s) (gathered g l))

    few : length (calls_by w x y (section_end (stop_section w)) (stops# w) (stops_from w) n) ≤ used_words w
    few =
        let a : length (calls_by w x y (section_end (stop_section w)) (stops# w) (stops_from w) n) ≡ length (gathered (λ (s : ℕ). gathered counted (listed_at w (stops# w - s))) (passing (numbered n) (stops# w)))
        = ap length calls_same ∙ lengths (λ (e : ℕ). (0 < e) × (e ≤ stops# w) × (numbered n e ≡ true)) (λ (s : ℕ). passing (at_stop w (stops# w - s)) (all_calls w)) (λ (s : ℕ). gathered counted (listed_at w (stops# w - s)))
        (λ s q. as_many (stops# w - s) (all_calls w) (let z : stops# w - (stops# w - s) ≡ s = omega (arith, q.1) in ap (numbered n) z ∙ q.2)) (passing-each (numbered n) (stops# w) (stops# w) (omega arith)) in
        let b : length (gathered (λ (s : ℕ). gathered counted (listed_at w (stops# w - s))) (passing (numbered n) (stops# w))) ≡ length (gathered counted (stands_in w)) = perm-length (all-calls n counted (λ c p l e. rw e)) in
        omega (arith, a, b, gathered-few counted 1 counted-one (stands_in w), all-few w h, h.ends)

  -- ---- a service, and a call of it

  module _ (i : ℕ) (l : i < services# w) where
    abbrev own : Service
    own = with_stops (stop_number_at (table_of w).stops) (service_at (drop (service_place w i) w))

    service-own : (view_of (table_of w)).service i ≡ Ok (with_stops (stop_number_at (table_of w).stops) (service_at (drop (service_place w i) w)))
    unfolding resolved
    service-own = ap service_by (service-is w h i l)

    calls-own : length own.calls ≡ get_or w (service_place w i + 6) 0
    unfolding service_at
    calls-own = length-map (rows_in call_at call_size (calls# (drop (service_place w i) w)) (drop service_head (drop (service_place w i) w))) (with_stop (stop_number_at (table_of w).stops)) ∙ length-rows call_at call_size (calls# (drop (service_place w i) w)) (drop service_head (drop (service_place w i) w)) ∙ get_or-drop (service_place w i) w 6 0

  module _ (n k t u : ℕ) where
    abbrev v : View
    v = view_of (table_of w)

    abbrev given : Stand → List Departure
    given c = departures_at (view_of (table_of w)) n k t u c.service c.place

    number_is : (b : ℕ) → b < stops# w → stop_number_at (table_of w).stops b ≡ key_of w (section_end (stop_section w)) stop_size (stops# w - b)
    unfolding key_of view_in
    number_is b l =
        let p : stops_place w + stop_size * b ≡ section_end (stop_section w) - stop_size * (stops# w - b) = omega arith in
        sym (ap (λ (z : View). z.shown b) (view-agrees w x h ex)) ∙ rw (lt-ltb b (stops# w) l) (ap (λ (j : ℕ). get_or w j 0) p)

    off-given : (c : Stand) → Proper w c → stop_place_of w c < stops# w → has_key w (section_end (stop_section w)) stop_size n (stops# w - stop_place_of w c) ≡ false → departures_at (view_of (table_of w)) n k t u c.service c.place ≡ []
    unfolding departures_at has_key
    off-given c p l e =
        let inside : c.place < calls# (drop (service_place w c.service) w) = omega (arith, p.place, p.at, ap (λ (a : ℕ). get_or w (a + 6) 0) p.at, get_or-drop (service_place w c.service) w 6 0) in
        let call = call-there (stop_number_at (table_of w).stops) (drop (service_place w c.service) w) c.place inside in
        let raw : get_or (drop (service_head + call_size * c.place) (drop (service_place w c.service) w)) 0 0 ≡ stop_place_of w c
        = ap (λ (r : List ℕ). get_or r 0 0) (drop-drop (service_head + call_size * c.place) (service_place w c.service) w) ∙ first_word w (service_place w c.service + (service_head + call_size * c.place))
        ∙ (let q : service_place w c.service + (service_head + call_size * c.place) ≡ c.at + service_head + call_size * c.place = omega (arith, p.at) in ap (λ (j : ℕ). get_or w j 0) q) in
        let wrong : eqb (stop_number_at (table_of w).stops (get_or (drop (service_head + call_size * c.place) (drop (service_place w c.service) w)) 0 0)) n ≡ false
        = ap (λ (b : ℕ). eqb (stop_number_at (table_of w).stops b) n) raw ∙ ap (λ (m : ℕ). eqb m n) (number_is (stop_place_of w c) l) ∙ e in
        ap (found_at (view_of (table_of w)) n k t u c.service c.place) (service-own c.service p.service)
        ∙ ap (λ (o : Option Call). cond (leaves (course_on (view_of (table_of w)) (own c.service p.service) k) c.place) (call_departures n t u c.service (own c.service p.service).opening c.place o) []) call
        ∙ rw wrong (either (leaves (course_on (view_of (table_of w)) (own c.service p.service) k) c.place))
      where
        either : (b : Bool) → cond b (none_of Departure) (none_of Departure) ≡ none_of Departure
        either true = refl
        either false = refl

    -- an entry gives what its call gives
    entry-given : (e : ℕ) → 0 < e → e ≤ all_calls w → B.entry_departures w x (stops# w) y n k t u e ≡ given (call_of w e)
    unfolding B.entry_departures entry_of entry_by
    entry-given e z l =
        steady-same (steady_in (stops# w) y) w x n k t u (entry_word (stops# w) y 1 e) (entry_word (stops# w) y 3 e) (λ q. steady-own q (entry_word (stops# w) y 1 e))
        ∙ (λ j. departures_at (view-agrees w x h ex j) n k t u (entry-word 1 e z l (omega arith) j) (entry-word 3 e z l (omega arith) j))

    listed-given : (b m : ℕ) → m ≤ all_calls w → gathered (B.entry_departures w x (stops# w) y n k t u) (passing (at_stop w b) m) ≡ gathered given (listed_to w b m)
    unfolding passing listed_to gathered
    listed-given b zero l = refl
    listed-given b (suc m) l = go (at_stop w b (suc m)) (listed-given b m (omega arith))
      where
        go : (s : Bool) → gathered (B.entry_departures w x (stops# w) y n k t u) (passing (at_stop w b) m) ≡ gathered given (listed_to w b m)
            → gathered (B.entry_departures w x (stops# w) y n k t u) (cond s (suc m ∷ passing (at_stop w b) m) (passing (at_stop w b) m)) ≡ gathered given (cond s (call_of w (suc m) ∷ listed_to w b m) (listed_to w b m))
        go true i = λ j. entry-given (suc m) (omega arith) l j ++ i j
        go false i = i

    service-given : (j : ℕ) → j < services# w → gathered (λ (p : ℕ). departures_at (view_of (table_of w)) n k t u j p) (below (get_or w (service_place w j + 6) 0)) ≡ service_departures (view_of (table_of w)) n k t u j
    unfolding departures_at service_departures
    service-given j l = rw (service-own j l, calls-own j l)

    -- service by service
    services-given : gathered given (stands_in w) ≡ gathered (service_departures (view_of (table_of w)) n k t u) (below (services# w))
    unfolding stands_from
    services-given =
        ap (gathered given) (calls-by-service w)
        ∙ gathered-twice given (λ (j : ℕ). stands_from j (service_place w j) (get_or w (service_place w j + 6) 0) 0) (below (services# w))
        ∙ gathered-same (λ (j : ℕ). j < 0 + services# w) (λ (j : ℕ). gathered given (stands_from j (service_place w j) (get_or w (service_place w j + 6) 0) 0)) (service_departures (view_of (table_of w)) n k t u)
        (λ j l. gathered-map given (stand_at j (service_place w j)) (below (get_or w (service_place w j + 6) 0)) ∙ one j (omega arith)) (all-upto (services# w) 0)
      where
        one : (j : ℕ) → j < services# w → gathered (λ (p : ℕ). departures_at (view_of (table_of w)) n k t u j p) (below (get_or w (service_place w j + 6) 0)) ≡ service_departures (view_of (table_of w)) n k t u j
        one j l = service-given j l

    -- THE AGREEMENT of the rows, in one order
    pub own-departures : Permᴰ (departures_by w x y n k t u) (gathered (service_departures (view_of (table_of w)) n k t u) (below (services# w)))
    unfolding departures_by
    own-departures =
        let a : gathered (B.entry_departures w x (stops# w) y n k t u) (take (used_words w) (calls_by w x y (section_end (stop_section w)) (stops# w) (stops_from w) n))
        ≡ gathered (λ (s : ℕ). gathered given (listed_at w (stops# w - s))) (passing (numbered n) (stops# w))
        = ap (gathered (B.entry_departures w x (stops# w) y n k t u)) (take_all (used_words w) (calls_by w x y (section_end (stop_section w)) (stops# w) (stops_from w) n) (few n) ∙ calls_same n)
        ∙ gathered-twice (B.entry_departures w x (stops# w) y n k t u) (λ (s : ℕ). passing (at_stop w (stops# w - s)) (all_calls w)) (passing (numbered n) (stops# w))
        ∙ ap (λ (f : ℕ → List Departure). gathered f (passing (numbered n) (stops# w))) (fun_ext (λ s. listed-given (stops# w - s) (all_calls w) (omega arith))) in
        rw (a, ← services-given) (all-calls n given (λ c p l e. off-given c p l e))

    pub own-board : board_by w x y n k t u ≡ board_of (view_of (table_of w)) (services# w) n k t u
    unfolding board_by board_of
    own-board = perm-sorted not_after row-order own-departures

-- the same by the calls and the mark of its own index
pub own-marked : (w x y : List ℕ) → JustTable w → x ≡ index_of w → y ≡ marked_calls w → (n k t u : ℕ) → board_by w x y n k t u ≡ board_of (view_of (table_of w)) (services# w) n k t u
unfolding marked_calls
own-marked w x y h ex ey n k t u = own-board w x y (steady_mark w) h ex ey (λ e. marked-steady w h e) n k t u
