-- The connection asked of any words, for `search plain` and `search quick`; and the agreement of both (`connection-agrees`). Assumes nothing.
use Rattle.std.specs.Prelude.{Result, Ok, Err}
use mathlib.Core.Path.{◌≡◌, ◌∙◌}
use mathlib.Core.List.{List, ◌++◌}
use mathlib.Core.Bool.{Bool, true, false, not}
use Prim.Native.Nat.{ℕ, ◌+◌, ◌*◌}
use lib.ListN.{length}
use Rattle.base.proofs.Laws.{tests}
use Rattle.timetable.specs.Table.{stops#, used, is_table}
use Rattle.timetable.specs.View.{View}
use Rattle.index.specs.Index.{index_of, view_in}
use Rattle.index.specs.Quick.{lookups_of, quick_refusal}
use Rattle.index.proofs.Quick.{asked-refused, asked-on, plain-words, quickly-refused, quickly-on, quick-words, quickly-agrees}
use Rattle.timetable.specs.declared.refusal.Refusal.{Refusal}
use Rattle.timetable.specs.declared.refusal.Refusal.TheVariants.{NoTable}
use Rattle.connections.specs.Connection.{ConnectionAnswer, bad_part, connection_in, no_connection, connection_asked}
use Rattle.connections.specs.Quick.{connection_quick}

-- ---- the plain question: t says whether the words are a table, u are those used, x is empty

module _ (w ws : List ℕ) (t : Bool) (e : t ≡ is_table w) where
  pub plain-refused : not t ≡ true → bad_part NoTable 0 ≡ connection_asked w ws
  unfolding connection_asked
  plain-refused o = asked-refused w t e no_connection (λ (v : View). connection_in v ws) o

  pub plain-is : not t ≡ false → (u : List ℕ) → u ≡ used w → (x : List ℕ) → length x ≡ 0 → (r : ConnectionAnswer) → r ≡ connection_in (view_in u x) ws → r ≡ connection_asked w ws
  unfolding connection_asked
  plain-is o u p x z r f = f ∙ asked-on w t e o u p x z no_connection (λ (v : View). connection_in v ws)

pub ruleset plain = (tests, plain-words, plain-refused, plain-is)

-- ---- the quick one: m is what it refuses before it asks, u are the words used, y those that the look-ups go by

module _ (w x ws : List ℕ) (m : Result (Unit {0}) Refusal) (e : m ≡ quick_refusal w (length x)) where
  pub quick-refused : (r : Refusal) → m ≡ Err r → bad_part r 0 ≡ connection_quick w x ws
  unfolding connection_quick
  quick-refused r n = quickly-refused w x m e no_connection (λ (v : View). connection_in v ws) r n

  pub quick-is : (d : Unit {0}) → m ≡ Ok d → (u : List ℕ) → u ≡ used w → (y : List ℕ) → y ≡ lookups_of u x → (r : ConnectionAnswer) → r ≡ connection_in (view_in u y) ws → r ≡ connection_quick w x ws
  unfolding connection_quick
  quick-is d z u p y q r f = f ∙ quickly-on w x m e d z u p y q no_connection (λ (v : View). connection_in v ws)

pub ruleset quick = (tests, quick-words, quick-refused, quick-is)

-- of a table and words that begin with its index and go on by the calls' words the quick answer is the plain one
pub connection-agrees : (w x c : List ℕ) (m : ℕ) → is_table w ≡ true → x ≡ index_of (used w) ++ c → length c ≡ stops# (used w) + 4 * m + 1 → (ws : List ℕ) → connection_quick w x ws ≡ connection_asked w ws
unfolding connection_quick connection_asked
connection-agrees w x c m t e l ws = quickly-agrees w x c m t e l no_connection (λ (v : View). connection_in v ws)
