-- A look-up map in words, four for each record. Assumes nothing.
use Rattle.std.specs.Prelude.{ℕ, zero, suc, ◌+◌, ◌*◌, ◌/◌, ◌≤◌, ◌<◌, ◌≡◌, List, [], ◌∷◌, ◌++◌, Bool, cond, length, get_or, eqb}
use Rattle.chains.specs.Chains.{bucket_of}
use Rattle.std.specs.Prelude.{Option, Some, None}

-- ---- sizes

-- the words of a record
abbrev pub map_record_size : ℕ
map_record_size = 4

-- the values of a word
abbrev pub word_values : ℕ
word_values = 4294967296

-- ---- what is asked

-- the last element that passes the test, counted from 1; 0 where none does
abbrev pub onward : Bool → ℕ → ℕ
onward here zero = cond here 1 0
onward here (suc n) = suc (suc n)

unfoldable pub last_of : (ℕ → Bool) → List ℕ → ℕ
last_of t [] = 0
last_of t (x ∷ xs) = onward (t x) (last_of t xs)

abbrev pub found_by : ℕ → Option ℕ
found_by zero = None
found_by (suc i) = Some i

-- the last record that has this number
unfoldable pub found_in : ℕ → List ℕ → Option ℕ
found_in number ns = found_by (last_of (λ (x : ℕ). eqb x number) ns)

-- ---- how the words hold it

-- word k of each of the first n records
unfoldable pub column : ℕ → ℕ → List ℕ → List ℕ
column k zero m = []
column k (suc n) m = column k n m ++ (get_or m (4 * n + k) 0 ∷ [])

abbrev pub numbers_in : ℕ → List ℕ → List ℕ
numbers_in n m = column 1 n m

abbrev pub places_in : ℕ → List ℕ → List ℕ
places_in n m = column 2 n m

abbrev pub in_bucket : ℕ → ℕ → ℕ → Bool
in_bucket size b x = eqb (bucket_of size x) b

-- heads and links name the last earlier record of the same bucket
pub record Chained (count : ℕ) (m : List ℕ) : Type 0 where
  pub size : length m < word_values
  pub room : map_record_size * count ≤ length m
  pub heads : (b : ℕ) → b < length m / 4 → get_or m (4 * b) 0 ≡ last_of (in_bucket (length m / 4) b) (numbers_in count m)
  pub links : (i : ℕ) → i < count → get_or m (4 * i + 3) 0 ≡ last_of (in_bucket (length m / 4) (bucket_of (length m / 4) (get_or m (4 * i + 1) 0))) (numbers_in i m)

-- a map of some records; how many is told by the words (`one-count`)
pub record Mapped (m : List ℕ) : Type 0 where
  pub count : ℕ
  pub chained : Chained count m

-- what a look-up answers
pub record Finds (number : ℕ) (m : List ℕ) (r : Option ℕ) : Type 0 where
  pub among : (count : ℕ) → Chained count m → r ≡ found_in number (numbers_in count m)

-- a record more
pub record Added (count number place : ℕ) (m m' : List ℕ) : Type 0 where
  pub same : length m' ≡ length m
  pub chained : Chained (count + 1) m'
  pub numbers : numbers_in (count + 1) m' ≡ numbers_in count m ++ (number ∷ [])
  pub places : places_in (count + 1) m' ≡ places_in count m ++ (place ∷ [])

-- no number stands twice
pub record Distinct (ns : List ℕ) : Type 0 where
  pub apart_at : (i j : ℕ) → i < j → j < length ns → get_or ns i 0 ≡ get_or ns j 0 → ⊥
