-- The table of document 01's trial week, word by word, worked by hand from the paper; examples/proofs/Trial says that load leaves it. Assumes nothing.
use Rattle.std.specs.Prelude.{ℕ, List, [], ◌∷◌}

abbrev pub trial_words : List ℕ
trial_words =
    -- "Header: words used, first day, n, bit fields B, stops S, interchange records U, services V, place of first service."; document 02, No. 1: "nine words,
    -- the last being the count of categories"
    82 ∷ 45990 ∷ 7 ∷ 1 ∷ 3 ∷ 1 ∷ 1 ∷ 36 ∷ 1
    -- "per bit field 13 (number, 12 words)": FE600000 in hex, and zeros
    ∷ 1 ∷ 4267704320 ∷ 0 ∷ 0 ∷ 0 ∷ 0 ∷ 0 ∷ 0 ∷ 0 ∷ 0 ∷ 0 ∷ 0 ∷ 0
    -- "stop 3 (number, byte offset of column 13 in BAHNHOF from 0, name length without trailing blanks)": lines of 19 bytes with their LF
    ∷ 1000011 ∷ 12 ∷ 6
    ∷ 1000022 ∷ 31 ∷ 6
    ∷ 1000033 ∷ 50 ∷ 6
    -- "interchange 3 (number, two times)"
    ∷ 9999999 ∷ 2 ∷ 3
    -- No. 1: "a section of two words each (code, class) stands before the services": BAT is 42 41 54 in hex
    ∷ 4342100 ∷ 4
    -- "Service: its word count, number, administration (two words of three bytes, first byte highest), repeats, offset, calls c, *G g, *A VE v, other a,
    -- *Z line", and No. 8's "twelfth word, its kind": FER is 46 45 52 and RY_ 52 59 5F in hex
    ∷ 46 ∷ 42 ∷ 4605266 ∷ 5396831 ∷ 0 ∷ 0 ∷ 4 ∷ 1 ∷ 1 ∷ 0 ∷ 1 ∷ 0
    -- document 02, No. 10: the place of the stop in the stop section "in place of the number";
    -- "calls of 4 (stop, arrival, departure, flags: 1 arrival, 2 departure, ..; absent time 0)": 00800 is 480; document 02, No. 5: "number and the two
    -- administration words follow the flags", all blank in the text, so they are the *Z values
    ∷ 0 ∷ 0 ∷ 480 ∷ 2 ∷ 42 ∷ 4605266 ∷ 5396831
    ∷ 1 ∷ 490 ∷ 492 ∷ 3 ∷ 42 ∷ 4605266 ∷ 5396831
    ∷ 2 ∷ 510 ∷ 515 ∷ 3 ∷ 42 ∷ 4605266 ∷ 5396831
    ∷ 1 ∷ 535 ∷ 0 ∷ 1 ∷ 42 ∷ 4605266 ∷ 5396831
    -- "*G of 3 (category as three bytes, from, to)": BAT is 42 41 54 in hex
    ∷ 4342100 ∷ 0 ∷ 3
    -- "*A VE of 3 (bit field, from, to)"
    ∷ 1 ∷ 0 ∷ 3
    ∷ []
