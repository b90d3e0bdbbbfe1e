-- Worked fields, computed: each variant, and each way to be broken. Assumes nothing.
use mathlib.Core.Path.{refl}
use mathlib.Core.Bool.{true, false}
use mathlib.Core.List.{List, [], ◌∷◌}
use Rattle.base.specs.Lists.{every}
use Rattle.base.specs.Text.{bytes}
use Rattle.columns.specs.Columns.{pad_to, number_from}
use Rattle.std.specs.Prelude.{ℕ, Option, Some, None}
use Rattle.fields.specs.declared.Time.{Time}
use Rattle.fields.specs.declared.Time.TheVariants.{Absent, Stated, NoTime}
use Rattle.fields.specs.declared.RangeEnd.{RangeEnd}
use Rattle.fields.specs.declared.RangeEnd.TheVariants.{Outer, Index, Stop, NoEnd}
use Rattle.fields.specs.declared.Detail.{Detail}
use Rattle.fields.specs.declared.Detail.TheVariants.{Plain, Nth, Timed, NoDetail}
use Rattle.fields.specs.Fields.{hash_digits, hash, time_in, time, range_end_in, range_end, detail_in, detail}
use Rattle.fields.proofs.Cases.{Case, ◌⇒◌, Says}

abbrev pub hashes : List (Case (Option ℕ))
hashes =
    "#0" ⇒ Some 0
    ∷ "  #007 " ⇒ Some 7
    ∷ "#" ⇒ None
    ∷ "# 7" ⇒ None
    ∷ "#7 8" ⇒ None
    ∷ "#7a" ⇒ None
    ∷ "##7" ⇒ None
    ∷ "7#" ⇒ None
    ∷ "  " ⇒ None
    ∷ "" ⇒ None
    ∷ []

-- six columns; past a text's end they are blank
abbrev pub times : List (Case Time)
times =
    "      " ⇒ Absent
    ∷ "" ⇒ Absent
    ∷ " 00810" ⇒ Stated 490 false
    ∷ "-00812" ⇒ Stated 492 true
    ∷ " 99959" ⇒ Stated 59999 false
    ∷ " 00000" ⇒ Stated 0 false
    ∷ " 00860" ⇒ NoTime
    ∷ "-00899" ⇒ NoTime
    ∷ "+00810" ⇒ NoTime
    ∷ "000810" ⇒ NoTime
    ∷ "-     " ⇒ NoTime
    ∷ " 0081" ⇒ NoTime
    ∷ "   810" ⇒ NoTime
    ∷ " 0 810" ⇒ NoTime
    ∷ []

-- seven columns
abbrev pub ends : List (Case RangeEnd)
ends =
    "       " ⇒ Outer
    ∷ "1000022" ⇒ Stop (record { 0 = 1000022 })
    ∷ "0000000" ⇒ Stop (record { 0 = 0 })
    ∷ "#4" ⇒ Index (record { 0 = 4 })
    ∷ "   #012" ⇒ Index (record { 0 = 12 })
    ∷ "#      " ⇒ NoEnd
    ∷ "100002" ⇒ NoEnd
    ∷ " 100022" ⇒ NoEnd
    ∷ "#1 2" ⇒ NoEnd
    ∷ []

-- six columns
abbrev pub details : List (Case Detail)
details =
    "      " ⇒ Plain
    ∷ "#0" ⇒ Nth (record { 0 = 0 })
    ∷ "  #2  " ⇒ Nth (record { 0 = 2 })
    ∷ " 00810" ⇒ Timed 490
    ∷ "-00810" ⇒ Timed 490
    ∷ " 00860" ⇒ NoDetail
    ∷ "#" ⇒ NoDetail
    ∷ "1" ⇒ NoDetail
    ∷ []

pub worked : Says hash hashes × Says time times × Says range_end ends × Says detail details
unfolding bytes pad_to every number_from hash_digits hash time_in range_end_in detail_in
worked = (refl, refl, refl, refl)
