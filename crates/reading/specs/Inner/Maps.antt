-- The maps of BITFELD and BAHNHOF and the index of ZUGART as they are handed on, closed: what only hands them on need not look into them. Nobody has to
-- believe this file. Assumes nothing.
use Rattle.std.specs.Prelude.{ℕ, List}
use Rattle.sections.specs.Inner.SectionMap.{MapOf}
use Rattle.classes.specs.Inner.Index.{IndexOf}
use Rattle.sections.specs.declared.Section.TheVariants.{BitFields, Stops}

unfoldable pub FieldMap : List ℕ → List ℕ → Type 0
FieldMap bitfeld m = MapOf BitFields bitfeld m

unfoldable pub StopMap : List ℕ → List ℕ → Type 0
StopMap bahnhof m = MapOf Stops bahnhof m

unfoldable pub ClassIndex : List ℕ → List ℕ → Type 0
ClassIndex zugart m = IndexOf zugart m
