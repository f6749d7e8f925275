-- What an answer of the code says, as a verdict: its value, as `f` reads it, or the number of its refusal.
use Rattle.std.specs.Prelude.{ℕ, List, Result, Ok, Err}
use Rattle.bits.specs.Verdict.{Verdict, accepted, needs, declined}
use Rattle.bits.specs.declared.refusals.Refusal.{Refusal}
use Rattle.bits.specs.declared.refusals.Refusal.TheVariants as R
use Rattle.bits.specs.declared.refusals.FillError.{FillError}
use Rattle.bits.specs.declared.refusals.FillError.TheVariants as F

-- the numbers of documents 01 and 02
abbrev pub number_of : Refusal → ℕ
number_of R.Kind = 1
number_of R.PayloadTooLong = 2
number_of R.TooFewBytes = 3
number_of R.Version = 4
number_of R.CubeLayout = 5
number_of R.BoxSize = 6
number_of R.MeshCount = 7
number_of R.RunningNumber = 8
number_of R.Grid = 9
number_of R.Crop = 10
number_of R.RadiusOrFaceWidth = 11
number_of R.NotAMesh = 13
number_of R.CountTooLarge = 14
number_of R.Records = 15
number_of R.FieldWidth = 16
number_of R.NotFinite = 17
number_of R.ThirdMesh = 18
number_of R.ListOrNumber = 19
number_of R.NotShown = 20
number_of R.ListFull = 21
number_of R.Question = 24
number_of R.Shares = 26

abbrev pub says : {A B : Type 0} → (A → B) → Result A Refusal → Verdict B
says f (Ok x) = accepted (f x)
says f (Err r) = declined (number_of r)

-- of a call that fills what it is lent: 12 with the lengths that `l` reads
abbrev pub fill_says : {A B L : Type 0} → (A → B) → (L → List ℕ) → Result A (FillError L) → Verdict B
fill_says f l (Ok x) = accepted (f x)
fill_says f l (Err (F.Needs n)) = needs (l n)
fill_says f l (Err (F.Refused r)) = declined (number_of r)
