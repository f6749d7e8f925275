-- How the values of `payload` cross to C: what numbers and floats stand for, and what words a value is put into.
use Rattle.std.specs.Prelude.{ℕ, cond, List, [], ◌∷◌, ◌==◌, Float, Option, Some, None}
use Rattle.bits.specs.Float.{bits_of}
use Rattle.payload.specs.declared.crop.Bounds.{Bounds}
use Rattle.payload.specs.declared.equi.EquiFields.{EquiFields}
use Rattle.payload.specs.declared.mesh.find.PointFields.{PointFields}
use Rattle.payload.specs.declared.mesh.measure.MeshListSize.{MeshListSize}
use Rattle.payload.specs.declared.mesh.measure.TableLengths.{TableLengths}
use Rattle.payload.specs.declared.view.StereoLayout.{StereoLayout}
use Rattle.payload.specs.declared.view.StereoLayout.TheVariants as S
use Rattle.payload.specs.declared.view.AnaglyphPair.{AnaglyphPair}
use Rattle.payload.specs.declared.view.AnaglyphPair.TheVariants as A
use Rattle.payload.specs.declared.view.Projection.{Projection}
use Rattle.payload.specs.declared.view.Projection.TheVariants as P
use Rattle.payload.specs.declared.view.Eye.{Eye}
use Rattle.payload.specs.declared.view.Eye.TheVariants.{Left, Right}

-- ---- crops and fields

abbrev pub sides : Float → Float → Float → Float → Bounds
sides t b l r = record { top = t; bottom = b; left = l; right = r }

abbrev pub side_words : Bounds → List ℕ
side_words b = bits_of b.top ∷ bits_of b.bottom ∷ bits_of b.left ∷ bits_of b.right ∷ []

abbrev pub fields : ℕ → ℕ → ℕ → ℕ → EquiFields
fields t b l r = record { t = t; b = b; l = l; r = r }

-- the four fields, then the crop
abbrev pub reading : EquiFields × Bounds → List ℕ
reading v = v.0.t ∷ v.0.b ∷ v.0.l ∷ v.0.r ∷ side_words v.1

-- no words where there is no crop
abbrev pub patch_words : Option Bounds → List ℕ
patch_words (Some b) = side_words b
patch_words None = []

-- ---- the numbers of the layout types, and of the eyes

abbrev pub layout_number : StereoLayout → ℕ
layout_number S.Mono = 0
layout_number S.OverUnder = 1
layout_number S.SideBySide = 2
layout_number S.Anaglyph = 3
layout_number S.RowInterleaved = 4

abbrev pub pair_number : AnaglyphPair → ℕ
pair_number A.RedCyan = 0
pair_number A.GreenMagenta = 1
pair_number A.YellowBlue = 2

abbrev pub projection_number : Projection → ℕ
projection_number P.Equirect360 = 0
projection_number P.Equirect180 = 1
projection_number P.Flat = 2
projection_number P.Cubemap = 3

abbrev pub eye_of : ℕ → Eye
eye_of n = cond (n == 0) Left Right

-- ---- mesh lists and mesh bodies

-- meshes, submeshes and points, then the lengths of the three lists
abbrev pub size_words : MeshListSize → List ℕ
size_words n = n.meshes ∷ n.submeshes ∷ n.points ∷ n.numbers ∷ n.floats ∷ n.records ∷ []

-- where a submesh's points stand: its mesh's body in the payload, and the run in there
abbrev pub place_words : PointFields → List ℕ
place_words p = p.body ∷ p.end ∷ p.run.bit ∷ p.run.limit ∷ p.run.count ∷ []

abbrev pub table_words : TableLengths → List ℕ
table_words n = n.pool ∷ n.coordinates ∷ n.submeshes ∷ n.points ∷ []
