-- Every triangle faces the viewer's way: how often, and which way round, the triangles of a sphere and of a cube walk
-- from one vertex to another. `Winding` is the theorem about the index makers, `DrawnWinding` the same about what the
-- scene call draws, and `WindingDecides` says what is ruled out by it. The proofs are in proofs/WindingProofs.antt and
-- proofs/DecidesProofs.antt; docs/WINDING.md has a drawing.
use Rattle.std.specs.Prelude.{ℕ, ◌+◌, ◌*◌, ◌≤◌, ◌<◌, ◌≡◌, ◌⊎◌, List, [], ◌∷◌, ◌++◌, true, false, ◌&&◌, cond, eqb, take}
use Rattle.std.specs.Prelude.{drop, set}
use Rattle.std.specs.Float.Ieee.{lt}
use Rattle.bits.specs.Verdict.{accepted}
use Rattle.payload.specs.Float.{f0}
use Rattle.payload.specs.Sphere.{grid_vertex, grid_triangles, sphere_numbers}
use Rattle.payload.specs.Cube.{cube_vertex, cube_triangles, cube_numbers}
use Rattle.payload.specs.declared.crop.Bounds.{Bounds}
use Rattle.scene.specs.Scene.{equi, cbmp, Call}
use Rattle.scene.specs.Laws.{InLimits, FittingReading, drawn}

-- ---- how often a list of triangles walks from one vertex to another

-- Three numbers are a triangle. The triangle a b c walks from a to b, from b to c and from c to a.
unfoldable pub sides : List ℕ → List (ℕ × ℕ)
sides [] = []
sides (a ∷ []) = []
sides (a ∷ b ∷ []) = []
sides (a ∷ b ∷ c ∷ l) = (a, b) ∷ (b, c) ∷ (c, a) ∷ sides l

-- 1 where the side from x to y goes from p to q, and 0 where it does not
abbrev pub is_side : ℕ → ℕ → ℕ → ℕ → ℕ
is_side p q x y = cond (eqb p x && eqb q y) 1 0

unfoldable pub times : ℕ → ℕ → List (ℕ × ℕ) → ℕ
times p q [] = 0
times p q (s ∷ l) = is_side p q s.0 s.1 + times p q l

-- how often the triangles of a list walk from p to q
abbrev pub walks : List ℕ → ℕ → ℕ → ℕ
walks l p q = times p q (sides l)

-- ---- the sides of a grid, by coordinates and not by its triangles

-- A grid has a vertex at each row, 0 to `rows`, and each column, 0 to `columns`, and a cell between each two rows and
-- columns. Its sides go along a row, along a column, or across a cell.

-- from p to q is a side inside: along a row or a column that is not an outer one, or across a cell. It is walked both
-- ways, and written here from its end with the lower row and column.
pub data Inside (rows columns : ℕ) (vertex : ℕ → ℕ → ℕ) : ℕ → ℕ → Type 0 where
  along_row : (r c : ℕ) → 0 < r → r < rows → c < columns → Inside rows columns vertex (vertex r c) (vertex r (c + 1))
  along_column : (r c : ℕ) → r < rows → 0 < c → c < columns
      → Inside rows columns vertex (vertex r c) (vertex (r + 1) c)
  across : (r c : ℕ) → r < rows → c < columns → Inside rows columns vertex (vertex r c) (vertex (r + 1) (c + 1))

-- from p to q is a side of the border, for one who goes round it so: along the first column with rising rows, along
-- the last row with rising columns, along the last column with falling rows, along the first row with falling columns
pub data Border (rows columns : ℕ) (vertex : ℕ → ℕ → ℕ) : ℕ → ℕ → Type 0 where
  first_column : (r : ℕ) → r < rows → Border rows columns vertex (vertex r 0) (vertex (r + 1) 0)
  last_row : (c : ℕ) → c < columns → Border rows columns vertex (vertex rows c) (vertex rows (c + 1))
  last_column : (r : ℕ) → r < rows → Border rows columns vertex (vertex (r + 1) columns) (vertex r columns)
  first_row : (c : ℕ) → c < columns → Border rows columns vertex (vertex 0 (c + 1)) (vertex 0 c)

-- ---- what is said of a list of triangles

-- no ordered pair of vertex numbers is walked by two sides
abbrev pub OnceOnly : List ℕ → Type 0
OnceOnly l = (p q : ℕ) → walks l p q ≤ 1

-- In p q: there is a side inside between p and q. On p q: the border is to be walked from p to q. w p q is how often
-- p to q is walked.
pub record WalkedRight (In On : ℕ → ℕ → Type 0) (w : ℕ → ℕ → ℕ) : Type 0 where
  -- once each way
  pub inside : (p q : ℕ) → In p q → (w p q ≡ 1) × (w q p ≡ 1)
  -- once the way that is named, and never the other
  pub border : (p q : ℕ) → On p q → (w p q ≡ 1) × (w q p ≡ 0)
  -- what is walked is one of these sides
  pub nothing_else : (p q : ℕ) → 0 < w p q → (In p q ⊎ In q p) ⊎ On p q

-- a patch of the sphere, the rings being rows: its border is walked as `Border` says
abbrev pub PatchWalkedRight : ℕ → ℕ → List ℕ → Type 0
PatchWalkedRight rings sectors l =
    WalkedRight (Inside rings sectors (grid_vertex sectors)) (Border rings sectors (grid_vertex sectors)) (walks l)

-- it holds of one of the six faces
abbrev pub OnFace : (ℕ → Type 0) → Type 0
OnFace P = (face : ℕ) × (face < 6) × P face

-- a cube: the border of every face is walked the other way round, from q to p where `Border` says p to q. Row 0 of a
-- face is the lower edge of its picture, and row 0 of a sphere the upper edge of its own; so seen as pictures both go
-- the same way. No side joins two faces.
abbrev pub CubeWalkedRight : ℕ → List ℕ → Type 0
CubeWalkedRight cells l =
    WalkedRight (λ p q. OnFace (λ face. Inside cells cells (cube_vertex cells face) p q))
    (λ p q. OnFace (λ face. Border cells cells (cube_vertex cells face) q p)) (walks l)

-- m is n or the next number
abbrev pub Beside : ℕ → ℕ → Type 0
Beside n m = (n ≤ m) × (m ≤ n + 1)

-- The triangle with corners at row r and column c, at t and d, and at u and e is half of the cell between rows y and
-- y + 1 and columns x and x + 1, and goes round as `Border` does: twice its area,
-- (t - r) * (e - c) - (d - c) * (u - r), is 1. The other way round it would be -1.
pub data RoundAsBorder (rows columns : ℕ) (vertex : ℕ → ℕ → ℕ) : ℕ → ℕ → ℕ → Type 0 where
  half_cell : (y x r c t d u e : ℕ) → y < rows → x < columns → Beside y r × Beside y t × Beside y u
      → Beside x c × Beside x d × Beside x e
      → t * e + r * d + u * c ≡ t * c + r * e + u * d + 1
      → RoundAsBorder rows columns vertex (vertex r c) (vertex t d) (vertex u e)

-- it holds of each triangle of a list
pub data EachTriangle (P : ℕ → ℕ → ℕ → Type 0) : List ℕ → Type 0 where
  none : EachTriangle P []
  more : (a b c : ℕ) {l : List ℕ} → P a b c → EachTriangle P l → EachTriangle P (a ∷ b ∷ c ∷ l)

-- a triangle of a sphere goes round as the border of a patch, and one of a cube as that of its face
abbrev pub FacingOnSphere : ℕ → ℕ → ℕ → ℕ → ℕ → Type 0
FacingOnSphere rings sectors p q s = RoundAsBorder rings sectors (grid_vertex sectors) p q s

abbrev pub FacingOnCube : ℕ → ℕ → ℕ → ℕ → Type 0
FacingOnCube cells p q s = OnFace (λ face. RoundAsBorder cells cells (cube_vertex cells face) p s q)

-- ---- the theorems

pub record Winding : Type 0 where
  -- a sphere: every accepted grid and crop, with or without poles
  pub sphere_once : (rings sectors : ℕ) (b : Bounds) (l : List ℕ) → sphere_numbers rings sectors b ≡ accepted l
      → OnceOnly l
  pub sphere_facing : (rings sectors : ℕ) (b : Bounds) (l : List ℕ) → sphere_numbers rings sectors b ≡ accepted l
      → EachTriangle (FacingOnSphere rings sectors) l
  -- a sphere whose top and bottom are both above 0
  pub patch : (rings sectors : ℕ) (b : Bounds) (l : List ℕ) → sphere_numbers rings sectors b ≡ accepted l
      → lt f0 b.top ≡ true → lt f0 b.bottom ≡ true → PatchWalkedRight rings sectors l
  -- a cube: every accepted number of cells
  pub cube_once : (cells : ℕ) (l : List ℕ) → cube_numbers cells ≡ accepted l → OnceOnly l
  pub cube_facing : (cells : ℕ) (l : List ℕ) → cube_numbers cells ≡ accepted l → EachTriangle (FacingOnCube cells) l
  pub cube : (cells : ℕ) (l : List ℕ) → cube_numbers cells ≡ accepted l → CubeWalkedRight cells l

-- of an accepted scene call's drawing, ρ being the reading that it is made from
pub record DrawnWinding : Type 0 where
  -- kind 0: every crop
  pub sphere_once : (c : Call) → InLimits equi c → (ρ : FittingReading equi c) → OnceOnly (drawn ρ).numbers
  pub sphere_facing : (c : Call) → InLimits equi c → (ρ : FittingReading equi c)
      → EachTriangle (FacingOnSphere c.given.rings c.given.sectors) (drawn ρ).numbers
  -- kind 0 where the payload's fields of top and bottom are both above 0
  pub patch : (c : Call) → InLimits equi c → (ρ : FittingReading equi c) → 0 < ρ.reading.t → 0 < ρ.reading.b
      → PatchWalkedRight c.given.rings c.given.sectors (drawn ρ).numbers
  -- kind 1
  pub cube_once : (c : Call) → InLimits cbmp c → (ρ : FittingReading cbmp c) → OnceOnly (drawn ρ).numbers
  pub cube_facing : (c : Call) → InLimits cbmp c → (ρ : FittingReading cbmp c)
      → EachTriangle (FacingOnCube c.given.cells) (drawn ρ).numbers
  pub cube : (c : Call) → InLimits cbmp c → (ρ : FittingReading cbmp c)
      → CubeWalkedRight c.given.cells (drawn ρ).numbers

-- ---- what is ruled out

-- each triangle a b c as a c b
unfoldable pub reversed : List ℕ → List ℕ
reversed [] = []
reversed (a ∷ []) = a ∷ []
reversed (a ∷ b ∷ []) = a ∷ b ∷ []
reversed (a ∷ b ∷ c ∷ l) = a ∷ c ∷ b ∷ reversed l

-- m triangles reversed, those after the first n
abbrev pub with_turned : ℕ → ℕ → List ℕ → List ℕ
with_turned n m l = take (3 * n) l ++ (reversed (take (3 * m) (drop (3 * n) l)) ++ drop (3 * (n + m)) l)

-- 2 rings of 3 cells, two triangles to a cell
abbrev pub small_patch : List ℕ
small_patch = grid_triangles 2 3 false false

pub record WindingDecides : Type 0 where
  -- no triangle faces that way both as it is and turned: a list with any triangle turned is ruled out, at a pole too
  pub sphere_not_both : (rings sectors p q s : ℕ) → FacingOnSphere rings sectors p q s
      → FacingOnSphere rings sectors p s q → ⊥
  pub cube_not_both : (cells p q s : ℕ) → FacingOnCube cells p q s → FacingOnCube cells p s q → ⊥
  -- nor does a triangle of half a cell's area that lies over three cells
  pub sliver : FacingOnSphere 2 3 0 7 1 → ⊥
  -- any two lists that are walked right walk the same sides, each the same way and as often
  pub patch_alike : (rings sectors : ℕ) (l m : List ℕ) → PatchWalkedRight rings sectors l
      → PatchWalkedRight rings sectors m → (p q : ℕ) → walks l p q ≡ walks m p q
  pub cube_alike : (cells : ℕ) (l m : List ℕ) → CubeWalkedRight cells l → CubeWalkedRight cells m
      → (p q : ℕ) → walks l p q ≡ walks m p q
  -- these are not, which have one triangle turned, one cell, one face, or all
  pub triangle_turned : PatchWalkedRight 2 3 (with_turned 5 1 small_patch) → ⊥
  pub cell_turned : PatchWalkedRight 2 3 (with_turned 8 2 small_patch) → ⊥
  pub patch_turned : PatchWalkedRight 2 3 (with_turned 0 12 small_patch) → ⊥
  pub cube_cell_turned : CubeWalkedRight 2 (with_turned 16 2 (cube_triangles 2)) → ⊥
  pub face_turned : CubeWalkedRight 2 (with_turned 24 8 (cube_triangles 2)) → ⊥
  pub cube_turned : CubeWalkedRight 1 (with_turned 0 12 (cube_triangles 1)) → ⊥
  -- nor are these, in which one triangle of the first cell is drawn over the other diagonal: b c d in place of a c d,
  -- and b d c in place of a d c
  pub other_diagonal : PatchWalkedRight 2 3 (set small_patch 3 1) → ⊥
  pub cube_other_diagonal : CubeWalkedRight 1 (set (cube_triangles 1) 0 1) → ⊥
