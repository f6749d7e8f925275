-- The sphere's grid of rings and sectors: its triangles and its texture coordinates, row by row.
use Rattle.std.specs.Prelude.{ℕ, ◌+◌, ◌*◌, Bool, cond, ◌&&◌, List, [], ◌∷◌, ◌++◌, ◌==◌, nat_le}
use Rattle.std.specs.Float.Ieee.{eq}
use Rattle.bits.specs.Verdict.{Verdict, accepted, declined}
use Rattle.bits.specs.Float.{bits_of}
use Rattle.payload.specs.Fill.{each}
use Rattle.payload.specs.Float.{f0, f1, ◌⊖◌, ratio}
use Rattle.payload.specs.Crop.{usable}
use Rattle.payload.specs.declared.crop.Bounds.{Bounds}

-- at least 2 rings and 3 sectors, and at most 65,536 vertices
unfoldable pub grid_usable : ℕ → ℕ → Bool
grid_usable rings sectors = (nat_le 2 rings && nat_le 3 sectors) && nat_le ((rings + 1) * (sectors + 1)) 65536

-- the number of the vertex at a ring and a sector: a ring has one vertex more than sectors
abbrev pub grid_vertex : ℕ → ℕ → ℕ → ℕ
grid_vertex sectors ring sector = ring * (sectors + 1) + sector

-- The two triangles of a cell. Its corners are a, b at the ring and c, d at the next ring.
abbrev pub upper_triangle : ℕ → ℕ → ℕ → List ℕ
upper_triangle sectors ring sector =
    grid_vertex sectors ring sector ∷ grid_vertex sectors (ring + 1) (sector + 1)
    ∷ grid_vertex sectors ring (sector + 1) ∷ []

abbrev pub lower_triangle : ℕ → ℕ → ℕ → List ℕ
lower_triangle sectors ring sector =
    grid_vertex sectors ring sector ∷ grid_vertex sectors (ring + 1) sector
    ∷ grid_vertex sectors (ring + 1) (sector + 1) ∷ []

-- At the zenith, where nothing is cropped at the top, a and b of the first row are one point; at the nadir so are c
-- and d of the last. A triangle with both is left out.
unfoldable pub grid_cell : ℕ → ℕ → Bool → Bool → ℕ → ℕ → List ℕ
grid_cell rings sectors zenith nadir ring sector =
    cond (zenith && ring == 0) [] (upper_triangle sectors ring sector)
    ++ cond (nadir && ring + 1 == rings) [] (lower_triangle sectors ring sector)

unfoldable pub grid_row : ℕ → ℕ → Bool → Bool → ℕ → List ℕ
grid_row rings sectors zenith nadir ring = each (grid_cell rings sectors zenith nadir ring) sectors

unfoldable pub grid_triangles : ℕ → ℕ → Bool → Bool → List ℕ
grid_triangles rings sectors zenith nadir = each (grid_row rings sectors zenith nadir) rings

-- 9, then 10, or the triangles of the crop
unfoldable pub sphere_numbers : ℕ → ℕ → Bounds → Verdict (List ℕ)
sphere_numbers rings sectors b =
    cond (grid_usable rings sectors)
    (cond (usable b) (accepted (grid_triangles rings sectors (eq b.top f0) (eq b.bottom f0))) (declined 10))
    (declined 9)

-- ---- texture coordinates, as bit patterns

abbrev pub grid_uv : ℕ → ℕ → ℕ → ℕ → List ℕ
grid_uv rings sectors ring sector = bits_of (ratio sector sectors) ∷ bits_of (f1 ⊖ ratio ring rings) ∷ []

unfoldable pub uv_row : ℕ → ℕ → ℕ → List ℕ
uv_row rings sectors ring = each (grid_uv rings sectors ring) (sectors + 1)

unfoldable pub grid_uvs : ℕ → ℕ → List ℕ
grid_uvs rings sectors = each (uv_row rings sectors) (rings + 1)

-- 9, or u and v of each vertex
unfoldable pub sphere_uvs : ℕ → ℕ → Verdict (List ℕ)
sphere_uvs rings sectors = cond (grid_usable rings sectors) (accepted (grid_uvs rings sectors)) (declined 9)
