-- What the contracts of the sphere's private functions cite. No promise of a public call leans on these.
use Rattle.std.specs.Prelude.{ℕ, ◌+◌, List, [], ◌∷◌, ◌++◌}
use Rattle.payload.specs.Sphere.{grid_row, grid_triangles}
use Rattle.payload.specs.declared.grid.Patch.{Patch}

-- A row's triangles by the corners of its first cell: each number of the i-th cell is i more.
abbrev pub shifted : ℕ → ℕ → ℕ → ℕ → List ℕ
shifted a b c i = (a + i) ∷ (b + i) ∷ (c + i) ∷ []

abbrev pub cell_on : ℕ → ℕ → ℕ → ℕ → ℕ → List ℕ
cell_on a b c d i = shifted a d b i ++ shifted a c d i

-- a row of a patch, and all of them
abbrev pub patch_row : Patch → ℕ → List ℕ
patch_row p ring = grid_row p.grid.rings p.grid.sectors p.zenith p.nadir ring

abbrev pub patch_triangles : Patch → List ℕ
patch_triangles p = grid_triangles p.grid.rings p.grid.sectors p.zenith p.nadir
