-- What the contracts of the mesh writer's private functions cite: bits on their way into a buffer, and tables judged
-- row by row. No promise
-- of a public call leans on these.
use Rattle.std.specs.Prelude.{◌≡◌, ℕ, ◌+◌, ◌-◌, ◌*◌, ◌/◌, ◌%◌, ◌^◌, ◌<◌, ◌≤◌, Bool, false, cond, ◌&&◌, List, [], ◌∷◌}
use Rattle.std.specs.Prelude.{◌++◌, length, ◌==◌, nat_le, Result}
use Rattle.std.proofs.lemmas.List.Edits.{sets}
use Rattle.bits.specs.Verdict.{Verdict}
use Rattle.bits.specs.Number.{width_of}
use Rattle.payload.specs.Mesh.{Submesh}
use Rattle.payload.specs.MeshSpells.{aligned, vertices_at}
use Rattle.payload.specs.Packed.{Field, bits, packed, Fits}
use Rattle.payload.specs.MeshWrite.{gap, submeshes_fields, row_within}
use Rattle.payload.specs.declared.mesh.write.BitWriter.{BitWriter}
use Rattle.bits.specs.Says.{says}
use Rattle.bits.specs.declared.refusals.Refusal.{Refusal}

-- ---- bits on their way into a buffer

-- the bits that wait, as a number: the low ones of what is held
abbrev pub waiting : BitWriter → ℕ
waiting from = from.held % 2 ^ from.bits

-- fewer than 32 bits wait; the fields fit, and there is room for them
pub record Ready (out : List ℕ) (from : BitWriter) (l : List Field) : Type 0 where
  pub few : from.bits < 32
  pub fits : Fits l
  pub room : 8 * from.at + from.bits + bits l ≤ 8 * length out

-- the buffer in the end, once the fields l are written after those that wait
abbrev pub outcome : List ℕ → BitWriter → List Field → List ℕ
outcome out from l = sets out from.at (packed ((from.bits, waiting from) ∷ l))

-- to write l from `from` on into `out` comes to the same as to write l' from `to` on into `out'`, whatever follows
pub record Advances (out : List ℕ) (from : BitWriter) (l : List Field) (out' : List ℕ) (to : BitWriter)
    (l' : List Field) : Type 0 where
  pub few : to.bits < 32
  pub place : 8 * to.at + to.bits + bits l' ≡ 8 * from.at + from.bits + bits l
  pub long : length out' ≡ length out
  pub same : (rest : List Field) → Fits rest → outcome out' to (l' ++ rest) ≡ outcome out from (l ++ rest)

-- what follows the vertices, where `waiting` bits are in a byte that is begun
abbrev pub rest_fields : ℕ → ℕ → List Submesh → List Field
rest_fields waiting m l = gap waiting ∷ (32, length l) ∷ submeshes_fields (width_of m) l

-- ---- tables judged row by row

-- a row within the limits, whose points are no more than are left
unfoldable pub row_fits : ℕ → ℕ → ℕ → ℕ → Bool
row_fits texture mode count left = cond (row_within texture mode count) (nat_le count left) false

-- whole threes, each of which fits, and their counts take all that is left
unfoldable pub rows_all_fit : List ℕ → ℕ → Bool
rows_all_fit [] left = left == 0
rows_all_fit (t ∷ m ∷ c ∷ more) left = cond (row_fits t m c left) (rows_all_fit more (left - c)) false
rows_all_fit (t ∷ m ∷ []) left = false
rows_all_fit (t ∷ []) left = false

-- the lengths of three tables are within the limits: n words, v coordinate numbers, k words of rows
unfoldable pub counts_fit : ℕ → ℕ → ℕ → Bool
counts_fit n v k =
    ((((nat_le 1 n && nat_le n 10000) && v % 5 == 0) && nat_le 1 (v / 5)) && nat_le (v / 5) 32000) && nat_le 1 k

-- the box of k words of rows and q points need not be too long
unfoldable pub lengths_fit : ℕ → ℕ → Bool
lengths_fit k q = nat_le k 67108864 && nat_le q 536870912

-- the size of a box: n words, v coordinate numbers of m vertices, k submeshes and q points
abbrev pub size_of : ℕ → ℕ → ℕ → ℕ → ℕ → ℕ
size_of n v m k q = 8 + (aligned (vertices_at n + v * width_of n) + 32 + 48 * k + q * width_of m + 7) / 8

abbrev pub judged_says : Result ℕ Refusal → Verdict ℕ
judged_says r = says (λ n. n) r
