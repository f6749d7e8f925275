-- The theorem that specs/Laws.antt names. Assumes nothing.
use Prim.Native.Nat.{ℕ, ◌*◌, ◌/◌, ◌≤◌}
use mathlib.Core.Path.{◌≡◌, refl, sym, ◌∙◌, ap}
use mathlib.Core.Bool.{Bool, true, false, cond}
use mathlib.Core.List.{List}
use native.Mathlib.Omega.{arith}
use lib.Dec.{leb}
use lib.ListN.{length, take}
use lib.Seq.{take-append_seam}
use borrow.Author.Tests.{leb-true}
use Rattle.bits.specs.Verdict.{accepted, declined, mapped}
use Rattle.bits.proofs.VerdictLaws.{clash}
use Rattle.payload.specs.Lent.{◌onto◌}
use Rattle.payload.specs.Mesh.{Mesh}
use Rattle.payload.specs.MeshRead.{read_meshes}
use Rattle.payload.specs.MeshDrawing.{drawn_records, submesh_total, point_total}
use Rattle.payload.specs.Textures.{list_records, list_textures}
use Rattle.payload.proofs.Theorems.{records-length, record_textures}
use Rattle.meshlist.specs.Listing.{listed, line_counts}
use Rattle.meshlist.specs.Laws.{ListedLines}
use Rattle.meshlist.proofs.ListingLaws.{textures_of, both_left}

short : (s : List ℕ) (l : List Mesh) → listed s ≡ accepted l → length s ≤ 16384
unfolding listed
short s l e = go (leb (length s) 16384) refl e
  where
    go : (b : Bool) → leb (length s) 16384 ≡ b → cond b (read_meshes s) (declined 2) ≡ accepted l → length s ≤ 16384
    go true h i = leb-true (length s) 16384 h
    go false h i = clash (cc)

-- as many words as a list has, of the buffer that it was put onto
words : (n : ℕ) (l b : List ℕ) → length l ≡ n → take n (l onto b) ≡ l
words n l b e = ap (λ (k : ℕ). take k (l onto b)) (sym e) ∙ take-append_seam l _

pub listed-lines : ListedLines
listed-lines s l e records textures r t =
    let h = short s l e in
    let T = textures_of s h l e in
    let w = record_textures (list_records l) in
    let whole : length (list_textures l) ≡ 2 * (length (list_textures l) / 2) = omega (arith, w.whole) in
    record {
      meshes = length l;
      submeshes = submesh_total l;
      points = point_total l;
      texture_count = length (list_textures l) / 2;
      counts = ap (mapped line_counts) e;
      buffers = both_left s h l e textures t records r;
      record_lines_law = words _ (drawn_records l) records (records-length l);
      texture_lines_law = words _ (list_textures l) textures whole;
      laws = w;
      limits = T;
      total = T.total;
    }
