-- No call of the viewer answers -16: the calls that it makes do not refuse so. Assumes nothing.
use Prim.Native.Nat.{ℕ, zero, suc, ◌^◌, ◌-◌}
use mathlib.Core.Path.{◌≡◌, refl, ap}
use mathlib.Core.Bool.{Bool, true, false, cond}
use mathlib.Core.List.{List, [], ◌∷◌}
use lib.Dec.{leb}
use lib.IntN.{pos, negsuc, neg_ℤ}
use Rattle.bits.specs.Verdict.{Verdict, accepted, needs, declined, limited, mapped}
use Rattle.bits.proofs.VerdictLaws.{clash}
use Rattle.bits.proofs.RefusalLaws.{remade, unlisted}
use Rattle.payload.specs.MeshRead.{read_meshes}
use Rattle.payload.specs.Meshes.{list_size}
use Rattle.payload.specs.MeshDrawing.{point_total}
use Rattle.payload.proofs.Theorems.{refusals, limited_mapped, never_sixteen as none-declines}
use Rattle.viewer.specs.Number.{number}
use Rattle.viewer.specs.Refusals.{NeverSixteen}

-- -16 is refusal 16
sixteen : (v : Verdict ℕ) → number v ≡ neg_ℤ (pos 16) → v ≡ declined 16
unfolding number
sixteen (accepted n) e = go (leb n (2 ^ 63 - 1)) e
  where
    go : (b : Bool) → cond b (pos n) (negsuc 13) ≡ neg_ℤ (pos 16) → accepted n ≡ declined 16
    go true i = clash (cc)
    go false i = clash (cc)
sixteen (needs l) e = clash (cc)
sixteen (declined zero) e = clash (cc)
sixteen (declined (suc k)) e = let same : k ≡ 15 = cc in ap (λ (n : ℕ). declined (suc n)) same

not_points : (s : List ℕ) → limited s (mapped point_total (read_meshes s)) ≡ declined 16 → ⊥
not_points s =
    unlisted {ks = 2 ∷ 3 ∷ 6 ∷ 7 ∷ 8 ∷ 17 ∷ 18 ∷ []} 16 refl
    (rw (limited_mapped s point_total (read_meshes s))
    (remade list_size point_total (limited s (read_meshes s))
    (rw (limited_mapped s list_size (read_meshes s)) at (refusals.measure_meshes s))))

pub never_sixteen : NeverSixteen
never_sixteen =
    record {
      vertex_count_law = λ rings sectors e. none-declines.vertex_count_law rings sectors (sixteen _ e);
      index_count_law = λ rings sectors e. none-declines.index_count_law rings sectors (sixteen _ e);
      cubemap_vertex_count_law = λ cells e. none-declines.cubemap_vertex_count_law cells (sixteen _ e);
      cubemap_index_count_law = λ cells e. none-declines.cubemap_index_count_law cells (sixteen _ e);
      measure_meshes = λ s e. not_points s (sixteen _ e);
    }
