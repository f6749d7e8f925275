-- How many vertices and indices a grid asks for. 14 where a count does not fit 64 bits.
use Rattle.std.specs.Prelude.{ℕ, ◌+◌, ◌*◌, ◌^◌, cond, nat_le, Result}
use Rattle.bits.specs.Verdict.{Verdict, accepted, declined, within}
use Rattle.bits.specs.Says.{says}
use Rattle.bits.specs.declared.refusals.Refusal.{Refusal}

abbrev pub counted_says : Result ℕ Refusal → Verdict ℕ
counted_says r = says (λ n. n) r

abbrev pub counted : ℕ → Verdict ℕ
counted n = within (n + 1) (2 ^ 64) n (declined 14)

abbrev pub vertex_count : ℕ → ℕ → Verdict ℕ
vertex_count rings sectors = counted ((rings + 1) * (sectors + 1))

-- two triangles for each cell, an upper bound; none below two rings
unfoldable pub index_count : ℕ → ℕ → Verdict ℕ
index_count rings sectors = cond (nat_le 2 rings) (counted (6 * rings * sectors)) (accepted 0)

abbrev pub cubemap_vertex_count : ℕ → Verdict ℕ
cubemap_vertex_count cells = counted (6 * (cells + 1) * (cells + 1))

abbrev pub cubemap_index_count : ℕ → Verdict ℕ
cubemap_index_count cells = counted (36 * cells * cells)
