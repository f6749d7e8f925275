-- `mesh_head` meets its contract: the counts stand where reading found them. Assumes nothing.
use Rattle.std.proofs.Common.{◌≡◌, ℕ, ◌+◌, ◌*◌, List, refl, ap, ◌∙◌, arith}
use Rattle.bits.specs.Field.{field}
use Rattle.bits.specs.Number.{width_of}
use Rattle.payload.specs.MeshSpells.{aligned, vertices_at}
use Rattle.payload.specs.MeshRead.{read_mesh}
use Rattle.payload.specs.Internal.{WasRead}
use Rattle.payload.proofs.HeadLaws.{MeshKnown, mesh_known, head_room}
use Rattle.payload.proofs.mesh.head.mesh_head.Goals as goal

-- the vertex count as the definition has it
vertex_count : (s : List ℕ) (n m : ℕ) → m ≡ field s (8 * (4 * n + 4)) 32 → m ≡ field s (32 * n + 32) 32
vertex_count s n m e = e ∙ ap (λ (k : ℕ). field s k 32) (omega arith)

-- what is known of the counts that were read
counted : (s : List ℕ) → WasRead (read_mesh s) → (n m : ℕ) → n ≡ field s 0 32 → m ≡ field s (8 * (4 * n + 4)) 32
    → let place = aligned (vertices_at n + 5 * m * width_of n) in MeshKnown s n m (field s place 32) (place + 32)
counted s r n m e f = mesh_known s r _ _ _ _ e (vertex_count s n m f) refl refl

pub word-n-requires : goal.word-n-requires
word-n-requires c = omega (arith, head_room c.args.s.now c.requires.1 _ refl)

pub word-m-requires : goal.word-m-requires
word-m-requires c = omega (arith, head_room c.args.s.now c.requires.1 c.word-n.result c.word-n.ensures)

pub submeshes_at-place-requires : goal.submeshes_at-place-requires
submeshes_at-place-requires c =
    let known = counted c.args.s.now c.requires.1 c.word-n.result c.word-m.result c.word-n.ensures c.word-m.ensures in
    (known.n_most, omega (arith, known.m_most))

pub overflow_cast-result-2 : goal.overflow_cast-result-2
overflow_cast-result-2 c =
    let known = counted c.args.s.now c.requires.1 c.word-n.result c.word-m.result c.word-n.ensures c.word-m.ensures in
    omega (arith, known.n_most)

pub overflow_cast-result-3 : goal.overflow_cast-result-3
overflow_cast-result-3 c =
    let known = counted c.args.s.now c.requires.1 c.word-n.result c.word-m.result c.word-n.ensures c.word-m.ensures in
    omega (arith, known.m_most)

pub one_field-requires : goal.one_field-requires
one_field-requires c =
    let known = counted c.args.s.now c.requires.1 c.word-n.result c.word-m.result c.word-n.ensures c.word-m.ensures in
    omega (arith, c.submeshes_at-place.ensures.place, known.tail)

pub returns : goal.returns
returns c =
    let vertices = vertex_count c.args.s.now c.word-n.result c.word-m.result c.word-m.ensures in
    record {
      pool = c.word-n.ensures;
      start = refl;
      count = vertices;
      vertices = refl;
      first =
          rw c.submeshes_at-place.ensures.place;
      left = c.one_field.ensures ∙ rw c.submeshes_at-place.ensures.place;
    }
