-- What a payload writer leaves in the buffer that it is lent: where it accepts with length n, the reading that it was
-- given spells the first n bytes, and the rest is as it was. The proofs are in proofs/WrittenProofs.antt.
use Rattle.std.specs.Prelude.{◌≡◌, ℕ, ◌^◌, ◌<◌, ◌≤◌, List, [], ◌∷◌, length, take, drop}
use Rattle.bits.specs.Verdict.{Verdict, accepted}
use Rattle.payload.specs.Lent.{in_items, answer_for, buffers_after}
use Rattle.payload.specs.Equi.{EquiSpells, equi_written}
use Rattle.payload.specs.Cbmp.{CbmpSpells, cbmp_written}
use Rattle.payload.specs.MeshSpells.{MeshesSpell}
use Rattle.payload.specs.MeshWrite.{tables_mesh, mesh_written}
use Rattle.payload.specs.Laws.{Equi32, Words32}
use Rattle.payload.specs.declared.equi.EquiFields.{EquiFields}

-- a call that is to write v accepts with length n, and the buffer that held `out` holds `after`: the two equations of
-- a writer's contract
pub record Accepts (v : Verdict (List ℕ)) (out : List ℕ) (n : ℕ) (after : List ℕ) : Type 0 where
  pub answer : accepted n ≡ answer_for (in_items 1 v) (out ∷ [])
  pub buffers : after ∷ [] ≡ buffers_after (in_items 1 v) (out ∷ [])

-- what the buffer then holds
pub record Holds (Spelled : List ℕ → Type 0) (out : List ℕ) (n : ℕ) (after : List ℕ) : Type 0 where
  -- the first n bytes are there, and they are spelled
  pub fits : n ≤ length out
  pub spells : Spelled (take n after)
  -- the rest is as it was
  pub rest : drop n after ≡ drop n out
  pub size : length after ≡ length out

-- a writer that is to write v: whenever it accepts, the buffer holds what its reading spells, as Spelled says
abbrev pub WritesInto : (List ℕ → Type 0) → Verdict (List ℕ) → Type 0
WritesInto Spelled v =
    (out : List ℕ) (n : ℕ) (after : List ℕ) → Accepts v out n after → Holds Spelled out n after

-- `write_equi`
abbrev pub EquiWritesInto : Type 0
EquiWritesInto = (ρ : EquiFields) → Equi32 ρ → WritesInto (EquiSpells ρ) (equi_written ρ)

-- `write_cbmp`
abbrev pub CbmpWritesInto : Type 0
CbmpWritesInto = (p : ℕ) → p < 2 ^ 32 → WritesInto (CbmpSpells p) (cbmp_written p)

-- `write_mesh`: the reading is the list of one mesh, the one that its four tables make
abbrev pub MeshWritesInto : Type 0
MeshWritesInto =
    (pool coordinates rows points : List ℕ) → Words32 pool
    → WritesInto (MeshesSpell (tables_mesh pool coordinates rows points ∷ []))
    (mesh_written pool coordinates rows points)
