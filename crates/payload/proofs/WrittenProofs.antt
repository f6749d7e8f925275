-- A payload writer that accepts leaves in its buffer what its reading spells, and the rest as it was. Assumes nothing.
use Rattle.std.proofs.Common.{◌≡◌, ℕ, ◌/◌, ◌≤◌, true, leb, List, [], ◌∷◌, length, take, drop, sym, ap, ◌∙◌, arith, length-append, length-drop, take_at, drop_at, leb-true}
use mathlib.Core.Bool.{and-true}
use Rattle.bits.specs.Verdict.{Verdict, accepted}
use Rattle.bits.proofs.VerdictLaws.{mapped_value}
use Rattle.payload.specs.Lent.{Plan, all_fit, ◌onto◌, in_items}
use Rattle.payload.specs.MeshSpells.{MeshesSpell}
use Rattle.payload.specs.MeshWrite.{tables_mesh, mesh_written}
use Rattle.payload.specs.Laws.{Words32}
use Rattle.payload.specs.WrittenLaws.{Accepts, WritesInto}
use Rattle.payload.specs.WrittenLaws.{EquiWritesInto, CbmpWritesInto, MeshWritesInto}
use Rattle.payload.proofs.LentLaws.{answer_value, fit_answer, told_onto}
use Rattle.payload.proofs.EquiLaws.{equi_writes}
use Rattle.payload.proofs.CbmpLaws.{cbmp_writes}
use Rattle.payload.proofs.BoxLaws.{box_spells}
use Rattle.payload.proofs.JudgeLaws.{mesh_within, written_value}

-- ---- the list that an accepted call wrote, and where

record Wrote (v : Verdict (List ℕ)) (out : List ℕ) (n : ℕ) (after : List ℕ) : Type 0 where
  list : List ℕ
  planned : v ≡ accepted list
  count : length list ≡ n
  room : n ≤ length out
  held : after ≡ list onto out

-- a list as the plan for one buffer
abbrev plan_of : List ℕ → Plan ℕ
plan_of l = record { answer = length l / 1; lists = l ∷ [] }

what_wrote : (v : Verdict (List ℕ)) (out : List ℕ) (n : ℕ) (after : List ℕ) → Accepts v out n after
    → Wrote v out n after
what_wrote v out n after a =
    let p = answer_value (in_items 1 v) (out ∷ []) n (sym a.answer) in
    let m = mapped_value plan_of v p.0 (sym p.1.0) in
    let f : all_fit (m.0 ∷ []) (out ∷ []) ≡ true =
    ap (λ (q : Plan ℕ). all_fit q.lists (out ∷ [])) m.2 ∙ p.1.1 in
    let h : length m.0 ≤ length out =
    leb-true (length m.0) (length out) (sym (and-true (leb (length m.0) (length out))) ∙ f) in
    let c : accepted n ≡ accepted (length m.0 / 1) =
    a.answer ∙ fit_answer (in_items 1 v) (out ∷ []) (plan_of m.0) (ap (in_items 1) m.1) f in
    let d : n ≡ length m.0 / 1 = cc in
    let b : after ∷ [] ≡ (m.0 onto out) ∷ [] = a.buffers ∙ told_onto 1 v out m.0 m.1 h in
    record { list = m.0; planned = m.1; count = omega arith; room = omega arith; held = cc }

-- ---- one law for every writer: where the reading spells the list that is to be written, the buffer holds it

writes_into : (Spelled : List ℕ → Type 0) (v : Verdict (List ℕ)) → ((s : List ℕ) → v ≡ accepted s → Spelled s)
    → WritesInto Spelled v
writes_into Spelled v h out n after a =
    let w = what_wrote v out n after a in
    let k : length w.list ≡ n = w.count in
    let r : n ≤ length out = w.room in
    let t : take n after ≡ w.list = ap (take n) w.held ∙ take_at w.list _ n k in
    record {
      fits = r;
      spells = rw t (h w.list w.planned);
      rest = ap (drop n) w.held ∙ drop_at w.list _ n k ∙ ap (λ (i : ℕ). drop i out) k;
      size =
          ap length w.held
          ∙ length-append w.list (drop (length w.list) out)
          ∙ omega (arith, length-drop (length w.list) out);
    }

-- ---- the three

pub equi_writes_into : EquiWritesInto
equi_writes_into ρ i = writes_into _ _ (λ s e. equi_writes.written_spells ρ s i e)

pub cbmp_writes_into : CbmpWritesInto
cbmp_writes_into p i = writes_into _ _ (λ s e. cbmp_writes.written_spells p s i e)

mesh_spells : (pool coordinates rows points s : List ℕ) → Words32 pool
    → mesh_written pool coordinates rows points ≡ accepted s
    → MeshesSpell (tables_mesh pool coordinates rows points ∷ []) s
mesh_spells pool coordinates rows points s w e =
    let v = written_value pool coordinates rows points s e in
    rw v.1 (box_spells (tables_mesh pool coordinates rows points) (mesh_within pool coordinates rows points w v.0) v.2)

pub mesh_writes_into : MeshWritesInto
mesh_writes_into pool coordinates rows points w =
    writes_into _ _ (λ s e. mesh_spells pool coordinates rows points s w e)
