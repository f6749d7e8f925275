-- The theorems that specs/StandingLaws.antt names. Assumes nothing.
use Rattle.std.proofs.Common.{◌≡◌, ℕ, zero, suc, ◌+◌, ◌-◌, ◌*◌, ◌<◌, ◌≤◌, Bool, true, false, ltb, List, [], ◌∷◌, ◌++◌, length, get_or, take, sym, refl, ap, ◌∙◌, suc-le-suc, le_of_suc-le-suc, arith, length-append, get_or-append-add, ltb-false, ltb-true, le-ltb}
use lib.ListN.{get_or-append}
use Rattle.bits.specs.Verdict.{accepted, declined, mapped, limited}
use Rattle.bits.specs.Number.{width_of}
use Rattle.bits.specs.declared.fields.runs.Run.{Run}
use Rattle.bits.proofs.VerdictLaws.{clash, then_value, then_yes, mapped_value}
use Rattle.payload.specs.Mesh.{Submesh, Mesh}
use Rattle.payload.specs.MeshSpells.{submesh_bits, sizes, SubmeshesSpell}
use Rattle.payload.specs.MeshSpells.{mesh_vertices, submeshes_at, MeshSpells, part}
use Rattle.payload.specs.MeshRead.{read_mesh, read_meshes}
use Rattle.payload.specs.MeshDrawing.{submesh_records, point_count, records_from}
use Rattle.payload.specs.MeshDrawing.{first_eye, submesh_total}
use Rattle.payload.specs.Internal.{WasRead, value_or, mesh_read, meshes_from, any_from}
use Rattle.payload.specs.Places.{Spot, nowhere, spot, next_body, end_of, Standing, submesh_from, submesh_in}
use Rattle.payload.specs.Places.{standing_at, standing_from, submesh_found}
use Rattle.payload.specs.MeshSpells.{ends, holds, skips}
use Rattle.payload.specs.EyeLaws.{BoxesUpTo}
use Rattle.payload.specs.StandingLaws.{list_submeshes, no_submesh, IsNumber, RecordOf, StandsIn, Stands, StandingLaws}
use Rattle.payload.proofs.StepLaws.{read_value, was_read}
use Rattle.payload.proofs.PayloadLaws.{limited_value}
use Rattle.payload.proofs.MeshReadLaws.{mesh_spells}
use Rattle.payload.proofs.MeshTheorems.{any_read, any_was}
use Rattle.payload.proofs.MeasureLaws.{submesh_records_lem, records-length}
use Rattle.payload.proofs.TurnLaws.{mesh_is}
use Rattle.payload.proofs.PlaceLaws.{MeshBox, NextIs, next_read}

-- ---- which one it is

module _ (a b : List Submesh) (j : ℕ) (x : Submesh) where
  number_left : IsNumber a j x → IsNumber (a ++ b) j x
  number_left i =
      (rw (length-append a b) (omega (arith, i.0)), i.1 ∙ sym (get_or-append a b no_submesh j i.0))

  number_right : length a ≤ j → IsNumber b (j - length a) x → IsNumber (a ++ b) j x
  number_right h i =
      let k : j ≡ length a + (j - length a) = omega arith in (
        rw (length-append a b) (omega (arith, i.0)),
        i.1
            ∙ sym (ap (λ (n : ℕ). get_or (a ++ b) n no_submesh) k ∙ get_or-append-add a b (j - length a) no_submesh),
      )

number_in : (m p : ℕ) (l : List Submesh) (j : ℕ) (y : Submesh × Run) → submesh_from m p l j ≡ accepted y
    → IsNumber l j y.0
unfolding submesh_from
number_in m p [] j y n = clash (cc)
number_in m p (x ∷ l) zero y n =
    let z : (x, record { bit = p + 48; limit = m; count = length x.points }) ≡ y = cc in
    rw (← z) (omega arith, refl)
number_in m p (x ∷ l) (suc j) y n =
    let i = number_in m (p + submesh_bits (width_of m) x) l j y n in
    (suc-le-suc i.0, i.1)

number_of : (s : List ℕ) (p : ℕ) (l : List Mesh) (j : ℕ) (y : Standing) → standing_from s p l j ≡ accepted y
    → IsNumber (list_submeshes l) j y.submesh
unfolding standing_from list_submeshes
number_of s p [] j y n = clash (cc)
number_of s p (x ∷ l) j y n = go (ltb j (length x.submeshes)) refl
    (number_of s (end_of (next_body s p)) l (j - length x.submeshes) y)
  where
    go : (b : Bool) → ltb j (length x.submeshes) ≡ b
        → (standing_from s (end_of (next_body s p)) l (j - length x.submeshes) ≡ accepted y
        → IsNumber (list_submeshes l) (j - length x.submeshes) y.submesh)
        → IsNumber (x.submeshes ++ list_submeshes l) j y.submesh
    go true c rec =
        let t = mapped_value (standing_at (next_body s p)) (submesh_in x j) y (sym (rw c at n)) in
        number_left x.submeshes (list_submeshes l) j y.submesh
        (rw (← t.2) (number_in (mesh_vertices x) (submeshes_at x + 32) x.submeshes j t.0 t.1))
    go false c rec =
        number_right x.submeshes (list_submeshes l) j y.submesh (ltb-false j (length x.submeshes) c)
        (rec (rw c at n))

-- ---- where it stands in a body

in_body : (s : List ℕ) (m p : ℕ) (l : List Submesh) → SubmeshesSpell s (width_of m) m p l → (j : ℕ) (y : Submesh × Run)
    → submesh_from m p l j ≡ accepted y → StandsIn s m p l j y.0 y.1
unfolding submesh_from
in_body s m p [] e j y n = clash (cc)
in_body s m p (x ∷ l) e zero y n =
    let z : (x, record { bit = p + 48; limit = m; count = length x.points }) ≡ y = cc in
    let o : p + 0 ≡ p = omega arith in
    rw (← z)
    (record {
      is = (omega arith, refl);
      spells = rw o e.0;
      place = omega arith;
      limit = refl;
      count = refl;
    })
in_body s m p (x ∷ l) e (suc j) y n =
    let I = in_body s m (p + submesh_bits (width_of m) x) l e.1 j y n in
    let o = further p (submesh_bits (width_of m) x) (sizes (submesh_bits (width_of m)) (take j l)) in
    record {
      is = (suc-le-suc I.is.0, I.is.1);
      spells = rw o at I.spells;
      place = rw o at I.place;
      limit = I.limit;
      count = I.count;
    }
  where
    further : (a b c : ℕ) → a + b + c ≡ a + (b + c)
    further a b c = omega arith

-- ---- in a list that was read, by its first mesh

joined : {s : List ℕ} {q p r : ℕ} {k l : List Mesh} → BoxesUpTo s p q k → BoxesUpTo s q r l → BoxesUpTo s p r (k ++ l)
joined (ends i) u = rw i u
joined (holds b y m r) u = holds b y m (joined r u)
joined (skips b n r) u = skips b n (joined r u)

module _ {s : List ℕ} {p body end : ℕ} (B : MeshBox s p body end) (x : Mesh) (e : MeshSpells (part s body end) x)
    (j : ℕ) (y : Standing) where
  in_mesh : length s ≤ 67108864 → accepted y ≡ mapped (standing_at (spot body end)) (submesh_in x j) → Stands s p j y
  in_mesh short n =
      let t = mapped_value (standing_at (spot body end)) (submesh_in x j) y n in
      rw (← t.2)
      (record {
        short = short;
        at = B.at;
        before = [];
        up_to = B.skipped;
        box = B.box;
        type = B.type;
        starts = B.starts;
        ends = B.ends;
        mesh = x;
        body = e;
        number = j;
        counted = omega arith;
        inside = in_body (part s body end) (mesh_vertices x) (submeshes_at x + 32) x.submeshes e.submeshes_run j
            t.0 t.1;
      })

  in_others : length x.submeshes ≤ j → Stands s end (j - length x.submeshes) y → Stands s p j y
  in_others h S =
      record {
        short = S.short;
        at = S.at;
        before = x ∷ S.before;
        up_to = joined B.skipped
            (holds B.box B.type (rw (B.starts, B.ends) at e) (rw B.ends at S.up_to));
        box = S.box;
        type = S.type;
        starts = S.starts;
        ends = S.ends;
        mesh = S.mesh;
        body = S.body;
        number = S.number;
        counted = omega (arith, S.counted);
        inside = S.inside;
      }

stands_from : (s : List ℕ) → length s ≤ 67108864 → (p : ℕ) (l : List Mesh) → WasRead (any_from s p)
    → meshes_from s p ≡ l → (j : ℕ) (y : Standing)
    → standing_from s p l j ≡ accepted y → Stands s p j y
unfolding standing_from
stands_from s short p [] r e j y n = clash (cc)
stands_from s short p (x ∷ l) r e j y n =
    go (next_body s p) refl (next_read s p r) (λ q a b i z. stands_from s short q l a b i z)
  where
    go : (v : Spot) → next_body s p ≡ v → NextIs s p v
        → ((q : ℕ) → WasRead (any_from s q) → meshes_from s q ≡ l → (i : ℕ) (z : Standing)
        → standing_from s q l i ≡ accepted z → Stands s q i z)
        → Stands s p j y
    go nowhere d N rec = let z : x ∷ l ≡ [] = sym e ∙ N in clash (cc)
    go (spot body end) d N rec = by (ltb j (length x.submeshes)) refl
      where
        z : x ∷ l ≡ mesh_read (part s body end) ∷ meshes_from s end
        z = sym e ∙ N.is

        first : x ≡ mesh_read (part s body end)
        first = cc

        others : meshes_from s end ≡ l
        others = cc

        body_spells : MeshSpells (part s body end) x
        body_spells =
            let v = read_value (read_mesh (part s body end)) N.read in
            rw (first, mesh_is (part s body end) v.0 v.1)
            (mesh_spells (part s body end) v.0.0 v.0.1 v.1)

        by : (b : Bool) → ltb j (length x.submeshes) ≡ b → Stands s p j y
        by true c = in_mesh N.first x body_spells j y short (sym (rw (d, c) at n))
        by false c =
            in_others N.first x body_spells j y (ltb-false j (length x.submeshes) c)
            (rec end N.rest others (j - length x.submeshes) y (rw (d, c) at n))

-- ---- its record

-- a record further on
shifted : (a b : List ℕ) (n j : ℕ) (x : Submesh) → length a ≡ 5 * n → n ≤ j → RecordOf b (j - n) x
    → RecordOf (a ++ b) j x
shifted a b n j x e h r =
    record {
      there = rw (length-append a b) (omega (arith, r.there));
      texture = at 1 ∙ r.texture;
      mode = at 2 ∙ r.mode;
      points = at 4 ∙ r.points;
    }
  where
    at : (i : ℕ) → get_or (a ++ b) (5 * j + i) 0 ≡ get_or b (5 * (j - n) + i) 0
    at i =
        let k : 5 * j + i ≡ length a + (5 * (j - n) + i) = omega arith in
        rw k (get_or-append-add a b (5 * (j - n) + i) 0)

in_submeshes : (eye first m p : ℕ) (l : List Submesh) (rest : List ℕ) (j : ℕ) (y : Submesh × Run)
    → submesh_from m p l j ≡ accepted y → RecordOf (submesh_records eye first l ++ rest) j y.0
unfolding submesh_from submesh_records
in_submeshes eye first m p [] rest j y n = clash (cc)
in_submeshes eye first m p (x ∷ l) rest zero y n =
    let z : (x, record { bit = p + 48; limit = m; count = length x.points }) ≡ y = cc in
    rw (← z) (record { there = omega arith; texture = refl; mode = refl; points = refl })
in_submeshes eye first m p (x ∷ l) rest (suc j) y n =
    let z : suc j - 1 ≡ j = omega arith in
    shifted (eye ∷ x.texture ∷ x.mode ∷ first ∷ length x.points ∷ [])
    (submesh_records eye (first + length x.points) l ++ rest) 1 (suc j) y.0 refl (omega arith)
    (rw z (in_submeshes eye (first + length x.points) m (p + submesh_bits (width_of m) x) l rest j y n))

in_records : (s : List ℕ) (p eye first : ℕ) (l : List Mesh) (j : ℕ) (y : Standing) → standing_from s p l j ≡ accepted y
    → RecordOf (records_from eye first l) j y.submesh
unfolding standing_from records_from
in_records s p eye first [] j y n = clash (cc)
in_records s p eye first (x ∷ l) j y n = go (ltb j (length x.submeshes)) refl
    (in_records s (end_of (next_body s p)) (eye + 1) (first + point_count x.submeshes) l (j - length x.submeshes) y)
  where
    rest : List ℕ
    rest = records_from (eye + 1) (first + point_count x.submeshes) l

    go : (b : Bool) → ltb j (length x.submeshes) ≡ b
        → (standing_from s (end_of (next_body s p)) l (j - length x.submeshes) ≡ accepted y
        → RecordOf rest (j - length x.submeshes) y.submesh)
        → RecordOf (submesh_records eye first x.submeshes ++ rest) j y.submesh
    go true c rec =
        let t = mapped_value (standing_at (next_body s p)) (submesh_in x j) y (sym (rw c at n)) in
        rw (← t.2) (in_submeshes eye first (mesh_vertices x) (submeshes_at x + 32) x.submeshes rest j t.0 t.1)
    go false c rec =
        shifted (submesh_records eye first x.submeshes) rest (length x.submeshes) j y.submesh
        (submesh_records_lem eye first x.submeshes) (ltb-false j (length x.submeshes) c) (rec (rw c at n))

-- ---- whether there is one

some_submesh : (m p : ℕ) (l : List Submesh) (j : ℕ) → j < length l
    → (y : Submesh × Run) × (submesh_from m p l j ≡ accepted y)
unfolding submesh_from
some_submesh m p [] j h = absurd (omega arith)
some_submesh m p (x ∷ l) zero h = (_, refl)
some_submesh m p (x ∷ l) (suc j) h = some_submesh m (p + submesh_bits (width_of m) x) l j (le_of_suc-le-suc h)

some_standing : (s : List ℕ) (p : ℕ) (l : List Mesh) (j : ℕ) → j < submesh_total l
    → (y : Standing) × (standing_from s p l j ≡ accepted y)
unfolding standing_from
some_standing s p [] j h = absurd (omega arith)
some_standing s p (x ∷ l) j h = go (ltb j (length x.submeshes)) refl
    (some_standing s (end_of (next_body s p)) l (j - length x.submeshes))
  where
    go : (b : Bool) → ltb j (length x.submeshes) ≡ b
        → (j - length x.submeshes < submesh_total l
        → (y : Standing) × (standing_from s (end_of (next_body s p)) l (j - length x.submeshes) ≡ accepted y))
        → (y : Standing) × (standing_from s p (x ∷ l) j ≡ accepted y)
    go true c rec =
        let t = some_submesh (mesh_vertices x) (submeshes_at x + 32) x.submeshes j
        (ltb-true j (length x.submeshes) c) in
        (standing_at (next_body s p) t.0, rw (c, t.1) refl)
    go false c rec =
        let t = rec (omega (arith, ltb-false j (length x.submeshes) c)) in
        (t.0, rw c t.1)

no_standing : (s : List ℕ) (p : ℕ) (l : List Mesh) (j : ℕ) → submesh_total l ≤ j → standing_from s p l j ≡ declined 24
unfolding standing_from
no_standing s p [] j h = refl
no_standing s p (x ∷ l) j h =
    rw (le-ltb j (length x.submeshes) (omega arith))
    (no_standing s (end_of (next_body s p)) l (j - length x.submeshes) (omega arith))

-- ---- of a payload

found : (s : List ℕ) (l : List Mesh) (j : ℕ) → limited s (read_meshes s) ≡ accepted l
    → submesh_found s j ≡ standing_from s 0 l j
unfolding submesh_found
found s l j e = then_yes (limited s (read_meshes s)) (λ k. standing_from s 0 k j) l e

found_stands : (s : List ℕ) (j : ℕ) (x : Standing) → submesh_found s j ≡ accepted x → Stands s 0 j x
unfolding submesh_found
found_stands s j x e =
    let t = then_value (limited s (read_meshes s)) (λ l. standing_from s 0 l j) x e in
    let r = limited_value s (read_meshes s) t.0 t.1 in
    let i : meshes_from s 0 ≡ t.0 = ap (value_or []) (any_read s t.0 r.1) in
    stands_from s r.0 0 t.0 (any_was s (was_read (read_meshes s) t.0 r.1)) i j x t.2

pub standing_laws : StandingLaws
standing_laws =
    record {
      stands = found_stands;
      of_reading = λ s l j x e n. number_of s 0 l j x (sym (found s l j e) ∙ n);
      record_number = λ s l j x e n.
          in_records s 0 (first_eye (length l)) 0 l j x (sym (found s l j e) ∙ n);
      there = λ s l j e h.
          let t = some_standing s 0 l j (omega (arith, records-length l)) in
          (t.0, found s l j e ∙ t.1);
      not_there = λ s l j e h.
          found s l j e ∙ no_standing s 0 l j (omega (arith, records-length l));
    }
