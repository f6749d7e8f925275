-- What the walk that stores records learns of a mesh list that was read, and that it stores the list's records piece by piece. Assumes nothing.
use Rattle.std.proofs.Common.{◌≡◌, ℕ, suc, ◌+◌, ◌*◌, ◌<◌, ◌≤◌, Bool, true, false, cond, eqb, List, [], ◌∷◌, ◌++◌, length, sym, refl, ap, ◌∙◌, append_assoc, append-nil, arith, length-append}
use lib.Seq.{sets}
use Rattle.payload.specs.Mesh.{Submesh, Mesh}
use Rattle.payload.specs.MeshRead.{read_meshes}
use Rattle.payload.specs.MeshDrawing.{submesh_records, point_count, records_from, first_eye, drawn_records, point_total}
use Rattle.payload.specs.Records.{records_in, point_sum}
use Rattle.payload.specs.Internal.{WasRead, value_or, submeshes_of, mesh_read, meshes_from, RecordRoom, after_records}
use Rattle.payload.specs.declared.mesh.head.Head.{Head}
use Rattle.payload.specs.declared.mesh.submeshes.TakenSubmesh.{TakenSubmesh}
use Rattle.payload.specs.declared.mesh.submeshes.SubmeshWalk.{SubmeshWalk}
use Rattle.payload.specs.InternalWalk.{submeshes_in, Taken}
use Rattle.payload.specs.declared.mesh.records.RecordPlace.{RecordPlace}
use Rattle.payload.proofs.FillLaws.{sets-append}
use Rattle.payload.proofs.StepLaws.{read_value}
use Rattle.payload.proofs.MeshTheorems.{any_read}
use Rattle.payload.proofs.MeasureLaws.{records_on, list_fits}
use Rattle.payload.proofs.TurnLaws.{taken_stored}
use Rattle.payload.proofs.HeadLaws.{HeadKnown}

-- ---- submeshes

pub records-none : (eye first : ℕ) (l : List Submesh) → l ≡ [] → submesh_records eye first l ≡ []
unfolding submesh_records
records-none eye first l e = rw e

-- the record of a submesh was stored, and the others' are left
pub record_stored : {w t : SubmeshWalk} {r : TakenSubmesh} → Taken w r t → (mesh first : ℕ) (d d' : List ℕ) (at : ℕ)
    → d' ≡ sets d at (mesh ∷ r.texture ∷ r.mode ∷ first ∷ r.run.count ∷ [])
    → sets d at (submesh_records mesh first (submeshes_in w)) ≡ sets d' (at + 5) (submesh_records mesh (first + r.run.count) (submeshes_in t))
unfolding submesh_records
record_stored {r = r} T mesh first d d' at e =
    taken_stored T (submesh_records mesh first) (submesh_records mesh (first + r.run.count)) (mesh ∷ r.texture ∷ r.mode ∷ first ∷ r.run.count ∷ []) (λ l. ap (λ (k : ℕ). mesh ∷ r.texture ∷ r.mode ∷ first ∷ k ∷ submesh_records mesh (first + k) l) (sym T.count)) d d' at (at + 5) e refl

-- ---- a mesh

one_record : (eye first : ℕ) (x : Mesh) → records_from eye first (x ∷ []) ≡ submesh_records eye first x.submeshes
unfolding records_from
one_record eye first x = append-nil (submesh_records eye first x.submeshes)

module _ {s : List ℕ} {h : Head} (K : HeadKnown s h) (to : RecordPlace) where
  records_long : length (records_from to.eye to.first (mesh_read s ∷ [])) ≡ 5 * h.submeshes.left
  records_long = records_on to.eye to.first (mesh_read s ∷ []) ∙ omega (arith, K.count)

  points_are : point_total (mesh_read s ∷ []) ≡ point_count (submeshes_of s h.submeshes)
  points_are = ap (λ (l : List Submesh). point_count l + 0) (sym K.are) ∙ omega arith

  pub record_room : (a : ℕ) → RecordRoom (mesh_read s ∷ []) to a
      → (to.at + 5 * h.submeshes.left ≤ a) × (to.first + point_count (submeshes_of s h.submeshes) < 4294967296)
  record_room a r = (omega (arith, r.records, records_long), omega (arith, r.points, points_are))

  -- the place after its records
  pub record_placed : (f : ℕ) → f ≡ to.first + point_count (submeshes_of s h.submeshes)
      → ◌≡◌ {A = RecordPlace} (record { eye = to.eye + 1; first = f; at = to.at + 5 * h.submeshes.left }) (after_records to (mesh_read s ∷ []))
  record_placed f e = rw (e, records_long, points_are)

  pub mesh_recorded : (d d' : List ℕ) → d' ≡ sets d to.at (submesh_records to.eye to.first (submeshes_of s h.submeshes))
      → d' ≡ sets d to.at (records_from to.eye to.first (mesh_read s ∷ []))
  mesh_recorded d d' e = e ∙ rw (K.are, one_record to.eye to.first (mesh_read s))

-- ---- one mesh after the other

points_append : (a b : List Mesh) → point_total (a ++ b) ≡ point_total a + point_total b
points_append [] b = omega arith
points_append (x ∷ a) b = omega (arith, points_append a b)

records-append : (eye first : ℕ) (a b : List Mesh)
    → records_from eye first (a ++ b) ≡ records_from eye first a ++ records_from (eye + length a) (first + point_total a) b
unfolding records_from
records-append eye first [] b =
    let x : eye + 0 ≡ eye = omega arith in
    let y : first + 0 ≡ first = omega arith in
    rw (x, y)
records-append eye first (x ∷ a) b =
    let l = submesh_records eye first x.submeshes in
    let p = point_count x.submeshes in
    let i : eye + 1 + length a ≡ eye + suc (length a) = omega arith in
    let j : first + p + point_total a ≡ first + (p + point_total a) = omega arith in
    ap (λ (r : List ℕ). l ++ r) (records-append (eye + 1) (first + p) a b ∙ rw (i, j))
    ∙ sym (append_assoc l (records_from (eye + 1) (first + p) a) (records_from (eye + suc (length a)) (first + (p + point_total a)) b))

-- what a loop that stores records keeps: storing the records that are left gives the same as storing all at first
pub record RecordsLeft (all : List Mesh) (rec₀ rec : List ℕ) (left : List Mesh) (to : RecordPlace) : Type 0 where
  pub same : sets rec₀ 0 (drawn_records all) ≡ sets rec to.at (records_from to.eye to.first left)
  pub room : RecordRoom left to (length rec)
  pub long : length rec ≡ length rec₀

eye_small : (n : ℕ) → first_eye n ≤ 1
unfolding first_eye
eye_small n = go (eqb n 2)
  where
    go : (b : Bool) → cond b 1 0 ≤ 1
    go true = omega arith
    go false = omega arith

-- at its start: meshes and points take a bit or more each, so that their numbers fit words
pub records-start : (s rec : List ℕ) (eye : ℕ) → eye ≡ first_eye (length (meshes_from s 0)) → length s ≤ 67108864 → WasRead (read_meshes s)
    → length (drawn_records (meshes_from s 0)) ≤ length rec → RecordsLeft (meshes_from s 0) rec rec (meshes_from s 0) (record { eye = eye; first = 0; at = 0 })
records-start s rec eye i h r l =
    let v = read_value (read_meshes s) r in
    let e : meshes_from s 0 ≡ v.0 = ap (value_or []) (any_read s v.0 v.1) in
    let f = list_fits s v.0 v.1 in
    rw i
    (record {
      same = refl;
      room =
          record {
            records = omega arith;
            meshes = omega (arith, eye_small (length (meshes_from s 0)), ap length e, f.0);
            points = rw e (omega (arith, f.1));
          };
      long = refl;
    })

module _ {all left : List Mesh} {rec₀ rec : List ℕ} {to : RecordPlace} (L : RecordsLeft all rec₀ rec left to) where
  pub records_end : left ≡ [] → rec ≡ sets rec₀ 0 (drawn_records all)
  unfolding records_from
  records_end h = sym (L.same ∙ ap (λ (l : List Mesh). sets rec to.at (records_from to.eye to.first l)) h)

  module _ {x : Mesh} {rest : List Mesh} (e : left ≡ x ∷ rest) where
    abbrev next : RecordPlace
    next = after_records to (x ∷ [])

    records_are : records_from to.eye to.first left ≡ records_from to.eye to.first (x ∷ []) ++ records_from next.eye next.first rest
    records_are = ap (records_from to.eye to.first) e ∙ records-append to.eye to.first (x ∷ []) rest

    records_sum : length (records_from to.eye to.first left)
        ≡ length (records_from to.eye to.first (x ∷ [])) + length (records_from next.eye next.first rest)
    records_sum = ap length records_are ∙ length-append (records_from to.eye to.first (x ∷ [])) _

    points_sum : point_total left ≡ point_total (x ∷ []) + point_total rest
    points_sum = ap point_total e ∙ points_append (x ∷ []) rest

    pub records_room : RecordRoom (x ∷ []) to (length rec)
    records_room =
        record {
          records = omega (arith, L.room.records, records_sum);
          meshes = omega (arith, L.room.meshes, ap length e);
          points = omega (arith, L.room.points, points_sum);
        }

    pub records_on_mesh : (rec' : List ℕ) (to' : RecordPlace) → length rec' ≡ length rec → rec' ≡ sets rec to.at (records_from to.eye to.first (x ∷ []))
        → to' ≡ next → RecordsLeft all rec₀ rec' rest to'
    records_on_mesh rec' to' a c d =
        rw d
        (record {
          same = L.same ∙ rw (records_are, c) (sets-append (records_from to.eye to.first (x ∷ [])) _ rec to.at);
          room =
              record {
                records = omega (arith, a, L.room.records, records_sum);
                meshes = omega (arith, L.room.meshes, ap length e);
                points = omega (arith, L.room.points, points_sum);
              };
          long = a ∙ L.long;
        })

-- ---- the words read as records again

submeshes_sum : (eye first : ℕ) (l : List Submesh) (words : List ℕ)
    → point_sum (records_in (submesh_records eye first l ++ words)) ≡ point_count l + point_sum (records_in words)
unfolding submesh_records records_in
submeshes_sum eye first [] words = omega arith
submeshes_sum eye first (x ∷ l) words = omega (arith, submeshes_sum eye (first + length x.points) l words)

pub drawn-sum : (eye first : ℕ) (l : List Mesh) → point_sum (records_in (records_from eye first l)) ≡ point_total l
unfolding records_from records_in
drawn-sum eye first [] = refl
drawn-sum eye first (x ∷ l) =
    submeshes_sum eye first x.submeshes (records_from (eye + 1) (first + point_count x.submeshes) l)
    ∙ ap (λ (n : ℕ). point_count x.submeshes + n) (drawn-sum (eye + 1) (first + point_count x.submeshes) l)
