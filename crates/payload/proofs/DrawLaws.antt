-- The filling pass stores a mesh list's drawing piece by piece: the words of submeshes, meshes and boxes. Assumes nothing.
use Rattle.std.proofs.Common.{◌≡◌, ℕ, ◌+◌, ◌*◌, ◌≤◌, List, [], ◌∷◌, ◌++◌, length, sym, refl, ap, ◌∙◌, append_assoc, append-nil, arith, length-append}
use lib.Seq.{sets}
use Rattle.payload.specs.Mesh.{Submesh, Mesh}
use Rattle.payload.specs.MeshDrawing.{run_words, submesh_words, coordinate, mesh_words, point_count, drawn_numbers, drawn_floats}
use Rattle.payload.specs.Internal.{numbers_of, points_of, submeshes_of, word_at, Pooled, mesh_read, FillRoom, after_meshes}
use Rattle.payload.specs.declared.mesh.head.Head.{Head}
use Rattle.payload.specs.declared.mesh.submeshes.TakenSubmesh.{TakenSubmesh}
use Rattle.payload.specs.declared.mesh.submeshes.SubmeshWalk.{SubmeshWalk}
use Rattle.payload.specs.InternalWalk.{submeshes_in, Taken}
use Rattle.payload.specs.declared.mesh.draw.DrawPlace.{DrawPlace}
use Rattle.payload.proofs.FillLaws.{sets-append}
use Rattle.payload.proofs.MeasureLaws.{run_floats, submesh_floats}
use Rattle.payload.proofs.TurnLaws.{taken_stored}
use Rattle.payload.proofs.HeadLaws.{HeadKnown}

-- ---- submeshes

pub submesh_words-none : (f : ℕ → ℕ) (base : ℕ) (l : List Submesh) → l ≡ [] → submesh_words f base l ≡ []
unfolding submesh_words
submesh_words-none f base l e = rw e

-- the words of a submesh were stored, and the others' are left
pub submesh_drawn : {w t : SubmeshWalk} {r : TakenSubmesh} → Taken w r t → (f : ℕ → ℕ) (base : ℕ) (d d' : List ℕ) (at : ℕ) → d' ≡ sets d at (run_words f base (points_of w.s.now r.run))
    → sets d at (submesh_words f base (submeshes_in w)) ≡ sets d' (at + 5 * r.run.count) (submesh_words f base (submeshes_in t))
unfolding submesh_words
submesh_drawn {w} {r = r} T f base d d' at e =
    taken_stored T (submesh_words f base) (submesh_words f base) (run_words f base (points_of w.s.now r.run)) (λ l. refl) d d' at (at + 5 * r.run.count) e (omega (arith, run_floats f base (points_of w.s.now r.run), T.count))

-- the drawing of one mesh
one_numbers : (x : Mesh) → drawn_numbers (x ∷ []) ≡ x.vertices
unfolding drawn_numbers
one_numbers x = append-nil x.vertices

one-floats : (x : Mesh) → drawn_floats (x ∷ []) ≡ mesh_words x
unfolding drawn_floats
one-floats x = append-nil (mesh_words x)

module _ {s : List ℕ} {h : Head} (K : HeadKnown s h) where
  numbers_long : length (drawn_numbers (mesh_read s ∷ [])) ≡ 5 * h.vertices.count
  numbers_long = ap length (one_numbers (mesh_read s)) ∙ K.fives

  floats_long : length (drawn_floats (mesh_read s ∷ [])) ≡ 5 * point_count (submeshes_of s h.submeshes)
  floats_long = ap length (one-floats (mesh_read s)) ∙ submesh_floats (coordinate (mesh_read s)) 0 (mesh_read s).submeshes ∙ ap (λ (l : List Submesh). 5 * point_count l) (sym K.are)

  pub mesh_room : (to : DrawPlace) (a b : ℕ) → FillRoom (mesh_read s ∷ []) to a b
      → (to.numbers + 5 * h.vertices.count ≤ a) × (to.floats + 5 * point_count (submeshes_of s h.submeshes) ≤ b)
  mesh_room to a b r = (omega (arith, r.numbers, numbers_long), omega (arith, r.floats, floats_long))

  -- the places after it
  pub mesh_placed : (to : DrawPlace) (end : ℕ) → end ≡ to.floats + 5 * point_count (submeshes_of s h.submeshes)
      → ◌≡◌ {A = DrawPlace} (record { numbers = to.numbers + 5 * h.vertices.count; floats = end }) (after_meshes to (mesh_read s ∷ []))
  mesh_placed to end e = rw (e, numbers_long, floats_long)

  module _ (d d' : List ℕ) (base : ℕ) (e : d' ≡ sets d base (numbers_of s h.vertices)) where
    is_stored : d' ≡ sets d base (mesh_read s).vertices
    is_stored = e ∙ rw K.numbers

    -- its coordinate numbers are stored
    pub mesh_stored : d' ≡ sets d base (drawn_numbers (mesh_read s ∷ []))
    mesh_stored = is_stored ∙ rw (one_numbers (mesh_read s))

    module _ (r : base + 5 * h.vertices.count ≤ length d) where
      pub mesh_pooled : Pooled s d' base (5 * h.submeshes.vertices)
      mesh_pooled = rw (is_stored, K.same) (K.pooled d base r)

      -- its points' words are stored
      pub mesh_drawn : (f f' : List ℕ) (at : ℕ) → f' ≡ sets f at (submesh_words (word_at s d') base (submeshes_of s h.submeshes)) → f' ≡ sets f at (drawn_floats (mesh_read s ∷ []))
      mesh_drawn f f' at g = g ∙ rw (K.are, is_stored, K.drawn d base r, one-floats (mesh_read s))

-- ---- the drawing of two lists of meshes, one after the other

numbers_append : (a b : List Mesh) → drawn_numbers (a ++ b) ≡ drawn_numbers a ++ drawn_numbers b
unfolding drawn_numbers
numbers_append [] b = refl
numbers_append (x ∷ a) b = ap (λ (l : List ℕ). x.vertices ++ l) (numbers_append a b) ∙ sym (append_assoc x.vertices (drawn_numbers a) (drawn_numbers b))

floats-append : (a b : List Mesh) → drawn_floats (a ++ b) ≡ drawn_floats a ++ drawn_floats b
unfolding drawn_floats
floats-append [] b = refl
floats-append (x ∷ a) b = ap (λ (l : List ℕ). mesh_words x ++ l) (floats-append a b) ∙ sym (append_assoc (mesh_words x) (drawn_floats a) (drawn_floats b))

-- what a loop that stores meshes keeps: storing the meshes that are left gives the same as storing all at first
pub record MeshesLeft (all : List Mesh) (num₀ wrd₀ num wrd : List ℕ) (left : List Mesh) (to : DrawPlace) : Type 0 where
  pub numbers : sets num₀ 0 (drawn_numbers all) ≡ sets num to.numbers (drawn_numbers left)
  pub floats : sets wrd₀ 0 (drawn_floats all) ≡ sets wrd to.floats (drawn_floats left)
  pub room : FillRoom left to (length num) (length wrd)
  pub long : length num ≡ length num₀
  pub long_2 : length wrd ≡ length wrd₀

module _ {all left : List Mesh} {num₀ wrd₀ num wrd : List ℕ} {to : DrawPlace} (L : MeshesLeft all num₀ wrd₀ num wrd left to) where
  pub meshes_end : left ≡ [] → (num ≡ sets num₀ 0 (drawn_numbers all)) × (wrd ≡ sets wrd₀ 0 (drawn_floats all))
  unfolding drawn_numbers drawn_floats
  meshes_end h = (sym (L.numbers ∙ ap (λ (l : List Mesh). sets num to.numbers (drawn_numbers l)) h), sym (L.floats ∙ ap (λ (l : List Mesh). sets wrd to.floats (drawn_floats l)) h))

  module _ {x : Mesh} {rest : List Mesh} (e : left ≡ x ∷ rest) where
    numbers_are : drawn_numbers left ≡ drawn_numbers (x ∷ []) ++ drawn_numbers rest
    numbers_are = ap drawn_numbers e ∙ numbers_append (x ∷ []) rest

    floats_are : drawn_floats left ≡ drawn_floats (x ∷ []) ++ drawn_floats rest
    floats_are = ap drawn_floats e ∙ floats-append (x ∷ []) rest

    numbers_sum : length (drawn_numbers left) ≡ length (drawn_numbers (x ∷ [])) + length (drawn_numbers rest)
    numbers_sum = ap length numbers_are ∙ length-append (drawn_numbers (x ∷ [])) (drawn_numbers rest)

    floats_sum : length (drawn_floats left) ≡ length (drawn_floats (x ∷ [])) + length (drawn_floats rest)
    floats_sum = ap length floats_are ∙ length-append (drawn_floats (x ∷ [])) (drawn_floats rest)

    pub meshes_room : FillRoom (x ∷ []) to (length num) (length wrd)
    meshes_room = record { numbers = omega (arith, L.room.numbers, numbers_sum); floats = omega (arith, L.room.floats, floats_sum) }

    pub meshes_on : (num' wrd' : List ℕ) (to' : DrawPlace) → length num' ≡ length num → length wrd' ≡ length wrd
        → num' ≡ sets num to.numbers (drawn_numbers (x ∷ [])) → wrd' ≡ sets wrd to.floats (drawn_floats (x ∷ []))
        → to' ≡ after_meshes to (x ∷ []) → MeshesLeft all num₀ wrd₀ num' wrd' rest to'
    meshes_on num' wrd' to' a b c d f =
        rw f
        (record {
          numbers = L.numbers ∙ rw (numbers_are, c) (sets-append (drawn_numbers (x ∷ [])) (drawn_numbers rest) num to.numbers);
          floats = L.floats ∙ rw (floats_are, d) (sets-append (drawn_floats (x ∷ [])) (drawn_floats rest) wrd to.floats);
          room = record { numbers = omega (arith, a, L.room.numbers, numbers_sum); floats = omega (arith, b, L.room.floats, floats_sum) };
          long = a ∙ L.long;
          long_2 = b ∙ L.long_2;
        })
