-- The textures and the points of records: of two lists one after the other, all points together, and a mesh list's
-- records by texture and points alone. Assumes nothing.
use Rattle.std.proofs.Common.{◌≡◌, ℕ, ◌+◌, ◌*◌, ◌≤◌, Bool, true, false, cond, ◌||◌, eqb, List, [], ◌∷◌, ◌++◌, map, length, sym, refl, ap, ◌∙◌, append-nil, arith, eq-eqb, ne_eqb, eqb-true}
use borrow.Author.Tests.{eqb-false}
use Rattle.bits.specs.Refusals.{among}
use Rattle.bits.proofs.VerdictLaws.{clash}
use Rattle.payload.specs.Mesh.{Submesh, Mesh}
use Rattle.payload.specs.MeshSpells.{sizes, sum}
use Rattle.payload.specs.MeshDrawing.{submesh_records, records_from, first_eye, point_count, point_total}
use Rattle.payload.specs.Records.{records_in, point_sum}
use Rattle.payload.specs.Firsts.{firsts, Distinct, Below}
use Rattle.payload.specs.Textures.{textures, points_with, paired, texture_words, list_textures}
use Rattle.payload.specs.TextureLaws.{listed_textures, listed_points}
use Rattle.payload.specs.InternalTextures.{weight, weights, list_weights, Proper}
use Rattle.payload.specs.declared.mesh.records.Record.{Record}
use Rattle.payload.specs.declared.mesh.submeshes.TakenSubmesh.{TakenSubmesh}
use Rattle.payload.specs.declared.mesh.submeshes.SubmeshWalk.{SubmeshWalk}
use Rattle.payload.specs.InternalWalk.{submeshes_in, Taken}
use Rattle.payload.proofs.FirstsLaws.{or_no, or_yes, distinct-firsts, below-noted, few}

-- ---- lists one after the other

pub textures-append : (a b : List Record) → textures (a ++ b) ≡ textures a ++ textures b
textures-append [] b = refl
textures-append (r ∷ a) b = ap (λ (l : List ℕ). r.texture ∷ l) (textures-append a b)

pub points_append : (t : ℕ) (a b : List Record) → points_with t (a ++ b) ≡ points_with t a + points_with t b
unfolding points_with
points_append t [] b = omega arith
points_append t (r ∷ a) b = omega (arith, points_append t a b)

pub sum-append : (a b : List Record) → point_sum (a ++ b) ≡ point_sum a + point_sum b
sum-append [] b = omega arith
sum-append (r ∷ a) b = omega (arith, sum-append a b)

pub points_most : (t : ℕ) (l : List Record) → points_with t l ≤ point_sum l
unfolding points_with
points_most t [] = omega arith
points_most t (r ∷ l) = go (eqb t r.texture) (points_most t l)
  where
    go : (b : Bool) → points_with t l ≤ point_sum l → cond b r.points 0 + points_with t l ≤ r.points + point_sum l
    go true h = omega arith
    go false h = omega arith

pub paired-append : (f : ℕ → ℕ) (a b : List ℕ) → paired f (a ++ b) ≡ paired f a ++ paired f b
unfolding paired
paired-append f [] b = refl
paired-append f (t ∷ a) b = ap (λ (l : List ℕ). t ∷ f t ∷ l) (paired-append f a b)

pub paired-length : (f : ℕ → ℕ) (l : List ℕ) → length (paired f l) ≡ 2 * length l
unfolding paired
paired-length f [] = refl
paired-length f (t ∷ l) = omega (arith, paired-length f l)

pub evens : (f : ℕ → ℕ) (l : List ℕ) → listed_textures (paired f l) ≡ l
unfolding paired
evens f [] = refl
evens f (t ∷ l) = ap (λ (m : List ℕ). t ∷ m) (evens f l)

pub odds : (f : ℕ → ℕ) (l : List ℕ) → listed_points (paired f l) ≡ map f l
unfolding paired
odds f [] = refl
odds f (t ∷ l) = ap (λ (m : List ℕ). f t ∷ m) (odds f l)

-- ---- records with points and textures that are bytes

pub proper_append : (a b : List Record) → Proper a → Proper b → Proper (a ++ b)
proper_append [] b h k = k
proper_append (r ∷ a) b h k = (h.0, h.1, proper_append a b h.2 k)

pub proper_bytes : (l : List Record) → Proper l → Below 256 (textures l)
proper_bytes [] h = tt
proper_bytes (r ∷ l) h = (h.0, proper_bytes l h.2)

pub below-firsts : (l : List Record) → Proper l → Below 256 (firsts (textures l))
below-firsts l h = below-noted 256 [] (textures l) tt (proper_bytes l h)

pub firsts_few : (l : List Record) → Proper l → length (firsts (textures l)) ≤ 256
firsts_few l h = few 256 (firsts (textures l)) (distinct-firsts (textures l)) (below-firsts l h)

-- every record among a point, so a texture among points exactly where it occurs
pub points_none : (t : ℕ) (l : List Record) → Proper l → points_with t l ≡ 0 → among t (textures l) ≡ false
unfolding points_with
points_none t [] h e = refl
points_none t (r ∷ l) h e = go (eqb t r.texture) e (points_none t l h.2)
  where
    go : (b : Bool) → cond b r.points 0 + points_with t l ≡ 0
        → (points_with t l ≡ 0 → among t (textures l) ≡ false) → (b || among t (textures l)) ≡ false
    go true d k = absurd (omega (arith, h.1))
    go false d k = k (omega arith)

pub points_some : (t : ℕ) (l : List Record) → (points_with t l ≡ 0 → ⊥) → among t (textures l) ≡ true
unfolding points_with
points_some t [] n = absurd (n refl)
points_some t (r ∷ l) n = go (eqb t r.texture) n (points_some t l)
  where
    go : (b : Bool) → (cond b r.points 0 + points_with t l ≡ 0 → ⊥)
        → ((points_with t l ≡ 0 → ⊥) → among t (textures l) ≡ true) → (b || among t (textures l)) ≡ true
    go true d k = refl
    go false d k = k (λ e. d (omega arith))

-- ---- the sum

pub sum-map : (f : ℕ → ℕ) (l : List ℕ) → sum (map f l) ≡ sizes f l
sum-map f [] = refl
sum-map f (t ∷ l) = ap (λ (n : ℕ). f t + n) (sum-map f l)

sizes-add : (f g h : ℕ → ℕ) → ((t : ℕ) → h t ≡ f t + g t) → (l : List ℕ) → sizes h l ≡ sizes f l + sizes g l
sizes-add f g h e [] = omega arith
sizes-add f g h e (t ∷ l) = omega (arith, e t, sizes-add f g h e l)

sizes-zero : (l : List ℕ) → sizes (λ t. points_with t []) l ≡ 0
unfolding points_with
sizes-zero [] = refl
sizes-zero (t ∷ l) = omega (arith, sizes-zero l)

module _ (t c : ℕ) where
  hit : ℕ → ℕ
  hit u = cond (eqb u t) c 0

  no_hit : (l : List ℕ) → among t l ≡ false → sizes hit l ≡ 0
  unfolding hit
  no_hit [] h = refl
  no_hit (u ∷ l) h =
      let o = or_no (eqb t u) (among t l) h in
      rw (ne_eqb u t (λ e. eqb-false t u o.0 (sym e))) (omega (arith, no_hit l o.1))

  one_hit : (l : List ℕ) → Distinct l → among t l ≡ true → sizes hit l ≡ c
  unfolding hit
  one_hit [] d h = clash (cc)
  one_hit (u ∷ l) d h = go (eqb t u) refl h (one_hit l d.1)
    where
      go : (b : Bool) → eqb t u ≡ b → (b || among t l) ≡ true → (among t l ≡ true → sizes hit l ≡ c)
          → sizes hit (u ∷ l) ≡ c
      go true e h r =
          let i = eqb-true t u e in
          rw (eq-eqb u t (sym i)) (omega (arith, no_hit l (rw (← i) at d.0)))
      go false e h r = rw (ne_eqb u t (λ z. eqb-false t u e (sym z))) (omega (arith, r h))

-- over numbers that hold all textures once
pub sum_all : (ts : List ℕ) → Distinct ts → (l : List Record) → ((t : ℕ) → among t (textures l) ≡ true → among t ts ≡ true)
    → sizes (λ t. points_with t l) ts ≡ point_sum l
unfolding points_with hit
sum_all ts d [] f = sizes-zero ts
sum_all ts d (r ∷ l) f =
    let here : among r.texture ts ≡ true = f r.texture (rw (eq-eqb r.texture r.texture refl) refl) in
    let e = sizes-add (hit r.texture r.points) (λ t. points_with t l) (λ t. points_with t (r ∷ l)) (λ t. refl) ts in
    omega (
      arith,
      e,
      one_hit r.texture r.points ts d here,
      sum_all ts d l (λ t k. f t (or_yes (eqb t r.texture) (among t (textures l)) k)),
    )

-- ---- the records of submeshes, by texture and points

weights-sum : (l : List Submesh) → point_sum (weights l) ≡ point_count l
weights-sum [] = refl
weights-sum (x ∷ l) = omega (arith, weights-sum l)

pub list-weights-sum : (l : List Mesh) → point_sum (list_weights l) ≡ point_total l
unfolding list_weights
list-weights-sum [] = refl
list-weights-sum (x ∷ l) =
    omega (arith, sum-append (weights x.submeshes) (list_weights l), weights-sum x.submeshes, list-weights-sum l)

pub one_mesh_lem : (x : Mesh) → list_weights (x ∷ []) ≡ weights x.submeshes
unfolding list_weights
one_mesh_lem x = append-nil (weights x.submeshes)

pub first_mesh : (x : Mesh) (l : List Mesh) → list_weights (x ∷ l) ≡ list_weights (x ∷ []) ++ list_weights l
unfolding list_weights
first_mesh x l = ap (λ (m : List Record). m ++ list_weights l) (sym (append-nil (weights x.submeshes)))

pub taken_weights : {w t : SubmeshWalk} {r : TakenSubmesh} → Taken w r t
    → weights (submeshes_in w) ≡ (weight r.texture r.run.count ∷ []) ++ weights (submeshes_in t)
taken_weights {t = t} {r = r} T =
    ap weights T.is ∙ ap (λ (n : ℕ). weight r.texture n ∷ weights (submeshes_in t)) (sym T.count)

-- the words of records, read as records again, have the same textures and points
textures_same : (eye first : ℕ) (l : List Submesh) (words : List ℕ)
    → textures (records_in (submesh_records eye first l ++ words)) ≡ textures (weights l) ++ textures (records_in words)
unfolding submesh_records records_in
textures_same eye first [] words = refl
textures_same eye first (x ∷ l) words =
    ap (λ (m : List ℕ). x.texture ∷ m) (textures_same eye (first + length x.points) l words)

points_same : (t eye first : ℕ) (l : List Submesh) (words : List ℕ)
    → points_with t (records_in (submesh_records eye first l ++ words))
    ≡ points_with t (weights l) + points_with t (records_in words)
unfolding submesh_records records_in points_with
points_same t eye first [] words = omega arith
points_same t eye first (x ∷ l) words = omega (arith, points_same t eye (first + length x.points) l words)

list-textures_same : (eye first : ℕ) (l : List Mesh)
    → textures (records_in (records_from eye first l)) ≡ textures (list_weights l)
unfolding records_from records_in list_weights
list-textures_same eye first [] = refl
list-textures_same eye first (x ∷ l) =
    textures_same eye first x.submeshes _
    ∙ ap (λ (m : List ℕ). textures (weights x.submeshes) ++ m) (list-textures_same (eye + 1) _ l)
    ∙ sym (textures-append (weights x.submeshes) (list_weights l))

list_points_same : (t eye first : ℕ) (l : List Mesh)
    → points_with t (records_in (records_from eye first l)) ≡ points_with t (list_weights l)
unfolding records_from records_in list_weights points_with
list_points_same t eye first [] = refl
list_points_same t eye first (x ∷ l) =
    points_same t eye first x.submeshes _
    ∙ ap (λ (m : ℕ). points_with t (weights x.submeshes) + m) (list_points_same t (eye + 1) _ l)
    ∙ sym (points_append t (weights x.submeshes) (list_weights l))

paired_same : (f g : ℕ → ℕ) (l : List ℕ) → ((t : ℕ) → f t ≡ g t) → paired f l ≡ paired g l
unfolding paired
paired_same f g [] h = refl
paired_same f g (t ∷ l) h = rw (h t, paired_same f g l h)

pub words_same : (l : List Mesh) → texture_words (list_weights l) ≡ list_textures l
unfolding texture_words
words_same l =
    ap (λ (m : List ℕ). paired (λ t. points_with t (list_weights l)) (firsts m)) (sym (list-textures_same (first_eye (length l)) 0 l))
    ∙ paired_same _ _ _ (λ t. sym (list_points_same t (first_eye (length l)) 0 l))
