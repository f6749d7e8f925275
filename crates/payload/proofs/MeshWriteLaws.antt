-- The fields that are written stand where the layout has them, and the other way round.
use Rattle.std.proofs.Common.{min, ◌≡◌, ℕ, zero, suc, ◌+◌, ◌-◌, ◌*◌, ◌/◌, ◌%◌, ◌^◌, ◌<◌, ◌≤◌, List, [], ◌∷◌, ◌++◌, length, get_or, sym, refl, ap, ◌∙◌, subst, ap₂, suc-le-suc, le_of_suc-le-suc, arith, le-leb}
use borrow.Author.Tests.{lt-leb}
use native.Mathlib.Decide.{dec_le}
use Rattle.bits.specs.Field.{field}
use Rattle.bits.specs.Number.{Moves, down, up, width_of}
use Rattle.payload.specs.Mesh.{Mesh, Submesh}
use Rattle.payload.specs.MeshSpells.{SubmeshSpells, SubmeshesSpell, sizes, submesh_bits, submeshes_end, mesh_vertices}
use Rattle.payload.specs.MeshWrite.{box_size, gap, mesh_fields, run_fields, step_field, submesh_fields, submeshes_fields, vertex_fields, word_fields}
use Rattle.payload.specs.Packed.{Fits, Laid, bits}
use Rattle.bits.specs.Run.{zeros, RunSpells, shift}
use Rattle.payload.proofs.PackedLaws.{bits-append, fits_append, laid_append, laid_left, laid_right}
use Rattle.bits.proofs.RunLaws.{shift_some, spells_cons, spells_head, spells_none, spells_tail}

-- ---- which meshes are written, as the layout has it

abbrev pub Under : ℕ → List ℕ → Type 0
Under limit [] = Unit {0}
Under limit (x ∷ xs) = (x < limit) × Under limit xs

pub record SubmeshWithin (m : ℕ) (x : Submesh) : Type 0 where
  pub texture : x.texture < 256
  pub mode : x.mode < 256
  pub some : 1 ≤ length x.points
  pub most : length x.points ≤ 128000
  pub points : Under m x.points

abbrev pub Each : {A : Type 0} → (A → Type 0) → List A → Type 0
Each P [] = Unit {0}
Each P (x ∷ l) = P x × Each P l

-- a mesh within 7 and 8, whose words are of 32 bits and whose box is within the limit
pub record Within (x : Mesh) : Type 0 where
  pub pool_some : 1 ≤ length x.pool
  pub pool_most : length x.pool ≤ 10000
  pub words : Under (2 ^ 32) x.pool
  pub fives : length x.vertices ≡ 5 * mesh_vertices x
  pub vertex_some : 1 ≤ mesh_vertices x
  pub vertex_most : mesh_vertices x ≤ 32000
  pub vertices : Under (length x.pool) x.vertices
  pub submesh_some : 1 ≤ length x.submeshes
  pub submeshes : Each (SubmeshWithin (mesh_vertices x)) x.submeshes
  pub size : box_size x ≤ 67108864

-- ---- the field of a step

pub step-up : (last next : ℕ) → last ≤ next → step_field last next ≡ 2 * (next - last)
unfolding step_field
step-up last next h = simp (le-leb last next h)

pub step_down : (last next : ℕ) → next < last → step_field last next ≡ 2 * (last - next) - 1
unfolding step_field
step_down last next h = simp (lt-leb last next h)

pub moves_step : {f last next : ℕ} → Moves f last next → f ≡ step_field last next
moves_step {f} {last} {next} (up e h) = omega (arith, step-up last next (omega arith))
moves_step {f} {last} {next} (down e h) = omega (arith, step_down last next (omega arith))

pub step_moves : (last next : ℕ) → Moves (step_field last next) last next
step_moves last next = go (dec_le last next)
  where
    go : Dec (last ≤ next) → Moves (step_field last next) last next
    go (yes h) = up (omega (arith, step-up last next h)) (omega (arith, step-up last next h))
    go (no h) = let d : step_field last next ≡ 2 * (last - next) - 1 = step_down last next (omega arith) in down (omega arith) (omega arith)

-- it fits every width w with 2 ^ w at least twice the limit of both numbers
pub step_fits : (n last next : ℕ) → last < n → next < n → step_field last next < 2 * n
step_fits n last next hl hn = go (dec_le last next)
  where
    go : Dec (last ≤ next) → step_field last next < 2 * n
    go (yes h) = omega (arith, step-up last next h)
    go (no h) = omega (arith, step_down last next (omega arith))

-- twice the step, modulo 2^32, or its complement
pub step_least : (last next twice : ℕ) → last < 65536 → next < 65536 → twice ≤ 4294967295
    → (twice + 2 * last) % 4294967296 ≡ 2 * next → min twice (4294967295 - twice) ≡ step_field last next
step_least last next twice a b c e = go (dec_le last next)
  where
    go : Dec (last ≤ next) → min twice (4294967295 - twice) ≡ step_field last next
    go (yes h) = omega (arith, step-up last next h)
    go (no h) =
        let d : next < last = omega arith in
        let q : (twice + 2 * last) / 4294967296 ≡ 1 = omega arith in
        let m : twice + 2 * last ≡ 4294967296 + 2 * next = omega arith in
        omega (arith, step_down last next d)

module _ (last next twice : ℕ) (a : last < 65536) (b : next < 65536) (c : twice ≤ 4294967295)
    (e : (twice + 2 * last) % 4294967296 ≡ 2 * next) where
  pub step_complement : 4294967295 - twice < twice → 4294967295 - twice ≡ step_field last next
  step_complement h = omega (arith, step_least last next twice a b c e)

  pub step_twice : twice ≤ 4294967295 - twice → twice ≡ step_field last next
  step_twice h = omega (arith, step_least last next twice a b c e)

-- ---- words

pub words-bits : (l : List ℕ) → bits (word_fields l) ≡ 32 * length l
unfolding word_fields bits
words-bits [] = refl
words-bits (x ∷ l) = omega (arith, words-bits l)

pub words_fit : (l : List ℕ) → Under (2 ^ 32) l → Fits (word_fields l)
unfolding word_fields
words_fit [] b = tt
words_fit (x ∷ l) b = (b.0, words_fit l b.1)

module _ (s : List ℕ) where
  pub words_in : (p : ℕ) (l : List ℕ) → Laid s p (word_fields l) → (i : ℕ) → i < length l → field s (p + i * 32) 32 ≡ get_or l i 0
  unfolding word_fields
  words_in p [] f i h = absurd (omega arith)
  words_in p (x ∷ l) f zero h = ap (λ (k : ℕ). field s k 32) (omega arith) ∙ f.0
  words_in p (x ∷ l) f (suc i) h = ap (λ (k : ℕ). field s k 32) (omega arith) ∙ words_in (p + 32) l f.1 i (le_of_suc-le-suc h)

  pub words_out : (p : ℕ) (l : List ℕ) → ((i : ℕ) → i < length l → field s (p + i * 32) 32 ≡ get_or l i 0) → Laid s p (word_fields l)
  unfolding word_fields
  words_out p [] h = tt
  words_out p (x ∷ l) h =
      (ap (λ (k : ℕ). field s k 32) (omega arith) ∙ h 0 (omega arith), words_out (p + 32) l (λ i b. ap (λ (k : ℕ). field s k 32) (omega arith) ∙ h (suc i) (suc-le-suc b)))

-- ---- runs

pub run_bits : (w : ℕ) (prior ns : List ℕ) → bits (run_fields w prior ns) ≡ length ns * w
unfolding run_fields bits
run_bits w prior [] = omega arith
run_bits w prior (x ∷ l) = omega (arith, run_bits w (shift prior x) l)

below-shift : (limit : ℕ) (prior : List ℕ) (x : ℕ) → Under limit prior → x < limit → Under limit (shift prior x)
below-shift limit [] x a h = (h, tt)
below-shift limit (y ∷ ys) x a h = more ys a.1
  where
    more : (ys : List ℕ) → Under limit ys → Under limit (ys ++ (x ∷ []))
    more [] a = (h, tt)
    more (y ∷ ys) a = (a.0, more ys a.1)

below-front : (limit : ℕ) (prior : List ℕ) → 0 < length prior → Under limit prior → get_or prior 0 0 < limit
below-front limit [] o a = absurd (omega arith)
below-front limit (y ∷ ys) o a = a.0

pub run_fit : (w limit : ℕ) (prior ns : List ℕ) → 2 * limit ≤ 2 ^ w → 0 < length prior → Under limit prior → Under limit ns → Fits (run_fields w prior ns)
unfolding run_fields
run_fit w limit prior [] h o a b = tt
run_fit w limit prior (x ∷ l) h o a b = (
  omega (arith, step_fits limit (get_or prior 0 0) x (below-front limit prior o a) b.0),
  run_fit w limit (shift prior x) l h (shift_some prior x) (below-shift limit prior x a b.0) b.1,
)

module _ (s : List ℕ) (w limit : ℕ) where
  pub run_in : (p : ℕ) (prior ns : List ℕ) → 0 < length prior → Under limit ns → p + length ns * w ≤ 8 * length s → Laid s p (run_fields w prior ns) → RunSpells s w limit p prior ns
  unfolding run_fields
  run_in p prior [] o b r f = spells_none s w limit p prior
  run_in p prior (x ∷ l) o b r f =
      spells_cons s w limit p prior o x l (omega arith) b.0 (rw f.0 (step_moves (get_or prior 0 0) x))
      (run_in (p + w) (shift prior x) l (shift_some prior x) b.1 (omega arith) f.1)

  pub run_out : (p : ℕ) (prior ns : List ℕ) → 0 < length prior → RunSpells s w limit p prior ns → Laid s p (run_fields w prior ns)
  unfolding run_fields
  run_out p prior [] o r = tt
  run_out p prior (x ∷ l) o r =
      (moves_step (spells_head s w limit p prior o x l r).2, run_out (p + w) (shift prior x) l (shift_some prior x) (spells_tail s w limit p prior o x l r))

-- ---- submeshes

pub submesh_bits_lem : (w : ℕ) (x : Submesh) → bits (submesh_fields w x) ≡ submesh_bits w x
unfolding submesh_fields bits
submesh_bits_lem w x = omega (arith, run_bits w (0 ∷ []) x.points)

pub submeshes_bits : (w : ℕ) (l : List Submesh) → bits (submeshes_fields w l) ≡ sizes (submesh_bits w) l
unfolding submeshes_fields bits
submeshes_bits w [] = refl
submeshes_bits w (x ∷ l) = bits-append (submesh_fields w x) (submeshes_fields w l) ∙ ap₂ (λ (a b : ℕ). a + b) (submesh_bits_lem w x) (submeshes_bits w l)

module _ (w m : ℕ) (enough : 2 * m ≤ 2 ^ w) (some : 1 ≤ m) where
  pub submesh_fit : (x : Submesh) → SubmeshWithin m x → Fits (submesh_fields w x)
  unfolding submesh_fields
  submesh_fit x h = (h.texture, (h.mode, (omega (arith, h.most), run_fit w m (0 ∷ []) x.points enough (omega arith) (some, tt) h.points)))

  pub submeshes_fit : (l : List Submesh) → Each (SubmeshWithin m) l → Fits (submeshes_fields w l)
  unfolding submeshes_fields
  submeshes_fit [] h = tt
  submeshes_fit (x ∷ l) h = fits_append (submesh_fields w x) (submeshes_fields w l) (submesh_fit x h.0) (submeshes_fit l h.1)

module _ (s : List ℕ) (w m : ℕ) where
  pub submesh_in_law : (p : ℕ) (x : Submesh) → SubmeshWithin m x → p + submesh_bits w x ≤ 8 * length s → Laid s p (submesh_fields w x) → SubmeshSpells s w m p x
  unfolding submesh_fields
  submesh_in_law p x h r f =
      record {
        header = omega arith;
        texture = f.0;
        mode = f.1.0;
        count = ap (λ (k : ℕ). field s k 32) (omega arith) ∙ f.1.1.0;
        some = h.some;
        most = h.most;
        run = run_in s w m (p + 48) (0 ∷ []) x.points (omega arith) h.points (omega arith) (subst (λ (k : ℕ). Laid s k (run_fields w (0 ∷ []) x.points)) (omega arith) f.1.1.1);
      }

  pub submesh_out : (p : ℕ) (x : Submesh) → SubmeshSpells s w m p x → Laid s p (submesh_fields w x)
  unfolding submesh_fields
  submesh_out p x e = (
    e.texture,
    (
      e.mode,
      (
        ap (λ (k : ℕ). field s k 32) (omega arith) ∙ e.count,
        subst (λ (k : ℕ). Laid s k (run_fields w (0 ∷ []) x.points)) (omega arith) (run_out s w m (p + 48) (0 ∷ []) x.points (omega arith) e.run),
      ),
    ),
  )

  pub submeshes_in : (p : ℕ) (l : List Submesh) → Each (SubmeshWithin m) l → p + sizes (submesh_bits w) l ≤ 8 * length s → Laid s p (submeshes_fields w l) → SubmeshesSpell s w m p l
  unfolding submeshes_fields
  submeshes_in p [] h r f = tt
  submeshes_in p (x ∷ l) h r f = (
    submesh_in_law p x h.0 (omega arith) (laid_left s p (submesh_fields w x) (submeshes_fields w l) f),
    submeshes_in (p + submesh_bits w x) l h.1 (omega arith) (subst (λ (k : ℕ). Laid s k (submeshes_fields w l)) (ap (λ (k : ℕ). p + k) (submesh_bits_lem w x)) (laid_right s p (submesh_fields w x) (submeshes_fields w l) f)),
  )

  pub submeshes_out : (p : ℕ) (l : List Submesh) → SubmeshesSpell s w m p l → Laid s p (submeshes_fields w l)
  unfolding submeshes_fields
  submeshes_out p [] e = tt
  submeshes_out p (x ∷ l) e =
      laid_append s p (submesh_fields w x) (submeshes_fields w l) (submesh_out p x e.0)
      (subst (λ (k : ℕ). Laid s k (submeshes_fields w l)) (ap (λ (k : ℕ). p + k) (sym (submesh_bits_lem w x))) (submeshes_out (p + submesh_bits w x) l e.1))

-- ---- a mesh

pub vertex_bits : (x : Mesh) → bits (vertex_fields x) ≡ 32 * length x.pool + 64 + length x.vertices * width_of (length x.pool)
unfolding vertex_fields bits
vertex_bits x =
    omega (arith, bits-append (word_fields x.pool) ((32, mesh_vertices x) ∷ run_fields (width_of (length x.pool)) (zeros 5) x.vertices), words-bits x.pool, run_bits (width_of (length x.pool)) (zeros 5) x.vertices)

pub mesh_bits : (x : Mesh) → bits (mesh_fields x) ≡ submeshes_end x
unfolding mesh_fields bits
mesh_bits x =
    omega (arith, vertex_bits x, bits-append (vertex_fields x) (gap (bits (vertex_fields x)) ∷ (32, length x.submeshes) ∷ submeshes_fields (width_of (mesh_vertices x)) x.submeshes), submeshes_bits (width_of (mesh_vertices x)) x.submeshes)
