-- What the contracts of private functions of the mesh reader cite. No promise of a public call leans on these.
use Rattle.std.specs.Prelude.{◌≡◌, ℕ, zero, suc, ◌+◌, ◌*◌, ◌<◌, ◌≤◌, cond, List, [], ◌∷◌, length, ◌==◌, nat_le}
use Rattle.std.specs.Prelude.{slice_index, Result}
use Rattle.std.specs.Coded.{Unit-prop, le_prop}
use Rattle.bits.specs.Verdict.{Verdict, accepted, needs, declined, mapped}
use Rattle.bits.specs.Field.{field}
use Rattle.bits.specs.Number.{width_of}
use Rattle.payload.specs.Float.{AllFinite}
use Rattle.payload.specs.Mesh.{Submesh, Mesh}
use Rattle.bits.specs.Run.{zeros, Found, read_run, summed}
use Rattle.bits.specs.declared.fields.runs.Run.{Run}
use Rattle.payload.specs.MeshSpells.{mesh_vertices, part, mesh_type, aligned, vertices_at}
use Rattle.payload.specs.MeshRead.{many, read_submesh, after_vertex_count, read_mesh, read_from}
use Rattle.payload.specs.MeshDrawing.{point_count, point_total, drawn_numbers, drawn_floats, records_from}
use Rattle.payload.specs.declared.mesh.head.Head.{Head}
use Rattle.payload.specs.declared.mesh.draw.DrawPlace.{DrawPlace}
use Rattle.payload.specs.declared.mesh.submeshes.Submeshes.{Submeshes}
use Rattle.payload.specs.declared.mesh.records.RecordPlace.{RecordPlace}
use Rattle.bits.specs.Says.{says}
use Rattle.bits.specs.declared.refusals.Refusal.{Refusal}
use Rattle.payload.specs.declared.mesh.measure.SubmeshEnd.{SubmeshEnd}
use Rattle.payload.specs.declared.mesh.measure.SubmeshesSize.{SubmeshesSize}
use Rattle.payload.specs.declared.mesh.measure.BodySize.{BodySize}
use Rattle.payload.specs.declared.mesh.measure.Totals.{Totals}

-- it was accepted
abbrev pub WasRead : {A : Type 0} → Verdict A → Type 0
WasRead (accepted a) = Unit {0}
WasRead (needs l) = ⊥
WasRead (declined k) = ⊥

-- the value that was accepted, or another
abbrev pub value_or : {A : Type 0} → A → Verdict A → A
value_or a (accepted b) = b
value_or a (needs l) = a
value_or a (declined k) = a

-- the numbers of a run, none where it was refused
abbrev pub run_numbers : Found (List ℕ) → List ℕ
run_numbers v = (value_or ([], 0) v).0

-- ---- a body's parts as the code reads them

-- the n words from bit p on, where they are complete
unfoldable pub read_words : List ℕ → ℕ → ℕ → List ℕ
read_words s p zero = []
read_words s p (suc n) = field s p 32 ∷ read_words s (p + 32) n

-- the n words of the pool are there, and finite
pub record PoolThere (s : List ℕ) (n : ℕ) : Type 0 where
  pub there : 32 * n + 32 ≤ 8 * length s
  pub finite : AllFinite (read_words s 32 n)

-- after the vertex count, where the pool is complete
unfoldable pub after_counts : List ℕ → ℕ → ℕ → Found Mesh
after_counts s n m = after_vertex_count s n (read_words s 32 n) m (vertices_at n)

-- the meshes from a byte on, however many: no more come than there are bytes
abbrev pub any_from : List ℕ → ℕ → Verdict (List Mesh)
any_from s p = read_from s (length s) p

-- ---- what is known of a body that was read

-- the run of its vertices
pub record VerticesThere (s : List ℕ) (run : Run) : Type 0 where
  pub short : length s ≤ 67108864
  pub low : 64 ≤ run.bit
  pub some : 1 ≤ run.limit
  pub most : run.limit ≤ 10000
  pub vertices : 1 ≤ run.count
  pub read : WasRead (read_run s (width_of run.limit) run.limit (5 * run.count) run.bit (zeros 5))

abbrev pub numbers_of : List ℕ → Run → List ℕ
numbers_of s run = run_numbers (read_run s (width_of run.limit) run.limit (5 * run.count) run.bit (zeros 5))

-- a run of points
pub record PointsThere (s : List ℕ) (run : Run) : Type 0 where
  pub short : length s ≤ 67108864
  pub low : 64 ≤ run.bit
  pub some : 1 ≤ run.limit
  pub most : run.limit ≤ 32000
  pub points : 1 ≤ run.count
  pub read : WasRead (read_run s (width_of run.limit) run.limit run.count run.bit (zeros 1))

abbrev pub points_of : List ℕ → Run → List ℕ
points_of s run = run_numbers (read_run s (width_of run.limit) run.limit run.count run.bit (zeros 1))

-- the submeshes that were read; none where they were refused
abbrev pub submeshes_read : Found (List Submesh) → List Submesh
submeshes_read v = (value_or ([], 0) v).0

-- some of its submeshes
pub record SubmeshesThere (s : List ℕ) (all : Submeshes) : Type 0 where
  pub short : length s ≤ 67108864
  pub low : 64 ≤ all.bit
  pub some : 1 ≤ all.vertices
  pub most : all.vertices ≤ 32000
  pub read : WasRead (many (read_submesh s (width_of all.vertices) all.vertices) all.left all.bit)

pub was_read-prop : {A : Type 0} (v : Verdict A) → IsProp (WasRead v)
was_read-prop (accepted a) = Unit-prop
was_read-prop (needs l) = λ x y. absurd x
was_read-prop (declined k) = λ x y. absurd x

pub there-prop : (s : List ℕ) (all : Submeshes) → IsProp (SubmeshesThere s all)
there-prop s all x y = λ i. record {
  short = le_prop x.short y.short i;
  low = le_prop x.low y.low i;
  some = le_prop x.some y.some i;
  most = le_prop x.most y.most i;
  read = was_read-prop _ x.read y.read i;
}

abbrev pub submeshes_of : List ℕ → Submeshes → List Submesh
submeshes_of s all =
    submeshes_read (many (read_submesh s (width_of all.vertices) all.vertices) all.left all.bit)

-- ---- what the validating pass keeps of what was read

-- a word of a pool that was fetched at bit p, and the place after it
abbrev pub word_says : ℕ → Result ℕ Refusal → Found ℕ
word_says p r = says (λ w. (w, p + 32)) r

-- that the pool's words are good
abbrev pub pool_says : Result (Unit {0}) Refusal → Verdict (Unit {0})
pool_says r = says (λ u. u) r

abbrev pub nothing : {A : Type 0} → A → Unit {0}
nothing a = tt

-- where submeshes over m vertices begin in a body, and how wide their fields are
pub record SubmeshPlace (s : List ℕ) (w m p : ℕ) : Type 0 where
  pub short : length s ≤ 67108864
  pub wide : w ≡ width_of m
  pub some : 1 ≤ m
  pub most : m ≤ 32000
  pub low : 64 ≤ p
  pub inside : p ≤ 8 * length s

-- a submesh's point count and the place after it
abbrev pub points_end : Submesh × ℕ → ℕ × ℕ
points_end x = (length x.0.points, x.1)

abbrev pub submesh_says : Result SubmeshEnd Refusal → Verdict (ℕ × ℕ)
submesh_says r = says (λ e. (e.points, e.bit)) r

-- how many submeshes, and their points
abbrev pub submeshes_size : List Submesh × ℕ → ℕ × ℕ
submeshes_size x = (length x.0, point_count x.0)

abbrev pub submeshes_says : Result SubmeshesSize Refusal → Verdict (ℕ × ℕ)
submeshes_says r = says (λ n. (n.submeshes, n.points)) r

-- a mesh's vertices, submeshes and points
abbrev pub body_size : Mesh × ℕ → ℕ × ℕ × ℕ
body_size x = (mesh_vertices x.0, length x.0.submeshes, point_count x.0.submeshes)

abbrev pub body_says : Result BodySize Refusal → Verdict (ℕ × ℕ × ℕ)
body_says r = says (λ n. (n.vertices, n.submeshes, n.points)) r

-- the totals with those of some meshes
abbrev pub no_totals : Totals
no_totals = record { meshes = 0; coordinates = 0; submeshes = 0; points = 0 }

abbrev pub with_mesh : Totals → Mesh → Totals
with_mesh t x =
    record {
      meshes = t.meshes + 1;
      coordinates = t.coordinates + 5 * mesh_vertices x;
      submeshes = t.submeshes + length x.submeshes;
      points = t.points + point_count x.submeshes;
    }

abbrev pub totals_of : Totals → List Mesh → Totals
totals_of t [] = t
totals_of t (x ∷ l) = totals_of (with_mesh t x) l

abbrev pub with_body : Totals → Mesh × ℕ → Totals
with_body t x = with_mesh t x.0

abbrev pub totals_says : Result Totals Refusal → Verdict Totals
totals_says r = says (λ t. t) r

-- what is counted takes a bit or more of the bytes before byte p, and a submesh 48
pub record Room (t : Totals) (p : ℕ) : Type 0 where
  pub few : t.meshes ≤ p
  pub bits : t.coordinates + 48 * t.submeshes + t.points ≤ 8 * p

-- the totals with those of a box; 18 where it is a third mesh
abbrev pub box_totals : List ℕ → ℕ → ℕ → ℕ → Totals → Verdict Totals
box_totals s type body end t =
    cond (type == mesh_type)
    (cond (nat_le 2 t.meshes) (declined 18) (mapped (with_body t) (read_mesh (part s body end))))
    (accepted t)

-- the refusal of a box whose long size is refused with k: 18 where it is a third mesh
abbrev pub box_refusal : ℕ → ℕ → Totals → ℕ
box_refusal type k t = cond (type == mesh_type) (cond (nat_le 2 t.meshes) 18 k) k

-- ---- what the filling pass goes by, and what it leaves

-- the pool word of coordinate number c, in a mesh body
abbrev pub pool_word : List ℕ → ℕ → ℕ
pool_word s c = field s (32 + 32 * c) 32

-- the pool word of the coordinate number at place k of `numbers`
abbrev pub word_at : List ℕ → List ℕ → ℕ → ℕ
word_at s numbers k = pool_word s (slice_index numbers k)

-- the n coordinate numbers from place k on are there, and their pool words lie inside the body
pub record Pooled (s numbers : List ℕ) (k n : ℕ) : Type 0 where
  pub there : k + n ≤ length numbers
  pub inside : (i : ℕ) → k ≤ i → i < k + n → 32 * slice_index numbers i + 64 ≤ 8 * length s

-- the word at place k of a buffer
abbrev pub word_in : List ℕ → ℕ → ℕ
word_in words k = slice_index words k

-- the words of n coordinates from k on
unfoldable pub words_from : (ℕ → ℕ) → ℕ → ℕ → List ℕ
words_from word k zero = []
words_from word k (suc n) = word k ∷ words_from word (k + 1) n

-- `words` has the words of the n coordinates from `base` on, from place `expanded` on
pub record Expanded (s numbers : List ℕ) (base n : ℕ) (words : List ℕ) (expanded : ℕ) : Type 0 where
  pub there : expanded + n ≤ length words
  pub same : (i : ℕ) → i < n → word_in words (expanded + i) ≡ word_at s numbers (base + i)

-- some points' vertices are expanded there
abbrev pub PointsExpanded : List ℕ → ℕ → List ℕ → Type 0
PointsExpanded words expanded points =
    (i : ℕ) → i < length points → expanded + 5 * slice_index points i + 5 ≤ length words

-- some points are below m
abbrev pub PointsBelow : ℕ → List ℕ → Type 0
PointsBelow m points = (i : ℕ) → i < length points → slice_index points i < m

-- they are there as long as nothing was stored at their place or after it
abbrev pub ExpandedFrom : ℕ → List ℕ → List ℕ → ℕ → ℕ → List ℕ → ℕ → Type 0
ExpandedFrom at s numbers base n words expanded = at < expanded → Expanded s numbers base n words expanded

-- the next points of a run: they lie inside the body
pub record SomeRun (s : List ℕ) (run : Run) : Type 0 where
  pub short : length s ≤ 67108864
  pub low : 64 ≤ run.bit
  pub some : 1 ≤ run.limit
  pub most : run.limit ≤ 32000
  pub points : 1 ≤ run.count
  pub few : run.count ≤ 64
  pub whole : run.bit + run.count * width_of run.limit ≤ 8 * length s

abbrev pub some_numbers : List ℕ → Run → ℕ → List ℕ
some_numbers s run from = summed s (width_of run.limit) run.count run.bit (from ∷ [])

-- the mesh of a body, the meshes of a box, and those from a byte on that were read; none where they were refused
abbrev pub mesh_read : List ℕ → Mesh
mesh_read s = (value_or (record { pool = []; vertices = []; submeshes = [] }, 0) (read_mesh s)).0

abbrev pub box_meshes : List ℕ → ℕ → ℕ → ℕ → Verdict (List Mesh)
box_meshes s type body end = cond (type == mesh_type) (mapped (λ x. x.0 ∷ []) (read_mesh (part s body end)))
    (accepted [])

abbrev pub box_read : List ℕ → ℕ → ℕ → ℕ → List Mesh
box_read s type body end = value_or [] (box_meshes s type body end)

abbrev pub meshes_from : List ℕ → ℕ → List Mesh
meshes_from s p = value_or [] (any_from s p)

-- where the submesh count stands, after the vertices
abbrev pub submesh_count_at : Run → ℕ
submesh_count_at run = aligned (vertices_at run.limit + 5 * run.count * width_of run.limit)

-- the counts and places of a mesh body
pub record HeadOf (s : List ℕ) (h : Head) : Type 0 where
  pub pool : h.vertices.limit ≡ field s 0 32
  pub start : h.vertices.bit ≡ vertices_at h.vertices.limit
  pub count : h.vertices.count ≡ field s (32 * h.vertices.limit + 32) 32
  pub vertices : h.submeshes.vertices ≡ h.vertices.count
  pub first : h.submeshes.bit ≡ submesh_count_at h.vertices + 32
  pub left : h.submeshes.left ≡ field s (submesh_count_at h.vertices) 32

-- the numbers and words of some meshes fit into buffers of n and f elements
pub record FillRoom (l : List Mesh) (to : DrawPlace) (n f : ℕ) : Type 0 where
  pub numbers : to.numbers + length (drawn_numbers l) ≤ n
  pub floats : to.floats + length (drawn_floats l) ≤ f

abbrev pub after_meshes : DrawPlace → List Mesh → DrawPlace
after_meshes to l =
    record { numbers = to.numbers + length (drawn_numbers l); floats = to.floats + length (drawn_floats l) }

-- the records of some meshes fit into a buffer of n elements, and their numbers into words
pub record RecordRoom (l : List Mesh) (to : RecordPlace) (n : ℕ) : Type 0 where
  pub records : to.at + length (records_from to.eye to.first l) ≤ n
  pub meshes : to.eye + length l < 4294967296
  pub points : to.first + point_total l < 4294967296

abbrev pub after_records : RecordPlace → List Mesh → RecordPlace
after_records to l =
    record {
      eye = to.eye + length l;
      first = to.first + point_total l;
      at = to.at + length (records_from to.eye to.first l);
    }
