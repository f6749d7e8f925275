-- What the library's two calls say of a payload that is listed, and leave in the program's buffers: the records of
-- 16,384 bytes always fit into 13,650 words, and the textures into 512. Assumes nothing.
use Prim.Native.Nat.{ℕ, ◌*◌, ◌/◌, ◌≤◌, ◌<◌}
use mathlib.Core.Path.{◌≡◌, refl, sym, ◌∙◌, ap}
use mathlib.Core.Bool.{true}
use mathlib.Core.List.{List, [], ◌∷◌}
use Rattle.std.proofs.Common.{Result, Ok, Err, IsErrAnd}
use native.Mathlib.Omega.{arith}
use lib.ListN.{length}
use lib.Dec.{leb}
use borrow.Author.Tests.{le-leb, lt-leb}
use Rattle.bits.specs.Verdict.{Verdict, accepted, needs, declined, mapped, limited}
use Rattle.bits.specs.declared.refusals.FillError.{FillError}
use Rattle.bits.specs.declared.refusals.FillError.TheVariants as F
use Rattle.bits.proofs.VerdictLaws.{clash, limited_yes}
use Rattle.payload.specs.Lent.{◌onto◌, in_items, answer_for, buffers_after}
use Rattle.payload.specs.Mesh.{Mesh}
use Rattle.payload.specs.MeshRead.{read_meshes}
use Rattle.payload.specs.MeshDrawing.{drawn_records, submesh_total}
use Rattle.payload.specs.Meshes.{list_counts, recorded_meshes, records_plan, records_says}
use Rattle.payload.specs.Textures.{list_textures, textures_found}
use Rattle.payload.specs.TextureLaws.{TexturesOf}
use Rattle.payload.specs.Fill.{filled_says}
use Rattle.payload.specs.declared.mesh.records.ListCounts.{ListCounts}
use Rattle.payload.proofs.LentLaws.{fit_answer, fit_after, refused}
use Rattle.payload.proofs.Theorems.{list_fits, records-length, never_needs, textures-read}
use Rattle.meshlist.specs.Listing.{listed, line_counts, listing, listed_meshes, listing_plan, listing_says}
use Rattle.meshlist.specs.declared.listing.Listing.{Listing}

-- more bytes than are listed
pub too_long : (s : List ℕ) → 16384 < length s → listed s ≡ declined 2
unfolding listed
too_long s h = simp (lt-leb (length s) 16384 h)

module _ (s : List ℕ) (h : length s ≤ 16384) where
  pub listed_is : limited s (read_meshes s) ≡ listed s
  unfolding listed
  listed_is = limited_yes s (read_meshes s) (omega arith) ∙ simp (le-leb (length s) 16384 h)

  -- ---- a list that is read

  module _ (l : List Mesh) (e : listed s ≡ accepted l) where
    read : read_meshes s ≡ accepted l
    read = sym (limited_yes s (read_meshes s) (omega arith)) ∙ listed_is ∙ e

    pub textures_of : TexturesOf l
    textures_of = textures-read s l (listed_is ∙ e)

    -- a submesh takes 48 bits or more
    pub few_records : 5 * submesh_total l ≤ 13650
    few_records = omega (arith, (list_fits s l read).1)

    records_fit : (out : List ℕ) → 13650 ≤ length out → leb (length (drawn_records l)) (length out) ≡ true
    records_fit out k = le-leb (length (drawn_records l)) (length out) (omega (arith, records-length l, few_records))

    textures_fit : (out : List ℕ) → 512 ≤ length out → leb (length (list_textures l)) (length out) ≡ true
    textures_fit out k = le-leb (length (list_textures l)) (length out) (omega (arith, textures_of.enough))

    module _ (records : List ℕ) (k : 13650 ≤ length records) where
      pub records_left : buffers_after (records_plan s) (records ∷ []) ≡ (drawn_records l onto records) ∷ []
      records_left =
          fit_after (records_plan s) (records ∷ []) (recorded_meshes l) (ap (mapped recorded_meshes) (listed_is ∙ e))
          (rw (records_fit records k) refl)

    module _ (textures : List ℕ) (k : 512 ≤ length textures) where
      found : in_items 2 (textures_found s) ≡ in_items 2 (accepted (list_textures l))
      unfolding textures_found
      found = ap (λ (v : Verdict (List Mesh)). in_items 2 (mapped list_textures v)) (listed_is ∙ e)

      pub textures_told : answer_for (in_items 2 (textures_found s)) (textures ∷ [])
          ≡ accepted (length (list_textures l) / 2)
      textures_told =
          fit_answer (in_items 2 (textures_found s)) (textures ∷ []) _ found (rw (textures_fit textures k) refl)

      pub textures_left : buffers_after (in_items 2 (textures_found s)) (textures ∷ [])
          ≡ (list_textures l onto textures) ∷ []
      textures_left =
          fit_after (in_items 2 (textures_found s)) (textures ∷ []) _ found (rw (textures_fit textures k) refl)

      pub both_left : (records : List ℕ) → 13650 ≤ length records
          → buffers_after (listing_plan s) (records ∷ textures ∷ [])
          ≡ (drawn_records l onto records) ∷ (list_textures l onto textures) ∷ []
      both_left records r =
          fit_after (listing_plan s) (records ∷ textures ∷ []) (listed_meshes l) (ap (mapped listed_meshes) e)
          (rw (records_fit records r, textures_fit textures k) refl)

  -- ---- what the records call says

  module _ (records : List ℕ) (k : 13650 ≤ length records) where
    pub records_told : answer_for (records_plan s) (records ∷ []) ≡ mapped list_counts (listed s)
    unfolding answer_for
    records_told =
        ap (λ (v : Verdict (List Mesh)). answer_for (mapped recorded_meshes v) (records ∷ [])) listed_is
        ∙ go (listed s) refl
      where
        go : (v : Verdict (List Mesh)) → listed s ≡ v
            → answer_for (mapped recorded_meshes v) (records ∷ []) ≡ mapped list_counts v
        go (accepted l) e = simp (records_fit l e records k)
        go (needs l) e = refl
        go (declined d) e = refl

    -- it is refused with the payload's number, and leaves its buffer
    pub records_refused : (d : ℕ) → listed s ≡ declined d → buffers_after (records_plan s) (records ∷ []) ≡ records ∷ []
    records_refused d e =
        sym (refused (records_plan s) (records ∷ []) d (ap (mapped recorded_meshes) (listed_is ∙ e))).1

  -- it never asks for more words
  pub never_more : (l : List ℕ) → mapped list_counts (listed s) ≡ needs l → ⊥
  never_more l e = never_needs s l (sym (limited_yes s (read_meshes s) (omega arith)) ∙ listed_is ∙ go (listed s) e)
    where
      go : (v : Verdict (List Mesh)) → mapped list_counts v ≡ needs l → v ≡ needs l
      go (accepted x) i = clash (cc)
      go (needs x) i = let j : x ≡ l = cc in ap needs j
      go (declined d) i = clash (cc)

-- ---- what its answer tells of the list

pub record Counted (v : Verdict (List Mesh)) (n : ListCounts) : Type 0 where
  pub meshes : List Mesh
  pub read : v ≡ accepted meshes
  pub counts : (n.meshes, n.submeshes, n.points) ≡ list_counts meshes

pub counted : (v : Verdict (List Mesh)) (n : ListCounts) → records_says (Ok n) ≡ mapped list_counts v → Counted v n
counted (accepted l) n e = record { meshes = l; read = refl; counts = cc }
counted (needs l) n e = clash (cc)
counted (declined d) n e = clash (cc)

pub declined_so : (v : Verdict (List Mesh)) (d : ℕ) → declined d ≡ mapped list_counts v → v ≡ declined d
declined_so (accepted l) d e = clash (cc)
declined_so (needs l) d e = clash (cc)
declined_so (declined k) d e = let i : k ≡ d = cc in ap declined i

-- the four counts, of which three are the records call's
pub all_counts : (l : List Mesh) (m k p n : ℕ) → (m, k, p) ≡ list_counts l → n ≡ length (list_textures l) / 2
    → (m, k, p, n) ≡ line_counts l
all_counts l m k p n e i = ap (λ (c : ℕ × ℕ × ℕ). (c.0, c.1, c.2, n)) e ∙ rw i refl

-- two buffers, each as its call left it
pub joined : {a b c d : List ℕ} → a ∷ [] ≡ c ∷ [] → b ∷ [] ≡ d ∷ [] → a ∷ b ∷ [] ≡ c ∷ d ∷ []
joined {a} {b} {c} {d} e f =
    let i : a ≡ c = cc in
    let j : b ≡ d = cc in
    rw (i, j)

-- a refusal that is handed on
handed_on : (r : Result Listing (FillError ℕ)) (e : FillError ℕ) → IsErrAnd r (λ x. x ≡ e)
    → listing_says r ≡ listing_says (Err e)
handed_on (Ok x) e p = absurd p
handed_on (Err x) e p = ap (λ (y : FillError ℕ). listing_says (Err y)) p

-- no refusal
pub accepted_so : (e : FillError ℕ) (n : ℕ) → filled_says (Err e) ≡ accepted n → ⊥
accepted_so (F.Refused r) n i = clash (cc)
accepted_so (F.Needs k) n i = clash (cc)

module _ (s : List ℕ) (h : length s ≤ 16384) (records : List ℕ) (k : 13650 ≤ length records) where
  pub told : (n : ListCounts) → records_says (Ok n) ≡ answer_for (records_plan s) (records ∷ [])
      → Counted (listed s) n
  told n e = counted (listed s) n (e ∙ records_told s h records k)

  module _ (e : FillError ℕ) (said : records_says (Err e) ≡ answer_for (records_plan s) (records ∷ [])) where
    pub refused_so : (r : Result Listing (FillError ℕ)) → IsErrAnd r (λ x. x ≡ e) → listing_says r ≡ listing s
    refused_so r p = handed_on r e p ∙ go e (said ∙ records_told s h records k)
      where
        go : (e : FillError ℕ) → records_says (Err e) ≡ mapped list_counts (listed s)
            → listing_says (Err e) ≡ listing s
        go (F.Refused d) i = sym (ap (mapped line_counts) (declined_so (listed s) _ i))
        go (F.Needs n) i = absurd (never_more s h _ (sym i))

    pub refused_left : (left textures : List ℕ) → left ∷ [] ≡ buffers_after (records_plan s) (records ∷ [])
        → left ∷ textures ∷ [] ≡ buffers_after (listing_plan s) (records ∷ textures ∷ [])
    refused_left left textures f = go e (said ∙ records_told s h records k)
      where
        go : (e : FillError ℕ) → records_says (Err e) ≡ mapped list_counts (listed s)
            → left ∷ textures ∷ [] ≡ buffers_after (listing_plan s) (records ∷ textures ∷ [])
        go (F.Refused d) i =
            let declines = declined_so (listed s) _ i in
            joined (f ∙ records_refused s h records k _ declines) refl
            ∙ (refused (listing_plan s) (records ∷ textures ∷ []) _ (ap (mapped listed_meshes) declines)).1
        go (F.Needs n) i = absurd (never_more s h _ (sym i))
