-- The table in which textures are counted: one record more, records one after the other, and its words. Assumes nothing.
use Rattle.std.proofs.Common.{◌≡◌, ℕ, zero, suc, ◌+◌, ◌*◌, ◌<◌, ◌≤◌, Bool, true, false, List, [], ◌∷◌, ◌++◌, length, get_or, take, set, sym, refl, ap, ◌∙◌, append_assoc, append-nil, add-one, arith, length-append, length-set, length-take-le, get_or-set_other, get_or-take, take-suc, get_or-set_same, take-suc-set, eq-eqb, ne_eqb}
use native.Mathlib.Decide.{ℕ_discrete}
use lib.Seq.{sets, length-sets}
use Rattle.bits.specs.Refusals.{among}
use Rattle.bits.specs.Verdict.{accepted, needs}
use Rattle.bits.proofs.VerdictLaws.{clash}
use Rattle.payload.specs.Lent.{in_items}
use Rattle.payload.specs.Mesh.{Mesh}
use Rattle.payload.specs.Records.{point_sum}
use Rattle.payload.specs.Firsts.{note, noted, firsts, Below}
use Rattle.payload.specs.Textures.{textures, points_with, paired, texture_words, list_textures}
use Rattle.payload.specs.InternalTextures.{weight, list_weights, Proper, Tally, Addable, Added, PairRoom}
use Rattle.payload.specs.declared.mesh.records.Record.{Record}
use Rattle.payload.specs.declared.mesh.textures.Table.{Table}
use Rattle.payload.proofs.FillLaws.{sets-append}
use Rattle.payload.proofs.LentLaws.{Keeps, told_needs, told_filled}
use Rattle.payload.proofs.FirstsLaws.{noted-append, note_old, note-new, among-firsts, below_at}
use Rattle.payload.proofs.TextureLaws.{textures-append, points_append, sum-append, points_most, points_none, points_some}
use Rattle.payload.proofs.TextureLaws.{paired-append, paired-length, proper_append, below-firsts, firsts_few, words_same}

-- ---- one record more

firsts-snoc : (l : List Record) (r : Record)
    → firsts (textures (l ++ (r ∷ []))) ≡ note (firsts (textures l)) r.texture
unfolding noted
firsts-snoc l r = ap firsts (textures-append l (r ∷ [])) ∙ noted-append [] (textures l) (r.texture ∷ [])

points_hit : (l : List Record) (r : Record) (t : ℕ) → r.texture ≡ t
    → points_with t (l ++ (r ∷ [])) ≡ points_with t l + r.points
unfolding points_with
points_hit l r t e = points_append t l (r ∷ []) ∙ rw (eq-eqb t r.texture (sym e)) (omega arith)

points_miss : (l : List Record) (r : Record) (t : ℕ) → (r.texture ≡ t → ⊥)
    → points_with t (l ++ (r ∷ [])) ≡ points_with t l
unfolding points_with
points_miss l r t e = points_append t l (r ∷ []) ∙ rw (ne_eqb t r.texture (λ z. e (sym z))) (omega arith)

module _ (texture points : ℕ) (byte : texture < 256) (some : 1 ≤ points) {l : List Record}
    {table : Table} (T : Tally l table) where
  abbrev more : List Record
  more = weight texture points ∷ []

  proper' : Proper (l ++ more)
  proper' = proper_append l more T.proper (byte, some, tt)

  pub sum_fits : point_sum l + point_sum more < 4294967296 → get_or table.sums texture 0 + points < 4294967296
  sum_fits h = omega (arith, h, T.totals texture byte, points_most texture l)

  seen_not : get_or table.sums texture 0 ≡ 0 → among texture (firsts (textures l)) ≡ false
  seen_not e = among-firsts _ _ ∙ points_none texture l T.proper (sym (T.totals texture byte) ∙ e)

  seen_yes : (get_or table.sums texture 0 ≡ 0 → ⊥) → among texture (firsts (textures l)) ≡ true
  seen_yes f = among-firsts _ _ ∙ points_some texture l (λ e. f (T.totals texture byte ∙ e))

  noted_new : get_or table.sums texture 0 ≡ 0 → firsts (textures (l ++ more)) ≡ firsts (textures l) ++ (texture ∷ [])
  noted_new e = firsts-snoc l (weight texture points) ∙ note-new _ _ (seen_not e)

  pub new_room : get_or table.sums texture 0 ≡ 0 → table.count < 256
  new_room e =
      omega (
        arith,
        firsts_few (l ++ more) proper',
        ap length (noted_new e),
        length-append (firsts (textures l)) (texture ∷ []),
        T.count,
      )

  totals' : (v : ℕ) → v ≡ get_or table.sums texture 0 + points → (t : ℕ) → t < 256
      → get_or (set table.sums texture v) t 0 ≡ points_with t (l ++ more)
  totals' v e t h = go (ℕ_discrete t texture)
    where
      go : Dec (t ≡ texture) → get_or (set table.sums texture v) t 0 ≡ points_with t (l ++ more)
      go (yes y) =
          ap (λ (k : ℕ). get_or (set table.sums texture v) k 0) y
          ∙ get_or-set_same table.sums texture v 0 (omega (arith, T.sums_long, byte)) ∙ e
          ∙ omega (arith, points_hit l (weight texture points) t (sym y), T.totals texture byte, ap (λ (k : ℕ). points_with k l) y)
      go (no f) =
          get_or-set_other table.sums texture t v 0 f ∙ T.totals t h
          ∙ sym (points_miss l (weight texture points) t (λ e. f (sym e)))

  pub added_old : (get_or table.sums texture 0 ≡ 0 → ⊥)
      → Tally (l ++ more) (record {
        sums = set table.sums texture (get_or table.sums texture 0 + points);
        order = table.order;
        count = table.count;
      })
  added_old f =
      let i : firsts (textures (l ++ more)) ≡ firsts (textures l) =
      firsts-snoc l (weight texture points) ∙ note_old _ _ (seen_yes f) in
      record {
        proper = proper';
        sums_long = length-set table.sums texture _ ∙ T.sums_long;
        order_long = T.order_long;
        totals = totals' _ refl;
        listed = T.listed ∙ sym i;
        count = T.count ∙ ap length (sym i);
      }

  pub added_new : get_or table.sums texture 0 ≡ 0
      → Tally (l ++ more) (record {
        sums = set table.sums texture (get_or table.sums texture 0 + points);
        order = set table.order table.count texture;
        count = table.count + 1;
      })
  added_new e =
      let i = noted_new e in
      let h : table.count < length table.order = omega (arith, new_room e, T.order_long) in
      record {
        proper = proper';
        sums_long = length-set table.sums texture _ ∙ T.sums_long;
        order_long = length-set table.order table.count texture ∙ T.order_long;
        totals = totals' _ refl;
        listed =
            ap (λ (k : ℕ). take k (set table.order table.count texture)) (add-one table.count)
            ∙ take-suc-set table.order table.count texture h
            ∙ ap (λ (m : List ℕ). m ++ (texture ∷ [])) T.listed ∙ sym i;
        count = omega (arith, ap length i, length-append (firsts (textures l)) (texture ∷ []), T.count);
      }

-- ---- the empty table

abbrev pub all_zero : List ℕ → Bool
all_zero [] = true
all_zero (zero ∷ l) = all_zero l
all_zero (suc n ∷ l) = false

pub zero_at : (l : List ℕ) → all_zero l ≡ true → (i : ℕ) → get_or l i 0 ≡ 0
zero_at [] e i = refl
zero_at (zero ∷ l) e zero = refl
zero_at (zero ∷ l) e (suc i) = zero_at l e i
zero_at (suc n ∷ l) e i = clash (cc)

pub tally_none : (table : Table) → length table.sums ≡ 256 → length table.order ≡ 256 → all_zero table.sums ≡ true
    → table.count ≡ 0 → Tally [] table
unfolding noted points_with
tally_none table a b z e =
    record {
      proper = tt;
      sums_long = a;
      order_long = b;
      totals = λ t h. zero_at table.sums z t;
      listed = ap (λ (k : ℕ). take k table.order) e;
      count = e;
    }

-- ---- records added one after the other

-- of all records, those that are not left were added
pub record Adding (all left : List Record) (table₀ table : Table) : Type 0 where
  pub done : List Record
  pub split : all ≡ done ++ left
  pub added : Added done table₀ table

pub adding_none : (all : List Record) (table : Table) → Adding all all table table
adding_none all table =
    record { done = []; split = refl; added = λ before T h. rw (append-nil before) T }

module _ {all left : List Record} {table₀ table : Table} (D : Adding all left table₀ table) where
  pub adding_all : left ≡ [] → Added all table₀ table
  adding_all e =
      let i : all ≡ D.done = D.split ∙ ap (λ (l : List Record). D.done ++ l) e ∙ append-nil D.done in
      rw i D.added

  module _ (more rest : List Record) (e : left ≡ more ++ rest) where
    parts : point_sum all ≡ point_sum D.done + (point_sum more + point_sum rest)
    parts =
        ap point_sum D.split ∙ sum-append D.done left
        ∙ ap (λ (k : ℕ). point_sum D.done + k) (ap point_sum e ∙ sum-append more rest)

    pub adding_room : Addable all table₀ → Addable more table
    adding_room A =
        record {
          before = A.before ++ D.done;
          tally = D.added A.before A.tally (omega (arith, A.fits, parts));
          fits = omega (arith, A.fits, parts, sum-append A.before D.done);
        }

    pub adding_on : {table' : Table} → Added more table table' → Adding all rest table₀ table'
    adding_on added =
        record {
          done = D.done ++ more;
          split = D.split ∙ ap (λ (l : List Record). D.done ++ l) e ∙ sym (append_assoc D.done more rest);
          added = λ before T h.
              let a = D.added before T (omega (arith, h, sum-append D.done more)) in
              rw (sym (append_assoc before D.done more))
              (added (before ++ D.done) a (omega (arith, h, sum-append D.done more, sum-append before D.done)));
        }

-- ---- storing

pub record Stored (table : Table) (out₀ out : List ℕ) (i : ℕ) : Type 0 where
  pub most : i ≤ table.count
  pub same : out ≡ sets out₀ 0 (paired (λ t. get_or table.sums t 0) (take i table.order))

pub stored-none : {table : Table} {out : List ℕ} → Stored table out out 0
unfolding paired
stored-none = record { most = omega arith; same = refl }

module _ {table : Table} {out₀ out : List ℕ} {i : ℕ} (S : Stored table out₀ out i) where
  pub stored_length : length out ≡ length out₀
  stored_length = ap length S.same ∙ simp length-sets

  pub stored_on : i < table.count → i < length table.order
      → Stored table out₀
      (set (set out (2 * i) (get_or table.order i 0)) (2 * i + 1) (get_or table.sums (get_or table.order i 0) 0))
      (i + 1)
  unfolding paired
  stored_on h o =
      let f : ℕ → ℕ = λ t. get_or table.sums t 0 in
      let t = get_or table.order i 0 in
      let p = paired f (take i table.order) in
      let k : 0 + length p ≡ 2 * i =
      omega (arith, paired-length f (take i table.order), length-take-le i table.order (omega arith)) in
      let e : take (i + 1) table.order ≡ take i table.order ++ (t ∷ []) =
      ap (λ (m : ℕ). take m table.order) (add-one i) ∙ take-suc table.order i 0 o in
      let q : sets out₀ 0 (paired f (take (i + 1) table.order)) ≡ sets (sets out₀ 0 p) (2 * i) (t ∷ f t ∷ []) =
      ap (λ (l : List ℕ). sets out₀ 0 (paired f l)) e
      ∙ ap (λ (l : List ℕ). sets out₀ 0 l) (paired-append f (take i table.order) (t ∷ []))
      ∙ sets-append p (t ∷ f t ∷ []) out₀ 0
      ∙ ap (λ (m : ℕ). sets (sets out₀ 0 p) m (t ∷ f t ∷ [])) k in
      let w : set (set out (2 * i) t) (2 * i + 1) (f t) ≡ sets (sets out₀ 0 p) (2 * i) (t ∷ f t ∷ []) =
      ap (λ (m : ℕ). set (set out (2 * i) t) m (f t)) (add-one (2 * i))
      ∙ ap (λ (l : List ℕ). sets l (2 * i) (t ∷ f t ∷ [])) S.same in
      record { most = omega arith; same = w ∙ sym q }

  pub stored_all : table.count ≤ i
      → out ≡ sets out₀ 0 (paired (λ t. get_or table.sums t 0) (take table.count table.order))
  stored_all h =
      let e : i ≡ table.count = omega (arith, S.most) in
      S.same ∙ ap (λ (k : ℕ). sets out₀ 0 (paired (λ t. get_or table.sums t 0) (take k table.order))) e

-- ---- the whole table

paired-below : (f g : ℕ → ℕ) (l : List ℕ) → Below 256 l → ((t : ℕ) → t < 256 → f t ≡ g t) → paired f l ≡ paired g l
unfolding paired
paired-below f g [] b h = refl
paired-below f g (t ∷ l) b h = rw (h t b.0, paired-below f g l b.1 h)

module _ {l : List Record} {table : Table} (T : Tally l table) where
  pub tally_few : table.count ≤ 256
  tally_few = omega (arith, T.count, firsts_few l T.proper)

  pub pair_room : (room : ℕ) → 2 * table.count ≤ room → PairRoom table room
  pair_room room h =
      record {
        long = T.order_long;
        few = tally_few;
        fits = h;
        bytes = λ i o.
            let b = below_at 256 (firsts (textures l)) (below-firsts l T.proper) i (omega (arith, T.count)) in
            rw (sym (get_or-take table.count table.order i 0 o) ∙ ap (λ (m : List ℕ). get_or m i 0) T.listed) b;
      }

  pub tally_words : paired (λ t. get_or table.sums t 0) (take table.count table.order) ≡ texture_words l
  unfolding texture_words
  tally_words =
      ap (paired (λ t. get_or table.sums t 0)) T.listed
      ∙ paired-below (λ t. get_or table.sums t 0) (λ t. points_with t l) _ (below-firsts l T.proper) T.totals

  pub tally_length : length (texture_words l) ≡ 2 * table.count
  tally_length =
      ap length (sym tally_words) ∙ paired-length (λ t. get_or table.sums t 0) (take table.count table.order)
      ∙ ap (λ (k : ℕ). 2 * k) (ap length T.listed ∙ sym T.count)

-- ---- what is said and left

module _ (l : List Mesh) {table : Table} (T : Tally (list_weights l) table) (out : List ℕ) where
  long : length (list_textures l) ≡ 2 * table.count
  long = ap length (sym (words_same l)) ∙ tally_length T

  pub list_short : length out < 2 * table.count
      → Keeps (in_items 2 (accepted (list_textures l))) (out ∷ []) (needs (2 * table.count ∷ [])) (out ∷ [])
  list_short h = told_needs 2 (accepted (list_textures l)) out _ (2 * table.count) refl (sym long) h

  pub list_filled : 2 * table.count ≤ length out → (r : List ℕ)
      → r ≡ sets out 0 (paired (λ t. get_or table.sums t 0) (take table.count table.order))
      → Keeps (in_items 2 (accepted (list_textures l))) (out ∷ []) (accepted table.count) (r ∷ [])
  list_filled h r e =
      told_filled 2 (accepted (list_textures l)) out _ r table.count refl (omega (arith, long)) (omega (arith, long))
      (e ∙ ap (sets out 0) (tally_words T ∙ words_same l))
