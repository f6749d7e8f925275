-- What judging a run learns field by field: one field of the running number whose turn it is, and five at once. Assumes nothing.
use Rattle.std.proofs.Common.{◌≡◌, ℕ, zero, suc, ◌+◌, ◌-◌, ◌*◌, ◌<◌, ◌≤◌, true, false, ◌⊎◌, List, [], ◌∷◌, ◌++◌, length, sym, refl, ap, ◌∙◌, inl, inr, mul-suc, add-one, add-mul, arith, ltb-true, lt-ltb}
use Rattle.bits.specs.Verdict.{Verdict, accepted, needs, declined, limited}
use Rattle.bits.specs.Field.{field}
use Rattle.bits.specs.Number.{stepped_to, width_of}
use Rattle.bits.specs.Run.{Found, in_front, read_run, judged, low16}
use Rattle.bits.specs.Internal.{Inside, five, all_below, five_low}
use Rattle.bits.specs.declared.fields.runs.Five.{Five}
use Rattle.bits.proofs.VerdictLaws.{le-or-lt, clash, both_true, limited_yes, limited_no}
use Rattle.bits.proofs.FieldLaws.{field_below}
use Rattle.bits.proofs.NumberLaws.{stepped_in, stepped_out, width_least}
use Rattle.bits.proofs.RunLaws.{run_short, run_out, run_on, FiveTo}

-- ---- room for fields

-- the next g of n fields of w bits lie inside where all do, and so do those after them
pub group_inside : {s : List ℕ} (g n w p : ℕ) → g ≤ n → Inside s p (n * w) → Inside s p (g * w) × Inside s (p + g * w) ((n - g) * w)
group_inside g n w p l h =
    let z : n ≡ g + (n - g) = omega arith in
    let y : n * w ≡ g * w + (n - g) * w = ap (λ (k : ℕ). k * w) z ∙ add-mul g (n - g) w in (
      record { short = h.short; low = h.low; whole = omega (arith, h.whole) },
      record { short = h.short; low = omega (arith, h.low); whole = omega (arith, h.whole) },
    )

-- where i groups of g fields are behind, the next lies inside, and so do those after it
pub next_group : {s : List ℕ} (g n i w p : ℕ) → g * (i + 1) ≤ n → Inside s p ((n - g * i) * w)
    → Inside s p (g * w) × Inside s (p + g * w) ((n - g * (i + 1)) * w)
next_group g n i w p l h =
    let m : g * (i + 1) ≡ g * i + g = ap (λ (k : ℕ). g * k) (add-one i) ∙ mul-suc g i in
    let y : n - g * i - g ≡ n - g * (i + 1) = omega arith in
    rw y at (group_inside g (n - g * i) w p (omega arith) h)

-- ---- the next field

judged-front : (n : ℕ) (v : Found (List ℕ)) → judged (in_front n v) ≡ judged v
judged-front n (accepted x) = refl
judged-front n (needs l) = refl
judged-front n (declined k) = refl

module _ (s : List ℕ) (w limit : ℕ) where
  -- nothing is left
  pub field_none : (n p : ℕ) (prior : List ℕ) → n ≤ 0 → judged (read_run s w limit n p prior) ≡ accepted tt
  unfolding read_run
  field_none zero p prior h = refl
  field_none (suc n) p prior h = absurd (omega arith)

  -- it is not complete
  pub field_short : (n p : ℕ) (prior : List ℕ) → 0 < n → 8 * length s < p + w → judged (read_run s w limit n p prior) ≡ declined 3
  field_short zero p prior o h = absurd (omega arith)
  field_short (suc n) p prior o h = rw (run_short s w limit n p prior h)

  -- it takes the number x to r
  pub field_out : (n p x : ℕ) (q : List ℕ) (r : ℕ) → 0 < n → p + w ≤ 8 * length s → r ≡ stepped_to x (field s p w) → limit ≤ r
      → judged (read_run s w limit n p (x ∷ q)) ≡ declined 8
  field_out zero p x q r o h k l = absurd (omega arith)
  field_out (suc n) p x q r o h k l =
      rw (run_out s w limit n p (x ∷ q) h (stepped_out x (field s p w) limit (rw k at l)))

  pub field_on : w ≤ 17 → limit ≤ 65536 → (n p x : ℕ) (q : List ℕ) (r : ℕ) → 0 < n → p + w ≤ 8 * length s
      → r ≡ stepped_to x (field s p w) → r < limit
      → judged (read_run s w limit n p (x ∷ q)) ≡ judged (read_run s w limit (n - 1) (p + w) (q ++ (r ∷ [])))
  field_on hw hl zero p x q r o h k l = absurd (omega arith)
  field_on hw hl (suc n) p x q r o h k l =
      let z : suc n - 1 ≡ n = omega arith in
      let e = stepped_in x (field s p w) limit (field_below s p w 32 (omega arith)) (omega arith) (rw k at l) in
      rw (z, k, run_on s w limit n p (x ∷ q) h (stepped_to x (field s p w)) e, judged-front)

-- ---- the next two, of one running number

module _ (s : List ℕ) (w limit n p x a b : ℕ) (hw : w ≤ 17) (hl : limit ≤ 65536) (o : 2 ≤ n)
    (h : p + 2 * w ≤ 8 * length s) (ka : a ≡ stepped_to x (field s p w)) (la : a < limit)
    (kb : b ≡ stepped_to a (field s (p + w) w)) where
  on₁ : judged (read_run s w limit n p (x ∷ [])) ≡ judged (read_run s w limit (n - 1) (p + w) (a ∷ []))
  on₁ = field_on s w limit hw hl n p x [] a (omega arith) (omega arith) ka la

  pub two_out : limit ≤ b → judged (read_run s w limit n p (x ∷ [])) ≡ declined 8
  two_out l = on₁ ∙ field_out s w limit (n - 1) (p + w) a [] b (omega arith) (omega arith) kb l

  pub two_on : b < limit → judged (read_run s w limit n p (x ∷ [])) ≡ judged (read_run s w limit (n - 2) (p + 2 * w) (b ∷ []))
  two_on l =
      let z : n - 1 - 1 ≡ n - 2 = omega arith in
      let y : p + w + w ≡ p + 2 * w = omega arith in
      on₁ ∙ field_on s w limit hw hl (n - 1) (p + w) a [] b (omega arith) (omega arith) kb l ∙ rw (z, y)

-- ---- the next five, of five running numbers

module _ (limit : ℕ) (r : Five ℕ) where
  -- all are below the limit, or one is the first that is not
  pub all_below_law : all_below limit r ≡ true → (r.a < limit) × (r.b < limit) × (r.c < limit) × (r.d < limit) × (r.e < limit)
  all_below_law e =
      let t₄ = both_true _ _ e in
      let t₃ = both_true _ _ t₄.0 in
      let t₂ = both_true _ _ t₃.0 in
      let t₁ = both_true _ _ t₂.0 in
      (ltb-true _ _ t₁.0, ltb-true _ _ t₁.1, ltb-true _ _ t₂.1, ltb-true _ _ t₃.1, ltb-true _ _ t₄.1)

  pub five_low_law : all_below limit r ≡ true → limit ≤ 65536 → five_low r ≡ five r
  five_low_law e h =
      let l = all_below_law e in
      let ea : low16 r.a ≡ r.a = omega (arith, l.0) in
      let eb : low16 r.b ≡ r.b = omega (arith, l.1) in
      let ec : low16 r.c ≡ r.c = omega (arith, l.2) in
      let ed : low16 r.d ≡ r.d = omega (arith, l.3) in
      let ee : low16 r.e ≡ r.e = omega (arith, l.4) in
      (λ i. ea i ∷ eb i ∷ ec i ∷ ed i ∷ ee i ∷ [])

module _ (s : List ℕ) (w limit n p : ℕ) (v r : Five ℕ) (hw : w ≤ 17) (hl : limit ≤ 65536) (o : 5 ≤ n)
    (h : p + 5 * w ≤ 8 * length s) (k : FiveTo s w p v r) where
  abbrev Answer : ℕ → ℕ → List ℕ → Verdict (Unit {0})
  Answer n p prior = judged (read_run s w limit n p prior)

  module _ (la : r.a < limit) where
    to₁ : Answer n p (five v) ≡ Answer (n - 1) (p + w) (v.b ∷ v.c ∷ v.d ∷ v.e ∷ r.a ∷ [])
    to₁ = field_on s w limit hw hl n p v.a (v.b ∷ v.c ∷ v.d ∷ v.e ∷ []) r.a (omega arith) (omega arith) k.first la

    module _ (lb : r.b < limit) where
      to₂ : Answer n p (five v) ≡ Answer (n - 1 - 1) (p + w + w) (v.c ∷ v.d ∷ v.e ∷ r.a ∷ r.b ∷ [])
      to₂ = to₁ ∙ field_on s w limit hw hl (n - 1) (p + w) v.b (v.c ∷ v.d ∷ v.e ∷ r.a ∷ []) r.b (omega arith) (omega arith) k.second lb

      module _ (lc : r.c < limit) where
        to₃ : Answer n p (five v) ≡ Answer (n - 1 - 1 - 1) (p + w + w + w) (v.d ∷ v.e ∷ r.a ∷ r.b ∷ r.c ∷ [])
        to₃ = to₂ ∙ field_on s w limit hw hl (n - 1 - 1) (p + w + w) v.c (v.d ∷ v.e ∷ r.a ∷ r.b ∷ []) r.c (omega arith) (omega arith) k.third lc

        module _ (ld : r.d < limit) where
          to₄ : Answer n p (five v) ≡ Answer (n - 1 - 1 - 1 - 1) (p + w + w + w + w) (v.e ∷ r.a ∷ r.b ∷ r.c ∷ r.d ∷ [])
          to₄ = to₃ ∙ field_on s w limit hw hl (n - 1 - 1 - 1) (p + w + w + w) v.d (v.e ∷ r.a ∷ r.b ∷ r.c ∷ []) r.d (omega arith) (omega arith) k.fourth ld

          to₅ : r.e < limit → Answer n p (five v) ≡ Answer (n - 5) (p + 5 * w) (five r)
          to₅ l =
              let z : n - 1 - 1 - 1 - 1 - 1 ≡ n - 5 = omega arith in
              let y : p + w + w + w + w + w ≡ p + 5 * w = omega arith in
              to₄ ∙ field_on s w limit hw hl (n - 1 - 1 - 1 - 1) (p + w + w + w + w) v.e (r.a ∷ r.b ∷ r.c ∷ r.d ∷ []) r.e (omega arith) (omega arith) k.fifth l ∙ rw (z, y)

  pub five_on : all_below limit r ≡ true → Answer n p (five v) ≡ Answer (n - 5) (p + 5 * w) (five_low r)
  five_on e =
      let l = all_below_law limit r e in
      to₅ l.0 l.1 l.2 l.3 l.4 ∙ ap (λ (prior : List ℕ). Answer (n - 5) (p + 5 * w) prior) (sym (five_low_law limit r e hl))

  -- the first that leaves decides, and the fields before it are good
  pub five_out : all_below limit r ≡ false → Answer n p (five v) ≡ declined 8
  five_out e = go₁ (le-or-lt limit r.a)
    where
      go₅ : r.a < limit → r.b < limit → r.c < limit → r.d < limit → (limit ≤ r.e) ⊎ (r.e < limit) → Answer n p (five v) ≡ declined 8
      go₅ la lb lc ld (inl l) =
          to₄ la lb lc ld ∙ field_out s w limit (n - 1 - 1 - 1 - 1) (p + w + w + w + w) v.e (r.a ∷ r.b ∷ r.c ∷ r.d ∷ []) r.e (omega arith) (omega arith) k.fifth l
      go₅ la lb lc ld (inr l) =
          let t : all_below limit r ≡ true = simp (lt-ltb r.a limit la, lt-ltb r.b limit lb, lt-ltb r.c limit lc, lt-ltb r.d limit ld, lt-ltb r.e limit l) in
          clash (cc)

      go₄ : r.a < limit → r.b < limit → r.c < limit → (limit ≤ r.d) ⊎ (r.d < limit) → Answer n p (five v) ≡ declined 8
      go₄ la lb lc (inl l) =
          to₃ la lb lc ∙ field_out s w limit (n - 1 - 1 - 1) (p + w + w + w) v.d (v.e ∷ r.a ∷ r.b ∷ r.c ∷ []) r.d (omega arith) (omega arith) k.fourth l
      go₄ la lb lc (inr l) = go₅ la lb lc l (le-or-lt limit r.e)

      go₃ : r.a < limit → r.b < limit → (limit ≤ r.c) ⊎ (r.c < limit) → Answer n p (five v) ≡ declined 8
      go₃ la lb (inl l) =
          to₂ la lb ∙ field_out s w limit (n - 1 - 1) (p + w + w) v.c (v.d ∷ v.e ∷ r.a ∷ r.b ∷ []) r.c (omega arith) (omega arith) k.third l
      go₃ la lb (inr l) = go₄ la lb l (le-or-lt limit r.d)

      go₂ : r.a < limit → (limit ≤ r.b) ⊎ (r.b < limit) → Answer n p (five v) ≡ declined 8
      go₂ la (inl l) =
          to₁ la ∙ field_out s w limit (n - 1) (p + w) v.b (v.c ∷ v.d ∷ v.e ∷ r.a ∷ []) r.b (omega arith) (omega arith) k.second l
      go₂ la (inr l) = go₃ la l (le-or-lt limit r.c)

      go₁ : (limit ≤ r.a) ⊎ (r.a < limit) → Answer n p (five v) ≡ declined 8
      go₁ (inl l) = field_out s w limit n p v.a (v.b ∷ v.c ∷ v.d ∷ v.e ∷ []) r.a (omega arith) (omega arith) k.first l
      go₁ (inr l) = go₂ l (le-or-lt limit r.b)

-- ---- a run as a whole, within the limit of a body

module _ (s : List ℕ) (w limit n p : ℕ) (prior : List ℕ) where
  abbrev Said : Verdict (Unit {0})
  Said = limited s (judged (read_run s w limit n p prior))

  pub run_too_long : 67108864 < length s → declined 2 ≡ Said
  run_too_long h = sym (limited_no s (judged (read_run s w limit n p prior)) h)

  module _ (l : length s ≤ 67108864) where
    -- with the width as it was worked out
    pub run_said : (u : ℕ) (r : Verdict (Unit {0})) → u ≡ w → r ≡ judged (read_run s u limit n p prior) → r ≡ Said
    run_said u r e k = k ∙ ap (λ (x : ℕ). judged (read_run s x limit n p prior)) e ∙ sym (limited_yes s (judged (read_run s w limit n p prior)) l)

-- a limit in 16 bits asks for at most 17 bits
pub width_most : (limit : ℕ) → limit < 65536 → width_of limit ≤ 17
width_most limit h = width_least limit 17 (omega arith)
