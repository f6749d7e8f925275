-- The sum of fields, one field at a time. Assumes nothing.
use Rattle.std.proofs.Common.{◌≡◌, ℕ, suc, ◌+◌, ◌-◌, ◌%◌, ◌^◌, ◌<◌, List, [], ◌∷◌, refl, ap, ◌∙◌, arith}
use Rattle.bits.specs.Verdict.{Verdict, accepted, needs, declined, mapped}
use Rattle.bits.specs.Field.{field, room}
use Rattle.bits.specs.Read.{field_at}
use Rattle.bits.proofs.VerdictLaws.{within_value, width_value}
use Rattle.capi.specs.Total.{plus, total_at, wrapped}

-- what a total of fields still to come makes of the sum so far
abbrev pub joined : ℕ → ℕ → List ℕ
joined sum n = wrapped (sum + n)

joined_more : (sum v p : ℕ) (t : Verdict ℕ)
    → mapped (joined sum) (plus (accepted (v, p)) t) ≡ mapped (joined ((sum + v) % 2 ^ 64)) t
unfolding plus
joined_more sum v p (accepted n) = ap (λ (k : ℕ). accepted (k ∷ [])) (omega arith)
joined_more sum v p (needs ws) = refl
joined_more sum v p (declined k) = refl

-- the total of n fields from bit p on, added to the sum of those before it
abbrev pub total : List ℕ → ℕ → ℕ → ℕ → ℕ → Verdict (List ℕ)
total s w n p sum = mapped (joined sum) (total_at s w n p)

module _ (s : List ℕ) (w left p sum : ℕ) where
  module _ (some : 0 < left) where
    next_one : left ≡ suc (left - 1)
    next_one = omega arith

    pub total_on : (v next : ℕ) → field_at s p w ≡ accepted (v, next)
        → total s w left p sum ≡ total s w (left - 1) next ((sum + v) % 2 ^ 64)
    unfolding total_at
    total_on v next e =
        let f : ℕ × ℕ = (field s p w, p + w) in
        let q = (within_value w (room s - p) f 3 (v, next) (width_value w _ (v, next) e)).1 in
        let r : p + w ≡ next = ap (λ (x : ℕ × ℕ). x.1) q in
        ap (λ (n : ℕ). total s w n p sum) next_one ∙ rw (e, r) (joined_more sum v next (total_at s w (left - 1) next))

    pub total_refused : (k : ℕ) → field_at s p w ≡ declined k → total s w left p sum ≡ declined k
    unfolding total_at plus
    total_refused k e = ap (λ (n : ℕ). total s w n p sum) next_one ∙ rw e

  pub total_done : sum < 2 ^ 64 → left ≡ 0 → total s w left p sum ≡ accepted (sum ∷ [])
  unfolding total_at
  total_done small e =
      ap (λ (n : ℕ). total s w n p sum) e ∙ ap (λ (k : ℕ). accepted (k ∷ [])) (omega arith)
