-- What was read is what was accepted. Assumes nothing.
use Rattle.std.proofs.Common.{◌≡◌, ℕ, refl}
use Rattle.bits.specs.Verdict.{Verdict, accepted, needs, declined}
use Rattle.payload.specs.Internal.{WasRead}

pub was_read : {A : Type 0} (v : Verdict A) (a : A) → v ≡ accepted a → WasRead v
was_read v a e = rw e tt

pub not-read : {A : Type 0} (v : Verdict A) (k : ℕ) → v ≡ declined k → WasRead v → ⊥
not-read v k e r = rw e at r

pub read_value : {A : Type 0} (v : Verdict A) → WasRead v → (a : A) × (v ≡ accepted a)
read_value (accepted a) r = (a, refl)
read_value (needs l) r = absurd r
read_value (declined k) r = absurd r
