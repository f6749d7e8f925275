-- What follows for every kind of payload that is read exactly where it is spelled. Assumes nothing.
use Rattle.std.proofs.Common.{◌≡◌, ℕ, ◌↔◌, List}
use Rattle.bits.specs.Verdict.{Verdict, accepted, declined}
use Rattle.bits.proofs.VerdictLaws.{clash}
use Rattle.payload.specs.Laws.{Reads, Writes}

module _ {R : Type 0} (read : List ℕ → Verdict R) where
  once : (s : List ℕ) (ρ ρ' : R) → read s ≡ accepted ρ → read s ≡ accepted ρ' → ρ ≡ ρ'
  once s ρ ρ' p q = cc

  not_both : (s : List ℕ) (k : ℕ) (ρ : R) → read s ≡ declined k → read s ≡ accepted ρ → ⊥
  not_both s k ρ p q = clash (cc)

  pub reads_laws : {Spells : R → List ℕ → Type 0} → ((ρ : R) (s : List ℕ) → (read s ≡ accepted ρ) ↔ Spells ρ s) → Reads R Spells read
  reads_laws e =
      record {
        reads = e;
        spells_once = λ ρ ρ' s p q. once s ρ ρ' ((e ρ s).1 p) ((e ρ' s).1 q);
        declined_spells_nothing = λ s k d ρ p. not_both s k ρ d ((e ρ s).1 p);
      }

pub writes_laws : {R : Type 0} {Spells ReadAs : R → List ℕ → Type 0} {InRange : R → Type 0} {written : R → Verdict (List ℕ)} {Plain : R → List ℕ → Type 0} → ((ρ : R) (s : List ℕ) → ReadAs ρ s ↔ Spells ρ s)
    → ((ρ : R) (s : List ℕ) → InRange ρ → written ρ ≡ accepted s → Spells ρ s)
    → ((ρ : R) (s : List ℕ) → Plain ρ s → Spells ρ s → written ρ ≡ accepted s)
    → Writes R Spells ReadAs InRange written Plain
writes_laws e spelled back =
    record {
      written_spells = spelled;
      written_reads = λ ρ s i w. (e ρ s).1 (spelled ρ s i w);
      read_writes = λ ρ s p r. back ρ s p ((e ρ s).0 r);
    }
