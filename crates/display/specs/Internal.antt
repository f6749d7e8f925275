-- What the contracts of private functions cite. No promise of a public call leans on these.
use Rattle.std.specs.Prelude.{ℕ, ◌+◌, ◌<◌, List, [], ◌∷◌, get_or, Result}
use Rattle.bits.specs.Verdict.{Verdict}
use Rattle.payload.specs.declared.mesh.records.Record.{Record}
use Rattle.bits.specs.Says.{says}
use Rattle.bits.specs.declared.refusals.Refusal.{Refusal}

-- the five words from word i on
abbrev pub record_at : List ℕ → ℕ → Record
record_at words i =
    record {
      eye = get_or words i 0;
      texture = get_or words (i + 1) 0;
      mode = get_or words (i + 2) 0;
      first = get_or words (i + 3) 0;
      points = get_or words (i + 4) 0;
    }

-- a point alone
abbrev pub point_after : ℕ → ℕ → List ℕ
point_after first i = (first + i) ∷ []

-- the points of n triangles of a strip or a fan have numbers
abbrev pub Numbered : ℕ → ℕ → Type 0
Numbered first n = (k : ℕ) → k < n → first + (k + 2) < 4294967295

abbrev pub measured_says : Result ℕ Refusal → Verdict ℕ
measured_says r = says (λ n. n) r
