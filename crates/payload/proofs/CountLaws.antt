-- The ways through `counted` and `index_count`, and a product that may not fit. Assumes nothing.
use Rattle.std.proofs.Common.{◌≡◌, ℕ, ◌*◌, ◌^◌, ◌<◌, ◌≤◌, Option, None, Some, sym, ap, ◌∙◌, arith, le-leb}
use Rattle.std.specs.Option.{SomeIff, ok_or}
use borrow.Author.Tests.{lt-leb}
use Rattle.bits.specs.Verdict.{accepted, declined}
use Rattle.bits.specs.declared.refusals.Refusal.TheVariants as R
use Rattle.bits.proofs.VerdictLaws.{within_yes, within_no}
use Rattle.payload.specs.Count.{counted_says, counted, index_count}

pub counted_yes : (n : ℕ) → n < 2 ^ 64 → accepted n ≡ counted n
counted_yes n h = sym (within_yes _ _ n (declined 14) (omega arith))

pub counted_no : (n : ℕ) → 2 ^ 64 ≤ n → declined 14 ≡ counted n
counted_no n h = sym (within_no _ _ n (declined 14) (omega arith))

-- a product that is there where it fits 64 bits
pub product_said : (n : ℕ) (o : Option ℕ) → SomeIff o (n < 2 ^ 64) n → counted_says (ok_or o R.CountTooLarge) ≡ counted n
product_said n None h = counted_no n (omega arith)
product_said n (Some x) h = ap accepted h.1 ∙ counted_yes n h.0

module _ (rings sectors : ℕ) where
  pub index_none : rings < 2 → accepted 0 ≡ index_count rings sectors
  unfolding index_count
  index_none h = simp (lt-leb 2 rings h)

  pub index_some : 2 ≤ rings → counted (6 * rings * sectors) ≡ index_count rings sectors
  unfolding index_count
  index_some h = simp (le-leb 2 rings h)
