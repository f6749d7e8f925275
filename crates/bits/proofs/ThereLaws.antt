-- Whether a run lies inside: one law for each way through the test, and what it tells. Assumes nothing.
use Rattle.std.proofs.Common.{◌≡◌, ℕ, ◌+◌, ◌-◌, ◌*◌, ◌%◌, ◌<◌, ◌≤◌, true, false, leb, ◌⊎◌, List, length, sym, ◌∙◌, inl, inr, mul-le-mul_left, arith, eq-eqb, ne_eqb, le-leb, leb-true}
use borrow.Author.Tests.{lt-leb}
use Rattle.bits.specs.Run.{zeros, summed, run_there, run_filled, fives_there, fives_filled}
use Rattle.bits.specs.Internal.{Inside}
use Rattle.bits.proofs.VerdictLaws.{le-or-lt, both_true}

module _ (s : List ℕ) (p w n : ℕ) where
  pub there_long : 67108864 < length s → false ≡ run_there s p w n
  unfolding run_there
  there_long h = sym (simp (lt-leb (length s) 67108864 h))

  module _ (a : length s ≤ 67108864) where
    pub there_narrow : w < 1 → false ≡ run_there s p w n
    unfolding run_there
    there_narrow h = sym (simp (le-leb (length s) 67108864 a, lt-leb 1 w h))

    module _ (b : 1 ≤ w) where
      pub there_wide : 16 < w → false ≡ run_there s p w n
      unfolding run_there
      there_wide h = sym (simp (le-leb (length s) 67108864 a, le-leb 1 w b, lt-leb w 16 h))

      module _ (c : w ≤ 16) where
        pub there_low : p < 33 → false ≡ run_there s p w n
        unfolding run_there
        there_low h = sym (simp (le-leb (length s) 67108864 a, le-leb 1 w b, le-leb w 16 c, lt-leb 33 p h))

        -- all but the last test holds
        pub there_is : 33 ≤ p → leb (p + n * w) (8 * length s) ≡ run_there s p w n
        unfolding run_there
        there_is h = sym (simp (le-leb (length s) 67108864 a, le-leb 1 w b, le-leb w 16 c, le-leb 33 p h))

        pub there_short : 33 ≤ p → 8 * length s < p + n → false ≡ run_there s p w n
        there_short h l =
            let m = mul-le-mul_left n b in
            sym (lt-leb (p + n * w) (8 * length s) (omega arith)) ∙ there_is h

        -- as the code tests it
        pub there_left : 33 ≤ p → p ≤ 8 * length s → (e : ℕ) → e ≡ 8 * length s → leb (n * w) (e - p) ≡ run_there s p w n
        there_left h l e i = go (le-or-lt (n * w) (e - p)) ∙ there_is h
          where
            go : (n * w ≤ e - p) ⊎ (e - p < n * w) → leb (n * w) (e - p) ≡ leb (p + n * w) (8 * length s)
            go (inl k) = le-leb (n * w) (e - p) k ∙ sym (le-leb (p + n * w) (8 * length s) (omega arith))
            go (inr k) = lt-leb (n * w) (e - p) k ∙ sym (lt-leb (p + n * w) (8 * length s) (omega arith))

  pub there_yes : length s ≤ 67108864 → 1 ≤ w → w ≤ 16 → 33 ≤ p → p + n * w ≤ 8 * length s → run_there s p w n ≡ true
  there_yes a b c d e = sym (there_is a b c d) ∙ le-leb (p + n * w) (8 * length s) e

  -- what it tells
  pub there_inside : run_there s p w n ≡ true → Inside s p (n * w) × (1 ≤ w) × (w ≤ 16)
  unfolding run_there
  there_inside e =
      let t = both_true _ _ e in
      let u = both_true _ _ t.0 in
      let v = both_true _ _ u.0 in
      let x = both_true _ _ u.1 in (
        record {
          short = leb-true (length s) 67108864 v.0;
          low = leb-true 33 p x.1;
          whole = leb-true (p + n * w) (8 * length s) t.1;
        },
        leb-true 1 w v.1,
        leb-true w 16 x.0,
      )

-- ---- a buffer that is filled with the numbers of a run

module _ (s : List ℕ) (p w : ℕ) (prior out : List ℕ) where
  pub filled_not : run_there s p w (length out) ≡ false → out ≡ run_filled s p w prior out
  unfolding run_filled
  filled_not e = sym (simp e)

  pub filled_yes : run_there s p w (length out) ≡ true → summed s w (length out) p prior ≡ run_filled s p w prior out
  unfolding run_filled
  filled_yes e = sym (simp e)

module _ (s : List ℕ) (p w : ℕ) (out : List ℕ) where
  pub fives_uneven : (length out % 5 ≡ 0 → ⊥) → (false ≡ fives_there s p w out) × (out ≡ fives_filled s p w out)
  unfolding fives_there fives_filled
  fives_uneven n = (sym (simp (ne_eqb (length out % 5) 0 n)), sym (simp (ne_eqb (length out % 5) 0 n)))

  module _ (m : length out % 5 ≡ 0) where
    pub fives_not : run_there s p w (length out) ≡ false → (false ≡ fives_there s p w out) × (out ≡ fives_filled s p w out)
    unfolding fives_there fives_filled
    fives_not e = (sym (simp (eq-eqb (length out % 5) 0 m, e)), sym (simp (eq-eqb (length out % 5) 0 m, e)))

    pub fives_yes : run_there s p w (length out) ≡ true → (true ≡ fives_there s p w out) × (summed s w (length out) p (zeros 5) ≡ fives_filled s p w out)
    unfolding fives_there fives_filled
    fives_yes e = (sym (simp (eq-eqb (length out % 5) 0 m, e)), sym (simp (eq-eqb (length out % 5) 0 m, e)))
