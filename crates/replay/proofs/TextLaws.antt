-- What digits spell, digit by digit, and where a token ends. Assumes nothing.
use Rattle.std.proofs.Common.{◌≡◌, ℕ, suc, ◌+◌, ◌-◌, ◌*◌, ◌^◌, ◌<◌, ◌≤◌, List, [], ◌∷◌, ◌++◌, length, get_or, take}
use Rattle.std.proofs.Common.{drop, set, Some, None, sym, refl, ap, ◌∙◌, append_assoc, append-nil, add-one}
use Rattle.std.proofs.Common.{arith, take_all, drop-cons, take-suc-set, le-ltb, lt-ltb, length-drop}
use Rattle.std.specs.Prelude.{Option, option_map, position, slice_range, ◌==◌}
use Rattle.std.proofs.lemmas.Grind.{common_steps}
use lib.Seq.{drop-length}
use Rattle.replay.specs.Text.{digit_of, hex_from, hex_of, word_at, pair_of, pairs_of}

pub some_digits : (s : List ℕ) → 0 < length s → hex_of s ≡ hex_from 0 s
unfolding hex_of
some_digits [] h = absurd (omega arith)
some_digits (b ∷ bs) h = refl

pub no_digits : (s : List ℕ) → length s ≡ 0 → None ≡ hex_of s
unfolding hex_of
no_digits [] h = refl
no_digits (b ∷ bs) h = absurd (omega arith)

-- a loop's turn at a byte: v is the value before it
module _ (v : ℕ) (s : List ℕ) (i : ℕ) (k : i < length s) (w : hex_from v (drop i s) ≡ hex_from 0 s) where
  here : hex_from v (get_or s i 0 ∷ drop (suc i) s) ≡ hex_from 0 s
  here = sym (ap (hex_from v) (drop-cons s i 0 k)) ∙ w

  pub no_digit : None ≡ digit_of (get_or s i 0) → None ≡ hex_of s
  unfolding hex_from
  no_digit e = rw (← e) at here ∙ sym (some_digits s (omega arith))

  -- d is the digit
  module _ (d : ℕ) (e : Some d ≡ digit_of (get_or s i 0)) where
    pub digit_turn : v < 2 ^ 60 → hex_from (v * 16 + d) (drop (i + 1) s) ≡ hex_from 0 s
    unfolding hex_from
    digit_turn b = rw add-one (sym (simp (← e, lt-ltb v (2 ^ 60) b)) ∙ here)

    pub no_room : 2 ^ 60 ≤ v → None ≡ hex_of s
    unfolding hex_from
    no_room b = sym (simp (← e, le-ltb v (2 ^ 60) b)) ∙ here ∙ sym (some_digits s (omega arith))

-- past the last digit
pub digits_end : (v : ℕ) (s : List ℕ) (i : ℕ) → i ≡ length s → 0 < length s
    → hex_from v (drop i s) ≡ hex_from 0 s → Some v ≡ hex_of s
unfolding hex_from
digits_end v s i e o w =
    sym (ap (hex_from v) (ap (λ (n : ℕ). drop n s) e ∙ drop-length s)) ∙ w ∙ sym (some_digits s o)

after_both : (a : List ℕ) (b : ℕ) (o : Option (List ℕ))
    → option_map (λ bs. (a ++ b ∷ []) ++ bs) o ≡ option_map (λ bs. a ++ bs) (option_map (λ bs. b ∷ bs) o)
after_both a b None = refl
after_both a b (Some bs) = ap (λ (l : List ℕ). Some l) (append_assoc a (b ∷ []) bs)

module _ (s out : List ℕ) (i : ℕ) (e : length s ≡ 2 * length out)
    (w : option_map (λ bs. take i out ++ bs) (pairs_of (drop (2 * i) s)) ≡ pairs_of s) where
  -- a loop's turn at the next two digits
  module _ (k : i < length out) where
    pub pair_next : drop (2 * i) s ≡ get_or s (2 * i) 0 ∷ get_or s (2 * i + 1) 0 ∷ drop (2 * (i + 1)) s
    pair_next =
        let n : 2 * i + 1 ≡ suc (2 * i) = omega arith in
        let m : 2 * (i + 1) ≡ suc (suc (2 * i)) = omega arith in
        rw (n, m)
        (drop-cons s (2 * i) 0 (omega arith)
        ∙ ap (λ (r : List ℕ). get_or s (2 * i) 0 ∷ r) (drop-cons s (suc (2 * i)) 0 (omega arith)))

    pub no_pair : None ≡ pair_of (get_or s (2 * i) 0) (get_or s (2 * i + 1) 0) → None ≡ pairs_of s
    unfolding pairs_of
    no_pair p = rw (pair_next, ← p) at w

    -- b is the byte that they spell
    pub pair_turn : (b : ℕ) → Some b ≡ pair_of (get_or s (2 * i) 0) (get_or s (2 * i + 1) 0)
        → option_map (λ bs. take (i + 1) (set out i b) ++ bs) (pairs_of (drop (2 * (i + 1)) s)) ≡ pairs_of s
    unfolding pairs_of
    pair_turn b p =
        let n : take (i + 1) (set out i b) ≡ take i out ++ b ∷ [] = rw add-one (take-suc-set out i b k) in
        ap (λ (a : List ℕ). option_map (λ bs. a ++ bs) (pairs_of (drop (2 * (i + 1)) s))) n
        ∙ after_both (take i out) b (pairs_of (drop (2 * (i + 1)) s))
        ∙ rw (pair_next, ← p) at w

  -- past the last byte
  pub pairs_end : i ≡ length out → Some out ≡ pairs_of s
  unfolding pairs_of
  pairs_end l =
      let n : 2 * i ≡ length s = omega arith in
      let none : drop (2 * i) s ≡ [] = rw n (drop-length s) in
      let all : take i out ++ [] ≡ out = append-nil (take i out) ∙ take_all i out (omega arith) in
      rw (none, all) at w

-- the token at a place of a line, with what the line has from there on
module _ (line : List ℕ) (at : ℕ) where
  pub no_rest : length line < at → None ≡ word_at line at
  unfolding word_at
  no_rest h = simp (le-ltb at (length line) (omega arith))

  module _ (rest : List ℕ) (e : rest ≡ slice_range line at (length line)) where
    rest_is : rest ≡ drop at line
    rest_is = e ∙ take_all (length line - at) (drop at line) (omega (arith, length-drop at line))

    pub no_word : None ≡ position (λ x. x == 32) rest → None ≡ word_at line at
    unfolding word_at
    no_word h = let h' = rw rest_is at h in grind (arith, common_steps)

    pub word_is : (end : ℕ) → Some end ≡ position (λ x. x == 32) rest
        → Some (take end rest, at + (end + 1)) ≡ word_at line at
    unfolding word_at
    word_is end h = let h' = rw rest_is at h in rw rest_is (grind (arith, common_steps))
