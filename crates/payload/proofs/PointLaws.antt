-- The words of points: how a run's are stored piece by piece, and that two ways to them agree. Assumes nothing.
use Rattle.std.proofs.Common.{◌≡◌, ℕ, zero, suc, ◌+◌, ◌-◌, ◌*◌, ◌<◌, ◌≤◌, min, List, [], ◌∷◌, ◌++◌, length, get_or, drop, sym, refl, ap, ◌∙◌, ap₂, append_assoc, arith}
use lib.Seq.{sets}
use Rattle.bits.specs.Run.{Found, read_run, last_of, summed}
use Rattle.bits.proofs.RunLaws.{run_spells}
use Rattle.bits.proofs.SummedLaws.{length_summed, run_part, last_at}
use Rattle.payload.specs.Mesh.{Submesh}
use Rattle.payload.specs.MeshSpells.{submesh_bits, SubmeshesSpell}
use Rattle.payload.specs.MeshDrawing.{point_words, run_words, submesh_words}
use Rattle.payload.specs.Internal.{WasRead, run_numbers, word_at, PointsBelow}
use Rattle.payload.proofs.FillLaws.{sets-after}
use Rattle.payload.proofs.StepLaws.{read_value}
use Rattle.payload.proofs.MeasureLaws.{run_floats}
use Rattle.payload.proofs.PutRunLaws.{rest-cons, rest-none}

-- ---- points

module _ (f : ℕ → ℕ) (base : ℕ) where
  pub run_none : (l : List ℕ) → l ≡ [] → run_words f base l ≡ []
  unfolding run_words
  run_none l e = rw e

  -- the first point's words are stored, and the others' are left
  pub point_first : (v : ℕ) (l m d : List ℕ) (o : ℕ) → l ≡ v ∷ m → sets d o (run_words f base l) ≡ sets (sets d o (point_words f (base + 5 * v))) (o + 5) (run_words f base m)
  unfolding run_words
  point_first v l m d o e = rw e (sets-after (point_words f (base + 5 * v)) (run_words f base m) d o (o + 5) refl)

  -- point i's words are stored at its place, and those of the points after it are left
  pub points_first : (l : List ℕ) (i : ℕ) (d d' : List ℕ) (o o' : ℕ) → i < length l → o' ≡ o + 5
      → d' ≡ sets d o (point_words f (base + 5 * get_or l i 0))
      → sets d o (run_words f base (drop i l)) ≡ sets d' o' (run_words f base (drop (i + 1) l))
  points_first l i d d' o o' h e k =
      point_first (get_or l i 0) (drop i l) (drop (i + 1) l) d o (rest-cons l i h) ∙ rw (e, k)

  -- and of the points after the last none
  pub points_end : (l : List ℕ) (i : ℕ) (d : List ℕ) (o : ℕ) → length l ≤ i → d ≡ sets d o (run_words f base (drop i l))
  points_end l i d o h = ap (sets d o) (sym (run_none (drop i l) (rest-none l i h)))

  -- the words of two runs, one after the other
  pub run_append : (l m : List ℕ) → run_words f base (l ++ m) ≡ run_words f base l ++ run_words f base m
  unfolding run_words
  run_append [] m = refl
  run_append (v ∷ l) m =
      ap (λ (t : List ℕ). point_words f (base + 5 * v) ++ t) (run_append l m)
      ∙ sym (append_assoc (point_words f (base + 5 * v)) (run_words f base l) (run_words f base m))

  -- the words of the first n points are stored, and the others' are left
  pub run_first : (l m d : List ℕ) (o n : ℕ) → length l ≡ n → sets d o (run_words f base (l ++ m)) ≡ sets (sets d o (run_words f base l)) (o + 5 * n) (run_words f base m)
  run_first l m d o n e =
      ap (sets d o) (run_append l m) ∙ sets-after (run_words f base l) (run_words f base m) d o (o + 5 * n) (ap (λ (k : ℕ). o + k) (run_floats f base l ∙ ap (λ (k : ℕ). 5 * k) e))

-- what a loop that stores a run's words keeps: storing the words of the points that are left gives `all`
pub record RunLeft (s : List ℕ) (w m : ℕ) (numbers : List ℕ) (base : ℕ) (words₀ all words : List ℕ) (bit last left o : ℕ) : Type 0 where
  pub same : all ≡ sets words o (run_words (word_at s numbers) base (run_numbers (read_run s w m left bit (last ∷ []))))
  pub read : WasRead (read_run s w m left bit (last ∷ []))
  pub room : o + 5 * left ≤ length words
  pub long : length words ≡ length words₀
  pub small : last < 65536
  pub low : 64 ≤ bit

-- the next n points
pub record NextPoints (s : List ℕ) (w m left bit last n : ℕ) : Type 0 where
  pub below : PointsBelow m (summed s w n bit (last ∷ []))
  pub whole : bit + n * w ≤ 8 * length s
  pub are : run_numbers (read_run s w m left bit (last ∷ []))
      ≡ summed s w n bit (last ∷ []) ++ run_numbers (read_run s w m (left - n) (bit + n * w) (last_of last (summed s w n bit (last ∷ [])) ∷ []))
  pub rest : WasRead (read_run s w m (left - n) (bit + n * w) (last_of last (summed s w n bit (last ∷ [])) ∷ []))
  pub small : last_of last (summed s w n bit (last ∷ [])) < m

pub next_points : (s : List ℕ) (w m left bit last n : ℕ) → m ≤ 65536 → 1 ≤ n → n ≤ left → WasRead (read_run s w m left bit (last ∷ [])) → NextPoints s w m left bit last n
next_points s w m left bit last n h o l r =
    let v = read_value (read_run s w m left bit (last ∷ [])) r in
    let P = run_part s w m h n left bit last v.0.0 v.0.1 l v.1 in
    let z = length_summed s w n bit (last ∷ []) in
    let F = run_spells s w m left bit (last ∷ []) v.0.0 v.0.1 (omega arith) v.1 in
    record {
      below = λ i k. P.below i (rw z at k);
      whole = P.room (omega (arith, F.0.whole 0 (omega (arith, F.1))));
      are = ap run_numbers v.1 ∙ P.are ∙ ap (λ (x : Found (List ℕ)). summed s w n bit (last ∷ []) ++ run_numbers x) (sym P.rest);
      rest = rw P.rest tt;
      small = rw (last_at last (summed s w n bit (last ∷ [])) n z o) (P.below (n - 1) (omega arith));
    }

-- those that are drawn at once
pub drawn_next : {s : List ℕ} {w m : ℕ} {numbers : List ℕ} {base : ℕ} {words₀ all words : List ℕ} {bit last left o : ℕ}
    → RunLeft s w m numbers base words₀ all words bit last left o → (n : ℕ) → m ≤ 65536 → 0 < left → n ≡ min left 64
    → NextPoints s w m left bit last n
drawn_next {s} {w} {m} {bit = bit} {last = last} {left = left} L n h k e =
    next_points s w m left bit last n h (omega arith) (omega arith) L.read

-- no field is left
pub numbers_end : (s : List ℕ) (w limit n p : ℕ) (prior : List ℕ) → n ≤ 0 → run_numbers (read_run s w limit n p prior) ≡ []
unfolding read_run
numbers_end s w limit zero p prior h = refl
numbers_end s w limit (suc n) p prior h = absurd (omega arith)

pub run_left_on : {s : List ℕ} {w m : ℕ} {numbers : List ℕ} {base : ℕ} {words₀ all words : List ℕ} {bit last left o : ℕ} → RunLeft s w m numbers base words₀ all words bit last left o
    → (n last' bit' : ℕ) (words' : List ℕ) → m ≤ 65536 → n ≤ left → NextPoints s w m left bit last n → last' ≡ last_of last (summed s w n bit (last ∷ [])) → bit' ≡ bit + n * w
    → words' ≡ sets words o (run_words (word_at s numbers) base (summed s w n bit (last ∷ []))) → length words' ≡ length words
    → RunLeft s w m numbers base words₀ all words' bit' last' (left - n) (o + 5 * n)
run_left_on {s} {w} {m} {numbers} {base} {words₀} {all} {words} {bit} {last} {left} {o} L n last' bit' words' h l N e eb d g =
    let f = word_at s numbers in
    let t = summed s w n bit (last ∷ []) in
    rw (e, eb)
    (record {
      same = L.same ∙ ap (λ (x : List ℕ). sets words o (run_words f base x)) N.are ∙ run_first f base t _ words o n (length_summed s w n bit (last ∷ [])) ∙ rw (← d);
      read = N.rest;
      room = omega (arith, L.room);
      long = g ∙ L.long;
      small = omega (arith, N.small);
      low = omega (arith, L.low);
    })

-- ---- two ways to the words of points agree where the coordinates agree

pub point_agrees : (f g : ℕ → ℕ) (a b : ℕ) → ((k : ℕ) → k < 5 → f (a + k) ≡ g (b + k)) → point_words f a ≡ point_words g b
point_agrees f g a b h =
    let z : a + 0 ≡ a = omega arith in
    let y : b + 0 ≡ b = omega arith in
    let e₀ : f a ≡ g b = rw (z, y) at (h 0 (omega arith)) in
    let e₁ = h 1 (omega arith) in
    let e₂ = h 2 (omega arith) in
    let e₃ = h 3 (omega arith) in
    let e₄ = h 4 (omega arith) in
    λ i. e₀ i ∷ e₁ i ∷ e₂ i ∷ e₃ i ∷ e₄ i ∷ []

module _ (f g : ℕ → ℕ) (a b m : ℕ) (h : (k : ℕ) → k < 5 * m → f (a + k) ≡ g (b + k)) where
  pub run_agrees : (l : List ℕ) → ((i : ℕ) → i < length l → get_or l i 0 < m) → run_words f a l ≡ run_words g b l
  unfolding run_words
  run_agrees [] u = refl
  run_agrees (v ∷ l) u =
      ap₂ (λ (x y : List ℕ). x ++ y)
      (point_agrees f g (a + 5 * v) (b + 5 * v) (λ k i.
      let e : a + 5 * v + k ≡ a + (5 * v + k) = omega arith in
      let e' : b + 5 * v + k ≡ b + (5 * v + k) = omega arith in
      rw (e, e') (h (5 * v + k) (omega (arith, u 0 (omega arith))))))
      (run_agrees l (λ i j. u (suc i) (omega arith)))

  pub submeshes_agree : (s : List ℕ) (w p : ℕ) (l : List Submesh) → SubmeshesSpell s w m p l → submesh_words f a l ≡ submesh_words g b l
  unfolding submesh_words
  submeshes_agree s w p [] e = refl
  submeshes_agree s w p (x ∷ l) e = ap₂ (λ (x y : List ℕ). x ++ y) (run_agrees x.points e.0.run.below) (submeshes_agree s w (p + submesh_bits w x) l e.1)
