-- The numbers that a run hands out: one field and several at a time, and that they are those of the run where it was read. Assumes nothing.
use Rattle.std.proofs.Common.{◌≡◌, ℕ, zero, suc, ◌+◌, ◌-◌, ◌*◌, ◌<◌, ◌≤◌, List, [], ◌∷◌, ◌++◌, length, get_or, sym, refl, ap, ◌∙◌, le_of_suc-le-suc, arith}
use lib.Seq.{sets}
use Rattle.bits.specs.Verdict.{accepted}
use Rattle.bits.specs.Field.{field}
use Rattle.bits.specs.Number.{stepped_to}
use Rattle.bits.specs.Run.{shift, read_run, last_of, low16, summed}
use Rattle.bits.specs.Internal.{five, five_low}
use Rattle.bits.specs.declared.fields.runs.Five.{Five}
use Rattle.bits.proofs.NumberLaws.{ran_moves, moves_stepped}
use Rattle.bits.proofs.RunLaws.{run_first, FiveTo}
use Rattle.bits.proofs.SetsLaws.{sets-after, sets_whole}

module _ (s : List ℕ) (w : ℕ) where
  pub length_summed : (n p : ℕ) (prior : List ℕ) → length (summed s w n p prior) ≡ n
  unfolding summed
  length_summed zero p prior = refl
  length_summed (suc n) p prior = ap suc (length_summed n (p + w) _)

  pub summed_none : (n p : ℕ) (prior : List ℕ) → n ≤ 0 → summed s w n p prior ≡ []
  unfolding summed
  summed_none zero p prior h = refl
  summed_none (suc n) p prior h = absurd (omega arith)

  -- the next field takes the number x to r
  pub summed_one : (n p x : ℕ) (q : List ℕ) (r : ℕ) → 0 < n → r ≡ low16 (stepped_to x (field s p w))
      → summed s w n p (x ∷ q) ≡ r ∷ summed s w (n - 1) (p + w) (q ++ (r ∷ []))
  unfolding summed
  summed_one zero p x q r o e = absurd (omega arith)
  summed_one (suc n) p x q r o e = let z : suc n - 1 ≡ n = omega arith in rw (z, e)

  -- two fields of one running number
  pub summed_two : (n p x a b : ℕ) → 2 ≤ n → a ≡ low16 (stepped_to x (field s p w)) → b ≡ low16 (stepped_to a (field s (p + w) w))
      → summed s w n p (x ∷ []) ≡ a ∷ b ∷ summed s w (n - 2) (p + 2 * w) (b ∷ [])
  summed_two n p x a b o ea eb =
      let z : n - 1 - 1 ≡ n - 2 = omega arith in
      let y : p + w + w ≡ p + 2 * w = omega arith in
      summed_one n p x [] a (omega arith) ea
      ∙ ap (λ (l : List ℕ). a ∷ l) (summed_one (n - 1) (p + w) a [] b (omega arith) eb)
      ∙ rw (z, y)

  -- five fields of five running numbers
  pub summed_five : (n p : ℕ) (v r : Five ℕ) → 5 ≤ n → FiveTo s w p v r
      → summed s w n p (five v) ≡ five_low r ++ summed s w (n - 5) (p + 5 * w) (five_low r)
  summed_five n p v r o k =
      let a = low16 r.a in
      let b = low16 r.b in
      let c = low16 r.c in
      let d = low16 r.d in
      let e = low16 r.e in
      let z : n - 1 - 1 - 1 - 1 - 1 ≡ n - 5 = omega arith in
      let y : p + w + w + w + w + w ≡ p + 5 * w = omega arith in
      summed_one n p v.a (v.b ∷ v.c ∷ v.d ∷ v.e ∷ []) a (omega arith) (ap low16 k.first)
      ∙ ap (λ (l : List ℕ). a ∷ l) (summed_one (n - 1) (p + w) v.b (v.c ∷ v.d ∷ v.e ∷ a ∷ []) b (omega arith) (ap low16 k.second)
      ∙ ap (λ (l : List ℕ). b ∷ l) (summed_one (n - 1 - 1) (p + w + w) v.c (v.d ∷ v.e ∷ a ∷ b ∷ []) c (omega arith) (ap low16 k.third)
      ∙ ap (λ (l : List ℕ). c ∷ l) (summed_one (n - 1 - 1 - 1) (p + w + w + w) v.d (v.e ∷ a ∷ b ∷ c ∷ []) d (omega arith) (ap low16 k.fourth)
      ∙ ap (λ (l : List ℕ). d ∷ l) (summed_one (n - 1 - 1 - 1 - 1) (p + w + w + w + w) v.e (a ∷ b ∷ c ∷ d ∷ []) e (omega arith) (ap low16 k.fifth)
      ∙ rw (z, y)))))

  -- and with the numbers that were kept
  pub summed_kept : (n p : ℕ) (v r u : Five ℕ) → 5 ≤ n → FiveTo s w p v r → five u ≡ five_low r
      → summed s w n p (five v) ≡ five u ++ summed s w (n - 5) (p + 5 * w) (five u)
  summed_kept n p v r u o k e = summed_five n p v r o k ∙ ap (λ (l : List ℕ). l ++ summed s w (n - 5) (p + 5 * w) l) (sym e)

  -- where the run was read, they are its numbers
  pub read_summed : (limit n p : ℕ) (prior ns : List ℕ) (q : ℕ) → limit ≤ 65536 → read_run s w limit n p prior ≡ accepted (ns, q)
      → summed s w n p prior ≡ ns
  unfolding read_run summed
  read_summed limit zero p prior ns q h e =
      let x : ◌≡◌ {A = List ℕ × ℕ} ([], p) (ns, q) = cc in
      ap (λ (a : List ℕ × ℕ). a.0) x
  read_summed limit (suc n) p prior ns q h e =
      let f = run_first s w limit n p prior ns q e in
      let m = ran_moves (get_or prior 0 0) (field s p w) limit f.next f.ran in
      let k : f.next < limit = m.1 in
      let i : low16 f.next ≡ f.next = omega arith in
      let g : low16 (stepped_to (get_or prior 0 0) (field s p w)) ≡ f.next = ap low16 (moves_stepped (get_or prior 0 0) (field s p w) f.next m.0) ∙ i in
      ap (λ (k : ℕ). k ∷ summed s w n (p + w) (shift prior k)) g
      ∙ ap (λ (l : List ℕ). f.next ∷ l) (read_summed limit n (p + w) (shift prior f.next) f.tail q h f.rest)
      ∙ sym f.cons

-- ---- a run of one running number in two parts

pub record RunPart (s : List ℕ) (w limit left p x n : ℕ) (ns : List ℕ) (q : ℕ) : Type 0 where
  pub others : List ℕ
  pub are : ns ≡ summed s w n p (x ∷ []) ++ others
  pub rest : read_run s w limit (left - n) (p + n * w) (last_of x (summed s w n p (x ∷ [])) ∷ []) ≡ accepted (others, q)
  pub below : (i : ℕ) → i < n → get_or (summed s w n p (x ∷ [])) i 0 < limit
  pub room : p ≤ 8 * length s → p + n * w ≤ 8 * length s

pub run_part : (s : List ℕ) (w limit : ℕ) → limit ≤ 65536 → (n left p x : ℕ) (ns : List ℕ) (q : ℕ) → n ≤ left
    → read_run s w limit left p (x ∷ []) ≡ accepted (ns, q) → RunPart s w limit left p x n ns q
run_part s w limit h zero left p x ns q o e =
    let z : left - 0 ≡ left = omega arith in
    let y : p + 0 * w ≡ p = omega arith in
    let v = summed_none s w 0 p (x ∷ []) (omega arith) in
    record {
      others = ns;
      are = ap (λ (l : List ℕ). l ++ ns) (sym v);
      rest = rw (z, y, v) e;
      below = λ i l. absurd (omega arith);
      room = λ l. omega arith;
    }
run_part s w limit h (suc n) zero p x ns q o e = absurd (omega arith)
run_part s w limit h (suc n) (suc left) p x ns q o e =
    let f = run_first s w limit left p (x ∷ []) ns q e in
    let m = ran_moves x (field s p w) limit f.next f.ran in
    let k : f.next < limit = m.1 in
    let i : low16 f.next ≡ f.next = omega arith in
    let g : f.next ≡ low16 (stepped_to x (field s p w)) = sym (ap low16 (moves_stepped x (field s p w) f.next m.0) ∙ i) in
    let r = run_part s w limit h n left (p + w) f.next f.tail q (omega arith) f.rest in
    let z : suc left - suc n ≡ left - n = omega arith in
    let y : p + suc n * w ≡ p + w + n * w = omega arith in
    let v : suc n - 1 ≡ n = omega arith in
    let t = summed s w n (p + w) (f.next ∷ []) in
    let u : summed s w (suc n) p (x ∷ []) ≡ f.next ∷ t = summed_one s w (suc n) p x [] f.next (omega arith) g ∙ rw v in
    record {
      others = r.others;
      are = f.cons ∙ ap (λ (l : List ℕ). f.next ∷ l) r.are ∙ ap (λ (l : List ℕ). l ++ r.others) (sym u);
      rest = rw (z, y) (ap (λ (l : List ℕ). read_run s w limit (left - n) (p + w + n * w) (last_of x l ∷ [])) u ∙ r.rest);
      below = λ j l. rw u (below f.next limit t k r.below j l);
      room = λ l. omega (arith, f.room, r.room f.room);
    }
  where
    below : (a limit : ℕ) (t : List ℕ) → a < limit → ((j : ℕ) → j < n → get_or t j 0 < limit) → (j : ℕ) → j < suc n → get_or (a ∷ t) j 0 < limit
    below a limit t h u zero l = h
    below a limit t h u (suc j) l = u j (le_of_suc-le-suc l)

-- the last of them, by its place
pub last_at : (x : ℕ) (l : List ℕ) (n : ℕ) → length l ≡ n → 1 ≤ n → last_of x l ≡ get_or l (n - 1) 0
last_at x [] n e o = absurd (omega arith)
last_at x (y ∷ []) n e o = let z : n - 1 ≡ 0 = omega arith in rw z
last_at x (y ∷ z ∷ l) n e o =
    let i : n - 1 ≡ suc (length l) = omega arith in
    let k : length l + 1 - 1 ≡ length l = omega arith in
    last_at y (z ∷ l) (length l + 1) (omega arith) (omega arith) ∙ rw (i, k)

-- ---- a loop that stores the numbers

-- what it knows: storing those that are left gives what storing all at first gives
pub record Storing (s : List ℕ) (w : ℕ) (out₀ all out : List ℕ) (n at bit : ℕ) (prior : List ℕ) : Type 0 where
  pub same : sets out₀ 0 all ≡ sets out at (summed s w (n - at) bit prior)
  pub long : length out ≡ length out₀
  pub few : at ≤ n

pub stored-none : (s : List ℕ) (w : ℕ) (out : List ℕ) (n bit : ℕ) (prior : List ℕ) → Storing s w out (summed s w n bit prior) out n 0 bit prior
stored-none s w out n bit prior =
    let z : n - 0 ≡ n = omega arith in
    record { same = rw z; long = refl; few = omega arith }

pub stored_on : {s : List ℕ} {w : ℕ} {out₀ all out : List ℕ} {n at bit : ℕ} {prior : List ℕ} → Storing s w out₀ all out n at bit prior
    → (l out' prior' : List ℕ) (g bit' : ℕ) → g ≡ length l → at + g ≤ n → summed s w (n - at) bit prior ≡ l ++ summed s w (n - at - g) bit' prior'
    → out' ≡ sets out at l → length out' ≡ length out → Storing s w out₀ all out' n (at + g) bit' prior'
stored_on {s} {w} {out₀} {all} {out} {n} {at} {bit} {prior} S l out' prior' g bit' eg h e u k =
    let z : n - at - g ≡ n - (at + g) = omega arith in
    record {
      same = S.same ∙ ap (sets out at) e ∙ sets-after l (summed s w (n - at - g) bit' prior') out at (at + g) (ap (λ (k : ℕ). at + k) (sym eg)) ∙ rw (← u, z);
      long = k ∙ S.long;
      few = h;
    }

-- at the end: all of them are there
pub stored_end : {s : List ℕ} {w : ℕ} {out₀ all out : List ℕ} {n at bit : ℕ} {prior : List ℕ} → Storing s w out₀ all out n at bit prior
    → length all ≡ length out₀ → sets out at (summed s w (n - at) bit prior) ≡ all
stored_end {s} {w} {out₀} {all} S e = sym S.same ∙ sets_whole all out₀ e
