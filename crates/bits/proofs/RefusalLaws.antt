-- Which refusals a verdict can be: a law for each way in which verdicts are put together, and for what the calls read. Assumes nothing.
use Rattle.std.proofs.Common.{◌≡◌, ℕ, zero, suc, ◌+◌, ◌-◌, ◌*◌, ◌/◌, ◌%◌, Bool, true, false, cond, eqb, leb, List, [], ◌∷◌, length, get_or, sym}
use Rattle.bits.specs.Verdict.{Verdict, accepted, needs, declined, within, limited, width_limited, and_then, mapped}
use Rattle.bits.specs.Field.{field}
use Rattle.bits.proofs.VerdictLaws.{clash}
use Rattle.bits.specs.Number.{ran_on}
use Rattle.bits.specs.Header.{Item, list_end, box, extent_of, long_extent, sized_at, header_at}
use Rattle.bits.specs.Run.{complete, shift, read_run}
use Rattle.bits.specs.Refusals.{among, Refuses, gives, refuses, RefusesOr12, listed, asks, NeverDeclines}

module _ {ks : List ℕ} where
  -- ---- the ways in which verdicts are put together

  pub then_refuses : {A B : Type 0} {v : Verdict A} {f : A → Verdict B} → Refuses ks v → ((a : A) → Refuses ks (f a)) → Refuses ks (and_then v f)
  then_refuses (gives a) h = h a
  then_refuses (refuses k e) h = refuses k e

  pub mapped_refuses : {A B : Type 0} {v : Verdict A} (f : A → B) → Refuses ks v → Refuses ks (mapped f v)
  mapped_refuses f r = then_refuses r (λ x. gives (f x))

  -- what is made of a value does not matter
  pub remade : {A B C : Type 0} (f : A → B) (g : A → C) (v : Verdict A) → Refuses ks (mapped f v) → Refuses ks (mapped g v)
  remade f g (accepted a) r = gives (g a)
  remade f g (declined j) (refuses k h) = refuses k h
  remade f g (needs _) r = elim r [ ]

  pub cond_refuses : {A : Type 0} {u v : Verdict A} (b : Bool) → Refuses ks u → Refuses ks v → Refuses ks (cond b u v)
  cond_refuses true r q = r
  cond_refuses false r q = q

  pub within_refuses : {A : Type 0} (m n : ℕ) (a : A) (k : ℕ) → among k ks ≡ true → Refuses ks (within m n a (declined k))
  unfolding within
  within_refuses m n a k e = cond_refuses (leb m n) (gives a) (refuses k e)

  pub limited_refuses : {A : Type 0} {v : Verdict A} (s : List ℕ) → among 2 ks ≡ true → Refuses ks v → Refuses ks (limited s v)
  unfolding limited
  limited_refuses s e r = cond_refuses (leb (length s) 67108864) r (refuses 2 e)

  pub width_refuses : {A : Type 0} {v : Verdict A} (w : ℕ) → among 16 ks ≡ true → Refuses ks v → Refuses ks (width_limited w v)
  unfolding width_limited
  width_refuses w e r = cond_refuses (leb w 32) r (refuses 16 e)

  pub width_asks : {A : Type 0} {v : Verdict A} (w : ℕ) → among 16 ks ≡ true → RefusesOr12 ks v → RefusesOr12 ks (width_limited w v)
  unfolding width_limited
  width_asks {A} {v} w e r = go (leb w 32)
    where
      go : (b : Bool) → RefusesOr12 ks (cond b v (declined 16))
      go true = r
      go false = listed (refuses 16 e)

  -- room, or the length that is needed
  pub within_asks : {A : Type 0} (m n : ℕ) (a : A) (l : List ℕ) → RefusesOr12 ks (within m n a (needs l))
  unfolding within
  within_asks m n a l = go (leb m n)
    where
      go : (b : Bool) → RefusesOr12 ks (cond b (accepted a) (needs l))
      go true = listed (gives a)
      go false = asks l

  -- ---- what is read

  pub complete_refuses : {A : Type 0} {v : Verdict A} (s : List ℕ) (e : ℕ) → among 3 ks ≡ true → Refuses ks v → Refuses ks (complete s e v)
  unfolding complete
  complete_refuses s e three r = cond_refuses (leb e (8 * length s)) r (refuses 3 three)

  pub next_refuses : among 8 ks ≡ true → (limit last f : ℕ) → Refuses ks (ran_on limit last f)
  unfolding ran_on
  next_refuses eight limit last f =
      let below : (n : ℕ) → Refuses ks (within (n + 1) limit n (declined 8)) = λ n. within_refuses (n + 1) limit n 8 eight in
      cond_refuses (eqb (f % 2) 0) (below (last + f / 2))
      (cond_refuses (leb ((f + 1) / 2) last) (below (last - (f + 1) / 2)) (refuses 8 eight))

  pub run_refuses : among 3 ks ≡ true → among 8 ks ≡ true → (s : List ℕ) (w limit n p : ℕ) (prior : List ℕ) → Refuses ks (read_run s w limit n p prior)
  unfolding read_run
  run_refuses three eight s w limit zero p prior = gives ([], p)
  run_refuses three eight s w limit (suc n) p prior =
      complete_refuses s (p + w) three
      (then_refuses (next_refuses eight limit (get_or prior 0 0) (field s p w)) (λ next.
      mapped_refuses (λ x. (next ∷ x.0, x.1)) (run_refuses three eight s w limit n (p + w) (shift prior next))))

  extent_refuses : among 6 ks ≡ true → (n p h size : ℕ) → Refuses ks (extent_of n p h size)
  unfolding extent_of
  extent_refuses six n p h size =
      cond_refuses (leb h size) (within_refuses (p + size) n (p + h, p + size) 6 six) (refuses 6 six)

  long_refuses : among 3 ks ≡ true → among 6 ks ≡ true → (s : List ℕ) (p : ℕ) → Refuses ks (long_extent s p)
  unfolding long_extent
  long_refuses three six s p =
      then_refuses (within_refuses (p + 8 + 8) (length s) (field s (8 * (p + 8)) 64, p + 8 + 8) 3 three)
      (λ x. extent_refuses six (length s) p 16 x.0)

  -- what follows a header, of the list's end and of a box, whose extent may be refused
  pub header_then : {B : Type 0} → among 3 ks ≡ true → among 6 ks ≡ true → (s : List ℕ) (p : ℕ) (f : Item → Verdict B)
      → Refuses ks (f list_end) → ((type : ℕ) (v : Verdict (ℕ × ℕ)) → Refuses ks v → Refuses ks (f (box type v)))
      → Refuses ks (and_then (header_at s p) f)
  unfolding header_at sized_at
  header_then three six s p f end each = go (leb (p + 8) (length s)) (eqb size 1)
    where
      size : ℕ
      size = field s (8 * p) 32

      type : ℕ
      type = field s (8 * (p + 4)) 32

      short : (v : Verdict (ℕ × ℕ)) → Refuses ks v → Refuses ks (and_then (mapped (λ e. box type (accepted e)) v) f)
      short v (gives e) = each type (accepted e) (gives e)
      short v (refuses k h) = refuses k h

      go : (b c : Bool)
          → Refuses ks (and_then (cond b (cond c (accepted (box type (long_extent s p)))
          (mapped (λ e. box type (accepted e)) (extent_of (length s) p 8 size))) (accepted list_end)) f)
      go false c = end
      go true true = each type (long_extent s p) (long_refuses three six s p)
      go true false = short (extent_of (length s) p 8 size) (extent_refuses six (length s) p 8 size)

  -- ---- what is not listed is no answer

  pub unlisted : {A : Type 0} {v : Verdict A} (k : ℕ) → among k ks ≡ false → Refuses ks v → NeverDeclines k A ks v
  unlisted k out (gives a) e = clash (cc)
  unlisted k out (refuses j h) e =
      let same : j ≡ k = cc in
      let both : among k ks ≡ true = rw (sym same) h in
      clash (cc)

  pub unlisted_12 : {A : Type 0} {v : Verdict A} (k : ℕ) → among k ks ≡ false → RefusesOr12 ks v → NeverDeclines k A ks v
  unlisted_12 k out (listed r) e = unlisted k out r e
  unlisted_12 k out (asks l) e = clash (cc)
