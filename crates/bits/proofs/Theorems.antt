-- The theorems of specs/Laws.antt and specs/Refusals.antt. Assumes nothing.
use Rattle.std.proofs.Common.{◌≡◌, ℕ, ◌+◌, ◌-◌, ◌*◌, ◌/◌, ◌%◌, ◌^◌, ◌<◌, ◌≤◌, false, ◌⊎◌, ◌↔◌, List, [], ◌∷◌, length, get_or, sym, refl, ap, ◌∙◌, inl, inr, mod-lt, arith, pow_pos}
use Rattle.bits.specs.Field.{field, room}
use Rattle.bits.specs.Put.{free, bits_put, field_put, field_put_answer}
use Rattle.bits.specs.Laws.{FieldLaws, ReadLaws, FieldGathered, FieldWidthLaws, RunningLaws, RunLaws, WidthLaws, FieldPutLaws}
use Rattle.bits.proofs.VerdictLaws.{le-or-lt, within_yes, width_yes, width_no}
use Rattle.bits.proofs.FieldLaws.{field_lt, field_split, field_bytes, field_window, field-append, field-append-right, field_inj}
use Rattle.bits.specs.Verdict.{Verdict, accepted, needs, declined, width_limited}
use Rattle.bits.specs.Number.{Moves, stepped_to, width_of}
use Rattle.bits.specs.Run.{RunSpells, zeros, read_run}
use Rattle.bits.specs.Header.{placed}
use Rattle.bits.specs.Refusals.{among, gives, Claim, EachCall, Refusals, NeverSixteen}
use Rattle.bits.proofs.ReadLaws.{one_by_bits, two_by_bits, field_held, one_gathered, two_gathered}
use Rattle.bits.proofs.NumberLaws.{moves_meaning, meaning_moves, ran_moves, moves_ran, stepped_in, moves_stepped, width_enough, width_least}
use Rattle.bits.proofs.RunLaws.{run_spells, spells_run}
use Rattle.bits.proofs.SummedLaws.{read_summed}
use Rattle.bits.proofs.PutLaws.{field_put_yes, field_put_no, field_put_wide, field_bits_put, before_bits_put, free_bits_put, after_bits_put, length-bits_put, field_word_put}
use Rattle.bits.proofs.RefusalLaws.{mapped_refuses, within_refuses, limited_refuses, width_refuses, width_asks, within_asks, next_refuses, run_refuses, header_then, unlisted, unlisted_12}

pub field_laws : FieldLaws
field_laws =
    record {
      bound = field_lt;
      split = field_split;
      local = field_bytes;
      window = field_window;
      behind = field-append;
      in_front_law = field-append-right;
      equal = field_inj;
    }

pub read_laws : ReadLaws
read_laws = record { one = one_by_bits; two = two_by_bits; held = field_held }

pub field-gathered : FieldGathered
field-gathered =
    record { one = λ s p w b. one_gathered s b p w; two = λ s p w b. two_gathered s b p w }

stepped_moves : (limit last f next : ℕ) → f < 2 ^ 32 → limit ≤ 2 ^ 32 → (stepped_to last f ≡ next) × (next < limit) → Moves f last next × (next < limit)
stepped_moves limit last f next hf hl (e, l) =
    ran_moves last f limit next (stepped_in last f limit hf hl (rw e l) ∙ ap accepted e)

pub running_laws : RunningLaws
running_laws =
    record {
      zigzag = λ f last next. (moves_meaning last f next, meaning_moves last f next);
      step = λ limit last f next. (ran_moves last f limit next, λ m. moves_ran last f limit next m.0 m.1);
      stepped = λ limit last f next hf hl. (stepped_moves limit last f next hf hl, λ m. (moves_stepped last f next m.0, m.1));
    }

pub run_laws : RunLaws
run_laws =
    record {
      reads = λ s w limit n p prior ns q o. (run_spells s w limit n p prior ns q o, back s w limit n p prior ns q o);
      hands_out = λ s w limit n p prior ns q h e. read_summed s w limit n p prior ns q h e;
    }
  where
    back : (s : List ℕ) (w limit n p : ℕ) (prior ns : List ℕ) (q : ℕ) → 0 < length prior
        → RunSpells s w limit p prior ns × (length ns ≡ n) × (q ≡ p + n * w)
        → read_run s w limit n p prior ≡ accepted (ns, q)
    back s w limit n p prior ns q o (r, l, e) =
        ap (λ (k : ℕ). read_run s w limit k p prior) (sym l) ∙ spells_run s w limit p prior ns o r
        ∙ ap (λ (k : ℕ). accepted (ns, k)) (ap (λ (k : ℕ). p + k * w) l ∙ sym e)

pub width_laws : WidthLaws
width_laws = record { enough = width_enough; least = width_least }

-- ---- the width of a field

-- 16 comes from the test alone where no step behind it gives it
pub sixteen : {A : Type 0} (w : ℕ) (v : Verdict A) → (w ≤ 32 → v ≡ declined 16 → ⊥) → (width_limited w v ≡ declined 16) ↔ (32 < w)
sixteen w v other = (told, width_no w v)
  where
    go : (w ≤ 32) ⊎ (32 < w) → width_limited w v ≡ declined 16 → 32 < w
    go (inl n) e = absurd (other n (sym (width_yes w v n) ∙ e))
    go (inr h) e = h

    told : width_limited w v ≡ declined 16 → 32 < w
    told e = go (le-or-lt w 32) e

pub field_width_laws : FieldWidthLaws
field_width_laws =
    record {
      read = λ s p w. sixteen w _ (λ n. unlisted {ks = 3 ∷ []} 16 refl (within_refuses w (room s - p) _ 3 refl));
      read_two = λ s p w. sixteen w _ (λ n. unlisted {ks = 3 ∷ []} 16 refl (within_refuses (2 * w) (room s - p) _ 3 refl));
      put_field = λ s p w. sixteen w _ (λ n. unlisted_12 {ks = []} 16 refl (within_asks (p + w) (8 * length s) tt _));
    }

-- ---- what is put into a buffer

module _ (s : List ℕ) (p w x : ℕ) where
  put_answer : w ≤ 32 → p + w ≤ 8 * length s → field_put_answer s p w ≡ accepted tt
  put_answer n h = width_yes w _ n ∙ within_yes (p + w) (8 * length s) tt (needs ((p + w + 7) / 8 ∷ [])) h

  refused_put : (field_put_answer s p w ≡ accepted tt → ⊥) → field_put s p w x ≡ s
  refused_put refused = go (le-or-lt w 32) (le-or-lt (p + w) (8 * length s))
    where
      go : (w ≤ 32) ⊎ (32 < w) → (p + w ≤ 8 * length s) ⊎ (8 * length s < p + w) → field_put s p w x ≡ s
      go (inl n) (inl h) = absurd (refused (put_answer n h))
      go (inl n) (inr h) = field_put_no s p w x h
      go (inr n) h = field_put_wide s p w x n

  length_put : length (field_put s p w x) ≡ length s
  length_put = go (le-or-lt w 32) (le-or-lt (p + w) (8 * length s))
    where
      go : (w ≤ 32) ⊎ (32 < w) → (p + w ≤ 8 * length s) ⊎ (8 * length s < p + w) → length (field_put s p w x) ≡ length s
      go (inl n) (inl h) = ap length (field_put_yes s p w x n h) ∙ length-bits_put s p w (x % 2 ^ w)
      go (inl n) (inr h) = ap length (field_put_no s p w x h)
      go (inr n) h = ap length (field_put_wide s p w x n)

  module _ (n : w ≤ 32) (h : p + w ≤ 8 * length s) where
    low_bits : x % 2 ^ w < 2 ^ w
    low_bits = mod-lt x (pow_pos w)

    is : field_put s p w x ≡ bits_put s p w (x % 2 ^ w)
    is = field_put_yes s p w x n h

pub field_put_laws : FieldPutLaws
field_put_laws =
    record {
      read_back = λ s p w x n h. ap (λ (t : List ℕ). field t p w) (is s p w x n h) ∙ field_bits_put s p w (x % 2 ^ w) h (low_bits s p w x n h);
      before = λ s p w x q u n h l. ap (λ (t : List ℕ). field t q u) (is s p w x n h) ∙ before_bits_put s p w (x % 2 ^ w) h (low_bits s p w x n h) q u l;
      free_bits = λ s p w x n h. ap (λ (t : List ℕ). field t (p + w) (free p w)) (is s p w x n h) ∙ free_bits_put s p w (x % 2 ^ w) h (low_bits s p w x n h);
      after = λ s p w x k n h l. ap (λ (t : List ℕ). get_or t k 0) (is s p w x n h) ∙ after_bits_put s p w (x % 2 ^ w) h k (omega arith);
      same_length = length_put;
      untouched = refused_put;
      word_back = field_word_put;
    }

-- ---- which refusals each call can give, of specs/Refusals.antt

pub refusals : Refusals
refusals =
    record {
      each = record {
        seek = λ s to. within_refuses to (length s) to 3 refl;
        skip = λ s p n. within_refuses (p + n) (length s) (p + n) 3 refl;
        u8 = λ s p. within_refuses (p + 1) (length s) _ 3 refl;
        u32 = λ s p. within_refuses (p + 4) (length s) _ 3 refl;
        box_header = λ s p. header_then refl refl s p placed (gives []) (λ type v r. mapped_refuses _ r);
        run_on = next_refuses refl;
        check_run = λ s limit count p. limited_refuses s refl (mapped_refuses _ (run_refuses refl refl s (width_of limit) limit count p (zeros 1)));
        check_fives = λ s limit count p. limited_refuses s refl (mapped_refuses _ (run_refuses refl refl s (width_of limit) limit (5 * count) p (zeros 5)));
        put_word = λ s p. within_asks (p + 4) (length s) tt _;
      };
      read = λ s p w. width_refuses w refl (within_refuses w (room s - p) _ 3 refl);
      read_two = λ s p w. width_refuses w refl (within_refuses (2 * w) (room s - p) _ 3 refl);
      put_field = λ s p w. width_asks w refl (within_asks (p + w) (8 * length s) tt _);
    }

-- of each call, none of which lists 16, what follows from something that is said of it
pub map_calls : {P O P' O' : Claim} → ((A : Type 0) (ks : List ℕ) (v : Verdict A) → among 16 ks ≡ false → P A ks v → P' A ks v)
    → ((A : Type 0) (ks : List ℕ) (v : Verdict A) → among 16 ks ≡ false → O A ks v → O' A ks v) → EachCall P O → EachCall P' O'
map_calls plain or-12 calls =
    record {
      seek = λ s to. plain _ _ _ refl (calls.seek s to);
      skip = λ s p n. plain _ _ _ refl (calls.skip s p n);
      u8 = λ s p. plain _ _ _ refl (calls.u8 s p);
      u32 = λ s p. plain _ _ _ refl (calls.u32 s p);
      box_header = λ s p. plain _ _ _ refl (calls.box_header s p);
      run_on = λ limit last f. plain _ _ _ refl (calls.run_on limit last f);
      check_run = λ s limit count p. plain _ _ _ refl (calls.check_run s limit count p);
      check_fives = λ s limit count p. plain _ _ _ refl (calls.check_fives s limit count p);
      put_word = λ s p. or-12 _ _ _ refl (calls.put_word s p);
    }

pub never_sixteen : NeverSixteen
never_sixteen = map_calls (λ A ks v out r. unlisted 16 out r) (λ A ks v out r. unlisted_12 16 out r) refusals.each
