-- The theorems about this crate's definitions, by name. Their proofs are in proofs/Theorems.antt and
-- proofs/Marked.antt.
use Rattle.std.specs.Prelude.{◌≡◌, ℕ, ◌+◌, ◌-◌, ◌*◌, ◌/◌, ◌%◌, ◌^◌, ◌<◌, ◌≤◌, ◌↔◌, List, [], ◌∷◌, ◌++◌, map, length}
use Rattle.std.specs.Prelude.{pos, negsuc, ◌+ℤ◌, ◌≢◌, slice_index}
use Rattle.bits.specs.Verdict.{accepted, declined, width_limited}
use Rattle.bits.specs.Field.{field, held_bits}
use Rattle.bits.specs.Read.{field_at, two_at, bit_by_bit, two_bit_by_bit, gathered_at, two_gathered_at}
use Rattle.bits.specs.Number.{meaning, Moves, ran_on, stepped_to, width_of}
use Rattle.bits.specs.Run.{RunSpells, read_run, summed}
use Rattle.bits.specs.Put.{free, field_put, field_put_answer, word_put}

-- every element is a byte
abbrev pub Bytes : List ℕ → Type 0
Bytes s = (k : ℕ) → slice_index s k < 256

-- fields, for an arbitrary width
pub record FieldLaws : Type 0 where
  -- a field of w bits is below 2^w
  pub bound : (s : List ℕ) (p w : ℕ) → field s p w < 2 ^ w
  -- a field in two parts
  pub split : (s : List ℕ) (p a b : ℕ) → field s p (a + b) ≡ field s p a * 2 ^ b + field s (p + a) b
  -- only the bytes that it touches matter
  pub local : (s t : List ℕ) (p w : ℕ) → ((k : ℕ) → p / 8 ≤ k → 8 * k < p + w → slice_index s k ≡ slice_index t k)
      → field s p w ≡ field t p w
  -- a field taken out of a window that holds it, with a bits before it and r after
  pub window : (s : List ℕ) (p a w r : ℕ) → field s p (a + w + r) / 2 ^ r % 2 ^ w ≡ field s (p + a) w
  -- bytes added behind change nothing, bytes added in front move it
  pub behind : (s t : List ℕ) (p w : ℕ) → p + w ≤ 8 * length s → field (s ++ t) p w ≡ field s p w
  pub in_front_law : (s t : List ℕ) (p w : ℕ) → field (s ++ t) (8 * length s + p) w ≡ field t p w
  -- equal bits of equal length are equal bytes
  pub equal : (s t : List ℕ) → length s ≡ length t → Bytes s → Bytes t
      → field s 0 (8 * length s) ≡ field t 0 (8 * length t) → s ≡ t

-- Reads, for an arbitrary width, place and slice: at the start of the data, inside it, at its end and past it.
pub record ReadLaws : Type 0 where
  -- one field, and two, give what w bits read one after the other give, and go on where those do; 16 above 32 bits
  pub one : (s : List ℕ) (p w : ℕ) → field_at s p w ≡ width_limited w (bit_by_bit s p w)
  pub two : (s : List ℕ) (p w : ℕ) → two_at s p w ≡ width_limited w (two_bit_by_bit s p w)
  -- a field that ends r bits before bit q, taken out of the bits that five bytes hold before it
  pub held : (s : List ℕ) (p w r : ℕ) → w + r ≤ held_bits (p + w + r)
      → field s (p + w + r - held_bits (p + w + r)) (held_bits (p + w + r)) / 2 ^ r % 2 ^ w ≡ field s p w

-- A field gathered from whole bytes, each taken once and at most five for a field, is the number that its bits make one
-- after the other, and the next place is theirs. For every width: inside the data, at its end and past it, and at its
-- start, where fewer than five bytes end with the field. Two fields alike.
pub record FieldGathered : Type 0 where
  pub one : (s : List ℕ) (p w : ℕ) → Bytes s → gathered_at s p w ≡ width_limited w (bit_by_bit s p w)
  pub two : (s : List ℕ) (p w : ℕ) → Bytes s → two_gathered_at s p w ≡ width_limited w (two_bit_by_bit s p w)

-- The width of a field is tested first: the answer is 16 exactly where it is above 32, whatever the data hold, few or
-- none, and wherever the place is.
pub record FieldWidthLaws : Type 0 where
  pub read : (s : List ℕ) (p w : ℕ) → (field_at s p w ≡ declined 16) ↔ (32 < w)
  pub read_two : (s : List ℕ) (p w : ℕ) → (two_at s p w ≡ declined 16) ↔ (32 < w)
  pub put_field : (s : List ℕ) (p w : ℕ) → (field_put_answer s p w ≡ declined 16) ↔ (32 < w)

-- a running number: the step, `Moves` and what the field means say the same
pub record RunningLaws : Type 0 where
  pub zigzag : (f last next : ℕ) → Moves f last next ↔ (pos last +ℤ meaning f ≡ pos next)
  pub step : (limit last f next : ℕ) → (ran_on limit last f ≡ accepted next) ↔ (Moves f last next × (next < limit))
  -- the step in 64 bits, as the loops take it and hold it against the limit once
  pub stepped : (limit last f next : ℕ) → f < 2 ^ 32 → limit ≤ 2 ^ 32
      → ((stepped_to last f ≡ next) × (next < limit)) ↔ (Moves f last next × (next < limit))

-- a run: n fields of width w from bit p on, and the running numbers that `prior` starts with
pub record RunLaws : Type 0 where
  -- it is read exactly where it is spelled
  pub reads : (s : List ℕ) (w limit n p : ℕ) (prior ns : List ℕ) (q : ℕ) → 0 < length prior
      → (read_run s w limit n p prior ≡ accepted (ns, q))
      ↔ (RunSpells s w limit p prior ns × (length ns ≡ n) × (q ≡ p + n * w))
  -- and the numbers that are handed out are then those that were read
  pub hands_out : (s : List ℕ) (w limit n p : ℕ) (prior ns : List ℕ) (q : ℕ) → limit ≤ 65536
      → read_run s w limit n p prior ≡ accepted (ns, q)
      → summed s w n p prior ≡ ns

-- w(c) is the least w with 2^w at least 2 * c
pub record WidthLaws : Type 0 where
  pub enough : (c : ℕ) → 2 * c ≤ 2 ^ width_of c
  pub least : (c v : ℕ) → 2 * c ≤ 2 ^ v → width_of c ≤ v

-- a field of at most 32 bits that fits, put into a buffer
pub record FieldPutLaws : Type 0 where
  pub read_back : (s : List ℕ) (p w x : ℕ) → w ≤ 32 → p + w ≤ 8 * length s
      → field (field_put s p w x) p w ≡ x % 2 ^ w
  pub before : (s : List ℕ) (p w x q u : ℕ) → w ≤ 32 → p + w ≤ 8 * length s → q + u ≤ p
      → field (field_put s p w x) q u ≡ field s q u
  pub free_bits : (s : List ℕ) (p w x : ℕ) → w ≤ 32 → p + w ≤ 8 * length s
      → field (field_put s p w x) (p + w) (free p w) ≡ 0
  pub after : (s : List ℕ) (p w x k : ℕ) → w ≤ 32 → p + w ≤ 8 * length s → (p + w + 7) / 8 ≤ k
      → slice_index (field_put s p w x) k ≡ slice_index s k
  pub same_length : (s : List ℕ) (p w x : ℕ) → length (field_put s p w x) ≡ length s
  -- and what is refused, by 16 or by 12, changes nothing
  pub untouched : (s : List ℕ) (p w x : ℕ) → (field_put_answer s p w ≢ accepted tt) → field_put s p w x ≡ s
  -- a word
  pub word_back : (s : List ℕ) (p x : ℕ) → p + 4 ≤ length s → x < 2 ^ 32 → field (word_put s p x) (8 * p) 32 ≡ x

-- m2 and m3 of document 01, with the ends of the range
pub record Marked : Type 0 where
  pub m2 : map width_of (1 ∷ 2 ∷ 4 ∷ 5 ∷ 10000 ∷ 32000 ∷ []) ≡ 1 ∷ 2 ∷ 3 ∷ 4 ∷ 15 ∷ 16 ∷ []
  pub m2_ends : map width_of (0 ∷ 4294967295 ∷ []) ≡ 0 ∷ 33 ∷ []
  pub m3 : map meaning (0 ∷ 1 ∷ 2 ∷ 3 ∷ []) ≡ pos 0 ∷ negsuc 0 ∷ pos 1 ∷ negsuc 1 ∷ []
  pub m3_ends : map meaning (4294967294 ∷ 4294967295 ∷ []) ≡ pos 2147483647 ∷ negsuc 2147483647 ∷ []
