-- Kind 1 is read exactly where it is spelled, and reading and writing undo each other. Assumes nothing.
use Rattle.std.proofs.Common.{◌≡◌, ℕ, ◌+◌, ◌*◌, ◌^◌, ◌<◌, ◌≤◌, eqb, leb, ◌↔◌, List, [], ◌∷◌, length, sym, ap, ◌∙◌, arith, eqb-true, le-leb, leb-true}
use Rattle.bits.specs.Verdict.{accepted, declined, and_then}
use Rattle.bits.specs.Field.{field}
use Rattle.bits.specs.Read.{number_at}
use Rattle.bits.proofs.VerdictLaws.{tested_value, within_yes, within_value, then_value, then_yes}
use Rattle.payload.specs.Payload.{full_box}
use Rattle.payload.specs.Words.{word_bytes}
use Rattle.payload.specs.Cbmp.{CbmpSpells, padding_usable, layout_then_padding, cbmp_read, cbmp_bytes, cbmp_written}
use Rattle.payload.specs.Laws.{CbmpReads, CbmpWrites, PlainBytes}
use Rattle.payload.proofs.PayloadLaws.{number_there, number_read, full_box_there, full_box_read}
use Rattle.payload.proofs.ReadLaws.{reads_laws, writes_laws}
use Rattle.payload.proofs.WordLaws.{length-word_bytes, field-word_bytes, first_byte, first_word, same_words}

-- ---- the layout and the padding

module _ (s : List ℕ) (at : ℕ) where
  rest_there : at + 8 ≤ length s → field s (8 * at) 32 ≡ 0 → (p : ℕ) → field s (8 * (at + 4)) 32 ≡ p → p ≤ 4096 → layout_then_padding s at ≡ accepted p
  unfolding layout_then_padding
  rest_there h z p e l = rw (number_there 4 s at (omega arith), z, number_there 4 s (at + 4) (omega arith), e) (within_yes p 4096 p (declined 5) l)

  rest_read : (p : ℕ) → layout_then_padding s at ≡ accepted p → (at + 8 ≤ length s) × (field s (8 * at) 32 ≡ 0) × (field s (8 * (at + 4)) 32 ≡ p) × (p ≤ 4096)
  unfolding layout_then_padding
  rest_read p e =
      let a = then_value (number_at 4 s at) _ p e in
      let r = number_read 4 s at a.0.0 a.0.1 a.1 in
      let t = tested_value (eqb a.0.0 0) (and_then (number_at 4 s a.0.1) (λ v. padding_usable v.0)) 5 p a.2 in
      let b = then_value (number_at 4 s a.0.1) (λ v. padding_usable v.0) p t.1 in
      let q = number_read 4 s a.0.1 b.0.0 b.0.1 b.1 in
      let w = within_value b.0.0 4096 b.0.0 5 p b.2 in
      (omega (arith, q.0, r.2), r.1 ∙ eqb-true a.0.0 0 t.0, ap (λ (i : ℕ). field s (8 * i) 32) r.2 ∙ q.1 ∙ w.1, omega (arith, w.0, w.1))

-- ---- both ways

spelled : (p : ℕ) (s : List ℕ) → cbmp_read s ≡ accepted p → CbmpSpells p s
unfolding cbmp_read
spelled p s e =
    let a = then_value (full_box s) (layout_then_padding s) p e in
    let h = full_box_read s a.0 a.1 in
    let f : layout_then_padding s 4 ≡ accepted p = rw h.2 at a.2 in
    let w = rest_read s 4 p f in
    record { whole = w.0; version = h.1; layout = w.1; padding = w.2; limit = w.3 }

read_back : (p : ℕ) (s : List ℕ) → CbmpSpells p s → cbmp_read s ≡ accepted p
unfolding cbmp_read
read_back p s e =
    let l : 12 ≤ length s = e.whole in
    then_yes (full_box s) (layout_then_padding s) 4 (full_box_there s (omega arith) e.version) ∙ rest_there s 4 (omega arith) e.layout p e.padding e.limit

both : (p : ℕ) (s : List ℕ) → (cbmp_read s ≡ accepted p) ↔ CbmpSpells p s
both p s = (spelled p s, read_back p s)

pub cbmp_reads : CbmpReads
cbmp_reads = reads_laws cbmp_read both

-- ---- writing

written_is : (p : ℕ) (s : List ℕ) → cbmp_written p ≡ accepted s → (p ≤ 4096) × (cbmp_bytes p ≡ s)
unfolding cbmp_written
written_is p s e =
    let t = tested_value (leb p 4096) (accepted (cbmp_bytes p)) 5 s e in
    let d = t.1 in
    (leb-true p 4096 t.0, cc)

bytes_spell : (p : ℕ) → p ≤ 4096 → CbmpSpells p (cbmp_bytes p)
bytes_spell p h =
    let ws : List ℕ = 0 ∷ 0 ∷ p ∷ [] in
    record {
      whole = omega (arith, length-word_bytes ws);
      version = first_byte (word_bytes ws) (field-word_bytes ws 0 (omega arith) (omega arith));
      layout = field-word_bytes ws 1 (omega arith) (omega arith);
      padding = field-word_bytes ws 2 (omega arith) (omega arith);
      limit = h;
    }

written_spells : (p : ℕ) (s : List ℕ) → p < 2 ^ 32 → cbmp_written p ≡ accepted s → CbmpSpells p s
written_spells p s i e = let w = written_is p s e in rw (← w.1) (bytes_spell p w.0)

written_back : (p : ℕ) (s : List ℕ) → PlainBytes 12 s → CbmpSpells p s → cbmp_written p ≡ accepted s
unfolding cbmp_written
written_back p s f e =
    rw (le-leb p 4096 e.limit)
    (ap (λ (x : List ℕ). accepted x) (sym (same_words s (0 ∷ 0 ∷ p ∷ []) f.bytes f.size (first_word s e.version f.free, (e.layout, (e.padding, tt))))))

pub cbmp_writes : CbmpWrites
cbmp_writes = writes_laws both written_spells written_back
