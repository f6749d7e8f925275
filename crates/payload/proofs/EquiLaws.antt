-- Kind 0 is read exactly where it is spelled, and reading and writing undo each other. Assumes nothing.
use Rattle.std.proofs.Common.{◌≡◌, ℕ, ◌+◌, ◌*◌, ◌≤◌, true, ◌↔◌, List, [], ◌∷◌, length, sym, ap, ◌∙◌, arith}
use Rattle.bits.specs.Verdict.{Verdict, accepted}
use Rattle.bits.specs.Field.{field}
use Rattle.bits.specs.Read.{number_at}
use Rattle.bits.proofs.VerdictLaws.{clash, tested_value, then_value, then_yes}
use Rattle.payload.specs.Crop.{usable}
use Rattle.payload.specs.Payload.{full_box}
use Rattle.payload.specs.Words.{word_bytes}
use Rattle.payload.specs.Equi.{crop_of, EquiSpells, four_words, equi_fields, equi_usable, equi_read, equi_bytes, equi_written}
use Rattle.payload.specs.Laws.{EquiReads, EquiWrites, Equi32, PlainBytes}
use Rattle.payload.specs.declared.equi.EquiFields.{EquiFields}
use Rattle.payload.proofs.PayloadLaws.{number_there, number_read, full_box_there, full_box_read, Early, early_then, early_number, early_box}
use Rattle.payload.proofs.ReadLaws.{reads_laws, writes_laws}
use Rattle.payload.proofs.WordLaws.{length-word_bytes, field-word_bytes, first_byte, first_word, same_words}

-- ---- four words in a row

module _ (s : List ℕ) (p : ℕ) where
  words_there : p + 16 ≤ length s
      → four_words s p ≡ accepted (record { t = field s (8 * p) 32; b = field s (8 * (p + 4)) 32; l = field s (8 * (p + 4 + 4)) 32; r = field s (8 * (p + 4 + 4 + 4)) 32 })
  unfolding four_words
  words_there h =
      rw (number_there 4 s p (omega arith), number_there 4 s (p + 4) (omega arith), number_there 4 s (p + 4 + 4) (omega arith), number_there 4 s (p + 4 + 4 + 4) (omega arith))

  words_read : (ρ : EquiFields) → four_words s p ≡ accepted ρ
      → (p + 16 ≤ length s) × (field s (8 * p) 32 ≡ ρ.t) × (field s (8 * (p + 4)) 32 ≡ ρ.b) × (field s (8 * (p + 4 + 4)) 32 ≡ ρ.l) × (field s (8 * (p + 4 + 4 + 4)) 32 ≡ ρ.r)
  unfolding four_words
  words_read ρ e =
      let a = then_value (number_at 4 s p) _ ρ e in
      let q = number_read 4 s p a.0.0 a.0.1 a.1 in
      let b = then_value (number_at 4 s a.0.1) _ ρ a.2 in
      let r = number_read 4 s a.0.1 b.0.0 b.0.1 b.1 in
      let c = then_value (number_at 4 s b.0.1) _ ρ b.2 in
      let t = number_read 4 s b.0.1 c.0.0 c.0.1 c.1 in
      let d = then_value (number_at 4 s c.0.1) _ ρ c.2 in
      let u = number_read 4 s c.0.1 d.0.0 d.0.1 d.1 in
      let z : ◌≡◌ {A = Verdict EquiFields} (accepted (record { t = a.0.0; b = b.0.0; l = c.0.0; r = d.0.0 })) (accepted ρ) = d.2 in
      let w : ◌≡◌ {A = EquiFields} (record { t = a.0.0; b = b.0.0; l = c.0.0; r = d.0.0 }) ρ = cc in
      let e₁ : p + 4 ≡ a.0.1 = q.2 in
      let e₂ : p + 4 + 4 ≡ b.0.1 = omega (arith, r.2) in
      let e₃ : p + 4 + 4 + 4 ≡ c.0.1 = omega (arith, t.2) in (
        omega (arith, u.0),
        q.1 ∙ ap (λ (x : EquiFields). x.t) w,
        ap (λ (k : ℕ). field s (8 * k) 32) e₁ ∙ r.1 ∙ ap (λ (x : EquiFields). x.b) w,
        ap (λ (k : ℕ). field s (8 * k) 32) e₂ ∙ t.1 ∙ ap (λ (x : EquiFields). x.l) w,
        ap (λ (k : ℕ). field s (8 * k) 32) e₃ ∙ u.1 ∙ ap (λ (x : EquiFields). x.r) w,
      )

-- ---- the crop's test

usable_yes : (ρ : EquiFields) → usable (crop_of ρ) ≡ true → equi_usable ρ ≡ accepted ρ
unfolding equi_usable
usable_yes ρ h = rw h

pub usable-read : (ρ ρ' : EquiFields) → equi_usable ρ ≡ accepted ρ' → (usable (crop_of ρ) ≡ true) × (ρ ≡ ρ')
unfolding equi_usable
usable-read ρ ρ' e =
    let t = tested_value (usable (crop_of ρ)) (accepted ρ) 10 ρ' e in
    let d = t.1 in
    (t.0, cc)

-- ---- both ways

spelled : (ρ : EquiFields) (s : List ℕ) → equi_read s ≡ accepted ρ → EquiSpells ρ s
unfolding equi_fields
spelled ρ s e =
    let a = then_value (equi_fields s) equi_usable ρ e in
    let u = usable-read a.0 ρ a.2 in
    let b = then_value (full_box s) (four_words s) a.0 a.1 in
    let h = full_box_read s b.0 b.1 in
    let f : four_words s 4 ≡ accepted a.0 = rw h.2 at b.2 in
    let w = words_read s 4 a.0 f in
    let q = u.1 in
    record {
      whole = w.0;
      version = h.1;
      top = w.1 ∙ ap (λ (x : EquiFields). x.t) q;
      bottom = w.2 ∙ ap (λ (x : EquiFields). x.b) q;
      left = w.3 ∙ ap (λ (x : EquiFields). x.l) q;
      right = w.4 ∙ ap (λ (x : EquiFields). x.r) q;
      usable_crop = ap (λ (x : EquiFields). usable (crop_of x)) (sym q) ∙ u.0;
    }

four : {a a' b b' c c' d d' : ℕ} → a ≡ a' → b ≡ b' → c ≡ c' → d ≡ d'
    → ◌≡◌ {A = EquiFields} (record { t = a; b = b; l = c; r = d }) (record { t = a'; b = b'; l = c'; r = d' })
four p q r s = cc

read_back : (ρ : EquiFields) (s : List ℕ) → EquiSpells ρ s → equi_read s ≡ accepted ρ
unfolding equi_fields
read_back ρ s e =
    let l : 20 ≤ length s = e.whole in
    let f : equi_fields s ≡ accepted ρ =
    then_yes (full_box s) (four_words s) 4 (full_box_there s (omega arith) e.version)
    ∙ words_there s 4 (omega arith)
    ∙ ap (λ (x : EquiFields). accepted x) (four e.top e.bottom e.left e.right) in
    then_yes (equi_fields s) equi_usable ρ f ∙ usable_yes ρ e.usable_crop

both : (ρ : EquiFields) (s : List ℕ) → (equi_read s ≡ accepted ρ) ↔ EquiSpells ρ s
both ρ s = (spelled ρ s, read_back ρ s)

pub equi_reads : EquiReads
equi_reads = reads_laws equi_read both

-- ---- writing

written_is : (ρ : EquiFields) (s : List ℕ) → equi_written ρ ≡ accepted s → (usable (crop_of ρ) ≡ true) × (equi_bytes ρ ≡ s)
unfolding equi_written
written_is ρ s e =
    let t = tested_value (usable (crop_of ρ)) (accepted (equi_bytes ρ)) 10 s e in
    let d = t.1 in
    (t.0, cc)

bytes_spell : (ρ : EquiFields) → Equi32 ρ → usable (crop_of ρ) ≡ true → EquiSpells ρ (equi_bytes ρ)
bytes_spell ρ i u =
    let ws : List ℕ = 0 ∷ ρ.t ∷ ρ.b ∷ ρ.l ∷ ρ.r ∷ [] in
    record {
      whole = omega (arith, length-word_bytes ws);
      version = first_byte (word_bytes ws) (field-word_bytes ws 0 (omega arith) (omega arith));
      top = field-word_bytes ws 1 (omega arith) i.top;
      bottom = field-word_bytes ws 2 (omega arith) i.bottom;
      left = field-word_bytes ws 3 (omega arith) i.left;
      right = field-word_bytes ws 4 (omega arith) i.right;
      usable_crop = u;
    }

written_spells : (ρ : EquiFields) (s : List ℕ) → Equi32 ρ → equi_written ρ ≡ accepted s → EquiSpells ρ s
written_spells ρ s i e = let w = written_is ρ s e in rw (← w.1) (bytes_spell ρ i w.0)

written_back : (ρ : EquiFields) (s : List ℕ) → PlainBytes 20 s → EquiSpells ρ s → equi_written ρ ≡ accepted s
unfolding equi_written
written_back ρ s p e =
    rw e.usable_crop
    (ap (λ (x : List ℕ). accepted x)
    (sym (same_words s (0 ∷ ρ.t ∷ ρ.b ∷ ρ.l ∷ ρ.r ∷ []) p.bytes p.size (first_word s e.version p.free, (e.top, (e.bottom, (e.left, (e.right, tt))))))))

pub equi_writes : EquiWrites
equi_writes = writes_laws both written_spells written_back

-- ---- the fields are declined only with 3 or 4

pub fields-refusal : (s : List ℕ) → Early (equi_fields s)
unfolding equi_fields four_words
fields-refusal s =
    early_then (full_box s) (four_words s) (early_box s) (λ p.
    early_then (number_at 4 s p) _ (early_number 4 s p) (λ t.
    early_then (number_at 4 s t.1) _ (early_number 4 s t.1) (λ b.
    early_then (number_at 4 s b.1) _ (early_number 4 s b.1) (λ l.
    early_then (number_at 4 s l.1) _ (early_number 4 s l.1) (λ r k e. clash (cc))))))
