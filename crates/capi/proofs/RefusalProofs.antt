-- A refusal crosses to C as its number below 0, and nothing else does; so no C function but those of fields answers
-- -16. Assumes nothing.
use Rattle.std.proofs.Common.{◌≡◌, ℕ, zero, suc, ◌+◌, ◌-◌, ◌≤◌, Bool, true, false, cond, leb, List, [], ◌∷◌, length, pos, neg_ℤ, refl, ap}
use Rattle.bits.specs.Verdict.{Verdict, accepted, needs, declined, mapped}
use Rattle.bits.specs.Field.{room}
use Rattle.bits.specs.Refusals.{among, Refuses, gives, refuses, RefusesOr12, asks, NeverDeclines, NotMinus}
use Rattle.bits.proofs.VerdictLaws.{clash, width_yes}
use Rattle.bits.proofs.RefusalLaws.{within_refuses, remade, unlisted, unlisted_12}
use Rattle.bits.proofs.Theorems as bit
use Rattle.payload.specs.Lent.{answer_for}
use Rattle.payload.proofs.LentLaws.{answer_refuses}
use Rattle.payload.proofs.Theorems as pay
use Rattle.scene.proofs.RefusalProofs as draw
use Rattle.display.specs.ShownRules.{Request, showing, hiding, changed}
use Rattle.display.specs.ShownKept.{called}
use Rattle.display.proofs.RefusalProofs as disp
use Rattle.alignment.proofs.RefusalProofs as alignment
use Rattle.capi.specs.Answer.{code_of, numbered, truth}
use Rattle.capi.specs.ShownLists.{list_of, kept_plan, list_called}
use Rattle.capi.specs.Total.{plus, total_at}
use Rattle.capi.specs.Refusals.{ListRefusals, NeverInC, NeverSixteen, SumWidth}

-- ---- -16 is refusal 16

same_number : (k : ℕ) → neg_ℤ (pos k) ≡ neg_ℤ (pos 16) → k ≡ 16
same_number zero e = clash (cc)
same_number (suc k) e = let same : k ≡ 15 = cc in ap suc same

crossed : {A : Type 0} (v : Verdict A) (words : A → List ℕ) → code_of (mapped words v) ≡ neg_ℤ (pos 16) → v ≡ declined 16
unfolding code_of
crossed (accepted a) words e = clash (cc)
crossed (needs l) words e = clash (cc)
crossed (declined k) words e = ap declined (same_number k e)

numbered_sixteen : (v : Verdict ℕ) → numbered v ≡ neg_ℤ (pos 16) → v ≡ declined 16
numbered_sixteen (accepted n) e = clash (cc)
numbered_sixteen (needs l) e = clash (cc)
numbered_sixteen (declined k) e = ap declined (same_number k e)

-- ---- the functions

never_in_c : (A : Type 0) (ks : List ℕ) (v : Verdict A) → among 16 ks ≡ false → NeverDeclines 16 A ks v → NeverInC 16 A ks v
never_in_c A ks v out h words e = h (crossed v words e)

not_value : (words : List ℕ) → NotMinus 16 (code_of (accepted words))
unfolding code_of
not_value words e = clash (cc)

not_yes_no : (b : Bool) → NotMinus 16 (truth b)
not_yes_no true e = clash (cc)
not_yes_no false e = clash (cc)

-- lists of shown submeshes: 12, or what the calls of `display` refuse with
module _ {ks : List ℕ} (words entries : List ℕ) (count total : ℕ) (q : Request) where
  lists_refuse : Refuses ks (changed (called words (list_of entries count total) q))
      → (buffers : List (List ℕ)) → RefusesOr12 ks (answer_for (list_called words entries count total q) buffers)
  unfolding list_called answer_for
  lists_refuse r buffers = go (leb 64 (length entries))
    where
      go : (b : Bool)
          → RefusesOr12 ks
          (answer_for (cond b (kept_plan words (list_of entries count total) q) (needs (64 ∷ []))) buffers)
      go true = answer_refuses buffers (remade _ _ (called words (list_of entries count total) q) r)
      go false = asks (64 ∷ [])

pub list_refusals : ListRefusals
list_refusals =
    record {
      none_shown_law = λ buffers. answer_refuses buffers (gives _);
      show = λ words entries count total n buffers.
          lists_refuse words entries count total (showing n)
          ((disp.refusals).show words (list_of entries count total) n) buffers;
      hide = λ words entries count total n buffers.
          lists_refuse words entries count total (hiding n) ((disp.refusals).hide words (list_of entries count total) n)
          buffers;
    }

not_lists : (words entries : List ℕ) (count total : ℕ) (q : Request) (buffers : List (List ℕ))
    → NeverInC 16 _ [] (answer_for (list_called words entries count total q) buffers)
not_lists words entries count total (showing n) buffers f e =
    unlisted_12 16 refl (list_refusals.show words entries count total n buffers) (crossed _ f e)
not_lists words entries count total (hiding n) buffers f e =
    unlisted_12 16 refl (list_refusals.hide words entries count total n buffers) (crossed _ f e)

pub never_sixteen : NeverSixteen
never_sixteen =
    record {
      of_bits = bit.map_calls never_in_c never_in_c bit.never_sixteen;
      of_payload = pay.map_calls never_in_c never_in_c pay.never_sixteen;
      of_scene = λ c words e. draw.never_sixteen c (crossed _ words e);
      of_display =
          record {
            triangles = λ records buffers words e. (disp.never_sixteen).triangles records buffers (crossed _ words e);
            show = λ records s n words e. (disp.never_sixteen).show records s n (crossed _ words e);
            hide = λ records s n words e. (disp.never_sixteen).hide records s n (crossed _ words e);
            share_points = λ points wishes buffers words e.
                (disp.never_sixteen).share_points points wishes buffers (crossed _ words e);
          };
      of_alignment =
          record {
            look_up = λ s j asked buffers words e.
                (alignment.never_sixteen).look_up s j asked buffers (crossed _ words e);
          };
      none_shown_law = λ buffers f e. unlisted_12 16 refl (list_refusals.none_shown_law buffers) (crossed _ f e);
      lists = not_lists;
      run_on = λ limit last f e. (bit.never_sixteen).run_on limit last f (numbered_sixteen _ e);
      value = not_value;
      number = λ n e. clash (cc);
      yes_no = not_yes_no;
    }

-- ---- the sum of fields

plus_refuses : {ks : List ℕ} {v : Verdict (ℕ × ℕ)} {t : Verdict ℕ} → Refuses ks v → Refuses ks t → Refuses ks (plus v t)
unfolding plus
plus_refuses (gives a) (gives n) = gives _
plus_refuses (gives a) (refuses k h) = refuses k h
plus_refuses (refuses k h) r = refuses k h

total_refuses : (s : List ℕ) (w : ℕ) → w ≤ 32 → (n p : ℕ) → Refuses (3 ∷ []) (total_at s w n p)
unfolding total_at
total_refuses s w h zero p = gives 0
total_refuses s w h (suc n) p = plus_refuses (rw (width_yes w _ h) (within_refuses w (room s - p) _ 3 refl)) (total_refuses s w h n (p + w))

pub sum_width : SumWidth
sum_width s w n = bit.sixteen w _ (λ h. unlisted 16 refl (total_refuses s w h n 0))
