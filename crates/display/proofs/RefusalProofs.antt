-- Which refusals each call can give. Assumes nothing.
use mathlib.Core.Path.{refl}
use mathlib.Core.List.{List, [], ◌∷◌}
use Prim.Native.Nat.{ℕ}
use lib.Dec.{ltb}
use lib.ListN.{length}
use Rattle.bits.specs.Refusals.{among, Refuses, gives, refuses}
use Rattle.bits.proofs.RefusalLaws.{cond_refuses, mapped_refuses, unlisted, unlisted_12}
use Rattle.payload.proofs.LentLaws.{answer_refuses}
use Rattle.display.specs.Triangles.{records_usable, triangles_made}
use Rattle.display.specs.ShownRules.{showing, hiding, is_record, ruled}
use Rattle.display.specs.ShownKept.{shown_numbers, shown_usable, called}
use Rattle.display.specs.Turns.{shareable, sharing}
use Rattle.display.specs.Refusals.{Refusals, NeverSixteen}
use Rattle.display.specs.declared.shown.Shown.{Shown}

made_refuses : (words : List ℕ) → Refuses (15 ∷ []) (triangles_made words)
unfolding triangles_made
made_refuses words = cond_refuses (records_usable words) (gives _) (refuses 15 refl)

module _ (words : List ℕ) (s : Shown) (n : ℕ) where
  show_refuses : Refuses (19 ∷ 21 ∷ []) (called words s (showing n))
  unfolding called ruled
  show_refuses =
      cond_refuses (shown_usable words s)
      (cond_refuses (is_record words n)
      (cond_refuses (among n (shown_numbers s)) (refuses 19 refl)
      (cond_refuses (ltb (length (shown_numbers s)) 64) (gives _) (refuses 21 refl)))
      (refuses 19 refl))
      (refuses 19 refl)

  hide_refuses : Refuses (19 ∷ 20 ∷ []) (called words s (hiding n))
  unfolding called ruled
  hide_refuses =
      cond_refuses (shown_usable words s)
      (cond_refuses (is_record words n) (cond_refuses (among n (shown_numbers s)) (gives _) (refuses 20 refl))
      (refuses 19 refl))
      (refuses 19 refl)

sharing_refuses : (points : ℕ) (wishes : List ℕ) → Refuses (26 ∷ []) (sharing points wishes)
unfolding sharing
sharing_refuses points wishes = cond_refuses (shareable points wishes) (gives _) (refuses 26 refl)

pub refusals : Refusals
refusals =
    record {
      triangles = λ words buffers. answer_refuses buffers (mapped_refuses _ (made_refuses words));
      show = λ words s n. mapped_refuses _ (show_refuses words s n);
      hide = λ words s n. mapped_refuses _ (hide_refuses words s n);
      share_points = λ points wishes buffers.
          answer_refuses buffers (mapped_refuses _ (sharing_refuses points wishes));
    }

pub never_sixteen : NeverSixteen
never_sixteen =
    record {
      triangles = λ words buffers. unlisted_12 16 refl (refusals.triangles words buffers);
      show = λ words s n. unlisted 16 refl (refusals.show words s n);
      hide = λ words s n. unlisted 16 refl (refusals.hide words s n);
      share_points = λ points wishes buffers. unlisted_12 16 refl (refusals.share_points points wishes buffers);
    }
