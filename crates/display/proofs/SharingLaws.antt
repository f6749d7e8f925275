-- What the tests of the call tell: 26, or the shares. Assumes nothing.
use Prim.Native.Nat.{ℕ, ◌≤◌}
use mathlib.Core.Path.{◌≡◌, refl}
use mathlib.Core.List.{List}
use mathlib.Core.Bool.{Bool, true, false, cond, ◌&&◌}
use lib.Dec.{leb, ltb}
use lib.ListN.{length}
use borrow.Author.Tests.{le-leb, lt-ltb, leb-true, ltb-true}
use Rattle.bits.specs.Verdict.{accepted, declined}
use Rattle.bits.proofs.VerdictLaws.{both_true}
use Rattle.payload.specs.Lent.{in_items, answer_for}
use Rattle.payload.specs.MeshWrite.{all_below}
use Rattle.display.specs.Turns.{shared, shareable, sharing}
use Rattle.display.specs.TurnLaws.{Shareable, SharingExactly}
use Rattle.display.proofs.ShownListLaws.{below_told, below_yes}

module _ (p : ℕ) (ws : List ℕ) where
  pub not_shared : shareable p ws ≡ false → sharing p ws ≡ declined 26
  unfolding sharing
  not_shared e = rw e

  pub shares_made : shareable p ws ≡ true → sharing p ws ≡ accepted (shared p ws)
  unfolding sharing
  shares_made e = rw e

  told : shareable p ws ≡ true → Shareable p ws
  unfolding shareable
  told e =
      let a = both_true (leb 1 (length ws) && leb (length ws) 8 && ltb p 1000000) (all_below 1000000 ws) e in
      let b = both_true (leb 1 (length ws) && leb (length ws) 8) (ltb p 1000000) a.0 in
      let c = both_true (leb 1 (length ws)) (leb (length ws) 8) b.0 in
      record {
        some = leb-true 1 (length ws) c.0;
        few = leb-true (length ws) 8 c.1;
        points = ltb-true p 1000000 b.1;
        each_wish = below_told 1000000 ws a.1;
      }

  pub shareable_told : shareable p ws ≡ true → (length ws ≤ 8) × (all_below 1000000 ws ≡ true)
  shareable_told e = let t = told e in (t.few, below_yes 1000000 ws t.each_wish)

-- ---- exactly these are shared out

module _ (p : ℕ) (ws : List ℕ) where
  made : Shareable p ws → sharing p ws ≡ accepted (shared p ws)
  unfolding shareable
  made s =
      shares_made p ws
      (rw (le-leb 1 (length ws) s.some, le-leb (length ws) 8 s.few, lt-ltb p 1000000 s.points, below_yes 1000000 ws s.each_wish))

  twenty_six : (Shareable p ws → ⊥) → sharing p ws ≡ declined 26
  unfolding sharing
  twenty_six n = go (shareable p ws) (λ e. n (told p ws e))
    where
      go : (b : Bool) → (b ≡ true → ⊥) → cond b (accepted (shared p ws)) (declined 26) ≡ declined 26
      go true h = absurd (h refl)
      go false h = refl

  first : (buffers : List (List ℕ)) → (Shareable p ws → ⊥) → answer_for (in_items 1 (sharing p ws)) buffers ≡ declined 26
  unfolding answer_for
  first buffers n = rw (twenty_six n)

pub sharing_exactly : SharingExactly
sharing_exactly = record { made = made; twenty_six = twenty_six; first = λ p ws buffers n. first p ws buffers n }
