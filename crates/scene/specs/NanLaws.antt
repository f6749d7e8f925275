-- Which floats the scene call draws: none is a NaN or an infinity. The proof is in proofs/NanProofs.antt.
use Rattle.std.specs.Prelude.{ℕ, ◌≡◌, true}
use mathlib.Core.List.{Memᴰ}
use Rattle.std.specs.Float.{binary32}
use Rattle.std.specs.Float.Ieee.{of_bits, le, fits}
use Rattle.std.specs.Float.Ieee.Scale.{finite}
use Rattle.payload.specs.Float.{f0, f1, AllFinite}
use Rattle.payload.specs.NanLaws.{Number}
use Rattle.scene.specs.Scene.{equi, cbmp, mesh, Call}
use Rattle.scene.specs.Laws.{InLimits, FittingReading, drawn}

-- of an accepted call's drawing, ρ being the reading that it is made from, b is one of the floats
pub record SceneNumbers : Type 0 where
  -- kind 0: a number from 0 to 1
  pub sphere : (c : Call) → InLimits equi c → (ρ : FittingReading equi c) (b : ℕ) → Memᴰ b (drawn ρ).floats
      → Number b × (le f0 (of_bits binary32 b) ≡ true) × (le (of_bits binary32 b) f1 ≡ true)
  -- kind 1: a number, and finite, the radius being an f32
  pub cube : (c : Call) → InLimits cbmp c → fits binary32 c.given.radius ≡ true → (ρ : FittingReading cbmp c)
      (b : ℕ) → Memᴰ b (drawn ρ).floats → Number b × (finite (of_bits binary32 b) ≡ true)
  -- kind 2: the words of its pools as they are, and finite
  pub mesh_list : (c : Call) → InLimits mesh c → (ρ : FittingReading mesh c) → AllFinite (drawn ρ).floats
