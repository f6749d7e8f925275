-- m4 and m5 of document 01: which crops are usable.
use Rattle.std.specs.Prelude.{◌≡◌, ℕ, Bool, true, false}
use Rattle.payload.specs.Crop.{usable}
use Rattle.payload.specs.Equi.{crop_of}

-- the crop of two fields, with nothing left out at the sides
abbrev pub usable_fields : ℕ → ℕ → Bool
usable_fields t b = usable (crop_of (record { t = t; b = b; l = 0; r = 0 }))

pub record CropMarked : Type 0 where
  pub m4 : usable_fields 0xffffff7f 0 ≡ true
  pub m4_refused : usable_fields 0xffffff80 0 ≡ false
  -- the sum rounds to 1
  pub m5 : usable_fields 0x80000000 0x7fffff00 ≡ true
  pub m5_refused : usable_fields 0x80000000 0x7fffff80 ≡ false
