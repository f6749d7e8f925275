-- `box_header` meets its contract: two words, one, or none. Assumes nothing.
use Rattle.std.proofs.Common.{◌≡◌, ℕ, ◌+◌, ◌*◌, ◌≤◌, List, length, sym, ap, ◌∙◌, ap₂, arith}
use Rattle.bits.specs.Verdict.{Verdict, accepted, declined}
use Rattle.bits.specs.Field.{field}
use Rattle.bits.specs.Read.{number_at}
use Rattle.bits.specs.Header.{Item, list_end, sized_at, header_at}
use Rattle.bits.proofs.HeaderLaws.{word_read, word_cut, header_end, header_sized}
use Rattle.bits.proofs.headers.box_header.Goals as goal

module _ (s : List ℕ) (p size q : ℕ) (first : accepted (size, q) ≡ number_at 4 s p) where
  one : {k : ℕ} → declined k ≡ number_at 4 s q → accepted list_end ≡ header_at s p
  one e = let a = word_read s p size q first in let b = word_cut s q e in sym (header_end s p (omega arith))

  module _ (type next : ℕ) (second : accepted (type, next) ≡ number_at 4 s q) where
    room : p + 8 ≤ length s
    room = let a = word_read s p size q first in let b = word_read s q type next second in omega arith

    two : (r : Verdict Item) → r ≡ sized_at s p size type → r ≡ header_at s p
    two r e =
        let a = word_read s p size q first in
        let b = word_read s q type next second in
        let t : field s (8 * (p + 4)) 32 ≡ type = ap (λ (k : ℕ). field s (8 * k) 32) a.2 ∙ b.1 in
        e ∙ ap₂ (λ (x y : ℕ). sized_at s p x y) (sym a.1) (sym t) ∙ sym (header_sized s p room)

pub box_of_size-requires : goal.box_of_size-requires
box_of_size-requires c =
    let a = c.args in
    room a.s.now a.c.at _ _ c.in-Ok.ensures _ _ c.in-Ok-u32.ensures

pub returns-in_default : goal.returns-in_default
returns-in_default c =
    let a = c.args in
    let b = word_cut a.s.now a.c.at c.in_default.ensures in
    sym (header_end a.s.now a.c.at (omega arith))

pub returns-in_default-u32 : goal.returns-in_default-u32
returns-in_default-u32 c =
    let a = c.args in
    one a.s.now a.c.at _ _ c.in-Ok.ensures c.in_default-u32.ensures

pub returns : goal.returns
returns c =
    let a = c.args in
    two a.s.now a.c.at _ _ c.in-Ok.ensures _ _ c.in-Ok-u32.ensures _ c.box_of_size.ensures
