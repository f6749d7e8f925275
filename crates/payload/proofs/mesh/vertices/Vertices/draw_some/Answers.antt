-- `draw_some` meets its contract: the numbers are worked out, and their words stored. Assumes nothing.
use Rattle.bits.specs.Run.{run_filled, zeros}
use Rattle.std.proofs.Common.{◌≡◌, ℕ, ◌+◌, ◌-◌, List, [], ◌∷◌, ◌++◌, length, get_or, take, drop, sym, ap, ◌∙◌, arith}
use Rattle.std.proofs.Common.{length-append, length-take-le, take_at}
use lib.ListN.{get_or-append}
use lib.Seq.{sets}
use Rattle.bits.specs.Number.{width_of}
use Rattle.bits.proofs.SummedLaws.{length_summed, last_at}
use Rattle.payload.specs.Internal.{SomeRun, some_numbers}
use Rattle.payload.specs.InternalPoints.{vertex_words}
use Rattle.payload.proofs.PartLaws.{some_filled}
use Rattle.bits.specs.declared.fields.runs.Run.{Run}
use Rattle.payload.proofs.mesh.vertices.Vertices.draw_some.Goals as goal

-- the buffer as it begins
abbrev blank : List ℕ
blank = zeros 64

-- what the buffer holds, once its first numbers are worked out
record Drawn (s : List ℕ) (run : Run) (from : ℕ) (numbers : List ℕ) : Type 0 where
  count : length (some_numbers s run from) ≡ run.count
  are : numbers ≡ some_numbers s run from
  long : length numbers ≡ run.count
  buffer : length (numbers ++ drop run.count blank) ≡ length numbers + length (drop run.count blank)
  taken : take run.count (numbers ++ drop run.count blank) ≡ some_numbers s run from

drawn : (s : List ℕ) (run : Run) (w from : ℕ) (numbers : List ℕ) → SomeRun s run → w ≡ width_of run.limit
    → numbers ≡ run_filled s run.bit w (from ∷ []) (take run.count blank) → Drawn s run from numbers
drawn s run w from numbers r e f =
    let n = length_summed s (width_of run.limit) run.count run.bit (from ∷ []) in
    let i = some_filled s run w from blank numbers r e r.few f in
    let l : length numbers ≡ run.count = ap length i ∙ n in
    record {
      count = n;
      are = i;
      long = l;
      buffer = length-append numbers (drop run.count blank);
      taken = take_at numbers (drop run.count blank) run.count l ∙ i;
    }

pub slice_bounds-fill_run-end : goal.slice_bounds-fill_run-end
slice_bounds-fill_run-end c = sym (length-take-le c.args.run.count blank c.requires.some_run.few)

pub slice_bounds-points-end-2 : goal.slice_bounds-points-end-2
slice_bounds-points-end-2 c =
    let d = drawn _ _ _ _ _ c.requires.some_run c.bit_width-width.ensures c.fill_run.ensures.numbers in
    omega (arith, d.buffer, d.long)

pub slice_bounds-put_points-end : goal.slice_bounds-put_points-end
slice_bounds-put_points-end c =
    let d = drawn _ _ _ _ _ c.requires.some_run c.bit_width-width.ensures c.fill_run.ensures.numbers in
    sym (ap length d.taken ∙ d.count)

pub put_points-requires : goal.put_points-requires
put_points-requires c =
    let q = c.requires in
    let d = drawn _ _ _ _ _ q.some_run c.bit_width-width.ensures c.fill_run.ensures.numbers in
    rw d.taken (record {
      points_below = q.points_below;
      points_in_bounds = (omega (arith, d.count, q.count_in_bounds), omega (arith, d.count, q.some_run.points));
      expanded_from = q.expanded_from;
    })

pub returns : goal.returns
returns c =
    let a = c.args in
    let v = a.self.now in
    let n = a.run.count in
    let some = c.requires.some_run.points in
    let d = drawn _ _ _ _ _ c.requires.some_run c.bit_width-width.ensures c.fill_run.ensures.numbers in
    record {
      vertex = get_or-append c.fill_run.new.out (drop n blank) 0 (n - 1) (omega (arith, d.long, some))
          ∙ ap (λ (l : List ℕ). get_or l (n - 1) 0) d.are
          ∙ sym (last_at a.from.0 (some_numbers v.s.now a.run a.from.0) n d.count some);
      floats = c.put_points.ensures.floats ∙ ap (λ (l : List ℕ). sets a.words.now a.at (vertex_words v l)) d.taken;
    }
