-- `draw_run` meets its contract: storing the words of the points that are left gives what storing all at first
-- gives. Assumes nothing.
use Rattle.std.proofs.Common.{◌≡◌, ℕ, ◌+◌, ◌*◌, ◌≤◌, [], ◌∷◌, sym, refl, ap, ◌∙◌, arith}
use lib.Seq.{sets}
use Rattle.bits.specs.Number.{width_of}
use Rattle.bits.specs.Run.{summed}
use Rattle.bits.proofs.SummedLaws.{length_summed}
use Rattle.payload.specs.Internal.{word_at}
use Rattle.payload.proofs.PointLaws.{run_none, drawn_next, numbers_end, run_left_on}
use Rattle.payload.proofs.ExpandedLaws.{expanded_after_run}
use Rattle.payload.proofs.mesh.points.draw_run.Goals as goal

pub loop-left-init : goal.loop-left-init
loop-left-init c =
    let q = c.requires in
    record {
      points = record {
        same = refl;
        read = q.points_there.read;
        room = omega (arith, q.count_in_bounds);
        long = refl;
        small = omega arith;
        low = q.points_there.low;
      };
      expanded = q.expanded_from;
      place = refl;
    }

pub draw_some-last-requires : goal.draw_some-last-requires
draw_some-last-requires c =
    let q = c.requires.points_there in
    let l = c.loop-left.invariant in
    let next = drawn_next l.points c.min-n.result (omega (arith, q.most)) c.loop-left-test.true c.min-n.ensures in
    record {
      some_run = record {
        short = q.short;
        low = l.points.low;
        some = q.some;
        most = q.most;
        points = omega arith;
        few = omega arith;
        whole = next.whole;
      };
      points_below = next.below;
      count_in_bounds = omega (arith, l.points.room);
      expanded_from = l.expanded;
    }

pub overflow_add-bit : goal.overflow_add-bit
overflow_add-bit c =
    let q = c.requires.points_there in
    let next = drawn_next c.loop-left.invariant.points c.min-n.result (omega (arith, q.most)) c.loop-left-test.true
    c.min-n.ensures in
    let wide : c.min-n.result * c.bit_width-step.result ≡ c.min-n.result * width_of c.args.run.limit =
    ap (λ (w : ℕ). c.min-n.result * w) c.bit_width-step.ensures in
    record { fits = omega (arith, wide, next.whole, q.short) }

pub loop-left-preserved : goal.loop-left-preserved
loop-left-preserved c =
    let a = c.args in
    let l = c.loop-left in
    let n = c.min-n.result in
    let u = c.draw_some-last in
    let few : n ≤ l.left = omega arith in
    let most : a.run.limit ≤ 65536 = omega (arith, c.requires.points_there.most) in
    let next = drawn_next l.invariant.points n most c.loop-left-test.true c.min-n.ensures in
    let t = summed a.s.now (width_of a.run.limit) n l.bit (l.last.0 ∷ []) in
    record {
      points = run_left_on l.invariant.points n _ _ _ most few next u.ensures.vertex
          (ap (λ (w : ℕ). l.bit + n * w) c.bit_width-step.ensures) u.ensures.floats u.auto.words;
      expanded = expanded_after_run (word_at a.s.now a.numbers.now) a.base l.words _ l.to n t u.ensures.floats
          (length_summed a.s.now (width_of a.run.limit) n l.bit (l.last.0 ∷ [])) l.invariant.expanded;
      place = omega (arith, l.invariant.place);
    }

pub returns : goal.returns
returns c =
    let a = c.args in
    let l = c.loop-left in
    let z = numbers_end a.s.now (width_of a.run.limit) a.run.limit l.left l.bit (l.last.0 ∷ []) (omega arith) in
    record {
      floats = sym (l.invariant.points.same
          ∙ ap (sets l.words l.to) (run_none (word_at a.s.now a.numbers.now) a.base _ z));
    }
