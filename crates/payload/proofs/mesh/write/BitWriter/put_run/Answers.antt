-- `put_run` meets its contract: the numbers that are left, each with the one before it. Assumes nothing.
use Rattle.std.proofs.Common.{◌++◌}
use Rattle.bits.specs.Run.{zeros}
use Rattle.payload.proofs.PutRunLaws.{coded_end, run_coded, run_next, zeros_some}
use Rattle.payload.proofs.WriterLaws.{first_ready, on_first, on_start}
use Rattle.payload.proofs.mesh.write.BitWriter.put_run.Goals as goal

pub loop-i-init : goal.loop-i-init
loop-i-init c =
    let a = c.args in
    rw (← run_coded a.width (zeros a.stride) a.ns.now (zeros_some a.stride c.requires.width_bound.1))
    (on_start c.requires.ready)

pub put-to-requires : goal.put-to-requires
put-to-requires c =
    let l = c.loop-i in
    let e = run_next c.args.width c.args.stride c.args.ns.now l.i _ _ c.loop-i-test.true c.previous.ensures
    c.step_field.ensures in
    record { ready = first_ready _ _ (rw e at l.invariant.0); width_bound = c.requires.width_bound.0 }

pub loop-i-preserved : goal.loop-i-preserved
loop-i-preserved c =
    let l = c.loop-i in
    let e = run_next c.args.width c.args.stride c.args.ns.now l.i _ _ c.loop-i-test.true c.previous.ensures
    c.step_field.ensures in
    on_first _ _ (rw e at l.invariant) c.put-to.ensures

pub returns : goal.returns
returns c =
    let a = c.args in
    rw (coded_end a.width (zeros a.stride ++ a.ns.now) a.ns.now c.loop-i.i c.loop-i-test.false) at c.loop-i.invariant.1
