-- A refused step gives the group back; a taken one runs the list, an operation a turn, and what is left to run leads where the whole list leads.
use mathlib.Core.Path.{sym, ◌∙◌, refl, ap}
use Rattle.std.proofs.lemmas.Result.{err_from_is_err_and}
use Rattle.std.proofs.Common.{rules}
use Rattle.frames.specs.View.{meaning}
use Rattle.shard.proofs.Ways.{along_on, out_refused, out_ran}
use Rattle.shard.proofs.Promises.{step_means}
use Rattle.shard.proofs.Shard.step.Goals as goal

pub returns-in_err-log_number : goal.returns-in_err-log_number
returns-in_err-log_number c =
    let a = c.args in
    let e = c.read_frame-f.ensures in
    let p = err_from_is_err_and c.from_residual.result c.from_residual.ensures.1 in
    let o = out_refused a.self.now a.frame.now a.out.now _ e.value _ c.in_err-log_number.ensures in
    rw (p.1, p.2)
    (record {
      value = o;
      step_means = λ h. step_means a.self.now h a.frame.now (ap meaning (sym e.value) ∙ e.head_value.1) a.out.now _ _ o;
      refusal = (refl, refl);
    })

pub loop-x-init : goal.loop-x-init
loop-x-init c =
    record {
      size = search rules;
      run = refl;
      m = refl;
      own = refl;
      started = refl;
    }

pub loop-x-preserved : goal.loop-x-preserved
loop-x-preserved c = along_on _ _ _ _ _ _ _ c.loop-x.invariant _ _ _ c.loop-x-test.true c.from-key.ensures c.note.ensures c.cell_after.ensures

pub returns : goal.returns
returns c =
    let l = c.loop-x in
    let a = c.args in
    let e = c.read_frame-f.ensures in
    let w = c.write_frame.ensures in
    let o = out_ran a.self.now a.frame.now a.out.now _ e.value (record { log_number = c.in_ok-log_number.field-0.log_number; sn = c.in_ok-log_number.field-0.sn }) c.in_ok-log_number.ensures
    _ _ l.self _ _ _ c.as_slice-x-items.ensures c.new-reads.ensures l.invariant c.loop-x-test.false c.from.ensures _ _ w.value w.out_after in
    record {
      value = o;
      step_means = λ h. step_means a.self.now h a.frame.now (ap meaning (sym e.value) ∙ e.head_value.1) a.out.now _ _ o;
      refusal = search rules;
    }
