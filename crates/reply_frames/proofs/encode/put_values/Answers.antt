use Rattle.std.proofs.Common.{◌≡◌, ◌≤◌, ◌<◌, length, get_or, ap, subst, ◌∙◌, arith}
use Rattle.ccp_base.specs.FieldReg.{blank}
use Rattle.reply_frames.specs.ValueBytes.{value_bytes, ValueFits}
use Rattle.reply_frames.specs.Writing.{placed}
use Rattle.reply_frames.proofs.Placing.{placed-values}
use Rattle.reply_frames.proofs.Taken.{all-more, all-taken}
use Rattle.reply_frames.proofs.encode.put_values.Goals as goal

pub loop-reg-preserved : goal.loop-reg-preserved
loop-reg-preserved c =
    let items : c.as_slice-reg-items.result.now ≡ c.args.values.now = c.as_slice-reg-items.ensures.items in
    let lt : c.loop-reg.reg-index < length c.args.values.now = omega (arith, ap length items, c.loop-reg-test.true) in
    let within : c.args.at ≤ length c.args.out.now = omega arith in
    let put : c.put_value.new.out ≡ placed c.loop-reg.end (value_bytes (get_or c.as_slice-reg-items.result.now c.loop-reg.reg-index blank)) c.loop-reg.out = c.put_value.ensures.placed in
    record {
      end = omega (arith, c.loop-reg.invariant.end);
      written =
          put
          ∙ ap (λ xs. placed c.loop-reg.end (value_bytes (get_or xs c.loop-reg.reg-index blank)) c.loop-reg.out) items
          ∙ ap (placed c.loop-reg.end (value_bytes (get_or c.args.values.now c.loop-reg.reg-index blank))) c.loop-reg.invariant.written
          ∙ placed-values c.args.at c.loop-reg.end c.loop-reg.reg-index c.args.values.now blank c.args.out.now c.loop-reg.invariant.end lt within;
      typed = all-more ValueFits c.args.values.now c.loop-reg.reg-index blank lt c.loop-reg.invariant.typed (subst (λ xs. ValueFits (get_or xs c.loop-reg.reg-index blank)) items c.put_value.ensures.typed);
    }

pub returns-clause-typed : goal.returns-clause-typed
returns-clause-typed c = all-taken ValueFits c.args.values.now c.loop-reg.reg-index (omega (arith, ap length c.as_slice-reg-items.ensures.items, c.loop-reg-test.false)) c.loop-reg.invariant.typed
