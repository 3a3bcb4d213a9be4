use Rattle.std.proofs.Common.{◌+◌, ◌<◌, ◌∙◌, ap, sym, length, arith}
use Rattle.ccp_base.specs.declared.parts.Separator.TheVariants.{LineFeed}
use Rattle.ccp_base.specs.Parts.{parts_of}
use Rattle.fold_run.specs.Acknowledgements.{with_lines}
use Rattle.fold_run.specs.OneValue.{with_ack}
use Rattle.fold_run.proofs.OneValueLemmas.{one_line}
use Rattle.fold_run.proofs.single_lines.put_lines_of.Goals as goal

pub returns-in-Err-clause-err : goal.returns-in-Err-clause-err
returns-in-Err-clause-err g c = λ other.
    let next = c.loop-single.next in
    let acks = c.loop-single.acks in
    let single = c.in-Some.single in
    sym c.loop-single.invariant.going
    ∙ one_line next acks c.loop-single.left.now g.row.NAME single.value single.after.now c.in-Some.ensures.gives
    ∙ ap (λ told. with_lines (next + 1) told (parts_of LineFeed single.after.now)) (ap (with_ack acks) (sym c.ack_with.ensures) ∙ c.in-Err.ensures.err other)

pub loop-single-preserved : goal.loop-single-preserved
loop-single-preserved g c =
    let next = c.loop-single.next in
    let acks = c.loop-single.acks in
    let single = c.in-Some.single in
    let shorter : length single.after.now < length c.loop-single.left.now = c.in-Some.ensures.gives.shorter in
    let room = c.loop-single.invariant.room in
    let before = c.loop-single.invariant.shorter in
    record {
      going =
          ap (λ told. with_lines (next + 1) told (parts_of LineFeed single.after.now)) (sym c.in-Ok.ensures.ok ∙ ap (with_ack acks) c.ack_with.ensures)
          ∙ sym (one_line next acks c.loop-single.left.now g.row.NAME single.value single.after.now c.in-Some.ensures.gives)
          ∙ c.loop-single.invariant.going;
      few = c.in-Ok.ensures.within;
      room = omega (arith, shorter, room);
      shorter = omega (arith, shorter, before);
    }
