use Rattle.std.proofs.Common.{rules, ◌≡◌, ◌∙◌, ◌∷◌, ◌++◌, ap, sym, map, drop}
use Rattle.portus_core.specs.ProgramForm.{form_of}
use Rattle.portus_core.specs.Epoch.{by_source}
use Rattle.portus_core.specs.Reports.{reports}
use Rattle.fold_run.specs.Fold.{fold_reporter, with_room, fold_reports}
use Rattle.fold_run.specs.Folding.{folding_track}
use Rattle.fold_run.proofs.FoldSteps.{next-item, items-after, reports-step}
use Rattle.fold_run.proofs.fold.fold.Goals as goal

pub loop-ack-preserved : goal.loop-ack-preserved
loop-ack-preserved g c =
    let so_far = c.loop-ack.invariant in
    let form = form_of c.args.built.now.program in
    let acks = c.args.acks.now in
    let ack = c.in-Some.ack.now in
    let rest = c.in-Some.rest.now in
    let left : ack ∷ rest ≡ c.loop-ack.left.now = search rules in
    let suffix : ack ∷ rest ≡ drop c.loop-ack.folding.count acks = left ∙ so_far.suffix in
    record {
      track = search rules;
      running = search rules;
      reports =
          reports-step (by_source form) fold_reporter (with_room ack) (map with_room rest) (folding_track c.loop-ack.folding) (folding_track c.ack.new.self)
          c.loop-ack.folding.reports c.ack.new.self.reports (fold_reports form acks)
          c.in_ok-ack.ensures.reports c.in_ok-ack.ensures.track
          (ap (λ left. c.loop-ack.folding.reports ++ reports (by_source form) fold_reporter (map with_room left) (folding_track c.loop-ack.folding)) left ∙ so_far.reports);
      fault = search rules;
      notice = c.in_ok-ack.ensures.notice acks (next-item c.loop-ack.folding.count acks ack rest suffix) so_far.notice;
      fold = c.in_ok-ack.ensures.fold;
      suffix = items-after c.loop-ack.folding.count acks ack rest suffix ∙ ap (λ n. drop n acks) (sym c.in_ok-ack.ensures.counted);
      counted = search rules;
    }
