use Rattle.std.proofs.Common.{List, ℕ, length, slice_set, ap, ◌∙◌}
use Rattle.flow_lists.specs.Outbox.{head_words}
use Rattle.flow_core.proofs.last_report.last_head.Goals as goal

pub returns-clause-words : goal.returns-clause-words
returns-clause-words c =
    ap (λ (words : List ℕ). slice_set words 8 (length c.reported_words.result.now)) c.report_head-words.ensures.words
    ∙ ap (λ (xs : List ℕ). slice_set (head_words c.args.report.now) 8 (length xs)) c.reported_words.ensures.words

pub returns-clause-in_range : goal.returns-clause-in_range
returns-clause-in_range c =
    let fits = c.report_head-words.ensures.in_range in
    record { flow = fits.flow; program = fits.program; epoch = fits.epoch; fields = c.reported_words.ensures.within }
