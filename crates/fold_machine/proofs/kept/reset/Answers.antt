use Rattle.std.proofs.Common.{◌≡◌, ℕ, List, ap, ◌∙◌}
use Rattle.reg_code.specs.declared.code.Start.{Start}
use Rattle.reg_code.specs.AcceptedCode.{sizes_of}
use Rattle.reg_code.specs.Places.{reports_place, controls_at}
use Rattle.fold_machine.specs.KeptWords.{reset_words}
use Rattle.fold_machine.specs.WorkingWords.{kept_on}
use Rattle.fold_machine.proofs.KeptLemmas.{kept-reset}
use Rattle.fold_machine.proofs.kept.reset.Goals as goal

pub returns-clause-reset : goal.returns-clause-reset
returns-clause-reset c =
    let code = c.args.code.now in
    let old : List ℕ = c.args.words.now in
    let first : List ℕ = c.reset_from.new.words in
    let begun : first ≡ reset_words code.reports reports_place old =
    c.reset_from.ensures ∙ ap (λ (starts : List Start). reset_words starts reports_place old) c.reports.ensures in
    let whole : c.reset_from-2.new.words ≡ reset_words code.controls controls_at (reset_words code.reports reports_place old) =
    c.reset_from-2.ensures
    ∙ ap (λ (starts : List Start). reset_words starts controls_at first) c.controls.ensures
    ∙ ap (λ (words : List ℕ). reset_words code.controls controls_at words) begun in
    ap (kept_on (sizes_of code)) whole ∙ kept-reset code old c.requires.few c.requires.full
