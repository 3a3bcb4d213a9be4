-- The judge's way from one case to the next.
use Rattle.std.proofs.Common.{◌≡◌, ℕ, ◌+◌, Some, option_map, unwrap_or, List, ◌∷◌, ap, sym, ◌∙◌}
use Rattle.flow_core.specs.declared.case.Case.{Case}
use Rattle.reg_compiler.specs.Sources.{Sources}
use Rattle.run_audit.specs.declared.verdict.Verdict.TheVariants.{No}
use Rattle.run_audit.specs.PartLeft.{part_left, verdict_on}

pub judged_there : (sources : Sources) (cases : List Case) (case : Case) (later : List Case) (count : ℕ) (text left : List ℕ) → cases ≡ case ∷ later → Some left ≡ part_left sources case text
    → verdict_on sources cases count text ≡ verdict_on sources later (count + 1) left
judged_there sources cases case later count text left is there =
    ap (λ l. verdict_on sources l count text) is ∙ ap (λ o. unwrap_or (option_map (verdict_on sources later (count + 1)) o) (No count)) (sym there)
