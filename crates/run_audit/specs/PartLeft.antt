-- What of a text is left after a flow's part: the word is read off, the flow is worked out, and its lines are compared.
use Rattle.std.specs.Prelude.{ℕ, ◌+◌, Option, Some, None, option_map, unwrap_or, List, [], ◌∷◌}
use Rattle.flow_core.specs.declared.case.Case.{Case}
use Rattle.flow_core.specs.declared.letter.Letter.{Letter}
use Rattle.reg_compiler.specs.Sources.{Sources}
use Rattle.flow_core.specs.LiveText.{Account, flow_from, flow_line}
pub use Rattle.live_lines.specs.FlowParts.{body_text}
use Rattle.source_flow.specs.SourceAccounts.{account_after}
use Rattle.run_audit.specs.declared.verdict.Verdict.{Verdict}
use Rattle.run_audit.specs.declared.verdict.Verdict.TheVariants.{Yes, No}
use Rattle.run_audit.specs.Fronts.{text_after}
use Rattle.run_audit.specs.Marks.{text_marks}
use Rattle.run_audit.specs.ForcedWord.{forced_word}

-- what of this is left after an account's lines
abbrev pub account_left : Sources → List ℕ → Option Account → Option (List ℕ)
account_left sources body None = None
account_left sources body (Some account) = text_after (body_text sources account) body

-- after those of the account of a word
abbrev pub word_left : Sources → Case → List ℕ → Option (List Letter) → Option (List ℕ)
word_left sources case body None = None
word_left sources case body (Some word) =
    account_left sources body (account_after (flow_from sources case) case.link word)

-- after those of the word that is read off
abbrev pub body_left : Sources → Case → Option (List ℕ) → Option (List ℕ)
body_left sources case None = None
body_left sources case (Some body) = word_left sources case body (forced_word case.acks (text_marks body))

-- what is left of a text after the part of a case; None if it doesn't begin with one
abbrev pub part_left : Sources → Case → List ℕ → Option (List ℕ)
part_left sources case text = body_left sources case (text_after (flow_line case.flow case.name case.agent) text)

-- the verdict, case by case, after this many parts
abbrev pub verdict_on : Sources → List Case → ℕ → List ℕ → Verdict
verdict_on sources [] count [] = Yes
verdict_on sources [] count (byte ∷ rest) = No count
verdict_on sources (case ∷ cases) count text =
    unwrap_or (option_map (verdict_on sources cases (count + 1)) (part_left sources case text)) (No count)
