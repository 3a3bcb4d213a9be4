-- The words are determined by the text, and so is the verdict.
use Rattle.std.proofs.Common.{◌≡◌, ℕ, ◌≤◌, List, [], ◌∷◌, ◌++◌, refl, ap, sym, ◌∙◌, arith, append_assoc}
use Rattle.std.proofs.lemmas.List.{append_cancel_left}
use Rattle.std.proofs.lemmas.Option.{same_Some}
use Rattle.flow_core.specs.declared.case.Case.{Case}
use Rattle.flow_core.specs.declared.letter.Letter.{Letter}
use Rattle.flow_core.specs.Words.{world}
use Rattle.reg_compiler.specs.Sources.{Sources}
use Rattle.flow_core.specs.LiveText.{flow_from, flow_line, account_of, live_text}
use Rattle.run_audit.specs.declared.verdict.Verdict.{Verdict}
use Rattle.run_audit.specs.declared.verdict.Verdict.TheVariants.{Yes, No}
use Rattle.run_audit.specs.Audit.{IsWordOf, AreWordsOf, with_words, IsLiveText, IsNot, IsVerdict}
use Rattle.run_audit.specs.ForcedWord.{forced_word}
use Rattle.run_audit.specs.Marks.{text_marks}
use Rattle.run_audit.specs.PartLeft.{body_text}
use Rattle.run_audit.proofs.LineReadings.{HasPlainNames}
use Rattle.run_audit.proofs.PartLemmas.{part_of_word, word_read}

module _ (sources : Sources) (named : HasPlainNames sources) where
  abbrev body : Case → List Letter → List ℕ
  body case word = body_text sources (account_of (flow_from sources case) (world (flow_from sources case) case.link word))

  abbrev line : Case → List ℕ
  line case = flow_line case.flow case.name case.agent

  same_bodies : (case : Case) (word other : List Letter) (rest more : List ℕ) → part_of_word sources case word ++ rest ≡ part_of_word sources case other ++ more → body case word ++ rest ≡ body case other ++ more
  same_bodies case word other rest more is =
      append_cancel_left (line case) (body case word ++ rest) (body case other ++ more)
      (sym (append_assoc (line case) (body case word) rest) ∙ is ∙ append_assoc (line case) (body case other) more)

  same_word : (case : Case) (word other : List Letter) (rest more : List ℕ) → IsWordOf sources case word → IsWordOf sources case other
      → part_of_word sources case word ++ rest ≡ part_of_word sources case other ++ more → word ≡ other
  same_word case word other rest more is are same = same_Some word other (
      sym (word_read sources case named word is rest)
      ∙ ap (λ text. forced_word case.acks (text_marks text)) (same_bodies case word other rest more same)
      ∙ word_read sources case named other are more)

  same_after : (case : Case) (word other : List Letter) (rest more : List ℕ) → word ≡ other
      → part_of_word sources case word ++ rest ≡ part_of_word sources case other ++ more → rest ≡ more
  same_after case word other rest more e same =
      append_cancel_left (part_of_word sources case other) rest more (sym (ap (λ w. part_of_word sources case w ++ rest) e) ∙ same)

  pub same_words : (cases : List Case) (words others : List (List Letter)) (rest more : List ℕ) → AreWordsOf sources cases words → AreWordsOf sources cases others
      → live_text sources (with_words cases words) ++ rest ≡ live_text sources (with_words cases others) ++ more → words ≡ others
  same_words [] [] [] rest more these those same = refl
  same_words [] [] (other ∷ others) rest more these those same = absurd those
  same_words [] (word ∷ words) others rest more these those same = absurd these
  same_words (case ∷ cases) [] others rest more these those same = absurd these
  same_words (case ∷ cases) (word ∷ words) [] rest more these those same = absurd those
  same_words (case ∷ cases) (word ∷ words) (other ∷ others) rest more these those same =
      let live : List (List Letter) → List ℕ = λ ws. live_text sources (with_words cases ws) in
      let both : part_of_word sources case word ++ (live words ++ rest) ≡ part_of_word sources case other ++ (live others ++ more) =
      sym (append_assoc (part_of_word sources case word) (live words) rest) ∙ same ∙ append_assoc (part_of_word sources case other) (live others) more in
      let first : word ≡ other = same_word case word other (live words ++ rest) (live others ++ more) these.0 those.0 both in
      let later : words ≡ others = same_words cases words others rest more these.1 those.1 (same_after case word other (live words ++ rest) (live others ++ more) first both) in
      λ i. first i ∷ later i

-- ---- one verdict

pub yes_only : (sources : Sources) (cases : List Case) (text : List ℕ) (verdict : Verdict) → IsVerdict sources cases text verdict → IsLiveText sources cases text → verdict ≡ Yes
yes_only sources cases text Yes is live = refl
yes_only sources cases text (No flow) is live = absurd (is.other live)

pub no_only : (sources : Sources) (cases : List Case) (text : List ℕ) (verdict : Verdict) (count : ℕ) → IsVerdict sources cases text verdict → IsNot sources cases text count → verdict ≡ No count
no_only sources cases text Yes count is not = absurd (not.other is)
no_only sources cases text (No flow) count is not =
    let below : flow ≤ count = not.greatest flow is.within is.begins in
    let above : count ≤ flow = is.greatest count not.within not.begins in
    let same : flow ≡ count = omega (arith, below, above) in
    ap (λ n. No n) same
