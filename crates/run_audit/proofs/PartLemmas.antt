-- A rest is what is left after a part if and only if the text is the part of a legal and complete word and this rest.
use Rattle.std.proofs.Common.{◌≡◌, ℕ, ◌^◌, ◌<◌, Bool, true, false, ◌&&◌, Option, Some, None, List, ◌++◌, refl, ap, sym, ◌∙◌, arith, cond, append_assoc}
use Rattle.std.proofs.lemmas.Option.{same_Some}
use Rattle.flow_core.specs.declared.case.Case.{Case}
use Rattle.flow_core.specs.declared.letter.Letter.{Letter}
use Rattle.flow_core.specs.Words.{world, legal, is_complete}
use Rattle.reg_compiler.specs.Sources.{Sources}
use Rattle.flow_core.specs.LiveText.{Account, account_of, flow_from, flow_line, flow_part}
use Rattle.source_flow.specs.SourceAccounts.{account_after}
use Rattle.run_audit.specs.Audit.{IsWordOf}
use Rattle.run_audit.specs.Fronts.{text_after}
use Rattle.run_audit.specs.Marks.{text_marks}
use Rattle.run_audit.specs.ForcedWord.{forced_word}
use Rattle.run_audit.specs.PartLeft.{body_text, account_left, word_left, body_left, part_left}
use Rattle.run_audit.proofs.FrontLemmas.{after-front, after-is}
use Rattle.run_audit.proofs.LineReadings.{HasPlainNames, account-marks}
use Rattle.run_audit.proofs.WorldMarks.{forced_tickets, tickets-within}

module _ (sources : Sources) (case : Case) where
  -- a case's part for a word
  abbrev pub part_of_word : List Letter → List ℕ
  part_of_word word = flow_part sources case (world (flow_from sources case) case.link word)

  abbrev account_of_word : List Letter → Account
  account_of_word word = account_of (flow_from sources case) (world (flow_from sources case) case.link word)

  abbrev body_of_word : List Letter → List ℕ
  body_of_word word = body_text sources (account_of_word word)

  abbrev line : List ℕ
  line = flow_line case.flow case.name case.agent

  -- the text is the part of a legal and complete word, and this
  pub record HasPart (text rest : List ℕ) : Type 0 where
    pub word : List Letter
    pub is : IsWordOf sources case word
    pub whole : text ≡ part_of_word word ++ rest

  has_account : (word : List Letter) → IsWordOf sources case word → account_after (flow_from sources case) case.link word ≡ Some (account_of_word word)
  has_account word is =
      ap (λ b. cond (b && is_complete (flow_from sources case) (world (flow_from sources case) case.link word)) (Some (account_of_word word)) None) is.legal
      ∙ ap (λ b. cond b (Some (account_of_word word)) None) is.complete

  word_of_account : (word : List Letter) (account : Account) → account_after (flow_from sources case) case.link word ≡ Some account → IsWordOf sources case word × (account_of_word word ≡ account)
  word_of_account word account is =
      go (legal (flow_from sources case) case.link word) (is_complete (flow_from sources case) (world (flow_from sources case) case.link word)) refl refl is
    where
      go : (l c : Bool) → legal (flow_from sources case) case.link word ≡ l → is_complete (flow_from sources case) (world (flow_from sources case) case.link word) ≡ c
          → cond (l && c) (Some (account_of_word word)) None ≡ Some account → IsWordOf sources case word × (account_of_word word ≡ account)
      go true true legal complete is = (record { legal = legal; complete = complete }, same_Some (account_of_word word) account is)
      go true false legal complete is = absurd (cc)
      go false c legal complete is = absurd (cc)

  -- the word is read off its body, whatever follows
  pub word_read : HasPlainNames sources → (word : List Letter) → IsWordOf sources case word → (more : List ℕ) → forced_word case.acks (text_marks (body_of_word word ++ more)) ≡ Some word
  word_read named word is more =
      let flow = flow_from sources case in
      let fits : case.acks < 2 ^ 64 = omega (arith, case.acks_within) in
      ap (forced_word case.acks) (account-marks sources named case.acks fits (account_of_word word) more (tickets-within flow case.link word is.legal is.complete))
      ∙ forced_tickets flow case.link word is.legal is.complete

  pub left-of_part : HasPlainNames sources → (text rest : List ℕ) → HasPart text rest → part_left sources case text ≡ Some rest
  left-of_part named text rest has =
      let body = body_of_word has.word in
      let split : text ≡ line ++ (body ++ rest) = has.whole ∙ append_assoc line body rest in
      ap (part_left sources case) split
      ∙ ap (body_left sources case) (after-front line (body ++ rest))
      ∙ ap (word_left sources case (body ++ rest)) (word_read named has.word has.is rest)
      ∙ ap (account_left sources (body ++ rest)) (has_account has.word has.is)
      ∙ after-front body rest

  part-of_account : (text body rest : List ℕ) (word : List Letter) → text ≡ line ++ body → (o : Option Account) → account_after (flow_from sources case) case.link word ≡ o → account_left sources body o ≡ Some rest → HasPart text rest
  part-of_account text body rest word whole None found is = absurd (cc)
  part-of_account text body rest word whole (Some account) found is =
      let (legal, same) = word_of_account word account found in
      record {
        word = word;
        is = legal;
        whole =
            whole
            ∙ ap (λ b. line ++ b) (after-is (body_text sources account) body rest is ∙ ap (λ a. body_text sources a ++ rest) (sym same))
            ∙ sym (append_assoc line (body_of_word word) rest);
      }

  part-of_word : (text body rest : List ℕ) → text ≡ line ++ body → (o : Option (List Letter)) → word_left sources case body o ≡ Some rest → HasPart text rest
  part-of_word text body rest whole None is = absurd (cc)
  part-of_word text body rest whole (Some word) is = part-of_account text body rest word whole (account_after (flow_from sources case) case.link word) refl is

  part-of_body : (text rest : List ℕ) (o : Option (List ℕ)) → text_after line text ≡ o → body_left sources case o ≡ Some rest → HasPart text rest
  part-of_body text rest None found is = absurd (cc)
  part-of_body text rest (Some body) found is = part-of_word text body rest (after-is line text body found) (forced_word case.acks (text_marks body)) is

  pub part-of_left : (text rest : List ℕ) → part_left sources case text ≡ Some rest → HasPart text rest
  part-of_left text rest is = part-of_body text rest (text_after line text) refl is
