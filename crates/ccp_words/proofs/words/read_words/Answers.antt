use Rattle.std.proofs.Common.{◌≡◌, ◌∙◌, ◌≢◌, true, false, Some, Ok, IfOk, OnOk, IfErr, ok_or, map, string_bytes, ap, sym, subst, inl, inr, ℕ, List, Result}
use Rattle.ccp_base.specs.Outside.{no_memory}
use Rattle.ccp_words.specs.Words.{HasWorkers, IsCommandLine, are_accepted, asked_in}
use Rattle.ccp_words.specs.declared.words.Asked.{Asked}
use Rattle.ccp_words.specs.declared.words.Unasked.{Unasked}
use Rattle.ccp_words.specs.declared.words.Unasked.TheVariants.{Refused, NoMemory}
use Rattle.ccp_words.proofs.Parsed.{accepted, asks, is_free, refused}
use Rattle.ccp_words.proofs.words.read_words.Goals as goal

pub returns-in-Ok-clause-accepted : goal.returns-in-Ok-clause-accepted
returns-in-Ok-clause-accepted c =
    let line : IsCommandLine c.in_ok-command.field-0 = c.in_ok-command.ensures in
    let words : List (List ℕ) = map string_bytes c.args.words.now in
    let is_accepted : are_accepted words ≡ true = accepted c.in_ok-command.field-0 line words (c.in-Ok.ensures.kinds (is_free c.in_ok-command.field-0 line words)) in
    let asked = asks c.in_ok-command.field-0 line words c.in-Ok.matches c.in-Ok.ensures.parsed c.in-Ok.ensures.matches c.read_matches.result c.read_matches.ensures.mode c.read_matches.ensures.options in
    let answer : c.ok_or.result ≡ Ok asked.0 = c.ok_or.ensures.value ∙ ap (λ o. ok_or o Refused) asked.1 in
    subst (λ (r : Result Asked Unasked). OnOk r (are_accepted words ≡ true)) (sym answer) is_accepted

pub returns-in-Ok-clause-asked : goal.returns-in-Ok-clause-asked
returns-in-Ok-clause-asked c =
    let line : IsCommandLine c.in_ok-command.field-0 = c.in_ok-command.ensures in
    let words : List (List ℕ) = map string_bytes c.args.words.now in
    let asked = asks c.in_ok-command.field-0 line words c.in-Ok.matches c.in-Ok.ensures.parsed c.in-Ok.ensures.matches c.read_matches.result c.read_matches.ensures.mode c.read_matches.ensures.options in
    let answer : c.ok_or.result ≡ Ok asked.0 = c.ok_or.ensures.value ∙ ap (λ o. ok_or o Refused) asked.1 in
    subst (λ (r : Result Asked Unasked). IfOk r (λ asked. asked_in words ≡ Some asked)) (sym answer) asked.2

pub returns-in-Ok-clause-workers : goal.returns-in-Ok-clause-workers
returns-in-Ok-clause-workers c =
    let line : IsCommandLine c.in_ok-command.field-0 = c.in_ok-command.ensures in
    let words : List (List ℕ) = map string_bytes c.args.words.now in
    let asked = asks c.in_ok-command.field-0 line words c.in-Ok.matches c.in-Ok.ensures.parsed c.in-Ok.ensures.matches c.read_matches.result c.read_matches.ensures.mode c.read_matches.ensures.options in
    let answer : c.ok_or.result ≡ Ok asked.0 = c.ok_or.ensures.value ∙ ap (λ o. ok_or o Refused) asked.1 in
    subst (λ (r : Result Asked Unasked). IfOk r HasWorkers) (sym answer) asked.3

pub returns-in-Ok-clause-err : goal.returns-in-Ok-clause-err
returns-in-Ok-clause-err c =
    let line : IsCommandLine c.in_ok-command.field-0 = c.in_ok-command.ensures in
    let words : List (List ℕ) = map string_bytes c.args.words.now in
    let asked = asks c.in_ok-command.field-0 line words c.in-Ok.matches c.in-Ok.ensures.parsed c.in-Ok.ensures.matches c.read_matches.result c.read_matches.ensures.mode c.read_matches.ensures.options in
    let answer : c.ok_or.result ≡ Ok asked.0 = c.ok_or.ensures.value ∙ ap (λ o. ok_or o Refused) asked.1 in
    subst (λ (r : Result Asked Unasked). IfErr r (λ e. e ≢ NoMemory no_memory → are_accepted words ≡ false)) (sym answer) tt

pub returns : goal.returns
returns c =
    let line : IsCommandLine c.in_ok-command.field-0 = c.in_ok-command.ensures in
    let words : List (List ℕ) = map string_bytes c.args.words.now in
    record {
      accepted = tt;
      asked = tt;
      workers = tt;
      err = λ _. elim (c.in-Err.ensures.kinds (is_free c.in_ok-command.field-0 line words)) [
        | inl memory ↦ absurd (c.in_default.not-OutOfMemory (c.kind.ensures ∙ memory))
        | inr among ↦ refused c.in_ok-command.field-0 line words _ among
      ];
    }
