-- Two rollouts of the same cases have one text if and only if their words are alike.
use Rattle.std.specs.Prelude.{◌≡◌, ℕ, ◌+◌, ◌<◌, ◌≤◌, ◌^◌, List, [], ◌∷◌, ◌++◌, length, refl}
use Rattle.std.proofs.Common.{ap, sym, ◌∙◌, subst, arith}
use Rattle.std.proofs.lemmas.List.{append_cancel_left}
use Rattle.scene_members.specs.declared.open_case.OpenCase.{OpenCase}
use Rattle.open_flow.specs.declared.letter.OpenLetter.{OpenLetter}
use Rattle.open_flow.specs.OpenWorld.{Installed}
use Rattle.open_flow.specs.OpenWords.{install_world}
use Rattle.live_install.specs.RolloutText.{open_part}
use Rattle.live_install.specs.WholeBooks.{IsHistory}
use Rattle.live_install.specs.WordsShown.{AreAlike, AreAllAlike, AreHistories, text_for_words, TextShowsWords}
use Rattle.live_install.proofs.CountLemmas.{acks_in, entry_counts, change_counts, AreBetween, entries-between, changes-between, alike-by-counts}
use Rattle.live_install.proofs.WorldCountLemmas.{acks-all, entries-all, installed-are, starts-are, starts_of, alike-worlds, counted-entries}
use Rattle.live_install.proofs.ShownLemmas.{AreSmall, part-read}

small : (low high : ℕ) (ns : List ℕ) → high < 2 ^ 64 → AreBetween low high ns → AreSmall ns
small low high [] below are = tt
small low high (n ∷ rest) below are =
    let most = are.1 in
    (omega (arith, most, below), small low high rest below are.2)

module _ (case : OpenCase) where
  few : case.acks < 2 ^ 64
  few = let within = case.acks_within in omega (arith, within)

  module _ (word : List OpenLetter) (history : IsHistory (case, word)) where
    within : 0 + acks_in word ≤ case.acks
    within = let all = acks-all case word history in omega (arith, all)

    installed-small : AreSmall (install_world case word).installed
    installed-small = subst AreSmall (sym (installed-are case word history))
        (small 0 case.acks (entry_counts 0 word) few (entries-between 0 case.acks word within))

    starts-small : AreSmall (starts_of (install_world case word))
    starts-small = subst AreSmall (sym (starts-are case word history))
        (small 0 case.acks (change_counts 0 word) few (changes-between 0 case.acks word within))

  -- equal parts of a text are those of alike words
  part-shows : (word other : List OpenLetter) (x y : List ℕ) → IsHistory (case, word) → IsHistory (case, other)
      → open_part case (install_world case word) ++ x ≡ open_part case (install_world case other) ++ y → AreAlike word other
  part-shows word other x y history other_history same =
      let w = install_world case word in
      let v = install_world case other in
      let entries : v.entries ≡ w.entries = entries-all case other other_history ∙ sym (entries-all case word history) in
      let counts = part-read case w v x y entries (counted-entries case word)
      (counted-entries case other ∙ ap (λ (xs : List Installed). length xs) entries)
      (installed-small word history) (installed-small other other_history) (starts-small word history) (starts-small other other_history) same in
      alike-by-counts word other (acks-all case word history ∙ sym (acks-all case other other_history))
      (sym (installed-are case word history) ∙ counts.0 ∙ installed-are case other other_history)
      (sym (starts-are case word history) ∙ counts.1 ∙ starts-are case other other_history)

  -- and alike words have one part
  part-same : (word other : List OpenLetter) → IsHistory (case, word) → IsHistory (case, other) → AreAlike word other
      → open_part case (install_world case word) ≡ open_part case (install_world case other)
  part-same word other history other_history alike = ap (open_part case) (alike-worlds case word other history other_history alike)

shows : (cases : List OpenCase) (words others : List (List OpenLetter)) → AreHistories cases words → AreHistories cases others
    → text_for_words cases words ≡ text_for_words cases others → AreAllAlike words others
shows [] [] [] histories other_histories same = tt
shows [] [] (other ∷ others) histories other_histories same = absurd other_histories
shows [] (word ∷ words) others histories other_histories same = absurd histories
shows (case ∷ cases) [] others histories other_histories same = absurd histories
shows (case ∷ cases) (word ∷ words) [] histories other_histories same = absurd other_histories
shows (case ∷ cases) (word ∷ words) (other ∷ others) histories other_histories same =
    let alike = part-shows case word other (text_for_words cases words) (text_for_words cases others) histories.0 other_histories.0 same in
    let part = open_part case (install_world case word) in
    let rest : text_for_words cases words ≡ text_for_words cases others =
    append_cancel_left part (text_for_words cases words) (text_for_words cases others)
    (same ∙ ap (λ (p : List ℕ). p ++ text_for_words cases others) (sym (part-same case word other histories.0 other_histories.0 alike))) in
    (alike, shows cases words others histories.1 other_histories.1 rest)

same-text : (cases : List OpenCase) (words others : List (List OpenLetter)) → AreHistories cases words → AreHistories cases others
    → AreAllAlike words others → text_for_words cases words ≡ text_for_words cases others
same-text [] [] [] histories other_histories alike = refl
same-text [] [] (other ∷ others) histories other_histories alike = absurd alike
same-text [] (word ∷ words) others histories other_histories alike = absurd histories
same-text (case ∷ cases) [] others histories other_histories alike = absurd histories
same-text (case ∷ cases) (word ∷ words) [] histories other_histories alike = absurd alike
same-text (case ∷ cases) (word ∷ words) (other ∷ others) histories other_histories alike =
    let part = part-same case word other histories.0 other_histories.0 alike.0 in
    let rest = same-text cases words others histories.1 other_histories.1 alike.1 in
    λ i. part i ++ rest i

pub words-shown : TextShowsWords
words-shown cases words others histories other_histories =
    (shows cases words others histories other_histories, same-text cases words others histories other_histories)
