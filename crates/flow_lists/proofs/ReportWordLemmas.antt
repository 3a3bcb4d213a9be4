-- What a slot holds once a report was written over its words.
use Rattle.std.proofs.Common.{◌≡◌, ℕ, None, ◌+◌, ◌≤◌, List, [], ◌∷◌, ◌++◌, length, take, drop, replicate, slice_set, Option, Some, option_map, refl, ap, sym, ◌∙◌, append_assoc, arith, length-append, length-drop}
use Rattle.std.proofs.Math.Seq.{set-append_seam, take-append_seam}
use Rattle.std.proofs.lemmas.List.{append-nil, length-replicate}
use Rattle.std.proofs.lemmas.Option.{none-some}
use Rattle.ccp_base.specs.declared.exchange.Report.{Report}
use Rattle.slot_pool.specs.Pool.{with_run}
use Rattle.flow_lists.specs.Outbox.{head_word_count, most_report_words, head_words, report_words, ReportFits}
use Rattle.flow_lists.specs.ReportWords.{written_over}

-- one word is written at the place after a front
written_once : (front : List ℕ) (x : ℕ) (rest : List ℕ) (at word : ℕ) → at ≡ length front → slice_set (front ++ x ∷ rest) at word ≡ (front ++ word ∷ []) ++ rest
written_once front x rest at word e =
    ap (λ n. slice_set (front ++ x ∷ rest) n word) e
    ∙ set-append_seam front x rest word
    ∙ sym (append_assoc front (word ∷ []) rest)

-- words that are written after a front follow it, and the words after them stay
pub written_after : (words front rest : List ℕ) (at : ℕ) → at ≡ length front → length words ≤ length rest → written_over (Some (front ++ rest)) at words ≡ Some ((front ++ words) ++ drop (length words) rest)
written_after [] front rest at e fits = ap (λ xs. Some (xs ++ rest)) (sym (append-nil front))
written_after (word ∷ words) front [] at e fits = absurd (let no : ⊥ = omega arith in no)
written_after (word ∷ words) front (x ∷ rest) at e fits =
    ap (λ xs. written_over (Some xs) (at + 1) words) (written_once front x rest at word e)
    ∙ written_after words (front ++ word ∷ []) rest (at + 1) (omega (arith, e, length-append front (word ∷ []))) (omega (arith, fits))
    ∙ ap (λ xs. Some (xs ++ drop (length words) rest)) (append_assoc front (word ∷ []) words)

-- words over which the head of a report and then its fields are written
module _ (old : List ℕ) (report : Report) (head fields : List ℕ) (fresh headed written : Option (List ℕ)) where
  pub written_report_over : most_report_words ≤ length old → ReportFits report → head ≡ head_words report → fields ≡ report.fields
      → fresh ≡ Some old → headed ≡ written_over fresh 0 head → written ≡ written_over headed head_word_count fields
      → option_map (take (length (report_words report))) written ≡ Some (report_words report)
  written_report_over large range head_is fields_is holds first second =
      let rest = drop head_word_count old in
      let with_head : headed ≡ Some (head_words report ++ rest) =
      first
      ∙ ap (written_over fresh 0) head_is
      ∙ ap (λ o. written_over o 0 (head_words report)) holds
      ∙ written_after (head_words report) [] old 0 refl (omega (arith, large)) in
      let room : length report.fields ≤ length rest = omega (arith, large, range.fields, length-drop head_word_count old) in
      let with_fields : written ≡ Some (report_words report ++ drop (length report.fields) rest) =
      second
      ∙ ap (written_over headed head_word_count) fields_is
      ∙ ap (λ o. written_over o head_word_count report.fields) with_head
      ∙ written_after report.fields (head_words report) rest head_word_count refl room in
      ap (option_map (take (length (report_words report)))) with_fields
      ∙ ap Some (take-append_seam (report_words report) (drop (length report.fields) rest))

-- a slot of zeros over which they are written
pub written_report : (size : ℕ) (report : Report) (head fields : List ℕ) (fresh headed written : Option (List ℕ))
    → most_report_words ≤ size → ReportFits report → head ≡ head_words report → fields ≡ report.fields
    → fresh ≡ Some (replicate size 0) → headed ≡ written_over fresh 0 head → written ≡ written_over headed head_word_count fields
    → option_map (take (length (report_words report))) written ≡ Some (report_words report)
written_report size report head fields fresh headed written large =
    written_report_over (replicate size 0) report head fields fresh headed written (omega (arith, large, length-replicate {A = ℕ} size 0))

-- a slot as it was taken, into which they are written as a run each
pub written_report_as_is : (size : ℕ) (report : Report) (head fields : List ℕ) (fresh headed written : Option (List ℕ))
    → head ≡ head_words report → fields ≡ report.fields
    → option_map (λ (words : List ℕ). length words) fresh ≡ Some size
    → headed ≡ option_map (λ words. with_run words 0 head) fresh → written ≡ option_map (λ words. with_run words head_word_count fields) headed
    → option_map (take (length (report_words report))) written ≡ Some (report_words report)
written_report_as_is size report head fields None headed written head_is fields_is holds first second = absurd (none-some size holds)
written_report_as_is size report head fields (Some old) headed written head_is fields_is holds first second =
    let front : List ℕ = head_words report in
    let rest : List ℕ = drop head_word_count old in
    let back : List ℕ = drop (head_word_count + length report.fields) (front ++ rest) in
    let with_head : headed ≡ Some (front ++ rest) = first ∙ ap (λ (words : List ℕ). Some (with_run old 0 words)) head_is in
    let with_fields : written ≡ Some (front ++ (report.fields ++ back)) =
    second
    ∙ ap (option_map (λ words. with_run words head_word_count fields)) with_head
    ∙ ap (λ (words : List ℕ). Some (with_run (front ++ rest) head_word_count words)) fields_is
    ∙ ap (λ (words : List ℕ). Some (words ++ (report.fields ++ back))) (take-append_seam front rest) in
    ap (option_map (take (length (report_words report)))) with_fields
    ∙ ap (λ (words : List ℕ). Some (take (length (report_words report)) words)) (sym (append_assoc front report.fields back))
    ∙ ap Some (take-append_seam (report_words report) back)
