-- The verdict case by case is the verdict on the text.
use Rattle.std.proofs.Common.{◌≡◌, ℕ, zero, suc, ◌+◌, ◌≤◌, Option, Some, None, option_map, unwrap_or, List, [], ◌∷◌, ◌++◌, length, take, refl, ap, sym, subst, ◌∙◌, arith, append_assoc}
use Rattle.std.proofs.lemmas.Option.{same_Some, none-some}
use Rattle.flow_core.specs.declared.case.Case.{Case}
use Rattle.flow_core.specs.declared.letter.Letter.{Letter}
use Rattle.reg_compiler.specs.Sources.{Sources}
use Rattle.flow_core.specs.LiveText.{live_text}
use Rattle.run_audit.specs.declared.verdict.Verdict.{Verdict}
use Rattle.run_audit.specs.declared.verdict.Verdict.TheVariants.{Yes, No}
use Rattle.run_audit.specs.Audit.{AreWordsOf, with_words, IsLiveText, BeginsWithLiveText, IsNot, IsVerdict}
use Rattle.run_audit.specs.PartLeft.{part_left, verdict_on}
use Rattle.run_audit.proofs.LineReadings.{HasPlainNames}
use Rattle.run_audit.proofs.PartLemmas.{HasPart, part_of_word, left-of_part, part-of_left}

module _ (sources : Sources) (named : HasPlainNames sources) where
  -- after this many parts
  abbrev IsSaid : List Case → ℕ → List ℕ → Verdict → Type 0
  IsSaid cases count text Yes = IsLiveText sources cases text
  IsSaid cases count text (No flow) = (more : ℕ) × (flow ≡ count + more) × IsNot sources cases text more

  -- what of a text that begins with the parts of a case and more is left after the first
  left_first : (case : Case) (text left rest : List ℕ) → part_left sources case text ≡ Some left → HasPart sources case text rest → left ≡ rest
  left_first case text left rest is has = same_Some left rest (sym is ∙ left-of_part sources case named text rest has)

  none_left : (case : Case) (text rest : List ℕ) → part_left sources case text ≡ None → HasPart sources case text rest → ⊥
  none_left case text rest is has = none-some rest (sym is ∙ left-of_part sources case named text rest has)

  -- ---- a live text and its first part

  live_part : (case : Case) (cases : List Case) (text : List ℕ) → IsLiveText sources (case ∷ cases) text → (rest : List ℕ) × HasPart sources case text rest × IsLiveText sources cases rest
  live_part case cases text live = go live.words live.are live.whole
    where
      go : (words : List (List Letter)) → AreWordsOf sources (case ∷ cases) words → text ≡ live_text sources (with_words (case ∷ cases) words)
          → (rest : List ℕ) × HasPart sources case text rest × IsLiveText sources cases rest
      go [] are whole = absurd are
      go (word ∷ words) are whole = (
        live_text sources (with_words cases words),
        record { word = word; is = are.0; whole = whole },
        record { words = words; are = are.1; whole = refl },
      )

  front_part : (case : Case) (cases : List Case) (text : List ℕ) → BeginsWithLiveText sources (case ∷ cases) text → (rest : List ℕ) × HasPart sources case text rest × BeginsWithLiveText sources cases rest
  front_part case cases text begins = go begins.words begins.are begins.whole
    where
      go : (words : List (List Letter)) → AreWordsOf sources (case ∷ cases) words → text ≡ live_text sources (with_words (case ∷ cases) words) ++ begins.rest
          → (rest : List ℕ) × HasPart sources case text rest × BeginsWithLiveText sources cases rest
      go [] are whole = absurd are
      go (word ∷ words) are whole = (
        live_text sources (with_words cases words) ++ begins.rest,
        record { word = word; is = are.0; whole = whole ∙ append_assoc (part_of_word sources case word) (live_text sources (with_words cases words)) begins.rest },
        record { words = words; are = are.1; rest = begins.rest; whole = refl },
      )

  -- ---- the verdict

  no_front : (text : List ℕ) → BeginsWithLiveText sources [] text
  no_front text = record { words = []; are = tt; rest = text; whole = refl }

  -- the first part isn't there
  none_there : (case : Case) (cases : List Case) (text : List ℕ) → part_left sources case text ≡ None → IsNot sources (case ∷ cases) text 0
  none_there case cases text is = record {
    other = λ live. let (rest, has, more) = live_part case cases text live in none_left case text rest is has;
    within = omega arith;
    begins = no_front text;
    greatest = none;
  }
    where
      none : (more : ℕ) → more ≤ length (case ∷ cases) → BeginsWithLiveText sources (take more (case ∷ cases)) text → more ≤ 0
      none zero within begins = omega arith
      none (suc more) within begins = let (rest, has, later) = front_part case (take more cases) text begins in absurd (none_left case text rest is has)

  -- the first part is there, and more isn't
  first_there : (case : Case) (cases : List Case) (text left : List ℕ) (count : ℕ) → part_left sources case text ≡ Some left → IsNot sources cases left count → IsNot sources (case ∷ cases) text (suc count)
  first_there case cases text left count is not = record {
    other = λ live. let (rest, has, more) = live_part case cases text live in
        not.other (subst (λ (t : List ℕ). IsLiveText sources cases t) (sym (left_first case text left rest is has)) more);
    within = omega (arith, not.within);
    begins = record {
      words = first.word ∷ not.begins.words;
      are = (first.is, not.begins.are);
      rest = not.begins.rest;
      whole = first.whole ∙ ap (λ t. part_of_word sources case first.word ++ t) not.begins.whole
          ∙ sym (append_assoc (part_of_word sources case first.word) (live_text sources (with_words (take count cases) not.begins.words)) not.begins.rest);
    };
    greatest = most;
  }
    where
      first : HasPart sources case text left
      first = part-of_left sources case text left is

      most : (more : ℕ) → more ≤ length (case ∷ cases) → BeginsWithLiveText sources (take more (case ∷ cases)) text → more ≤ suc count
      most zero within begins = omega arith
      most (suc more) within begins =
          let (rest, has, later) = front_part case (take more cases) text begins in
          let again : more ≤ count = not.greatest more (omega (arith, within)) (subst (λ (t : List ℕ). BeginsWithLiveText sources (take more cases) t) (sym (left_first case text left rest is has)) later) in
          omega (arith, again)

  first_live : (case : Case) (cases : List Case) (text left : List ℕ) → part_left sources case text ≡ Some left → IsLiveText sources cases left → IsLiveText sources (case ∷ cases) text
  first_live case cases text left is live =
      let first = part-of_left sources case text left is in
      record {
        words = first.word ∷ live.words;
        are = (first.is, live.are);
        whole = first.whole ∙ ap (λ t. part_of_word sources case first.word ++ t) live.whole;
      }

  more_left : (byte : ℕ) (rest : List ℕ) → IsLiveText sources [] (byte ∷ rest) → ⊥
  more_left byte rest live = go live.words live.are live.whole
    where
      go : (words : List (List Letter)) → AreWordsOf sources [] words → byte ∷ rest ≡ [] → ⊥
      go [] are whole = cc
      go (word ∷ words) are whole = are

  one_more : (case : Case) (cases : List Case) (count : ℕ) (text left : List ℕ) → part_left sources case text ≡ Some left → (verdict : Verdict) → IsSaid cases (count + 1) left verdict → IsSaid (case ∷ cases) count text verdict
  one_more case cases count text left is Yes said = first_live case cases text left is said
  one_more case cases count text left is (No flow) (more, number, not) = (suc more, omega (arith, number), first_there case cases text left more is not)

  verdict_on-said : (cases : List Case) (count : ℕ) (text : List ℕ) → IsSaid cases count text (verdict_on sources cases count text)
  verdict_on-said [] count [] = record { words = []; are = tt; whole = refl }
  verdict_on-said [] count (byte ∷ rest) = (
    0,
    omega arith,
    record {
      other = more_left byte rest;
      within = omega arith;
      begins = no_front (byte ∷ rest);
      greatest = λ more within begins. within;
    },
  )
  verdict_on-said (case ∷ cases) count text = go (λ left. verdict_on-said cases (count + 1) left) (part_left sources case text) refl
    where
      go : ((left : List ℕ) → IsSaid cases (count + 1) left (verdict_on sources cases (count + 1) left)) → (o : Option (List ℕ)) → part_left sources case text ≡ o
          → IsSaid (case ∷ cases) count text (unwrap_or (option_map (verdict_on sources cases (count + 1)) o) (No count))
      go again None is = (0, omega arith, none_there case cases text is)
      go again (Some left) is = one_more case cases count text left is (verdict_on sources cases (count + 1) left) (again left)

  said_verdict : (cases : List Case) (text : List ℕ) (verdict : Verdict) → IsSaid cases 0 text verdict → IsVerdict sources cases text verdict
  said_verdict cases text Yes said = said
  said_verdict cases text (No flow) (more, number, not) =
      let same : more ≡ flow = omega (arith, number) in subst (λ (n : ℕ). IsNot sources cases text n) same not

  pub verdict_is : (cases : List Case) (text : List ℕ) → IsVerdict sources cases text (verdict_on sources cases 0 text)
  verdict_is cases text = said_verdict cases text (verdict_on sources cases 0 text) (verdict_on-said cases 0 text)
