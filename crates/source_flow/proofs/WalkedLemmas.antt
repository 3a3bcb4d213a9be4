-- A word letter by letter: the front so far and the next letter.
use Rattle.std.specs.Prelude.{◌≡◌, ℕ, ◌+◌, ◌<◌, Bool, true, false, ◌&&◌, if◌then◌else◌, Some, None, List, [], ◌∷◌, ◌++◌, length, take, drop, refl}
use Rattle.std.proofs.Common.{ap, sym, ◌∙◌, get_or, add-one}
use Rattle.std.proofs.Math.Seq.{take-suc}
use Rattle.std.proofs.lemmas.List.{take-append-drop}
use Rattle.ccp_base.specs.declared.place.Place.{Place}
use Rattle.link_model.specs.declared.link_case.LinkCase.{LinkCase}
use Rattle.flow_core.specs.declared.letter.Letter.{Letter}
use Rattle.flow_core.specs.Readings.{Flow}
use Rattle.flow_core.specs.World.{opening}
use Rattle.flow_core.specs.Words.{from_link, after_letter, world_from, world, is_legal, legal_from, legal, is_complete}
use Rattle.flow_core.specs.LiveText.{account_of}
use Rattle.flow_core.specs.WordLaws.{world-append, legal-append, legal_from-append}
use Rattle.source_flow.specs.SourceAccounts.{account_after}

module _ (flow : Flow Place) (link : LinkCase) (word : List Letter) (i : ℕ) (d : Letter) (within : i < length word) where
  front : take (i + 1) word ≡ take i word ++ get_or word i d ∷ []
  front = ap (λ (n : ℕ). take n word) (add-one i) ∙ take-suc word i d within

  -- the state after one more letter
  pub world-next : world flow link (take (i + 1) word) ≡ after_letter flow (from_link flow link) (world flow link (take i word)) (get_or word i d)
  world-next = ap (world flow link) front ∙ world-append flow link (take i word) (get_or word i d)

  -- after a legal word, one more letter is legal if and only if it is legal at its point
  pub legal-next : legal flow link (take i word) ≡ true
      → legal flow link (take (i + 1) word) ≡ is_legal flow (world flow link (take i word)) (get_or word i d)
  legal-next so_far =
      ap (legal flow link) front
      ∙ legal-append flow link (take i word) (get_or word i d)
      ∙ ap (λ (b : Bool). b && is_legal flow (world flow link (take i word)) (get_or word i d)) so_far

-- a word of which a front isn't legal isn't legal
pub illegal-front : (flow : Flow Place) (link : LinkCase) (word : List Letter) (n : ℕ)
    → legal flow link (take n word) ≡ false → legal flow link word ≡ false
illegal-front flow link word n wrong =
    let giving = from_link flow link in
    ap (legal flow link) (sym (take-append-drop n word))
    ∙ legal_from-append flow giving (opening flow) (take n word) (drop n word)
    ∙ ap (λ (b : Bool). b && legal_from flow giving (world_from flow giving (opening flow) (take n word)) (drop n word)) wrong

-- the account of a word, by whether it is legal and complete
pub account-by : (flow : Flow Place) (link : LinkCase) (word : List Letter) (lawful whole : Bool)
    → legal flow link word ≡ lawful → is_complete flow (world flow link word) ≡ whole
    → account_after flow link word ≡ (if lawful && whole then Some (account_of flow (world flow link word)) else None)
account-by flow link word lawful whole is_lawful is_whole =
    λ i. if is_lawful i && is_whole i then Some (account_of flow (world flow link word)) else None

-- there is none of a word that isn't legal
pub account-illegal : (flow : Flow Place) (link : LinkCase) (word : List Letter) → legal flow link word ≡ false → account_after flow link word ≡ None
account-illegal flow link word wrong = account-by flow link word false (is_complete flow (world flow link word)) wrong refl
