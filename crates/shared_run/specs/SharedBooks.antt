-- The result of a run's flows: one book a flow, in order, with the acknowledgements that it was given.
use Rattle.std.specs.Prelude.{◌≡◌, true, List, [], ◌∷◌}
use Rattle.flow_core.specs.declared.book.Given.{Given}
use Rattle.flow_core.specs.Readings.{over_codes}
use Rattle.flow_core.specs.Words.{legal_over, is_still}
use Rattle.flow_core.specs.Books.{IsBookOf}
use Rattle.flow_core.specs.Cores.{CoreState}
use Rattle.campaign_core.specs.FlowRow.{world_of_core}

-- the book of a flow: its case, its acknowledgements, and its word, which is legal and leaves nothing to take or to
-- answer; and what is read off them
pub record IsGivenOf (core : CoreState) (given : Given) : Type 0 where
  pub case : given.book.case ≡ core.case
  pub acks : given.acks ≡ core.acks
  pub word : given.book.word ≡ core.word
  pub legal : legal_over (over_codes core.case) core.acks core.word ≡ true
  pub still : is_still (world_of_core over_codes core) ≡ true
  pub book : IsBookOf (over_codes core.case) (world_of_core over_codes core) given.book

-- one a flow, in order
abbrev pub AreGivensOf : List CoreState → List Given → Type 0
AreGivensOf [] [] = Unit {0}
AreGivensOf [] (given ∷ givens) = ⊥
AreGivensOf (core ∷ cores) [] = ⊥
AreGivensOf (core ∷ cores) (given ∷ givens) = IsGivenOf core given × AreGivensOf cores givens
