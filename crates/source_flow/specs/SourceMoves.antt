-- What a letter makes of the states that what is kept stands for, and what is shown of them.
use Rattle.std.specs.Prelude.{◌≡◌}
use Rattle.ccp_base.specs.declared.place.Place.{Place}
use Rattle.flow_core.specs.declared.letter.Letter.{Letter}
use Rattle.flow_core.specs.World.{World}
use Rattle.flow_core.specs.Words.{from_link, after_letter}
use Rattle.source_flow.specs.declared.source_case.SourceCase.{SourceCase}
use Rattle.source_flow.specs.declared.state.State.{State}
use Rattle.source_flow.specs.SourceStates.{flow_over_sources, IsAt}

-- the state after a letter, with the acknowledgements of the case's link
abbrev pub after_making : SourceCase → Letter → World Place → World Place
after_making source letter w =
    let flow = flow_over_sources source in
    after_letter flow (from_link flow source.case.now.link) w letter

-- whatever state the old one is at, the new one is at that state after the letter
abbrev pub Makes : SourceCase → Letter → State → State → Type 0
Makes source letter old new =
    (w : World Place)
    → IsAt (flow_over_sources source) old w → IsAt (flow_over_sources source) new (after_making source letter w)

-- this is what the reading says, of whatever state is kept
abbrev pub Shows : {X : Type 0} → SourceCase → State → (World Place → X) → X → Type 0
Shows source s reading shown = (w : World Place) → IsAt (flow_over_sources source) s w → shown ≡ reading w
