-- A flow that lists its acknowledgements after one more letter.
use Rattle.std.specs.Prelude.{◌≡◌, ◌<◌, ◌≤◌, ℕ, length, refl}
use Rattle.std.proofs.Common.{arith, ap, sym, subst}
use Rattle.flow_core.specs.declared.letter.Letter.{Letter}
use Rattle.flow_core.specs.declared.letter.Letter.TheVariants.{A, T}
use Rattle.flow_core.specs.Bares.{BareState}
use Rattle.flow_core.specs.Summaries.{step_take}
use Rattle.campaign_core.specs.FlowRow.{with_letter}
use Rattle.campaign_core.specs.GivenFlows.{bare_flow_at, MayMake, Makes}
use Rattle.campaign_core.proofs.GivenFlowLemmas.{core-more, bare-makes-T}
use Rattle.campaign_gate.specs.ListedFlows.{ListedState, listed_flow_at}

pub may-listed : (letter : Letter) (listed : ListedState) → MayMake listed_flow_at letter listed → MayMake bare_flow_at letter listed.flow
may-listed letter listed may =
    record { core = may.core; whole = may.whole; after = ap (λ (l : ListedState). l.flow) may.after; legal = may.legal }

-- the list has room for the next acknowledgement if it has room for all of the case
pub room-left : (listed : ListedState) (room : ℕ) → MayMake listed_flow_at A listed → listed.flow.bare.case.acks ≤ room → length listed.acks < room
room-left listed room may enough =
    let core = may.core in
    let more : length listed.acks < listed.flow.bare.case.acks =
    subst (λ (l : ListedState). length l.acks < l.flow.bare.case.acks) (sym may.after)
    (core-more core (record { core = core; whole = may.whole; after = refl; legal = may.legal })) in
    omega (arith, more, enough)

-- the list stays when a ticket is taken
pub lists-T : (old : ListedState) (bare : BareState) → bare ≡ record old.flow.bare { summary = step_take old.flow.bare.summary }
    → Makes listed_flow_at (with_letter T) old (record { flow = record old.flow { bare = bare }; acks = old.acks })
lists-T old bare stepped core whole is =
    let made = bare-makes-T old.flow bare stepped core whole (ap (λ (l : ListedState). l.flow) is) in
    λ i. record { flow = made i; acks = (is i).acks }
