-- What is kept after an acknowledgement is that of the state after it.
use Rattle.std.specs.Prelude.{◌≡◌, ℕ, ◌+◌, List, [], ◌∷◌, ◌++◌, map, refl}
use Rattle.std.proofs.Common.{ap, sym, ◌∙◌, subst}
use Rattle.ccp_base.specs.declared.ack.Ack.{Ack}
use Rattle.ccp_base.specs.declared.place.Place.{Place}
use Rattle.link_model.specs.Standing.{LinkState, Stands}
use Rattle.portus_core.specs.declared.env.Env.{Env}
use Rattle.portus_core.specs.Value.{Cause}
use Rattle.portus_core.specs.Epoch.{Outcome, stops}
use Rattle.flow_core.specs.Readings.{Flow}
use Rattle.flow_core.specs.World.{Failure, World, track_of, failures_met, after_ack}
use Rattle.flow_core.specs.Runnings.{step_outcome, step_count}
use Rattle.flow_core.specs.Summaries.{Summary, running_of, summary_with, on_running, outcome_at, step_ack}
use Rattle.flow_core.proofs.RunningLemmas.{put-parts}
use Rattle.flow_core.proofs.SummaryLemmas.{summary-ack}
use Rattle.source_flow.specs.declared.source_case.SourceCase.{SourceCase}
use Rattle.source_flow.specs.declared.state.State.{State}
use Rattle.source_flow.specs.SourceAccounts.{failure_of}
use Rattle.source_flow.specs.SourceStates.{flow_over_sources, summary_in, IsAt}
use Rattle.source_flow.specs.SourceSteps.{RecordsOutcome}
use Rattle.source_flow.proofs.EpochLineLemmas.{epoch_lines-last}

module _ (source : SourceCase) (s : State) (link : LinkState) (ack : Ack) (outcome : Outcome Cause) (env spare : Env) (put : State)
    (met : outcome_at (flow_over_sources source) ack (summary_in s) ≡ (outcome, env)) where
  abbrev flow : Flow Place
  flow = flow_over_sources source

  -- what is kept between: the env is the next one
  abbrev pub between : State
  between = record s { link = link; present = record s.present { env = env; spare = spare; is_stopped = stops outcome } }

  abbrev pub final : State
  final = record put { acks = put.acks + 1; time = ack.now }

  module _ (down : RecordsOutcome source.case.now.flow between put ack outcome) where
    step-heard : summary_in final ≡ step_ack flow ack (summary_in s)
    step-heard =
        ap (on_running (step_count ack)) (down.step source)
        ∙ ap (summary_with s.agent) (sym (put-parts flow.number flow.index ack outcome env (running_of (summary_in s))))
        ∙ ap (λ (m : Outcome Cause × Env). on_running (step_outcome flow.number flow.index ack m) (summary_in s)) (sym met)

    -- the faults of an acknowledgement, by the summary before it
    abbrev failures_at : Summary → List (Failure Place)
    failures_at at = failures_met at.program at.epoch at.track.count ack (outcome_at flow ack at)

    pub at-heard : (w : World Place) → IsAt flow s w → Stands link (w.windows ++ s.present.env.cwnd ∷ []) → IsAt flow final (after_ack flow ack w)
    at-heard w at stands = record {
      kept = step-heard ∙ ap (step_ack flow ack) at.kept ∙ sym (summary-ack flow ack w);
      tickets = ap (λ (p : State). p.tickets) down.frame ∙ at.tickets;
      epochs = ap (λ (p : State). p.epochs) down.frame ∙ at.epochs ∙ epoch_lines-last w.past w.present (after_ack flow ack w).present refl;
      faults =
          down.faults
          ∙ (λ i. map failure_of s.faults ++ failures_met s.present.epoch.program s.present.epoch.number s.acks ack (sym met i))
          ∙ (λ i. at.faults i ++ failures_at (at.kept i));
      stands =
          subst (λ (l : LinkState). Stands l (w.windows ++ (track_of flow w).env.cwnd ∷ [])) (sym (ap (λ (p : State). p.link) down.frame))
          (subst (λ (n : ℕ). Stands link (w.windows ++ n ∷ [])) (ap (λ (k : Summary). k.track.env.cwnd) at.kept) stands);
    }
