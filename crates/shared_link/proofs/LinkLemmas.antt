-- A round of a shared link, from the list of rounds that it stands for to that list and the round.
use Rattle.std.proofs.Common.{◌≡◌, ℕ, ◌+◌, ◌*◌, ◌<◌, List, [], ◌∷◌, ◌++◌, length, map, get_or, ap, sym, ◌∙◌, subst, arith}
use Rattle.std.proofs.lemmas.List.{get_or-map}
use Rattle.ccp_base.specs.declared.ack.Ack.{Ack}
use Rattle.ccp_base.specs.Limits.{most_flight}
use Rattle.link_model.specs.declared.chance.Chance.{Chance}
use Rattle.link_model.specs.Traces.{IsTrace}
use Rattle.link_model.specs.Chances.{chance_number}
use Rattle.link_model.specs.Link.{GivenAck}
use Rattle.shared_link.specs.declared.flow_traffic.FlowTraffic.{FlowTraffic}
use Rattle.shared_link.specs.declared.sending.Sending.{Sending}
use Rattle.shared_link.specs.declared.shared_case.SharedCase.{SharedCase}
use Rattle.shared_link.specs.declared.round.Ask.{Ask}
use Rattle.shared_link.specs.SharedRounds.{Sent, SharedLinkRun, allowed, turns_of, round_time, sent_by, shared_run_of, acks_after}
use Rattle.shared_link.specs.SharedLaws.{shared_run_of-push}
use Rattle.shared_link.specs.SharedStanding.{StandsAt, Stands}
use Rattle.shared_link.specs.Reached.{Settled}
use Rattle.shared_link.specs.Kept.{flow_under_way, link_state, FlowsFollow, Follows, AnsweredTo}
use Rattle.shared_link.proofs.RoundLemmas.{settled-run}
use Rattle.shared_link.proofs.FlowsLemmas.{some_of}

-- the flows of a link that stands for rounds
pub stands-follow : (case : SharedCase) (rounds : ℕ) (next : Chance) (flows : List FlowTraffic) (run : SharedLinkRun) → length flows ≡ length case.flows → StandsAt (link_state case rounds next flows) run
    → FlowsFollow case flows run.sent run.givens
stands-follow case rounds next flows run count stands = λ flow other inside.
    sym (get_or-map flow_under_way flows flow other (flow_under_way other) inside) ∙ stands.flows flow (flow_under_way other) (omega (arith, inside, count))

module _ (case : SharedCase) (trace : IsTrace case.trace) (asks : List Ask) (before : ℕ) (next : Chance) (flows first sent_flows last : List FlowTraffic) (at after : Sending) (end : ℕ) (answers : List (List Ack))
    (count : length first ≡ length case.flows) (last_count : length last ≡ length case.flows)
    (same : map flow_under_way first ≡ map flow_under_way flows)
    (now_is : at.now ≡ before * case.quantum_us) (next_is : at.next ≡ next) (end_is : end ≡ before * case.quantum_us + case.quantum_us)
    (sending : (sent : List Sent) (givens : ℕ → List GivenAck) → Follows case first at sent givens → Follows case sent_flows after (turns_of case at.now (allowed case at.now asks) givens most_flight sent) givens)
    (answering : (now : ℕ) (sent : List Sent) (givens : ℕ → List GivenAck) → Settled case now sent givens → FlowsFollow case sent_flows sent givens → AnsweredTo case asks end last answers (length last) sent givens)
    (rounds : List (List Ask)) (stands : Stands (link_state case before next flows) rounds) where
  run : SharedLinkRun
  run = shared_run_of case rounds

  now_round : at.now ≡ round_time case (shared_run_of case rounds).rounds
  now_round = now_is ∙ ap (λ n. n * case.quantum_us) stands.rounds

  end_round : end ≡ round_time case ((shared_run_of case rounds).rounds + 1)
  end_round =
      let rounds_is = ap (λ n. n * case.quantum_us) stands.rounds in
      omega (arith, end_is, rounds_is)

  follows_first : FlowsFollow case first (shared_run_of case rounds).sent (shared_run_of case rounds).givens
  follows_first = λ flow other inside.
      sym (get_or-map flow_under_way first flow other (flow_under_way other) inside)
      ∙ ap (λ xs. get_or xs flow (flow_under_way other)) same
      ∙ stands.flows flow (flow_under_way other) (omega (arith, inside, count))

  follows_at : Follows case first at (shared_run_of case rounds).sent (shared_run_of case rounds).givens
  follows_at = record {
    settled = subst (λ n. Settled case n (shared_run_of case rounds).sent (shared_run_of case rounds).givens) (sym now_round) (settled-run case trace rounds);
    chance = ap (chance_number case.trace) next_is ∙ stands.chance;
    traffic = follows_first;
  }

  follows_after : Follows case sent_flows after (sent_by case asks (shared_run_of case rounds)) (shared_run_of case rounds).givens
  follows_after =
      subst (λ n. Follows case sent_flows after (turns_of case n (allowed case n asks) (shared_run_of case rounds).givens most_flight (shared_run_of case rounds).sent) (shared_run_of case rounds).givens) now_round
      (sending (shared_run_of case rounds).sent (shared_run_of case rounds).givens follows_at)

  answered : AnsweredTo case asks (round_time case ((shared_run_of case rounds).rounds + 1)) last answers (length case.flows) (sent_by case asks (shared_run_of case rounds)) (shared_run_of case rounds).givens
  answered =
      subst (λ n. AnsweredTo case asks n last answers (length case.flows) (sent_by case asks (shared_run_of case rounds)) (shared_run_of case rounds).givens) end_round
      (subst (λ k. AnsweredTo case asks end last answers k (sent_by case asks (shared_run_of case rounds)) (shared_run_of case rounds).givens) last_count
      (answering after.now (sent_by case asks (shared_run_of case rounds)) (shared_run_of case rounds).givens follows_after.settled follows_after.traffic))

  pub acks_same : answers ≡ acks_after case rounds asks
  acks_same = answered.acks

  pub stands_after : Stands (link_state case (before + 1) after.next last) (rounds ++ asks ∷ [])
  stands_after =
      subst (λ (r : SharedLinkRun). StandsAt (link_state case (before + 1) after.next last) r) (sym (shared_run_of-push case rounds asks))
      (record {
        rounds = ap (λ n. n + 1) stands.rounds;
        chance = follows_after.chance;
        flows = λ flow other inside.
            (let traffic = map flow_under_way last in
            let within : flow < length last = omega (arith, inside, last_count) in
            get_or-map flow_under_way last flow (some_of last flow within) other within ∙ answered.done flow (some_of last flow within) inside);
      })
