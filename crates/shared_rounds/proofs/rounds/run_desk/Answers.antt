use Rattle.std.proofs.Common.{ℕ, List, length, arith, ap, sym, subst, ◌∙◌}
use Rattle.shared_link.specs.SharedStanding.{SharedState}
use Rattle.shared_rounds.specs.Rounds.{StandsAfter, HasEnded}
use Rattle.shared_rounds.specs.KnownFlows.{FlowRound, AreKnown}
use Rattle.shared_rounds.proofs.rounds.run_desk.Goals as goal

pub know_flows-requires : goal.know_flows-requires
know_flows-requires g c = record { few = c.requires.begins.few_flows }

pub run_rounds-requires-clause-workers : goal.run_rounds-requires-clause-workers
run_rounds-requires-clause-workers g c = c.requires.begins.has_workers

pub run_rounds-requires-clause-few_workers : goal.run_rounds-requires-clause-few_workers
run_rounds-requires-clause-few_workers g c = c.requires.begins.few_workers

pub run_rounds-requires-clause-count : goal.run_rounds-requires-clause-count
run_rounds-requires-clause-count g c =
    ap (λ (known : List FlowRound). length known) c.new-desk.ensures.known ∙ c.in_ok-known.ensures.length ∙ c.requires.begins.all_flows

pub run_rounds-requires-clause-known : goal.run_rounds-requires-clause-known
run_rounds-requires-clause-known g c =
    subst (λ (known : List FlowRound). AreKnown known 0) (sym c.new-desk.ensures.known) c.in_ok-known.ensures.known

pub run_rounds-requires-clause-few : goal.run_rounds-requires-clause-few
run_rounds-requires-clause-few g c =
    let all = c.requires.begins.all_flows in
    let few = c.requires.begins.few_flows in
    omega (arith, all, few)

pub run_rounds-requires-clause-links : goal.run_rounds-requires-clause-links
run_rounds-requires-clause-links g c = c.requires.begins.links

pub run_rounds-requires-clause-stands : goal.run_rounds-requires-clause-stands
run_rounds-requires-clause-stands g c =
    subst (λ (state : SharedState). StandsAfter g.C.Course.link g.C.Course.asks 0 state) (sym c.new-desk.ensures.link) c.requires.begins.stands

pub run_rounds-requires-clause-rounds : goal.run_rounds-requires-clause-rounds
run_rounds-requires-clause-rounds g c = c.requires.begins.few_rounds

pub returns : goal.returns
returns g c =
    let link = g.C.Course.link in
    let asks = g.C.Course.asks in
    let end = c.end_of.result in
    let desk = c.run_rounds.new.desk in
    record {
      over = record {
        ended = subst (λ (state : SharedState). HasEnded link asks c.args.most end.rounds state) (sym c.end_of.ensures.link)
            (subst (λ (n : ℕ). HasEnded link asks c.args.most n desk.link) (sym c.end_of.ensures.rounds) c.in_ok-rounds.ensures.end);
        count_is = ap (λ (known : List FlowRound). length known) c.end_of.ensures.known ∙ c.in_ok-rounds.ensures.count;
        all_known = subst (λ (known : List FlowRound). AreKnown known end.rounds) (sym c.end_of.ensures.known)
            (subst (λ (n : ℕ). AreKnown desk.known n) (sym c.end_of.ensures.rounds) c.in_ok-rounds.ensures.known);
      };
    }
