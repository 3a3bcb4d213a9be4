use Rattle.flow_core.proofs.LiftLemmas.{lift, link-lift, legal_list-lift, legal-lift, complete_over-lift, complete-lift}
use Rattle.flow_core.proofs.case.Case.lift_law.Goals as goal

pub returns-clause-link : goal.returns-clause-link
returns-clause-link c = λ ss ca ss_places ca_places ss_same ca_same link word. record {
  state = link-lift c.args.self.now ss ca ss_places ca_places ss_same ca_same link word;
  legal = legal-lift c.args.self.now ss ca ss_places ca_places ss_same ca_same link word;
  complete = complete-lift c.args.self.now ss ca ss_places ca_places ss_same ca_same link word;
}

pub returns-clause-list : goal.returns-clause-list
returns-clause-list c = λ ss ca ss_places ca_places ss_same ca_same acks word. record {
  state = lift c.args.self.now ss ca ss_places ca_places ss_same ca_same acks word;
  legal = legal_list-lift c.args.self.now ss ca ss_places ca_places ss_same ca_same acks word;
  complete = complete_over-lift c.args.self.now ss ca ss_places ca_places ss_same ca_same acks word;
}
