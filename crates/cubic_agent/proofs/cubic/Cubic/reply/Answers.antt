use Rattle.std.proofs.Common.{ap, ◌∙◌}
use Rattle.cubic_agent.specs.Cubic.{Replied}
use Rattle.cubic_agent.proofs.RoleLemmas.{kept_roles}
use Rattle.cubic_agent.proofs.cubic.Cubic.reply.Goals as goal

pub returns-clause-ss : goal.returns-clause-ss
returns-clause-ss c = ap (λ (turn : Replied). turn.0.course.ss) c.take_turn.ensures ∙ (kept_roles c.args.self.now c.args.told.now).0

pub returns-clause-ca : goal.returns-clause-ca
returns-clause-ca c = ap (λ (turn : Replied). turn.0.course.ca) c.take_turn.ensures ∙ (kept_roles c.args.self.now c.args.told.now).1
