use Rattle.std.proofs.Common.{◌≡◌, ◌≤◌, ◌<◌, ◌-◌, Bool, true, false, Option, ap, subst, sym, ◌∙◌, arith}
use Rattle.std.specs.Prelude.{IfSome}
use Rattle.link_model.specs.Link.{is_listed}
use Rattle.link_model.specs.LinkMoves.{standing_in, with_lost, served_now, sending, waiting_now}
use Rattle.link_model.proofs.SendingLemmas.{sending-full, sending-lost, sending-served}
use Rattle.link_model.proofs.traffic.Traffic.send_some.Goals as goal

pub returns-then-is_next_listed-clause-sending : goal.returns-then-is_next_listed-clause-sending
returns-then-is_next_listed-clause-sending c =
    let case = c.args.case.now in
    let standing = standing_in case.trace c.args.self.now in
    let listed : is_listed standing.sent case.losses ≡ true = sym c.is_next_listed.ensures.listed ∙ c.if-is_next_listed.true in
    ap (sending case (c.args.left - 1)) (c.lose.ensures.standing ∙ ap (with_lost 1) c.is_next_listed.ensures.standing)
    ∙ sending-lost case c.args.left standing c.requires.some listed

pub returns-in_default-clause-sending : goal.returns-in_default-clause-sending
returns-in_default-clause-sending c =
    let case = c.args.case.now in
    let standing = standing_in case.trace c.args.self.now in
    let same = c.is_next_listed.ensures.standing in
    let is : case.queue ≤ waiting_now case standing = omega (arith, c.mark_of_next.ensures.full c.in_default.is, ap (waiting_now case) same) in
    c.lose-in_default.ensures.standing ∙ ap (with_lost c.args.left) (c.mark_of_next.ensures.standing ∙ same) ∙ sym (sending-full case c.args.left standing is)

pub returns-clause-sending : goal.returns-clause-sending
returns-clause-sending c =
    let case = c.args.case.now in
    let standing = standing_in case.trace c.args.self.now in
    let same = c.is_next_listed.ensures.standing in
    let asked = standing_in case.trace c.is_next_listed.new.self in
    let room : waiting_now case asked < case.queue = subst (λ (o : Option Bool). IfSome o (λ _. waiting_now case asked < case.queue)) c.in-Some.is c.mark_of_next.ensures.room in
    let is : waiting_now case standing < case.queue = omega (arith, room, ap (waiting_now case) same) in
    let other : is_listed standing.sent case.losses ≡ false = sym c.is_next_listed.ensures.listed ∙ c.if-is_next_listed.false in
    ap (sending case (c.args.left - 1)) (c.serve.ensures.standing ∙ ap (served_now case) (c.mark_of_next.ensures.standing ∙ same))
    ∙ sending-served case c.args.left standing c.requires.some other is
