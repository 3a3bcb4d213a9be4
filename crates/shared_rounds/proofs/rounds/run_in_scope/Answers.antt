use Rattle.std.proofs.Common.{◌≡◌, rules, ℕ, length, subst}
use Rattle.shared_rounds.specs.RunStarts.{MayBegin}
use Rattle.shared_rounds.proofs.rounds.run_in_scope.Goals as goal

pub run_desk-requires : goal.run_desk-requires
run_desk-requires g c =
    let same : length c.args.bells.now ≡ length c.as_mut_slice.result.now = search rules in
    record {
      begins = subst (λ (n : ℕ). MayBegin g.C.Course.link g.C.Course.asks g.C.Course.flows c.args.link (length c.args.flows.now) n c.args.most) same c.requires.begins;
    }

pub returns : goal.returns
returns g c = record { over = c.run_desk.ensures.over }
