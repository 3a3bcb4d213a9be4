use Rattle.std.proofs.Common.{rules, ◌≡◌, ◌∷◌, Some, sym, ◌∙◌}
use Rattle.std.proofs.lemmas.List.Elements.{All-head, All-rest, All-same}
use Rattle.reg_compiler.specs.Sources.{sources_of}
use Rattle.source_flow.specs.Sourced.{IsSourced}
use Rattle.run_audit.specs.PartLeft.{part_left}
use Rattle.run_audit.proofs.JudgeSteps.{judged_there}
use Rattle.run_audit.proofs.judge.judge.Goals as goal

pub part_left-requires : goal.part_left-requires
part_left-requires c =
    let split : c.loop-case.todo.now ≡ c.in-Some.case.now ∷ c.in-Some.later.now = search rules in
    let sourced = IsSourced c.args.programs.now in
    All-head sourced c.in-Some.case.now c.in-Some.later.now
    (All-same sourced (c.in-Some.case.now ∷ c.in-Some.later.now) c.loop-case.todo.now (sym split) c.loop-case.invariant.1)

pub loop-case-preserved : goal.loop-case-preserved
loop-case-preserved c =
    let split : c.loop-case.todo.now ≡ c.in-Some.case.now ∷ c.in-Some.later.now = search rules in
    let there : Some c.in-Some-2.rest.now ≡ part_left (sources_of c.args.programs.now) c.in-Some.case.now c.loop-case.left.now = search rules in (
      sym (judged_there (sources_of c.args.programs.now) c.loop-case.todo.now c.in-Some.case.now c.in-Some.later.now c.loop-case.flow c.loop-case.left.now c.in-Some-2.rest.now split there) ∙ c.loop-case.invariant.0,
      All-rest (IsSourced c.args.programs.now) c.in-Some.case.now c.in-Some.later.now c.loop-case.todo.now split c.loop-case.invariant.1,
      search rules,
    )
