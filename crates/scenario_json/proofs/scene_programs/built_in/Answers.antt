use Rattle.std.proofs.Common.{rules, ◌≡◌, Err}
use Rattle.portus_build.specs.Builtins.{builtin_text}
use Rattle.portus_build.specs.TextWalk.{program_of}
use Rattle.portus_build.proofs.BuiltinLemmas.{never_refused}
use Rattle.scenario_json.proofs.scene_programs.built_in.Goals as goal

pub unreachable-requires : goal.unreachable-requires
unreachable-requires c =
    let fault = c.in-Err.field-0 in
    let read : program_of (builtin_text c.args.number) ≡ Err fault = search rules in
    never_refused c.args.number fault c.requires read
