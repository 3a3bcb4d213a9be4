use Rattle.portus_build.proofs.AnswerLemmas.{built_ok, built_err}
use Rattle.scenario_json.proofs.ProgramLemmas.{built_compiled}
use Rattle.scenario_json.proofs.scene_programs.build_text.Goals as goal

pub returns-clause-ok : goal.returns-clause-ok
returns-clause-ok c = built_ok c.args.text.now c.build.ensures.settled c.build.result c.build.ensures.found

pub returns-clause-compiled : goal.returns-clause-compiled
returns-clause-compiled c = built_compiled c.build.result c.build.ensures.code c.build.ensures.places

pub returns-clause-err : goal.returns-clause-err
returns-clause-err c = built_err c.args.text.now c.build.ensures.settled c.build.result c.build.ensures.refused
