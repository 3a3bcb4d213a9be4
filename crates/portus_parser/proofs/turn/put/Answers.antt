use Rattle.std.proofs.Common.{Ok, List, ap, sym, ◌∙◌}
use Rattle.portus_core.specs.declared.tree.Tree.{Tree}
use Rattle.portus_parser.specs.Readings.{reading_of}
use Rattle.portus_parser.proofs.OpenLists.{put_in-Ok, put_in-Err}
use Rattle.portus_parser.proofs.turn.put.Goals as goal

pub returns-in_ok-push-in-Ok-clause-ok : goal.returns-in_ok-push-in-Ok-clause-ok
returns-in_ok-push-in-Ok-clause-ok c =
    let open_lists = c.args.open_lists.now in
    put_in-Ok c.args.place c.args.text.now open_lists c.args.parts.items c.in-Ok.tree (sym c.if-is_empty.ensures) c.in-Ok.ensures.tree
    ∙ ap (λ (parts : List Tree). Ok (reading_of open_lists parts)) (sym c.in_ok-push-in-Ok.ensures.items)

pub returns-in-Err-clause-err : goal.returns-in-Err-clause-err
returns-in-Err-clause-err c = put_in-Err c.args.place c.args.text.now c.args.open_lists.now c.args.parts.items c.in-Err.fault (sym c.if-is_empty.ensures) c.in-Err.ensures.refused
