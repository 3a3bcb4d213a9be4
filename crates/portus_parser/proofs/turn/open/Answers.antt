use Rattle.std.proofs.Common.{Ok, List, [], ap, sym, ◌∙◌, arith}
use Rattle.portus_core.specs.declared.tree.Tree.{Tree}
use Rattle.portus_parser.specs.declared.open_list.OpenList.{OpenList}
use Rattle.portus_parser.specs.Readings.{reading_of}
use Rattle.portus_parser.proofs.OpenLists.{opened_at-room, opened_at-full}
use Rattle.portus_parser.proofs.turn.open.Goals as goal

pub returns-then-len-ge-DEPTH-clause-err : goal.returns-then-len-ge-DEPTH-clause-err
returns-then-len-ge-DEPTH-clause-err c =
    opened_at-full c.args.place c.args.open_lists.now.items c.args.parts.items (omega (arith, c.len.ensures, c.args.open_lists.now.ok.0))

pub returns-clause-ok : goal.returns-clause-ok
returns-clause-ok c =
    let open_lists = c.push.new.self.items in
    opened_at-room c.args.place c.args.open_lists.now.items c.args.parts (omega (arith, c.len.ensures, c.args.open_lists.now.ok.0))
    ∙ ap (λ (new : List OpenList). Ok (reading_of new [])) (sym c.in_ok-push.ensures.items)
    ∙ ap (λ (parts : List Tree). Ok (reading_of open_lists parts)) (sym c.new.ensures.items)
