use Rattle.std.proofs.Common.{Ok, List, [], map, ap, sym, ◌∙◌}
use Rattle.portus_core.specs.declared.tree.Tree.{Tree}
use Rattle.portus_core.specs.Trees.{node_of}
use Rattle.portus_parser.specs.declared.open_list.OpenList.{OpenList}
use Rattle.portus_parser.specs.Readings.{closed_over, stacked, reading_of}
use Rattle.portus_parser.proofs.OpenLists.{closed_over-push}
use Rattle.portus_parser.proofs.turn.close.Goals as goal

pub returns-in_ok-push-in-Some-clause-ok : goal.returns-in_ok-push-in-Some-clause-ok
returns-in_ok-push-in-Some-clause-ok c =
    let open_lists = c.pop.new.self.items in
    ap (λ (old : List OpenList). closed_over c.args.place (stacked [] old) (map node_of c.args.parts.items)) c.in-Some.ensures.items
    ∙ closed_over-push c.args.place open_lists c.in-Some.open_list c.args.parts
    ∙ ap (λ (parts : List Tree). Ok (reading_of open_lists parts)) (sym c.in_ok-push-in-Some.ensures.items)
