use Rattle.std.proofs.Common.{◌≡◌, List, [], ◌++◌}
use Rattle.serde_json.specs.View.{members_view}
use Rattle.scene_members.specs.Traces.{traces_from, table_of}
use Rattle.scene_members.proofs.TableLemmas.{Entry, row_names, entry_names}
use Rattle.scene_members.proofs.traces.traces_from.Given as goal

abbrev pub invariant-loop-name : goal.invariant-loop-name
invariant-loop-name l =
    (done : List Entry) × (l.members.entries ≡ done ++ l.name-iterator)
    × (row_names l.traces.entries ≡ entry_names done)
    × (traces_from (table_of l.traces.entries) (members_view l.name-iterator) ≡ traces_from [] (members_view l.members.entries))
