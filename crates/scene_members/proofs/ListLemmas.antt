-- A list has as many items as its value, and what holds of all items and of one more holds of all with it.
use Rattle.std.proofs.Common.{◌≡◌, List, [], ◌∷◌, ◌++◌, length}
use Rattle.std.proofs.lemmas.List.Elements.{All-push}
use Rattle.std.specs.List.{All}
use Rattle.serde_json.specs.Events.{members_len, items_len}
use Rattle.serde_json.specs.View.{members_view, items_view}
use Rattle.serde_json.specs.declared.value.Value.{Value}
use Rattle.serde_json.proofs.Views.{members_len-members_view, items_len-items_view}
use Rattle.scene_members.proofs.TableLemmas.{Entry}

-- a map has as many members as its value
pub members_count : (entries : List Entry) → members_len (members_view entries) ≡ length entries
members_count entries = members_len-members_view entries

-- a list has as many items as its value
pub items_count : (values : List Value) → items_len (items_view values) ≡ length values
items_count values = items_len-items_view values

-- what holds of all items and of one more holds of all with it
pub all_pushed : {X : Type 0} (P : X → Type 0) (items : List X) (one : X) → All P items → P one → All P (items ++ one ∷ [])
all_pushed P items one h here = All-push P items one h here
