-- The table of traces: a trace whose name is above those before it goes last, and is found by its name.
use Rattle.std.proofs.Common.{◌≡◌, ℕ, List, [], ◌∷◌, ◌++◌, map, Some, Ok, String, Global, Less, Greater, string_bytes, string_cmp, nat_cmp, cond, refl, sym, ap, ap₂, ◌∙◌, subst}
use Rattle.std.proofs.lemmas.List.{map_push}
use Rattle.serde_json.specs.View.{view, members_view}
use Rattle.std.proofs.lemmas.Cmp.{nat_list_cmp_total}
use Rattle.std.proofs.lemmas.Map.Text.{is_eq-slice_cmp}
use Rattle.std.specs.Prelude.{⊤}
use Rattle.std.specs.Cmp.Lexicographic.{slice_cmp}
use Rattle.std.specs.List.{AllByRecursion}
use Rattle.std.specs.List.Sorted.{IsStrictlySortedBy}
use Rattle.std.specs.Map.{keys_of, lookup}
use Rattle.std.specs.Ordering.{ordering_reverse}
use Rattle.std.specs.BTreeMap.{insert_entry, is_at}
use Rattle.serde_json.specs.declared.value.Value.{Value}
use Rattle.ccp_base.specs.Chaining.{then_do}
use Rattle.scene_members.specs.CaseWalk.{trace_named}
use Rattle.scene_members.specs.Traces.{named_trace, traces_from, table_of}

abbrev pub Entry : Type 0
Entry = String Global × Value

abbrev pub Row : Type 0
Row = String Global × List ℕ

-- the text of each key, in order
abbrev pub row_names : List Row → List (List ℕ)
row_names rows = map (λ row. string_bytes row.0) rows

abbrev pub entry_names : List Entry → List (List ℕ)
entry_names entries = map (λ entry. string_bytes entry.0) entries

-- each key is below this one
abbrev pub AreBelow : List ℕ → List (List ℕ) → Type 0
AreBelow name [] = ⊤
AreBelow name (one ∷ rest) = (slice_cmp nat_cmp one name ≡ Less) × AreBelow name rest

-- a key that is above those before it goes last
pub insert_last : (rows : List Row) (name : String Global) (times : List ℕ) → AreBelow (string_bytes name) (row_names rows)
    → insert_entry string_cmp rows name times ≡ rows ++ (name, times) ∷ []
insert_last [] name times h = refl
insert_last (row ∷ rows) name times h =
    let above : slice_cmp nat_cmp (string_bytes name) (string_bytes row.0) ≡ Greater =
    nat_list_cmp_total.antisymm (string_bytes name) (string_bytes row.0) ∙ ap ordering_reverse h.0 in
    rw above (ap (λ later. row ∷ later) (insert_last rows name times h.1))

below_middle : (first : Entry) (done : List Entry) (entry : Entry) (left : List Entry)
    → AllByRecursion (λ y. string_cmp first.0 y ≡ Less) (keys_of (done ++ entry ∷ left)) → string_cmp first.0 entry.0 ≡ Less
below_middle first [] entry left h = h.0
below_middle first (one ∷ done) entry left h = below_middle first done entry left h.1

-- in sorted entries, those that are done are below the next one
pub done_below : (done : List Entry) (entry : Entry) (left : List Entry) → IsStrictlySortedBy string_cmp (keys_of (done ++ entry ∷ left))
    → AreBelow (string_bytes entry.0) (entry_names done)
unfolding IsStrictlySortedBy
done_below [] entry left h = tt
done_below (first ∷ done) entry left h = (below_middle first done entry left h.0, done_below done entry left h.1)

-- the map finds a trace as its table does
pub trace_lookup : (name : List ℕ) (rows : List Row)
    → lookup (is_at (λ k. slice_cmp nat_cmp name (string_bytes k))) rows ≡ trace_named name (table_of rows)
trace_lookup name [] = refl
trace_lookup name (row ∷ rows) =
    ap₂ (λ here later. cond here (Some row.1) later) (is_eq-slice_cmp name (string_bytes row.0)) (trace_lookup name rows)

-- a trace that is read goes to the table's end
pub traces_pushed : (rows : List Row) (done : List Entry) (e : Entry) (left : List Entry) (name : String Global) (times : List ℕ) (new : List Row)
    → new ≡ insert_entry string_cmp rows name times → string_bytes name ≡ string_bytes e.0 → row_names rows ≡ entry_names done
    → IsStrictlySortedBy string_cmp (keys_of (done ++ e ∷ left)) → named_trace (string_bytes e.0) (view e.1) ≡ Ok times
    → (row_names new ≡ entry_names (done ++ e ∷ [])) × (traces_from (table_of new) (members_view left) ≡ traces_from (table_of rows) (members_view (e ∷ left)))
traces_pushed rows done e left name times new is named same sorted read =
    let below : AreBelow (string_bytes name) (row_names rows) =
    subst (λ n. AreBelow n (row_names rows)) (sym named) (subst (λ ns. AreBelow (string_bytes e.0) ns) (sym same) (done_below done e left sorted)) in
    let added : new ≡ rows ++ (name, times) ∷ [] = is ∙ insert_last rows name times below in (
      ap row_names added ∙ map_push (λ row. string_bytes row.0) rows (name, times) ∙ ap₂ (λ ns n. ns ++ n ∷ []) same named ∙ sym (map_push (λ entry. string_bytes entry.0) done e),
      ap (λ all. traces_from (table_of all) (members_view left)) added
          ∙ ap (λ t. traces_from t (members_view left)) (map_push (λ row. (string_bytes row.0, row.1)) rows (name, times) ∙ ap (λ n. table_of rows ++ (n, times) ∷ []) named)
          ∙ sym (ap (λ r. then_do r (λ read_times. traces_from (table_of rows ++ (string_bytes e.0, read_times) ∷ []) (members_view left))) read),
    )
